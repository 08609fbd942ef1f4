use Rattle.std.proofs.Common.{◌++◌, ◌+◌, ◌∙◌, pos, Vec, Global, drop, get_or, ap}
use Rattle.std.specs.Prelude.{not}
use Rattle.cross_links.specs.declared.entry.Entry.{Entry}
use Rattle.ip_rows.specs.declared.rows.Coef.{Coef}
use Rattle.ip_rows.specs.Programs.{sides_of, is_fixed}
use Rattle.ip_reduce.specs.Rows.{open_terms}
use Rattle.ip_reduce.specs.Reductions.{entries_at}
use Rattle.ip_reduce.proofs.SumLemmas.{column_there}
use Rattle.ip_reduce.proofs.EntryLemmas.{filter_takes, filter_passes, grows_by, stays_by}
use Rattle.ip_reduce.proofs.entries.add_entries.Goals as goal
use Rattle.ip_reduce.proofs.entries.add_entries.Goals.{then-is_open+in_ok-push, else-is_open}

pub is_open-requires : goal.is_open-requires
is_open-requires c = column_there c.args.columns.now c.args.terms.now c.loop-term.term-index _ c.requires c.loop-term-test.true

pub loop-term-preserved : goal.loop-term-preserved
loop-term-preserved c =
    let left = entries_at c.args.row (open_terms (sides_of c.args.columns.now) (drop c.loop-term.term-index c.args.terms.now)) in
    let rest = entries_at c.args.row (open_terms (sides_of c.args.columns.now) (drop (c.loop-term.term-index + 1) c.args.terms.now)) in
    let whole = c.args.entries.now.items ++ entries_at c.args.row (open_terms (sides_of c.args.columns.now) c.args.terms.now) in
    elim c.if-is_open.branch [
      | then-is_open+in_ok-push w ↦
          grows_by c.loop-term.entries.items c.if-is_open.entries.items left rest whole c.loop-term.invariant (record { row = c.args.row; column = (get_or c.args.terms.now c.loop-term.term-index (record { factor = pos 0; column = 0 })).column })
          (ap (λ (v : Vec Entry Global). v.items) w.entries-is ∙ w.in_ok-push.ensures.items)
          (ap (entries_at c.args.row) (filter_takes (λ (t : Coef). not (is_fixed (sides_of c.args.columns.now) t.column)) c.args.terms.now c.loop-term.term-index (record { factor = pos 0; column = 0 }) c.loop-term-test.true w.if-is_open.ensures))
      | else-is_open w ↦
          stays_by c.loop-term.entries.items c.if-is_open.entries.items left rest whole c.loop-term.invariant (ap (λ (v : Vec Entry Global). v.items) w.entries-is)
          (ap (entries_at c.args.row) (filter_passes (λ (t : Coef). not (is_fixed (sides_of c.args.columns.now) t.column)) c.args.terms.now c.loop-term.term-index (record { factor = pos 0; column = 0 }) c.loop-term-test.true w.if-is_open.ensures))
    ]
