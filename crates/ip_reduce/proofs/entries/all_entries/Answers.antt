use Rattle.std.proofs.Common.{List, subst, sym}
use Rattle.ip_rows.specs.declared.rows.Coef.{Coef}
use Rattle.ip_rows.specs.declared.rows.IpRow.{IpRow}
use Rattle.ip_rows.specs.Programs.{sides_of}
use Rattle.ip_reduce.specs.Rows.{IsLight}
use Rattle.ip_reduce.proofs.EntryLemmas.{entries_step}
use Rattle.ip_reduce.proofs.entries.all_entries.Goals as goal

pub add_entries-requires : goal.add_entries-requires
add_entries-requires c =
    subst (λ (ts : List Coef). IsLight (sides_of c.args.columns.now) ts) (sym c.as_slice.ensures)
    (subst (λ (r : IpRow). IsLight (sides_of c.args.columns.now) r.terms) (sym c.index-rows-number.is) (c.requires.entered.light c.loop-number.number c.index-rows-number.result c.loop-number-test.true))

pub loop-number-preserved : goal.loop-number-preserved
loop-number-preserved c =
    entries_step (sides_of c.args.columns.now) c.args.rows.now c.loop-number.number c.loop-number.entries.items c.add_entries.new.entries.items c.index-rows-number.result c.as_slice.result.now
    c.loop-number-test.true c.index-rows-number.is c.as_slice.ensures c.loop-number.invariant c.in_ok-add_entries.ensures
