use Rattle.std.proofs.Common.{◌∙◌, ℕ}
use Rattle.std.specs.Prelude.{not}
use Rattle.ip_rows.specs.Programs.{sides_of, is_fixed}
use Rattle.ip_reduce.proofs.EntryLemmas.{numbers_more, numbers_same}
use Rattle.ip_reduce.proofs.entries.open_columns.Goals as goal
use Rattle.ip_reduce.proofs.entries.open_columns.Goals.{then-is_open+in_ok-push, else-is_open}

pub loop-column-preserved : goal.loop-column-preserved
loop-column-preserved c = elim c.if-is_open.branch [
  | then-is_open+in_ok-push w ↦ numbers_more (λ (column : ℕ). not (is_fixed (sides_of c.args.columns.now) column)) c.loop-column.column c.loop-column.made c.if-is_open.made c.loop-column.invariant w.if-is_open.ensures (w.made-is ∙ w.in_ok-push.ensures.ok)
  | else-is_open w ↦ numbers_same (λ (column : ℕ). not (is_fixed (sides_of c.args.columns.now) column)) c.loop-column.column c.loop-column.made c.if-is_open.made c.loop-column.invariant w.if-is_open.ensures w.made-is
]
