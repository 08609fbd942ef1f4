use Rattle.std.proofs.Common.{◌+◌, suc, length, subst, ◌<◌, arith}
use Rattle.std.specs.Prelude.{slice_index}
use Rattle.dict_pivot.specs.Dictionaries.{number}
use Rattle.dual_simplex.proofs.Reach.{scattered}
use Rattle.dual_simplex.proofs.closing.scatter.Goals as goal

pub loop-column-init : goal.loop-column-init
loop-column-init c = λ r l. c.requires.zeros r

pub note-requires : goal.note-requires
note-requires c =
    let k : slice_index c.args.dict.now.free (c.loop-column.column + 1) < c.args.dict.now.height = c.free-free.ensures.dictionary.units.row (c.loop-column.column + 1) (record { some = omega arith; within = omega (arith, c.loop-column-test.true, c.requires.columns) }) in
    omega (arith, k, c.free-free.ensures.free, c.requires.rows, c.loop-column.auto.factors)

pub loop-column-preserved : goal.loop-column-preserved
loop-column-preserved c = λ r l.
    let m : r < length c.loop-column.factors = subst (λ n. r < n) c.note.auto.factors l in
    scattered c.args.dict.now c.args.row (suc (c.args.columns + c.args.columns + r)) c.loop-column.column c.free-free.result c.cell.result (number c.loop-column.factors r) (number c.note.new.factors r) c.free-free.ensures.free c.cell.ensures.cell (c.loop-column.invariant r m) (c.note.ensures r m)
