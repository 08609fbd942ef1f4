use Rattle.std.proofs.Common.{◌≡◌, ℕ, ◌<◌, pos}
use Rattle.rat128.specs.Fractions.{whole_fraction}
use Rattle.dict_pivot.specs.Dictionaries.{number}
use Rattle.dict_pivot.proofs.cells.write_own_row.Given as goal

abbrev pub invariant-loop-cell : goal.invariant-loop-cell
invariant-loop-cell l = (k : ℕ) → k < l.cell-index → number l.cells k ≡ whole_fraction (pos 0)
