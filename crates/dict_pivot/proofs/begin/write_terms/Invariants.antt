use Rattle.std.proofs.Common.{◌≡◌, ℕ, suc, ◌+◌, ◌^◌, ◌<◌, ◌≤◌, length, take, drop, ◌+ℤ◌, ◌-ℤ◌, unsigned_abs}
use Rattle.rat128.specs.Fractions.{whole_fraction}
use Rattle.rat128.specs.Operations.{IsNarrow}
use Rattle.ip_rows.specs.Rows.{factor_at, weight}
use Rattle.dict_pivot.specs.Dictionaries.{number}
use Rattle.dict_pivot.specs.First.{corner_sum, turned_by}
use Rattle.dict_pivot.proofs.begin.write_terms.Given as goal

abbrev pub invariant-loop-term : goal.invariant-loop-term
invariant-loop-term l = record {
  sum : l.constant +ℤ corner_sum l.sides l.up (drop l.term-index l.terms) ≡ corner_sum l.sides l.up l.terms -ℤ l.least;
  size : unsigned_abs l.constant + weight l.sides (drop l.term-index l.terms) ≤ 2 ^ 120;
  later : (j : ℕ) → j < length l.sides → number l.row (suc j) ≡ whole_fraction (turned_by l.up j (factor_at (take l.term-index l.terms) j));
  narrow : (j : ℕ) → IsNarrow (number l.row j);
}
