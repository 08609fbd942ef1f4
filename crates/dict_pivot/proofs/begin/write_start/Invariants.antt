use Rattle.std.proofs.Common.{◌≡◌, ℕ, ◌<◌, ◌≤◌, length}
use Rattle.dict_pivot.specs.Dictionaries.{line}
use Rattle.dict_pivot.specs.Quantities.{meaning, growth_of}
use Rattle.dict_pivot.specs.First.{corner_of, IsWritten}
use Rattle.dict_pivot.proofs.begin.write_start.Given as goal

abbrev pub invariant-loop-i : goal.invariant-loop-i
invariant-loop-i l = record {
  done : (k : ℕ) → k < l.i → IsWritten l.up (length l.lp.sides) (corner_of l.lp l.up (meaning (length l.lp.sides) k)) (growth_of l.lp (meaning (length l.lp.sides) k)) (line l.cells l.width k);
  left : (k : ℕ) → l.i ≤ k → k < l.height → line l.cells l.width k ≡ line l.fn.cells l.width k;
}
