use Rattle.std.proofs.Common.{◌≡◌, ◌≢◌, ℕ, ◌<◌, ◌≤◌, Some}
use Rattle.dict_pivot.specs.Dictionaries.{line, number}
use Rattle.dict_pivot.specs.Steps.{new_cell}
use Rattle.dict_pivot.proofs.pivot.write_rows.Given as goal

abbrev pub invariant-loop-i : goal.invariant-loop-i
invariant-loop-i l = record {
  done : (k j : ℕ) → k < l.i → k ≢ l.row → j < l.width → new_cell l.fn.cells l.width l.column l.shares k j ≡ Some (number (line l.cells l.width k) j);
  own : line l.cells l.width l.row ≡ line l.fn.cells l.width l.row;
  left : (k : ℕ) → l.i ≤ k → k < l.height → line l.cells l.width k ≡ line l.fn.cells l.width k;
}
