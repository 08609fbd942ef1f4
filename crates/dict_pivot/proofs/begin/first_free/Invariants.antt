use Rattle.std.proofs.Common.{◌≡◌, ℕ, suc, ◌+◌, ◌<◌, length, cond}
use Rattle.std.specs.Prelude.{slice_index}
use Rattle.dict_pivot.specs.First.{is_up}
use Rattle.dict_pivot.proofs.begin.first_free.Given as goal

abbrev pub invariant-loop-j : goal.invariant-loop-j
invariant-loop-j l = record {
  size : length l.free.items ≡ suc l.j;
  each : (k : ℕ) → k < l.j → slice_index l.free.items (suc k) ≡ cond (is_up l.up k) (suc (length l.up + k)) (suc k);
}
