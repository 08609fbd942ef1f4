use Rattle.std.proofs.Common.{◌≡◌, ℕ, ◌<◌, length, take, pos, int_lt}
use Rattle.ip_rows.specs.Rows.{factor_at}
use Rattle.dict_pivot.specs.First.{is_up}
use Rattle.dict_pivot.proofs.begin.mark_upper_starts.Given as goal

abbrev pub invariant-loop-term : goal.invariant-loop-term
invariant-loop-term l = (j : ℕ) → j < length l.up → is_up l.up j ≡ int_lt (factor_at (take l.term-index l.aim) j) (pos 0)
