-- a room that is filled in several turns
use Rattle.std.proofs.Common.{◌≡◌, ℕ, ◌+◌, List, Option, take, drop, sym, subst}
use Rattle.std.specs.Io.KnownBytes.{Consumes}
use Rattle.std.proofs.KnownBytes.{Consumes-trans}
use lib.Seq.{take-add}

-- what a turn reads behind the front comes after what was read before
pub more_read : (a b c : Option (List ℕ)) (room after : List ℕ) (filled count : ℕ) → take filled after ≡ take filled room → Consumes a b (take filled room) → Consumes b c (take count (drop filled after)) → Consumes a c (take (filled + count) after)
more_read a b c room after filled count front so_far more =
    subst (Consumes a c) (sym (take-add filled count after)) (Consumes-trans a b c _ _ (subst (Consumes a b) (sym front) so_far) more)
