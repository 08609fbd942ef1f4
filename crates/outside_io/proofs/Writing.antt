-- a piece that is written in several turns
use Rattle.std.proofs.Common.{ℕ, ◌+◌, ◌-◌, List, Option, length, take, drop, sym, subst}
use Rattle.std.proofs.lemmas.List.{take_rest}
use Rattle.std.specs.Io.KnownBytes.{Appends}
use Rattle.std.proofs.KnownBytes.{Appends-trans}
use lib.Seq.{take-add}

-- what a turn takes of the rest comes after what was taken before
pub more_written : (a b c : Option (List ℕ)) (piece : List ℕ) (done count : ℕ) → Appends a b (take done piece) → Appends b c (take count (take (length piece - done) (drop done piece))) → Appends a c (take (done + count) piece)
more_written a b c piece done count so_far more =
    subst (Appends a c) (sym (take-add done count piece)) (Appends-trans a b c _ _ so_far (subst (λ (l : List ℕ). Appends b c (take count l)) (take_rest piece done) more))
