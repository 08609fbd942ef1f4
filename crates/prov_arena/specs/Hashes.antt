-- The hash of a formula: its words, mixed one after another.
use Rattle.std.specs.Prelude.{ℕ, ◌+◌, ◌-◌, ◌*◌, ◌%◌, ℤ, pos, unsigned_abs, int_lt, cond, fold}
use Rattle.prov_arena.specs.declared.part.Term.{Term}
use Rattle.prov_arena.specs.declared.part.Pair.{Pair}
use Rattle.prov_arena.specs.Formulas.{Formula}
use Rattle.prov_arena.specs.Words.{Spelling, words_of}

-- one more word
unfoldable pub mixed : ℕ → ℕ → ℕ
mixed hash word = (hash * 2654435769 + word) % 4294967291

-- one more signed number: its size, turned round where it is below 0
unfoldable pub mixed_number : ℕ → ℤ → ℕ
mixed_number hash number = mixed hash (cond (int_lt number (pos 0)) (4294967291 - unsigned_abs number % 4294967291) (unsigned_abs number % 4294967291))

unfoldable pub mixed_term : ℕ → Term → ℕ
mixed_term hash term = mixed (mixed_number hash term.factor) term.node

unfoldable pub mixed_pair : ℕ → Pair → ℕ
mixed_pair hash pair = mixed (mixed hash pair.truth) pair.number

unfoldable pub hash_of_words : Spelling → ℕ
hash_of_words w =
    fold mixed_pair (fold mixed_term (fold mixed (mixed (mixed (mixed_number w.kind w.number) w.left) w.right) w.kids) w.terms) w.pairs

unfoldable pub hash_of : Formula → ℕ
hash_of f = hash_of_words (words_of f)
