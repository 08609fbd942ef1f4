-- hashes of keys
use Rattle.std.specs.Prelude.{ℕ, ◌+◌, ◌*◌, ◌/◌, ◌%◌, ℤ, unsigned_abs, List, fold, Option, Some, None}
use Rattle.base_kit.specs.declared.value.Value.{Value}
use Rattle.base_kit.specs.declared.value.Value.TheVariants.{Int, Text}

-- a hash with one more word of 32 bits
unfoldable pub mixed : ℕ → ℕ → ℕ
mixed hash word = (hash * 2654435769 + word) % 4294967291

-- with a number: its size modulo 2^32, then what is left of its size
unfoldable pub mixed_number : ℕ → ℤ → ℕ
mixed_number hash number = mixed (mixed hash (unsigned_abs number % 4294967296)) (unsigned_abs number / 4294967296)

-- with a text: a word that no byte is, then its bytes
unfoldable pub mixed_text : ℕ → List ℕ → ℕ
mixed_text hash text = fold mixed (mixed hash 256) text

-- with a value of a key, where the column is there
abbrev pub mixed_entry : ℕ → Option Value → ℕ
mixed_entry hash None = hash
mixed_entry hash (Some (Int number)) = mixed_number hash number
mixed_entry hash (Some (Text text)) = mixed_text hash text

-- the hash of a key
unfoldable pub hash_of : List (Option Value) → ℕ
hash_of key = fold mixed_entry 0 key
