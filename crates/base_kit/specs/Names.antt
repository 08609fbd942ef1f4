-- which bytes are a name
use Rattle.std.specs.Prelude.{ℕ, Bool, false, ◌&&◌, ◌||◌, not, ◌==◌, nat_le, List, [], ◌∷◌, length}
use Rattle.std.specs.Char.{is_ascii_alphabetic, is_ascii_alphanumeric}
use Rattle.std.specs.List.{list_all}
use Rattle.base_kit.specs.Keywords.{is_keyword}

-- a letter or `_`
abbrev pub starts_name : ℕ → Bool
starts_name c = is_ascii_alphabetic c || c == 95

-- a letter, a digit or `_`
abbrev pub continues_name : ℕ → Bool
continues_name c = is_ascii_alphanumeric c || c == 95

-- the bytes are one word of these, which does not begin with a digit
abbrev pub is_word : List ℕ → Bool
is_word [] = false
is_word (c ∷ cs) = starts_name c && list_all continues_name cs

-- a word of at most 64 bytes that is not reserved
unfoldable pub is_name : List ℕ → Bool
is_name bytes = is_word bytes && nat_le (length bytes) 64 && not (is_keyword bytes)
