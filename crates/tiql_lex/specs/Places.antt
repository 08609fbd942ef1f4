-- places in a text
use Rattle.std.specs.Prelude.{ℕ, ◌+◌, ◌==◌, nat_eq, if◌then◌else◌, List, [], ◌∷◌, slice_range}
use Rattle.std.specs.List.{fold, starts_with}
use Rattle.base_kit.specs.declared.place.Place.{Place}

-- behind the byte: LF ends a line
abbrev pub next_place : Place → ℕ → Place
next_place place b =
    if b == 10 then record { line = place.line + 1; column = 1 } else record { line = place.line; column = place.column + 1 }

-- behind all of the bytes
abbrev pub behind : Place → List ℕ → Place
behind = fold next_place

-- a byte order mark, EF BB BF, is no part of the text
abbrev pub mark_size : List ℕ → ℕ
mark_size bytes = if starts_with nat_eq bytes (239 ∷ 187 ∷ 191 ∷ []) then 3 else 0

-- the place of the byte with this number, where lines and columns are counted from 1
unfoldable pub place_at : List ℕ → ℕ → Place
place_at bytes n = behind (record { line = 1; column = 1 }) (slice_range bytes (mark_size bytes) n)
