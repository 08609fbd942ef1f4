-- the reserved words
use Rattle.std.specs.Prelude.{ℕ, Bool, nat_eq, List, [], ◌∷◌, codes}
use Rattle.std.specs.List.{list_any}
use Rattle.std.specs.Cmp.Lexicographic.{pointwise}

-- the reserved words, each as its bytes
abbrev pub keywords : List (List ℕ)
keywords =
    codes "TABLE" ∷ codes "INT" ∷ codes "TEXT" ∷ codes "KEY" ∷ codes "HYPO" ∷ codes "FROM" ∷ codes "SET" ∷
    codes "IN" ∷ codes "WHERE" ∷ codes "DROP" ∷ codes "VIEW" ∷ codes "AS" ∷ codes "SELECT" ∷ codes "DISTINCT" ∷
    codes "UNION" ∷ codes "ALL" ∷ codes "GROUP" ∷ codes "BY" ∷ codes "REQUIRE" ∷ codes "HAVE" ∷ codes "SOME" ∷
    codes "NONE" ∷ codes "MINIMIZE" ∷ codes "MAXIMIZE" ∷ codes "FIND" ∷ codes "SUM" ∷ codes "COUNT" ∷ codes "MIN" ∷
    codes "MAX" ∷ codes "ABS" ∷ codes "AND" ∷ codes "OR" ∷ codes "NOT" ∷ codes "EXCEPT" ∷ codes "PREFER" ∷
    codes "COST" ∷ []

-- whether the bytes are a reserved word
unfoldable pub is_keyword : List ℕ → Bool
is_keyword bytes = list_any (λ word. pointwise nat_eq word bytes) keywords
