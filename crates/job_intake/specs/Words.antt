-- The words that are a command.
use Rattle.std.specs.Prelude.{ℕ, List, [], ◌∷◌, ◌++◌, length, Option, Some, None, Bool, false, not, ◌&&◌, ◌==◌, nat_le, codes, bytes_eq, if◌then◌else◌}
use Rattle.std.specs.Char.{is_ascii_digit}
use Rattle.std.specs.List.{list_all}
use Rattle.std.specs.Str.Parse.{digits_value}

-- a first digit that is no zero
abbrev pub begins_plain : List ℕ → Bool
begins_plain [] = false
begins_plain (first ∷ rest) = not (first == 48)

-- the nodes that a word names: at most six digits, without sign or leading zero, of value at most 100,000
abbrev pub nodes_of : List ℕ → Option ℕ
nodes_of word =
    if nat_le (length word) 6 && begins_plain word && list_all is_ascii_digit word && nat_le (digits_value 10 word) 100000
    then Some (digits_value 10 word) else None

-- what is to be done: to solve within so many nodes, or to check or evaluate the answer of this name
pub data Command : Type 0 where
  solve : ℕ → Command
  check : List ℕ → Command
  evaluate : List ℕ → Command

-- a query's name, a folder, and what is to be done
abbrev pub Form : Type 0
Form = List ℕ × List ℕ × Command

-- the form of solving with these nodes, where the first word is `solve`
abbrev pub solve_form : List ℕ → List ℕ → List ℕ → Option ℕ → Option Form
solve_form word query folder None = None
solve_form word query folder (Some nodes) = if bytes_eq word (codes "solve") then Some (query, folder, solve nodes) else None

-- the form of checking, where the first word is `check`, of evaluating, where it is `eval`, or else that of solving
abbrev pub four_words : List ℕ → List ℕ → List ℕ → List ℕ → Option Form
four_words word query folder last =
    if bytes_eq word (codes "check") then Some (query, folder, check last)
    else (if bytes_eq word (codes "eval") then Some (query, folder, evaluate last) else solve_form word query folder (nodes_of last))

-- `solve QUERY DIR` works 10,000 nodes, `solve QUERY DIR NODES` as many as it names; `check QUERY DIR ANSWER`; `eval QUERY DIR ANSWER`
abbrev pub form_of : List (List ℕ) → Option Form
form_of [] = None
form_of (word ∷ []) = None
form_of (word ∷ query ∷ []) = None
form_of (word ∷ query ∷ folder ∷ []) = solve_form word query folder (Some 10000)
form_of (word ∷ query ∷ folder ∷ last ∷ []) = four_words word query folder last
form_of (word ∷ query ∷ folder ∷ last ∷ more ∷ words) = None

-- the name of a table's file in a folder
abbrev pub table_path : List ℕ → List ℕ → List ℕ
table_path folder table = folder ++ codes "/" ++ table ++ codes ".csv"
