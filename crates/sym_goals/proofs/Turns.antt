-- one possible row alone, and what is made of rows in turn
use Rattle.std.proofs.Common.{◌≡◌, ◌∙◌, sym, ap, ap₂, subst, ℕ, ◌+◌, ◌<◌, List, [], ◌∷◌, ◌++◌, length, get_or, take, map}
use Rattle.std.proofs.lemmas.List.{take_more, map-append}
use Rattle.std.proofs.lemmas.List.Elements.{All-nil, All-cons}
use Rattle.tiql_query.specs.declared.relation.Column.{Column}
use Rattle.prov_fold.specs.Graphs.{Graph, Keeps}
use Rattle.sym_rows.specs.declared.row.SymRow.{SymRow}
use Rattle.sym_rows.specs.Cells.{IsRowOf, AreRowsOf}
use Rattle.sym_rows.proofs.Hypos.{row_kept}
use Rattle.sym_values.specs.Meanings.{IsRowFit, AreRowsFit}

-- a row alone is a combination of one source
pub one_row : (g : Graph) (row : SymRow) → IsRowOf g row → AreRowsOf g (row ∷ [])
one_row g row is = All-cons (IsRowOf g) row [] is (All-nil (IsRowOf g))

pub one_fit : (columns : List Column) (row : SymRow) → IsRowFit columns row → AreRowsFit (columns ∷ []) (row ∷ [])
one_fit columns row fit = (fit, tt)

-- a row of the list, also when the list of formulas has grown
pub row_at : (g h : Graph) (rows : List SymRow) (i : ℕ) (row : SymRow) → Keeps g h → AreRowsOf g rows → i < length rows → row ≡ get_or rows i row → IsRowOf h row
row_at g h rows i row kept are lt is = row_kept g h row kept (subst (IsRowOf g) (sym is) (are i row lt))

-- what was made of the rows so far, and of one more
pub one_more : {A X B : Type 0} (h : A → B) (f : X → B) (xs : List X) (i : ℕ) (x : X) (made : List A) (a : A) → i < length xs → x ≡ get_or xs i x → map h made ≡ map f (take i xs) → h a ≡ f x → map h (made ++ a ∷ []) ≡ map f (take (i + 1) xs)
one_more {A} {X} {B} h f xs i x made a lt is so mine =
    map-append h made (a ∷ []) ∙ ap₂ (λ (l : List B) (b : B). l ++ b ∷ []) so mine ∙ sym (map-append f (take i xs) (x ∷ []))
    ∙ ap (λ (l : List X). map f l) (ap (λ (y : X). take i xs ++ y ∷ []) is ∙ sym (take_more xs i x lt))
