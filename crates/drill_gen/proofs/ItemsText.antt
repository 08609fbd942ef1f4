-- The lines of items, one after another.
use Rattle.std.proofs.Common.{◌≡◌, ◌+◌, ℕ, List, [], ◌∷◌, ◌++◌, ap, sym, ◌∙◌, arith}
use Rattle.std.specs.List.{range_with_len, flat_map}
use Rattle.std.proofs.lemmas.List.{append_assoc, map-id, append-nil}
use Rattle.std.proofs.lemmas.List.Concat.{flat_map-append}
use Rattle.std.proofs.lemmas.List.FromFn.{map-range_with_len_more}
use Rattle.drill_gen.specs.Drills.{item_line, items_text}

range_more : (n : ℕ) → range_with_len 1 (n + 1) ≡ range_with_len 1 n ++ (n + 1) ∷ []
range_more n = sym (map-id (range_with_len 1 (n + 1))) ∙ map-range_with_len_more (λ x. x) 1 n (n + 1) (omega arith) ∙ ap (λ xs. xs ++ (n + 1) ∷ []) (map-id (range_with_len 1 n))

-- the line of one more item
pub items_text_more : (begun before after : List ℕ) (n : ℕ) → before ≡ begun ++ items_text n → after ≡ before ++ item_line (n + 1) → after ≡ begun ++ items_text (n + 1)
items_text_more begun before after n e f =
    f ∙ ap (λ xs. xs ++ item_line (n + 1)) e ∙ append_assoc begun (items_text n) (item_line (n + 1))
    ∙ ap (λ xs. begun ++ xs) (sym (ap (flat_map item_line) (range_more n) ∙ flat_map-append item_line (range_with_len 1 n) ((n + 1) ∷ []) ∙ ap (λ xs. items_text n ++ xs) (append_nil_line)))
  where
    append_nil_line : item_line (n + 1) ++ [] ≡ item_line (n + 1)
    append_nil_line = append-nil (item_line (n + 1))
