-- rows of one key, and those of them that are there
use Rattle.std.proofs.Common.{◌≡◌, ◌∙◌, sym, ap, ap₂, refl, ℕ, suc, ℤ, Bool, true, false, cond, ◌&&◌, ◌||◌, List, [], ◌∷◌, ◌++◌, map, filter, flat_map, All, arith}
use Rattle.std.specs.List.{list_any}
use Rattle.std.specs.Ordering.{is_eq}
use Rattle.std.proofs.lemmas.List.Elements.{All-nil, All-cons}
use Rattle.base_kit.specs.Orders.{row_order}
use Rattle.base_kit.specs.declared.value.Value.{Value}
use Rattle.base_kit.proofs.Orders.{row_order-Equal}
use Rattle.view_select.specs.Selects.{distinct}
use Rattle.sym_rows.specs.declared.row.SymRow.{SymRow}
use Rattle.sym_rows.specs.Cells.{row_in, rows_in, is_there}
use Rattle.sym_groups.specs.Groups.{beside, together}
use Rattle.sym_groups.specs.Meanings.{some_there}
use Rattle.sym_groups.proofs.Shown.{shows, rows_shown}

-- ---- lists

flat_mapped : {X Y Z : Type 0} (f : Y → List Z) (g : X → Y) (xs : List X) → flat_map f (map g xs) ≡ flat_map (λ x. f (g x)) xs
flat_mapped f g [] = refl
flat_mapped {X} {Y} {Z} f g (x ∷ xs) = ap (λ (l : List Z). f (g x) ++ l) (flat_mapped f g xs)

-- what is listed where a test holds
flat_where : {X Y : Type 0} (p q : X → Bool) (f h : X → Y) → ((x : X) → p x ≡ q x) → ((x : X) → p x ≡ true → f x ≡ h x) → (xs : List X) → flat_map (λ x. cond (p x) (f x ∷ []) []) xs ≡ map h (filter q xs)
flat_where p q f h same agree [] = refl
flat_where {X} {Y} p q f h same agree (x ∷ xs) = ap (λ (l : List Y). cond (p x) (f x ∷ []) [] ++ l) (flat_where p q f h same agree xs) ∙ by_test (p x) refl
  where
    by_test : (b : Bool) → p x ≡ b → cond b (f x ∷ []) [] ++ map h (filter q xs) ≡ map h (cond (q x) (x ∷ filter q xs) (filter q xs))
    by_test true e = ap (λ (y : Y). y ∷ map h (filter q xs)) (agree x e) ∙ ap (λ (b : Bool). map h (cond b (x ∷ filter q xs) (filter q xs))) (sym e ∙ same x)
    by_test false e = ap (λ (b : Bool). map h (cond b (x ∷ filter q xs) (filter q xs))) (sym e ∙ same x)

any_filtered : {X : Type 0} (p q : X → Bool) (xs : List X) → list_any p (filter q xs) ≡ list_any (λ x. p x && q x) xs
any_filtered p q [] = refl
any_filtered p q (x ∷ xs) = by_test (q x) ∙ ap (λ (b : Bool). (p x && q x) || b) (any_filtered p q xs)
  where
    and_false : (b : Bool) → (b && false) ≡ false
    and_false true = refl
    and_false false = refl

    and_true : (b : Bool) → (b && true) ≡ b
    and_true true = refl
    and_true false = refl

    by_test : (b : Bool) → list_any p (cond b (x ∷ filter q xs) (filter q xs)) ≡ ((p x && b) || list_any p (filter q xs))
    by_test true = ap (λ (b : Bool). b || list_any p (filter q xs)) (sym (and_true (p x)))
    by_test false = ap (λ (b : Bool). b || list_any p (filter q xs)) (sym (and_false (p x)))

-- a filter keeps what holds of all
pub all_filter : {X : Type 0} (P : X → Type 0) (q : X → Bool) (xs : List X) → All P xs → All P (filter q xs)
all_filter P q [] are = All-nil P
all_filter {X} P q (x ∷ xs) are = by_test (q x) (all_filter P q xs (λ k d lt. are (suc k) d (omega (arith, lt))))
  where
    by_test : (b : Bool) → All P (filter q xs) → All P (cond b (x ∷ filter q xs) (filter q xs))
    by_test true more = All-cons P x (filter q xs) (are 0 x (omega arith)) more
    by_test false more = more

pub map_agree : {X Y : Type 0} (f h : X → Y) (xs : List X) → All (λ x. f x ≡ h x) xs → map f xs ≡ map h xs
map_agree f h [] are = refl
map_agree {X} {Y} f h (x ∷ xs) are = ap₂ (λ (y : Y) (l : List Y). y ∷ l) (are 0 x (omega arith)) (map_agree f h xs (λ k d lt. are (suc k) d (omega (arith, lt))))

-- ---- rows of a key

-- whether a row has a key
abbrev pub has_key : (SymRow → List Value) → List Value → SymRow → Bool
has_key key k row = is_eq (row_order (key row) k)

pub beside_is : (key : SymRow → List Value) (rows : List SymRow) (k : List Value) → beside (map key rows) rows k ≡ filter (has_key key k) rows
unfolding beside
beside_is key [] k = refl
beside_is key (row ∷ rows) k = ap (λ (l : List SymRow). cond (has_key key k row) (row ∷ l) l) (beside_is key rows k)

-- what a group has is what its first row has
abbrev pub FirstHas : (SymRow → Type 0) → List SymRow → Type 0
FirstHas P [] = Unit {0}
FirstHas P (row ∷ rows) = P row

-- the first of the rows with a key has it
pub first_key : (key : SymRow → List Value) (rows : List SymRow) (k : List Value) → FirstHas (λ row. key row ≡ k) (filter (has_key key k) rows)
first_key key [] k = tt
first_key key (row ∷ rows) k = by_test (has_key key k row) refl (first_key key rows k)
  where
    by_test : (b : Bool) → has_key key k row ≡ b → FirstHas (λ row. key row ≡ k) (filter (has_key key k) rows) → FirstHas (λ row. key row ≡ k) (cond b (row ∷ filter (has_key key k) rows) (filter (has_key key k) rows))
    by_test true e more = (row_order-Equal (key row) k).0 e
    by_test false e more = more

-- the groups that are there, where their rows are what they are to be
pub rows_together : (key : SymRow → List Value) (rows : List SymRow) (v : ℕ → ℤ) (there : List SymRow → Bool) (values : List SymRow → List Value) (item : List Value → List Value) → ((group : List SymRow) → there group ≡ some_there group v)
    → ((k : List Value) → some_there (beside (map key rows) rows k) v ≡ true → values (beside (map key rows) rows k) ≡ item k)
    → flat_map (λ group. cond (there group) (values group ∷ []) []) (together (map key rows) rows) ≡ map item (distinct (map key (filter (is_there v) rows)))
unfolding together
rows_together key rows v there values item same agree =
    flat_mapped (λ group. cond (there group) (values group ∷ []) []) (beside (map key rows) rows) (distinct (map key rows))
    ∙ flat_where (λ k. there (beside (map key rows) rows k)) (shows row_order (is_there v) key rows) (λ k. values (beside (map key rows) rows k)) item
    (λ k. same (beside (map key rows) rows k) ∙ ap (λ (l : List SymRow). some_there l v) (beside_is key rows k) ∙ any_filtered (is_there v) (has_key key k) rows)
    (λ k e. agree k (sym (same (beside (map key rows) rows k)) ∙ e)) (distinct (map key rows))
    ∙ ap (map item) (rows_shown (is_there v) key rows)

-- the rows of a key that are there are the plain rows that have it
pub there_of_key : (key : SymRow → List Value) (plain : List Value → List Value) (v : ℕ → ℤ) (k : List Value) (rows : List SymRow) → All (λ row. key row ≡ plain (row_in v row)) rows
    → rows_in v (filter (has_key key k) rows) ≡ filter (λ row. is_eq (row_order (plain row) k)) (rows_in v rows)
there_of_key key plain v k [] are = refl
there_of_key key plain v k (row ∷ rows) are =
    by_both (has_key key k row) (is_there v row) refl (ap (λ (l : List Value). is_eq (row_order l k)) (are 0 row (omega arith))) (there_of_key key plain v k rows (λ j d lt. are (suc j) d (omega (arith, lt))))
  where
    by_both : (b t : Bool) → is_there v row ≡ t → has_key key k row ≡ is_eq (row_order (plain (row_in v row)) k) → rows_in v (filter (has_key key k) rows) ≡ filter (λ row. is_eq (row_order (plain row) k)) (rows_in v rows)
        → rows_in v (filter (has_key key k) (row ∷ rows)) ≡ filter (λ row. is_eq (row_order (plain row) k)) (map (row_in v) (cond t (row ∷ filter (is_there v) rows) (filter (is_there v) rows)))
    by_both b true e same h = more (has_key key k row) refl
      where
        more : (b : Bool) → has_key key k row ≡ b → rows_in v (cond b (row ∷ filter (has_key key k) rows) (filter (has_key key k) rows)) ≡ cond (is_eq (row_order (plain (row_in v row)) k)) (row_in v row ∷ filter (λ row. is_eq (row_order (plain row) k)) (rows_in v rows)) (filter (λ row. is_eq (row_order (plain row) k)) (rows_in v rows))
        more true f =
            ap (λ (b : Bool). map (row_in v) (cond b (row ∷ filter (is_there v) (filter (has_key key k) rows)) (filter (is_there v) (filter (has_key key k) rows)))) e
            ∙ ap (λ (l : List (List Value)). row_in v row ∷ l) h
            ∙ ap (λ (b : Bool). cond b (row_in v row ∷ filter (λ row. is_eq (row_order (plain row) k)) (rows_in v rows)) (filter (λ row. is_eq (row_order (plain row) k)) (rows_in v rows))) (sym f ∙ same)
        more false f = h ∙ ap (λ (b : Bool). cond b (row_in v row ∷ filter (λ row. is_eq (row_order (plain row) k)) (rows_in v rows)) (filter (λ row. is_eq (row_order (plain row) k)) (rows_in v rows))) (sym f ∙ same)
    by_both b false e same h = more (has_key key k row)
      where
        more : (b : Bool) → rows_in v (cond b (row ∷ filter (has_key key k) rows) (filter (has_key key k) rows)) ≡ filter (λ row. is_eq (row_order (plain row) k)) (rows_in v rows)
        more true = ap (λ (b : Bool). map (row_in v) (cond b (row ∷ filter (is_there v) (filter (has_key key k) rows)) (filter (is_there v) (filter (has_key key k) rows)))) e ∙ h
        more false = h
