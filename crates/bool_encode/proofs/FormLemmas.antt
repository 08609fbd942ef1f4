-- Forms at points over d, and forms at whole numbers.
use Rattle.std.proofs.Common.{◌≡◌, ◌∙◌, sym, ap, subst, ℕ, ◌<◌, ℤ, pos, ◌+ℤ◌, ◌*ℤ◌, ◌≤ℤ◌, List, [], ◌∷◌, ◌++◌, map, All}
use Rattle.prov_fold.specs.Sums.{total_by}
use Rattle.prov_fold.proofs.SameLemmas.{All_head, All_tail, All_cons}
use Rattle.prov_fold.proofs.Rings.{*ℤ_assoc, +ℤ-*ℤ}
use Rattle.prov_fold.proofs.Products.{≤ℤ-*ℤ}
use Rattle.bool_encode.specs.declared.form.Key.{Key}
use Rattle.bool_encode.specs.declared.form.Key.TheVariants as key
use Rattle.bool_encode.specs.declared.form.Piece.{Piece}
use Rattle.bool_encode.specs.Forms.{Form, form, form_at, Hold}
use Rattle.bool_encode.specs.Tables.{times, and_forms, or_forms}
use Rattle.bool_encode.proofs.Each.{All_none}
use Rattle.bool_encode.proofs.Numbers.{cancel_le, zero_d}

-- ---- what forms name

abbrev pub NamesOnly : (Key → Type 0) → List Form → Type 0
NamesOnly P [] = Unit {0}
NamesOnly P (r ∷ rs) = All (λ (p : Piece). P p.key) r.pieces × NamesOnly P rs

-- ---- at whole numbers

abbrev pub whole_at : (Key → ℤ) → Form → ℤ
whole_at v r = r.constant +ℤ total_by (λ (p : Piece). p.factor *ℤ v p.key) r.pieces

abbrev pub Held : (Key → ℤ) → List Form → Type 0
Held v [] = Unit {0}
Held v (r ∷ rs) = (pos 0 ≤ℤ whole_at v r) × Held v rs

-- the numbers of keys by those of nodes
abbrev pub nodes : (ℕ → ℤ) → Key → ℤ
nodes v (key.Node z) = v z
nodes v (key.Selector z i) = pos 0

-- a sum of factors times numbers over d
pub total_over : {A : Type 0} (d : ℕ) (c a b : A → ℤ) (xs : List A) → All (λ x. a x ≡ b x *ℤ pos d) xs → total_by (λ x. c x *ℤ a x) xs ≡ total_by (λ x. c x *ℤ b x) xs *ℤ pos d
total_over d c a b [] h = sym (zero_d d)
total_over d c a b (x ∷ xs) h =
    let here : c x *ℤ a x ≡ (c x *ℤ b x) *ℤ pos d = ap (λ (y : ℤ). c x *ℤ y) (All_head (λ x. a x ≡ b x *ℤ pos d) x xs h) ∙ sym (*ℤ_assoc (c x) (b x) (pos d)) in
    let rest = total_over d c a b xs (All_tail (λ x. a x ≡ b x *ℤ pos d) x xs h) in
    (λ i. here i +ℤ rest i) ∙ sym (+ℤ-*ℤ (c x *ℤ b x) (total_by (λ x. c x *ℤ b x) xs) (pos d))

module _ (d : ℕ) (f v : Key → ℤ) where
  -- over d the key has this whole number
  abbrev pub Is : Key → Type 0
  Is k = f k ≡ v k *ℤ pos d

  -- what a form is at whole numbers, times d
  pub form_scaled : (r : Form) → All (λ (p : Piece). Is p.key) r.pieces → form_at d f r ≡ whole_at v r *ℤ pos d
  form_scaled r h =
      ap (λ (y : ℤ). r.constant *ℤ pos d +ℤ y) (total_over d (λ (p : Piece). p.factor) (λ (p : Piece). f p.key) (λ (p : Piece). v p.key) r.pieces h)
      ∙ sym (+ℤ-*ℤ r.constant (total_by (λ (p : Piece). p.factor *ℤ v p.key) r.pieces) (pos d))

  -- forms hold over d exactly where they hold at the whole numbers
  pub down : 0 < d → (rows : List Form) → NamesOnly Is rows → Hold d f rows → Held v rows
  down some [] n h = tt
  down some (r ∷ rows) n h =
      (cancel_le (pos 0) (whole_at v r) d some (subst (λ (x : ℤ). x ≤ℤ (whole_at v r *ℤ pos d)) (sym (zero_d d)) (subst (λ (x : ℤ). pos 0 ≤ℤ x) (form_scaled r n.0) h.0)), down some rows n.1 h.1)

  pub up : (rows : List Form) → NamesOnly Is rows → Held v rows → Hold d f rows
  up [] n h = tt
  up (r ∷ rows) n h =
      (subst (λ (x : ℤ). pos 0 ≤ℤ x) (sym (form_scaled r n.0)) (subst (λ (x : ℤ). x ≤ℤ (whole_at v r *ℤ pos d)) (zero_d d) (≤ℤ-*ℤ (pos 0) (whole_at v r) d h.0)), up rows n.1 h.1)

-- ---- what the forms of And and Or name

module _ (P : Key → Type 0) where
  abbrev On : Piece → Type 0
  On p = P p.key

  abbrev At : ℕ → Type 0
  At z = P (key.Node z)

  pub names_both : (xs ys : List Form) → NamesOnly P xs → NamesOnly P ys → NamesOnly P (xs ++ ys)
  names_both [] ys h k = k
  names_both (x ∷ xs) ys h k = (h.0, names_both xs ys h.1 k)

  pub two_pieces : (a b : ℤ) (x y : ℕ) → At x → At y → All On (times a x ∷ times b y ∷ [])
  two_pieces a b x y p q = All_cons On (times a x) (times b y ∷ []) p (All_cons On (times b y) [] q (All_none On))

  pub three_pieces : (a b c : ℤ) (x y z : ℕ) → At x → At y → At z → All On (times a x ∷ times b y ∷ times c z ∷ [])
  three_pieces a b c x y z p q r = All_cons On (times a x) (times b y ∷ times c z ∷ []) p (two_pieces b c y z q r)

  names_map : (a b : ℤ) (z : ℕ) (kids : List ℕ) → All At kids → At z → NamesOnly P (map (λ t. form (pos 0) (times a t ∷ times b z ∷ [])) kids)
  names_map a b z [] h p = tt
  names_map a b z (k ∷ kids) h p = (two_pieces a b k z (All_head At k kids h) p, names_map a b z kids (All_tail At k kids h) p)

  names_pieces : (c : ℤ) (kids : List ℕ) → All At kids → All On (map (times c) kids)
  names_pieces c [] h = All_none On
  names_pieces c (k ∷ kids) h = All_cons On (times c k) (map (times c) kids) (All_head At k kids h) (names_pieces c kids (All_tail At k kids h))

  pub names_and : (kids : List ℕ) (z : ℕ) → All At kids → At z → NamesOnly P (and_forms kids z)
  names_and kids z h p = names_both _ _ (names_map _ _ z kids h p) (All_cons On (times _ z) (map (times _) kids) p (names_pieces _ kids h), tt)

  pub names_or : (kids : List ℕ) (z : ℕ) → All At kids → At z → NamesOnly P (or_forms kids z)
  names_or kids z h p = names_both _ _ (names_map _ _ z kids h p) (All_cons On (times _ z) (map (times _) kids) p (names_pieces _ kids h), tt)
