-- Totals of factors, and the nodes where they are not 0.
use Rattle.std.proofs.Common.{◌≡◌, ◌≢◌, ◌∙◌, sym, ap, subst, refl, ℕ, zero, suc, ◌+◌, ◌<◌, ◌≤◌, ◌^◌, ◌==◌, if◌then◌else◌, Bool, true, false, ⊎_elim, ℤ, pos, negsuc, ◌+ℤ◌, ◌*ℤ◌, unsigned_abs, List, [], ◌∷◌, ◌++◌, length, take, drop, get_or, set, replicate, All, arith}
use Rattle.std.specs.List.{flat_map}
use Rattle.std.proofs.lemmas.Int.{ints}
use Rattle.std.proofs.lemmas.Bool.{cases_eq}
use Rattle.std.proofs.lemmas.Bool.Decides.{Decides-eqb}
use Rattle.std.proofs.lemmas.List.{append_assoc, append-nil, drop_more, drop_all, take_more, take_all, length-append, length-set, length-replicate, get_or_append_left, get_or-set_same, get_or-set_other, take-append-drop}
use Rattle.std.proofs.lemmas.List.Elements.{All-append}
use Rattle.prov_arena.specs.declared.part.Term.{Term}
use Rattle.prov_arena.specs.Formulas.{Formula, FalseNode, TrueNode, PresNode, CellNode, PosNode, NotNode, AndNode, OrNode, LinNode, GuardNode, AbsNode, TotNode, MinNode, kids_of}
use Rattle.prov_fold.specs.Graphs.{Graph, node, size}
use Rattle.prov_fold.specs.Folds.{IsFold}
use Rattle.prov_fold.specs.Rules.{factor_at, scaled}
use Rattle.prov_fold.proofs.SpreadLemmas.{added_append, total_append}
use Rattle.bool_encode.specs.declared.form.Key.{Key}
use Rattle.bool_encode.specs.declared.form.Key.TheVariants as key
use Rattle.bool_encode.specs.declared.form.Piece.{Piece}
use Rattle.bool_encode.specs.Rows.{IsKey}
use Rattle.used_columns.specs.Seeds.{AreTotals, bulk, form_terms, key_terms, terms_of}
use Rattle.used_columns.proofs.NameLemmas.{terms_below}

-- ---- sizes

pub bulk_each : (n : ℕ) (ts : List Term) → bulk ts < n → All (λ (t : Term). unsigned_abs t.factor < n) ts
bulk_each n [] lt j d less = absurd (omega arith)
bulk_each n (t ∷ ts) lt zero d less = omega (arith, lt)
bulk_each n (t ∷ ts) lt (suc j) d less = bulk_each n ts (omega (arith, lt)) j d (omega arith)

one_small : (b : Bool) (f : ℤ) → unsigned_abs (if b then f else pos 0) ≤ unsigned_abs f
one_small true f = omega arith
one_small false f = omega arith

sum_small : (a b : ℤ) → unsigned_abs (a +ℤ b) ≤ unsigned_abs a + unsigned_abs b
sum_small a b = omega (arith, ints)

factor_small : (ts : List Term) (z : ℕ) → unsigned_abs (factor_at ts z) ≤ bulk ts
factor_small [] z = omega arith
factor_small (t ∷ ts) z =
    let first = one_small (t.node == z) t.factor in
    let rest = factor_small ts z in
    let both = sum_small (if t.node == z then t.factor else pos 0) (factor_at ts z) in
    omega (arith, first, rest, both)

bulk_take : (ts : List Term) (i : ℕ) → bulk (take i ts) ≤ bulk ts
bulk_take ts i =
    let both = added_append (λ (t : Term). unsigned_abs t.factor) (take i ts) (drop i ts) in
    let same : bulk (take i ts ++ drop i ts) ≡ bulk ts = ap bulk (take-append-drop i ts) in
    omega (arith, both, same)

-- ---- the terms of pieces

all_front : {X : Type 0} (P : X → Type 0) (xs ys : List X) → All P (xs ++ ys) → All P xs
all_front P xs ys h j d lt = let long = length-append xs ys in subst P (get_or_append_left xs ys d j lt) (h j d (omega (arith, lt, long)))

all_back : {X : Type 0} (P : X → Type 0) (xs ys : List X) → All P (xs ++ ys) → All P ys
all_back P [] ys h = h
all_back P (x ∷ xs) ys h = all_back P xs ys (λ j d lt. h (suc j) d (omega arith))

pub flat_part : {X Y : Type 0} (P : Y → Type 0) (f : X → List Y) (xs : List X) (i : ℕ) (x : X) → i < length xs → All P (flat_map f xs) → All P (f (get_or xs i x))
flat_part P f [] i x lt h = absurd (omega arith)
flat_part P f (y ∷ ys) zero x lt h = all_front P (f y) (flat_map f ys) h
flat_part P f (y ∷ ys) (suc i) x lt h = flat_part P f ys i x (omega arith) (all_back P (f y) (flat_map f ys) h)

none_at : {Y : Type 0} (P : Y → Type 0) → All P []
none_at P j d lt = absurd (omega arith)

flat_join : {X Y : Type 0} (P : Y → Type 0) (f : X → List Y) (xs : List X) → All (λ x. All P (f x)) xs → All P (flat_map f xs)
flat_join P f [] h = none_at P
flat_join P f (x ∷ xs) h = All-append P (f x) (flat_map f xs) (h 0 x (omega arith)) (flat_join P f xs (λ j d lt. h (suc j) d (omega arith)))

module _ (g : Graph) (fold : IsFold g) where
  abbrev There : Term → Type 0
  There t = t.node < size g

  one_there : (t : Term) → There t → All There (t ∷ [])
  one_there t p zero d lt = p
  one_there t p (suc j) d lt = absurd (omega arith)

  none_there : All There []
  none_there j d lt = absurd (omega arith)

  terms_by : (k : ℕ) (m : Formula) → k < size g → All (λ kid. kid < k) (kids_of m) → All There (terms_of k m)
  terms_by k FalseNode lt h = none_there
  terms_by k TrueNode lt h = none_there
  terms_by k (NotNode t) lt h = one_there (record { factor = negsuc 0; node = t }) (let less = h 0 0 (omega arith) in omega (arith, less, lt))
  terms_by k (LinNode c terms) lt h = terms_below k (size g) terms (omega (arith, lt)) h
  terms_by k (PresNode c) lt h = one_there (record { factor = pos 1; node = k }) lt
  terms_by k (CellNode c) lt h = one_there (record { factor = pos 1; node = k }) lt
  terms_by k (PosNode n) lt h = one_there (record { factor = pos 1; node = k }) lt
  terms_by k (AndNode kids) lt h = one_there (record { factor = pos 1; node = k }) lt
  terms_by k (OrNode kids) lt h = one_there (record { factor = pos 1; node = k }) lt
  terms_by k (GuardNode t n) lt h = one_there (record { factor = pos 1; node = k }) lt
  terms_by k (AbsNode n) lt h = one_there (record { factor = pos 1; node = k }) lt
  terms_by k (TotNode n) lt h = one_there (record { factor = pos 1; node = k }) lt
  terms_by k (MinNode pairs) lt h = one_there (record { factor = pos 1; node = k }) lt

  scaled_there : (k : ℤ) (ts : List Term) → All There ts → All There (scaled k ts)
  scaled_there k [] h j d lt = absurd (omega arith)
  scaled_there k (t ∷ ts) h zero d lt = h 0 t (omega arith)
  scaled_there k (t ∷ ts) h (suc j) d lt = scaled_there k ts (λ i x less. h (suc i) x (omega arith)) j d (omega arith)

  piece_there : (f : ℤ) (k : Key) → IsKey g k → All There (scaled f (key_terms g k))
  piece_there f (key.Node k) h = scaled_there f (terms_of k (node g k)) (terms_by k (node g k) h (fold.graph.below k h))
  piece_there f (key.Selector z pair) h = none_there

  pub form_there : (pieces : List Piece) → All (λ (p : Piece). IsKey g p.key) pieces → All There (form_terms g pieces)
  form_there pieces h = flat_join There (λ (p : Piece). scaled p.factor (key_terms g p.key)) pieces (λ j d lt. piece_there (get_or pieces j d).factor (get_or pieces j d).key (h j d lt))

-- ---- adding up

factor_one : (t : Term) (z : ℕ) → factor_at (t ∷ []) z ≡ (if t.node == z then t.factor else pos 0)
factor_one t z = omega (arith, ints)

factor_more : (ts : List Term) (i z : ℕ) (t : Term) → i < length ts → t ≡ get_or ts i t → factor_at (take (i + 1) ts) z ≡ factor_at (take i ts) z +ℤ (if t.node == z then t.factor else pos 0)
factor_more ts i z t lt is =
    ap (λ xs. factor_at xs z) (take_more ts i t lt ∙ ap (λ (x : Term). take i ts ++ x ∷ []) (sym is))
    ∙ total_append (λ (t : Term). if t.node == z then t.factor else pos 0) (take i ts) (t ∷ []) ∙ ap (λ n. factor_at (take i ts) z +ℤ n) (factor_one t z)

here_cond : (t : Term) (z : ℕ) → t.node ≡ z → (if t.node == z then t.factor else pos 0) ≡ t.factor
here_cond t z e = ap (λ b. if b then t.factor else pos 0) ((Decides-eqb t.node z).1 e)

no_eqb : (a b : ℕ) (r : Bool) → (a == b) ≡ r → a ≢ b → (a == b) ≡ false
no_eqb a b true e ne = absurd (ne ((Decides-eqb a b).0 e))
no_eqb a b false e ne = e

else_cond : (t : Term) (z : ℕ) → t.node ≢ z → (if t.node == z then t.factor else pos 0) ≡ pos 0
else_cond t z ne = ap (λ b. if b then t.factor else pos 0) (no_eqb t.node z (t.node == z) refl ne)

module _ (n : ℕ) (ts : List Term) (i : ℕ) (t : Term) (totals : List ℤ) (lt : i < length ts) (is : t ≡ get_or ts i t) (there : t.node < n) (are : AreTotals n (take i ts) totals) where
  total_next : get_or totals t.node (pos 0) +ℤ t.factor ≡ factor_at (take (i + 1) ts) t.node
  total_next = ap (λ m. m +ℤ t.factor) (are.each t.node there) ∙ sym (factor_more ts i t.node t lt is ∙ ap (λ m. factor_at (take i ts) t.node +ℤ m) (here_cond t t.node refl))

  pub total_fits : bulk ts < 2 ^ 63 → unsigned_abs (get_or totals t.node (pos 0) +ℤ t.factor) < 2 ^ 63
  total_fits light =
      let same : unsigned_abs (get_or totals t.node (pos 0) +ℤ t.factor) ≡ unsigned_abs (factor_at (take (i + 1) ts) t.node) = ap unsigned_abs total_next in
      let small = factor_small (take (i + 1) ts) t.node in
      let part = bulk_take ts (i + 1) in
      omega (arith, same, small, part, light)

  each_next : (z : ℕ) → z < n → get_or (set totals t.node (get_or totals t.node (pos 0) +ℤ t.factor)) z (pos 0) ≡ factor_at (take (i + 1) ts) z
  each_next z less =
      let new = get_or totals t.node (pos 0) +ℤ t.factor in
      let count = are.count in
      ⊎_elim
      (λ same. ap (λ k. get_or (set totals t.node new) k (pos 0)) same ∙ get_or-set_same totals t.node new (pos 0) (omega (arith, there, count)) ∙ total_next ∙ ap (factor_at (take (i + 1) ts)) (sym same))
      (λ other.
      get_or-set_other totals t.node z new (pos 0) other ∙ are.each z less
      ∙ sym (factor_more ts i z t lt is ∙ ap (λ m. factor_at (take i ts) z +ℤ m) (else_cond t z (λ e. other (sym e))) ∙ omega (arith, ints)))
      (cases_eq z t.node)

  pub totals_next : (next : List ℤ) → next ≡ set totals t.node (get_or totals t.node (pos 0) +ℤ t.factor) → AreTotals n (take (i + 1) ts) next
  totals_next next made = subst (λ (m : List ℤ). AreTotals n (take (i + 1) ts) m) (sym made) (record {
    count = length-set totals t.node (get_or totals t.node (pos 0) +ℤ t.factor) ∙ are.count;
    each = each_next;
  })

pub totals_begin : (n : ℕ) (ts : List Term) (totals : List ℤ) → totals ≡ replicate n (pos 0) → AreTotals n (take 0 ts) totals
totals_begin n ts totals e = record {
  count = ap (λ m. length m) e ∙ length-replicate n (pos 0);
  each = λ z lt. ap (λ (m : List ℤ). get_or m z (pos 0)) e ∙ zero_at n z;
}
  where
    zero_at : (n z : ℕ) → get_or (replicate n (pos 0)) z (pos 0) ≡ pos 0
    zero_at zero z = refl
    zero_at (suc n) zero = refl
    zero_at (suc n) (suc z) = zero_at n z

pub totals_end : (n i : ℕ) (ts : List Term) (totals : List ℤ) → length ts ≤ i → AreTotals n (take i ts) totals → AreTotals n ts totals
totals_end n i ts totals le are = subst (λ (xs : List Term). AreTotals n xs totals) (take_all i ts le) are

-- ---- terms times a factor

pub scaled_small : (n : ℕ) (k : ℤ) (ts : List Term) (i : ℕ) (d : Term) → i < length ts → All (λ (t : Term). unsigned_abs t.factor < n) (scaled k ts) → unsigned_abs (k *ℤ (get_or ts i d).factor) < n
scaled_small n k [] i d lt h = absurd (omega arith)
scaled_small n k (t ∷ ts) zero d lt h = h 0 d (omega arith)
scaled_small n k (t ∷ ts) (suc i) d lt h = scaled_small n k ts i d (omega arith) (λ j e less. h (suc j) e (omega arith))

pub scaled_more : (k : ℤ) (ts : List Term) (i : ℕ) (d t : Term) (made next all : List Term) → i < length ts → t.factor ≡ k *ℤ (get_or ts i d).factor → t.node ≡ (get_or ts i d).node → next ≡ made ++ t ∷ [] → made ++ scaled k (drop i ts) ≡ all → next ++ scaled k (drop (i + 1) ts) ≡ all
scaled_more k ts i d t made next all lt f n is e =
    let same : t ≡ record { factor = k *ℤ (get_or ts i d).factor; node = (get_or ts i d).node } = λ j. record { factor = f j; node = n j } in
    ap (λ xs. xs ++ scaled k (drop (i + 1) ts)) is ∙ append_assoc made (t ∷ []) (scaled k (drop (i + 1) ts)) ∙ ap (λ (x : Term). made ++ x ∷ scaled k (drop (i + 1) ts)) same ∙ sym (ap (λ (xs : List Term). made ++ scaled k xs) (drop_more ts i d lt)) ∙ e

pub scaled_end : (k f : ℤ) (ts : List Term) (i : ℕ) (made before : List Term) → length ts ≤ i → k ≡ f → made ++ scaled k (drop i ts) ≡ before ++ scaled k ts → made ≡ before ++ scaled f ts
scaled_end k f ts i made before le same e = sym (append-nil made) ∙ sym (ap (λ (xs : List Term). made ++ scaled k xs) (drop_all i ts le)) ∙ e ∙ ap (λ x. before ++ scaled x ts) same

-- what is added fits
pub total_small : (n : ℕ) (ts : List Term) (i : ℕ) (totals : List ℤ) (z : ℕ) → z < n → bulk ts < 2 ^ 63 → AreTotals n (take i ts) totals → unsigned_abs (get_or totals z (pos 0)) < 2 ^ 63
total_small n ts i totals z lt light are =
    let same = ap unsigned_abs (are.each z lt) in
    let small = factor_small (take i ts) z in
    let part = bulk_take ts i in
    omega (arith, same, small, part, light)
