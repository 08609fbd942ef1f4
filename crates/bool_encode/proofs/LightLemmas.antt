-- How large the numbers of a row are together.
use Rattle.std.proofs.Common.{◌≡◌, ◌∙◌, sym, ap, refl, ℕ, ◌+◌, ◌*◌, ◌<◌, ◌≤◌, ◌^◌, ℤ, pos, ◌*ℤ◌, neg_ℤ, unsigned_abs, true, List, [], ◌∷◌, ◌++◌, map, length, drop, All, arith}
use Rattle.std.specs.List.Sorted.{IsPermutation}
use Rattle.std.proofs.lemmas.Int.{ints, unsigned_abs-mul}
use Rattle.std.proofs.lemmas.List.{drop_all}
use Rattle.std.proofs.Math.Nat.{mul-le-mul_left}
use Rattle.ip_rows.specs.declared.rows.Coef.{Coef}
use Rattle.prov_arena.specs.Formulas.{Formula, FalseNode, TrueNode, PresNode, CellNode, PosNode, NotNode, AndNode, OrNode, LinNode, GuardNode, AbsNode, TotNode, MinNode}
use Rattle.prov_fold.specs.Graphs.{Graph, node, size}
use Rattle.prov_fold.specs.Kinds.{is_truth}
use Rattle.prov_fold.specs.Sums.{added_by}
use Rattle.prov_fold.proofs.SameLemmas.{All_head, All_tail, All_cons}
use Rattle.prov_fold.proofs.SpreadLemmas.{added_append, added_sorted}
use Rattle.bool_encode.specs.declared.form.Key.TheVariants as key
use Rattle.bool_encode.specs.declared.form.Piece.{Piece}
use Rattle.bool_encode.specs.declared.scrap.Scrap.{Scrap}
use Rattle.bool_encode.specs.declared.stand.Stand.{Stand}
use Rattle.bool_encode.specs.Columns.{columns_by, columns_of, constant_of, IsOnMap}
use Rattle.bool_encode.specs.Rows.{heft, weight, IsKey, IsKid}
use Rattle.bool_encode.specs.Scraps.{told, scaled, spread, together, joins}
use Rattle.bool_encode.specs.Tables.{times}
use Rattle.bool_encode.proofs.Each.{All_change, All_to_map}
use Rattle.bool_encode.proofs.ColumnLemmas.{constant_is}
use Rattle.bool_encode.proofs.JoinLemmas.{joins_added}

-- ---- truths are light

truth_heft : (g : Graph) (stands : List Stand) (z : ℕ) (m : Formula) → is_truth m ≡ true → heft (columns_by g stands z m) ≤ 2
truth_heft g stands z FalseNode e = omega arith
truth_heft g stands z TrueNode e = omega arith
truth_heft g stands z (PresNode column) e = omega arith
truth_heft g stands z (CellNode column) e = cc
truth_heft g stands z (PosNode number) e = omega arith
truth_heft g stands z (NotNode truth) e = omega arith
truth_heft g stands z (AndNode kids) e = omega arith
truth_heft g stands z (OrNode kids) e = omega arith
truth_heft g stands z (LinNode c terms) e = cc
truth_heft g stands z (GuardNode truth number) e = cc
truth_heft g stands z (AbsNode number) e = cc
truth_heft g stands z (TotNode number) e = cc
truth_heft g stands z (MinNode pairs) e = cc

pub truth_light : (g : Graph) (stands : List Stand) (z : ℕ) → is_truth (node g z) ≡ true → heft (columns_of g stands (key.Node z)) ≤ 2
unfolding columns_of
truth_light g stands z e = truth_heft g stands z (node g z) e

pub light_truth : (g : Graph) (stands : List Stand) (z : ℕ) → z < size g → IsOnMap g stands (key.Node z) → is_truth (node g z) ≡ true → IsKid g stands 2 z
unfolding columns_of
light_truth g stands z lt on e = record { there = lt; on_map = on; light = truth_heft g stands z (node g z) e }

pub light_truths : (g : Graph) (stands : List Stand) (kids : List ℕ) → All (λ z. z < size g) kids → All (λ z. IsOnMap g stands (key.Node z)) kids → All (λ z. is_truth (node g z) ≡ true) kids → All (IsKid g stands 2) kids
light_truths g stands kids a b c = λ k d lt. light_truth g stands _ (a k d lt) (b k d lt) (c k d lt)

-- ---- the rows of And and Or are light

pub once_light : (s h : ℕ) → s ≤ 1 → h ≤ 2 → s * h ≤ 2
once_light s h p q =
    let one : s * h ≤ s * 2 = mul-le-mul_left s q in
    omega (arith, one, p)

neg_size : (s : ℤ) → unsigned_abs (neg_ℤ s) ≡ unsigned_abs s
neg_size s = omega (arith, ints)

pub pair_light : (g : Graph) (stands : List Stand) (s t : ℤ) (k z : ℕ) → unsigned_abs s ≤ 1 → unsigned_abs t ≤ 1 → IsKid g stands 2 k → IsKid g stands 2 z → weight g stands (pos 0) (times s k ∷ times t z ∷ []) < 2 ^ 63
pair_light g stands s t k z p q a b =
    let x = once_light (unsigned_abs s) (heft (columns_of g stands (key.Node k))) p a.light in
    let y = once_light (unsigned_abs t) (heft (columns_of g stands (key.Node z))) q b.light in
    omega (arith, x, y)

kids_added : (g : Graph) (stands : List Stand) (t : ℤ) (kids : List ℕ) → unsigned_abs t ≤ 1 → All (IsKid g stands 2) kids
    → added_by (λ (p : Piece). unsigned_abs p.factor * heft (columns_of g stands p.key)) (map (times t) kids) ≤ 2 * length kids
kids_added g stands t [] q h = omega arith
kids_added g stands t (k ∷ kids) q h =
    let x = once_light (unsigned_abs t) (heft (columns_of g stands (key.Node k))) q (All_head (IsKid g stands 2) k kids h).light in
    let rest = kids_added g stands t kids q (All_tail (IsKid g stands 2) k kids h) in
    omega (arith, x, rest)

pub last_light : (g : Graph) (stands : List Stand) (c s t : ℤ) (z : ℕ) (kids : List ℕ) → unsigned_abs s ≤ 1 → unsigned_abs t ≤ 1 → unsigned_abs c ≤ length kids + 1 → length kids < 2 ^ 61 → All (IsKid g stands 2) (z ∷ kids)
    → weight g stands c (times s z ∷ map (times t) kids) < 2 ^ 63
last_light g stands c s t z kids p q small few h =
    let x = once_light (unsigned_abs s) (heft (columns_of g stands (key.Node z))) p (All_head (IsKid g stands 2) z kids h).light in
    let rest = kids_added g stands t kids q (All_tail (IsKid g stands 2) z kids h) in
    omega (arith, x, rest, small, few)

-- ---- what a form weighs bounds its constant and its terms

constants_added : (g : Graph) (stands : List Stand) (pieces : List Piece)
    → added_by (λ (p : Piece). unsigned_abs p.factor * unsigned_abs (constant_of g p.key)) pieces ≤ added_by (λ (p : Piece). unsigned_abs p.factor * heft (columns_of g stands p.key)) pieces
constants_added g stands [] = omega arith
constants_added g stands (p ∷ pieces) =
    let is : unsigned_abs (columns_of g stands p.key).constant ≡ unsigned_abs (constant_of g p.key) = ap unsigned_abs (constant_is g stands p.key) in
    let less : unsigned_abs (constant_of g p.key) ≤ heft (columns_of g stands p.key) = omega (arith, is) in
    let here : unsigned_abs p.factor * unsigned_abs (constant_of g p.key) ≤ unsigned_abs p.factor * heft (columns_of g stands p.key) = mul-le-mul_left (unsigned_abs p.factor) less in
    let rest = constants_added g stands pieces in
    omega (arith, here, rest)

pub constants_light : (g : Graph) (stands : List Stand) (c : ℤ) (pieces : List Piece) → weight g stands c pieces < 2 ^ 63
    → unsigned_abs c + added_by (λ (p : Piece). unsigned_abs p.factor * unsigned_abs (constant_of g p.key)) pieces < 2 ^ 63
constants_light g stands c pieces h = let less = constants_added g stands pieces in omega (arith, less, h)

scaled_step : (k f w r : ℕ) → k * f ≡ w → w + k * r ≡ k * (f + r)
scaled_step k f w r e = omega (arith, e)

scaled_size : (k : ℤ) (terms : List Coef) → added_by (λ (t : Coef). unsigned_abs t.factor) (scaled k terms) ≡ unsigned_abs k * added_by (λ (t : Coef). unsigned_abs t.factor) terms
scaled_size k [] = omega arith
scaled_size k (t ∷ terms) =
    ap (λ n. unsigned_abs (k *ℤ t.factor) + n) (scaled_size k terms)
    ∙ scaled_step (unsigned_abs k) (unsigned_abs t.factor) (unsigned_abs (k *ℤ t.factor)) (added_by (λ (t : Coef). unsigned_abs t.factor) terms) (sym (unsigned_abs-mul k t.factor))

spread_size : (g : Graph) (stands : List Stand) (pieces : List Piece)
    → added_by (λ (t : Coef). unsigned_abs t.factor) (spread g stands pieces) ≤ added_by (λ (p : Piece). unsigned_abs p.factor * heft (columns_of g stands p.key)) pieces
spread_size g stands [] = omega arith
spread_size g stands (p ∷ pieces) =
    let split = added_append (λ (t : Coef). unsigned_abs t.factor) (scaled p.factor (columns_of g stands p.key).terms) (spread g stands pieces) in
    let this = scaled_size p.factor (columns_of g stands p.key).terms in
    let less : unsigned_abs p.factor * added_by (λ (t : Coef). unsigned_abs t.factor) (columns_of g stands p.key).terms ≤ unsigned_abs p.factor * heft (columns_of g stands p.key) = mul-le-mul_left (unsigned_abs p.factor) (omega arith) in
    let rest = spread_size g stands pieces in
    omega (arith, split, this, less, rest)

told_size : (ss : List Scrap) → added_by (λ (t : Coef). unsigned_abs t.factor) (map told ss) ≡ added_by (λ (s : Scrap). unsigned_abs s.factor) ss
told_size [] = refl
told_size (s ∷ ss) = ap (λ n. unsigned_abs s.factor + n) (told_size ss)

pub scraps_light : (g : Graph) (stands : List Stand) (c : ℤ) (pieces : List Piece) (ss : List Scrap) → map told ss ≡ spread g stands pieces → weight g stands c pieces < 2 ^ 63 → added_by (λ (s : Scrap). unsigned_abs s.factor) ss < 2 ^ 63
scraps_light g stands c pieces ss is h =
    let size : added_by (λ (s : Scrap). unsigned_abs s.factor) ss ≡ added_by (λ (t : Coef). unsigned_abs t.factor) (spread g stands pieces) = sym (told_size ss) ∙ ap (added_by (λ (t : Coef). unsigned_abs t.factor)) is in
    let less = spread_size g stands pieces in
    omega (arith, size, less, h)

pub sorted_light : (ss sorted : List Scrap) → IsPermutation ss sorted → added_by (λ (s : Scrap). unsigned_abs s.factor) ss < 2 ^ 63 → added_by (λ (s : Scrap). unsigned_abs s.factor) sorted < 2 ^ 63
sorted_light ss sorted perm h = let same = added_sorted (λ (s : Scrap). unsigned_abs s.factor) ss sorted perm in omega (arith, same, h)

each_size : (ss : List Scrap) → All (λ (s : Scrap). unsigned_abs s.factor ≤ added_by (λ (s : Scrap). unsigned_abs s.factor) ss) ss
each_size [] = λ k d lt. absurd (omega arith)
each_size (s ∷ ss) =
    let rest = each_size ss in
    All_cons (λ (t : Scrap). unsigned_abs t.factor ≤ added_by (λ (s : Scrap). unsigned_abs s.factor) (s ∷ ss)) s ss (omega arith) (λ k d lt. let r = rest k d lt in omega (arith, r))

sum_size : (a b : Scrap) → a.column ≡ b.column → unsigned_abs (together a b).factor ≤ unsigned_abs a.factor + unsigned_abs b.factor
sum_size a b same = omega (arith, ints)

pub joins_light : (sorted : List Scrap) → added_by (λ (s : Scrap). unsigned_abs s.factor) sorted < 2 ^ 63 → All (λ (s : Scrap). unsigned_abs s.factor < 2 ^ 63) (joins sorted)
joins_light sorted h =
    let less = joins_added (λ (s : Scrap). unsigned_abs s.factor) sum_size sorted in
    let each = each_size (joins sorted) in
    λ k d lt. let e = each k d lt in omega (arith, e, less, h)

-- ---- what the pieces of the last row are

pub kid_keys : (g : Graph) (stands : List Stand) (s t : ℤ) (z : ℕ) (kids : List ℕ) → All (IsKid g stands 2) (z ∷ kids) → All (λ (p : Piece). IsKey g p.key) (times s z ∷ map (times t) kids)
kid_keys g stands s t z kids h =
    All_cons (λ (p : Piece). IsKey g p.key) (times s z) (map (times t) kids) (All_head (IsKid g stands 2) z kids h).there
    (All_to_map (λ (p : Piece). IsKey g p.key) (times t) kids (All_change (IsKid g stands 2) (λ k. k < size g) kids (λ k is. is.there) (All_tail (IsKid g stands 2) z kids h)))

pub kid_named : (g : Graph) (stands : List Stand) (s t : ℤ) (z : ℕ) (kids : List ℕ) → All (IsKid g stands 2) (z ∷ kids) → All (λ (p : Piece). IsOnMap g stands p.key) (times s z ∷ map (times t) kids)
kid_named g stands s t z kids h =
    All_cons (λ (p : Piece). IsOnMap g stands p.key) (times s z) (map (times t) kids) (All_head (IsKid g stands 2) z kids h).on_map
    (All_to_map (λ (p : Piece). IsOnMap g stands p.key) (times t) kids (All_change (IsKid g stands 2) (λ k. IsOnMap g stands (key.Node k)) kids (λ k is. is.on_map) (All_tail (IsKid g stands 2) z kids h)))

pub pieces_end : (f : ℕ → Piece) (kids : List ℕ) (i : ℕ) (pieces all : List Piece) → length kids ≤ i → pieces ++ map f (drop i kids) ≡ all → pieces ≡ all
pieces_end f kids i pieces all le e = sym (append_nil pieces) ∙ ap (λ (ks : List ℕ). pieces ++ map f ks) (sym (drop_all i kids le)) ∙ e
  where
    append_nil : (xs : List Piece) → xs ++ [] ≡ xs
    append_nil [] = refl
    append_nil (x ∷ xs) = ap (λ ys. x ∷ ys) (append_nil xs)
