-- The forms of roots and aim have small numbers, whatever the columns are.
use Rattle.std.proofs.Common.{◌≡◌, ◌∙◌, sym, ap, ap₂, subst, refl, ℕ, ◌+◌, ◌*◌, ◌<◌, ◌≤◌, ◌^◌, ℤ, unsigned_abs, List, [], ◌∷◌, map, length, All, arith}
use Rattle.std.proofs.Common.{inl, inr}
use Rattle.std.proofs.lemmas.Int.{unsigned_abs-mul}
use Rattle.std.proofs.Math.Nat.{mul-le-mul_left, mul-le-mul_right}
use Rattle.ip_rows.specs.declared.rows.Coef.{Coef}
use Rattle.prov_arena.specs.declared.part.Term.{Term}
use Rattle.prov_arena.specs.Formulas.{Formula, FalseNode, TrueNode, PresNode, CellNode, PosNode, NotNode, AndNode, OrNode, LinNode, GuardNode, AbsNode, TotNode, MinNode}
use Rattle.prov_fold.specs.Graphs.{Graph, node, size, HasTruth}
use Rattle.prov_fold.specs.Folds.{IsFold}
use Rattle.prov_fold.specs.Rules.{scaled}
use Rattle.prov_fold.specs.Sums.{added_by}
use Rattle.prov_fold.proofs.SameLemmas.{All_head, All_tail, All_cons}
use Rattle.prov_fold.proofs.SpreadLemmas.{added_append}
use Rattle.bool_encode.specs.declared.form.Key.{Key}
use Rattle.bool_encode.specs.declared.form.Key.TheVariants as key
use Rattle.bool_encode.specs.declared.form.Piece.{Piece}
use Rattle.bool_encode.specs.declared.stand.Stand.{Stand}
use Rattle.bool_encode.specs.Columns.{coef, column_at, columns_by, columns_of}
use Rattle.bool_encode.specs.Forms.{Form, form}
use Rattle.bool_encode.specs.Rows.{heft, weight, IsKey}
use Rattle.bool_encode.specs.Tables.{times}
use Rattle.bool_encode.proofs.Each.{All_none}
use Rattle.bool_encode.proofs.LightLemmas.{truth_light}
use Rattle.cmp_encode.proofs.Weights.{number_light}
use Rattle.root_encode.specs.Roots.{sum_form}
use Rattle.used_columns.specs.Seeds.{terms_of, key_terms, form_terms, bulk}
use Rattle.program_rows.specs.Fair.{IsAsked, IsFair, NamesNode}

-- ---- the numbers of a key do not hang on the columns

lin_size : (g : Graph) (stands : List Stand) (terms : List Term) → added_by (λ (t : Coef). unsigned_abs t.factor) (map (λ (t : Term). coef t.factor (column_at g stands t.node)) terms) ≡ bulk terms
lin_size g stands [] = refl
lin_size g stands (t ∷ terms) = ap (λ n. unsigned_abs t.factor + n) (lin_size g stands terms)

heft_by : (g : Graph) (s t : List Stand) (z : ℕ) (m : Formula) → heft (columns_by g s z m) ≡ heft (columns_by g t z m)
heft_by g s t z (LinNode c terms) = ap (λ n. unsigned_abs c + n) (lin_size g s terms ∙ sym (lin_size g t terms))
heft_by g s t z FalseNode = refl
heft_by g s t z TrueNode = refl
heft_by g s t z (PresNode column) = refl
heft_by g s t z (CellNode column) = refl
heft_by g s t z (PosNode number) = refl
heft_by g s t z (NotNode truth) = refl
heft_by g s t z (AndNode kids) = refl
heft_by g s t z (OrNode kids) = refl
heft_by g s t z (GuardNode truth number) = refl
heft_by g s t z (AbsNode number) = refl
heft_by g s t z (TotNode number) = refl
heft_by g s t z (MinNode pairs) = refl

heft_same : (g : Graph) (s t : List Stand) (k : Key) → heft (columns_of g s k) ≡ heft (columns_of g t k)
unfolding columns_of
heft_same g s t (key.Node z) = heft_by g s t z (node g z)
heft_same g s t (key.Selector z pair) = refl

pieces_same : (g : Graph) (s t : List Stand) (pieces : List Piece)
    → added_by (λ (p : Piece). unsigned_abs p.factor * heft (columns_of g s p.key)) pieces ≡ added_by (λ (p : Piece). unsigned_abs p.factor * heft (columns_of g t p.key)) pieces
pieces_same g s t [] = refl
pieces_same g s t (p ∷ pieces) = ap₂ (λ (m n : ℕ). unsigned_abs p.factor * m + n) (heft_same g s t p.key) (pieces_same g s t pieces)

-- the same of a form
pub fair_weight : (g : Graph) (stands : List Stand) (r : Form) → IsFair g r → weight g stands r.constant r.pieces < 2 ^ 63
fair_weight g stands r fair = let same = pieces_same g stands [] r.pieces in let light = fair.light in omega (arith, same, light)

-- ---- truths and numbers

asked_heft : (g : Graph) (stands : List Stand) (fold : IsFold g) (z : ℕ) → IsAsked g z → heft (columns_of g stands (key.Node z)) ≤ 300000000000000000
asked_heft g stands fold z (inl truth) = let h = truth_light g stands z truth.kind in omega (arith, h)
asked_heft g stands fold z (inr number) = number_light g stands z fold number.below number.kind

-- ---- the forms are fair

once_light : (s h m : ℕ) → s ≤ 1 → h ≤ m → s * h ≤ m
once_light s h m p q =
    let one : s * h ≤ s * m = mul-le-mul_left s q in
    let two : s * m ≤ 1 * m = mul-le-mul_right m p in
    omega (arith, one, two)

names_one : (g : Graph) (s : ℤ) (z : ℕ) → IsAsked g z → NamesNode g (times s z)
names_one g s z asked = record { node = z; is = refl; asked = asked }

pub term_fair : (g : Graph) (fold : IsFold g) (c s : ℤ) (z : ℕ) → IsAsked g z → unsigned_abs s ≤ 1 → unsigned_abs c ≤ 1 → IsFair g (form c (times s z ∷ []))
term_fair g fold c s z asked small least =
    let h = once_light (unsigned_abs s) (heft (columns_of g [] (key.Node z))) 300000000000000000 small (asked_heft g [] fold z asked) in
    record {
      nodes = All_cons (NamesNode g) (times s z) [] (names_one g s z asked) (All_none (NamesNode g));
      light = omega (arith, h, least);
    }

pub empty_fair : (g : Graph) (c : ℤ) → unsigned_abs c ≤ 1 → IsFair g (form c [])
empty_fair g c small = record { nodes = All_none (NamesNode g); light = omega (arith, small) }

kids_nodes : (g : Graph) (s : ℤ) (kids : List ℕ) → All (HasTruth g) kids → All (NamesNode g) (map (times s) kids)
kids_nodes g s [] h = All_none (NamesNode g)
kids_nodes g s (k ∷ kids) h = All_cons (NamesNode g) (times s k) (map (times s) kids) (names_one g s k (inl (All_head (HasTruth g) k kids h))) (kids_nodes g s kids (All_tail (HasTruth g) k kids h))

kids_added : (g : Graph) (s : ℤ) (kids : List ℕ) → unsigned_abs s ≤ 1 → All (HasTruth g) kids
    → added_by (λ (p : Piece). unsigned_abs p.factor * heft (columns_of g [] p.key)) (map (times s) kids) ≤ 2 * length kids
kids_added g s [] q h = omega arith
kids_added g s (k ∷ kids) q h =
    let x = once_light (unsigned_abs s) (heft (columns_of g [] (key.Node k))) 2 q (truth_light g [] k (All_head (HasTruth g) k kids h).kind) in
    let rest = kids_added g s kids q (All_tail (HasTruth g) k kids h) in
    omega (arith, x, rest)

pub sum_fair : (g : Graph) (c s : ℤ) (kids : List ℕ) → All (HasTruth g) kids → unsigned_abs s ≤ 1 → unsigned_abs c ≤ length kids + 1 → length kids < 2 ^ 61 → IsFair g (sum_form c s kids)
sum_fair g c s kids truths small least few =
    let h = kids_added g s kids small truths in
    record { nodes = kids_nodes g s kids truths; light = omega (arith, h, least, few) }

-- ---- what a call of `seeds` asks

pub asked_there : (g : Graph) (z : ℕ) → IsAsked g z → z < size g
asked_there g z (inl truth) = truth.below
asked_there g z (inr number) = number.below

pub fair_keys : (g : Graph) (r : Form) → IsFair g r → All (λ (p : Piece). IsKey g p.key) r.pieces
fair_keys g r fair = λ j d lt. let names = fair.nodes j d lt in subst (IsKey g) (sym names.is) (asked_there g names.node names.asked)

scaled_bulk : (k : ℤ) (ts : List Term) → bulk (scaled k ts) ≡ unsigned_abs k * bulk ts
scaled_bulk k [] = omega arith
scaled_bulk k (t ∷ ts) =
    let rest = scaled_bulk k ts in
    let here = unsigned_abs-mul k t.factor in
    omega (arith, rest, here)

bulk_by : (g : Graph) (z : ℕ) (m : Formula) → bulk (terms_of z m) ≤ heft (columns_by g [] z m)
bulk_by g z (LinNode c terms) = let same = lin_size g [] terms in omega (arith, same)
bulk_by g z FalseNode = omega arith
bulk_by g z TrueNode = omega arith
bulk_by g z (PresNode column) = omega arith
bulk_by g z (CellNode column) = omega arith
bulk_by g z (PosNode number) = omega arith
bulk_by g z (NotNode truth) = omega arith
bulk_by g z (AndNode kids) = omega arith
bulk_by g z (OrNode kids) = omega arith
bulk_by g z (GuardNode truth number) = omega arith
bulk_by g z (AbsNode number) = omega arith
bulk_by g z (TotNode number) = omega arith
bulk_by g z (MinNode pairs) = omega arith

key_bulk : (g : Graph) (k : Key) → bulk (key_terms g k) ≤ heft (columns_of g [] k)
unfolding columns_of
key_bulk g (key.Node z) = bulk_by g z (node g z)
key_bulk g (key.Selector z pair) = omega arith

form_bulk : (g : Graph) (pieces : List Piece) → bulk (form_terms g pieces) ≤ added_by (λ (p : Piece). unsigned_abs p.factor * heft (columns_of g [] p.key)) pieces
form_bulk g [] = omega arith
form_bulk g (p ∷ pieces) =
    let split = added_append (λ (t : Term). unsigned_abs t.factor) (scaled p.factor (key_terms g p.key)) (form_terms g pieces) in
    let this = scaled_bulk p.factor (key_terms g p.key) in
    let less : unsigned_abs p.factor * bulk (key_terms g p.key) ≤ unsigned_abs p.factor * heft (columns_of g [] p.key) = mul-le-mul_left (unsigned_abs p.factor) (key_bulk g p.key) in
    let rest = form_bulk g pieces in
    omega (arith, split, this, less, rest)

pub fair_bulk : (g : Graph) (r : Form) → IsFair g r → bulk (form_terms g r.pieces) < 2 ^ 63
fair_bulk g r fair = let less = form_bulk g r.pieces in let light = fair.light in omega (arith, less, light)
