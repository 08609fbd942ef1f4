-- Which column stands for what.
use Rattle.std.proofs.Common.{◌≡◌, ◌≢◌, ◌∙◌, sym, ap, refl, ℕ, zero, suc, ◌+◌, ◌<◌, ◌≤◌, ◌==◌, ◌&&◌, Bool, true, false, cond, List, [], ◌∷◌, length, drop, get_or, arith}
use Rattle.std.proofs.lemmas.Bool.{and_parts}
use Rattle.std.proofs.lemmas.Bool.Decides.{Decides-eqb}
use Rattle.std.proofs.lemmas.List.{drop_more, drop_all}
use Rattle.bool_encode.specs.declared.stand.Stand.{Stand}
use Rattle.bool_encode.specs.declared.stand.Stand.TheVariants as stand
use Rattle.bool_encode.specs.Stands.{is_same, column_of, stand_at, IsMap}

eq_refl : (n : ℕ) → (n == n) ≡ true
eq_refl n = (Decides-eqb n n).1 refl

both_true : (a b : Bool) → a ≡ true → b ≡ true → (a && b) ≡ true
both_true a b p q = ap (λ x. x && b) p ∙ q

same_refl : (s : Stand) → is_same s s ≡ true
same_refl (stand.World i) = eq_refl i
same_refl (stand.Node i) = eq_refl i
same_refl (stand.Selector i j) = both_true (i == i) (j == j) (eq_refl i) (eq_refl j)

same_true : (a b : Stand) → is_same a b ≡ true → a ≡ b
same_true (stand.World i) (stand.World j) e = ap (λ n. stand.World n) ((Decides-eqb i j).0 e)
same_true (stand.World i) (stand.Node j) e = cc
same_true (stand.World i) (stand.Selector j k) e = cc
same_true (stand.Node i) (stand.World j) e = cc
same_true (stand.Node i) (stand.Node j) e = ap (λ n. stand.Node n) ((Decides-eqb i j).0 e)
same_true (stand.Node i) (stand.Selector j k) e = cc
same_true (stand.Selector i j) (stand.World k) e = cc
same_true (stand.Selector i j) (stand.Node k) e = cc
same_true (stand.Selector i j) (stand.Selector k l) e =
    let parts = and_parts (i == k) (j == l) e in
    let p : i ≡ k = (Decides-eqb i k).0 parts.0 in
    let q : j ≡ l = (Decides-eqb j l).0 parts.1 in
    λ n. stand.Selector (p n) (q n)

is_here : (x s : Stand) → x ≡ s → is_same x s ≡ true
is_here x s e = ap (λ y. is_same y s) e ∙ same_refl s

not_here : (x s : Stand) (b : Bool) → is_same x s ≡ b → x ≢ s → b ≡ false
not_here x s true e ne = absurd (ne (same_true x s e))
not_here x s false e ne = refl

-- the first column that stands for this
pub column_first : (stands : List Stand) (i : ℕ) (s : Stand) → i < length stands → stand_at stands i ≡ s → ((j : ℕ) → j < i → stand_at stands j ≢ s) → column_of stands s ≡ i
unfolding column_of
column_first [] i s lt is before = absurd (omega arith)
column_first (x ∷ stands) zero s lt is before = ap (λ b. cond b 0 (suc (column_of stands s))) (is_here x s is)
column_first (x ∷ stands) (suc i) s lt is before =
    ap (λ b. cond b 0 (suc (column_of stands s))) (not_here x s (is_same x s) refl (before 0 (omega arith)))
    ∙ ap suc (column_first stands i s (omega arith) is (λ j less. before (suc j) (omega arith)))

-- in a map it is the only one
pub column_is : (stands : List Stand) (i : ℕ) (s : Stand) → IsMap stands → i < length stands → stand_at stands i ≡ s → i ≡ column_of stands s
column_is stands i s map lt is = sym (column_first stands i s lt is (λ j less e. map.once j i less lt (e ∙ sym is)))

-- ---- looking at each

pub first_here : (stands : List Stand) (i : ℕ) (d s : Stand) (all : ℕ) → i < length stands → get_or stands i d ≡ s → i + column_of (drop i stands) s ≡ all → i ≡ all
unfolding column_of
first_here stands i d s all lt is h =
    let here : column_of (drop i stands) s ≡ 0 =
    ap (λ (xs : List Stand). column_of xs s) (drop_more stands i d lt) ∙ ap (λ b. cond b 0 (suc (column_of (drop (i + 1) stands) s))) (is_here (get_or stands i d) s is) in
    omega (arith, here, h)

pub first_later : (stands : List Stand) (i : ℕ) (d s : Stand) (all : ℕ) → i < length stands → get_or stands i d ≢ s → i + column_of (drop i stands) s ≡ all → (i + 1) + column_of (drop (i + 1) stands) s ≡ all
unfolding column_of
first_later stands i d s all lt ne h =
    let here : column_of (drop i stands) s ≡ suc (column_of (drop (i + 1) stands) s) =
    ap (λ (xs : List Stand). column_of xs s) (drop_more stands i d lt) ∙ ap (λ b. cond b 0 (suc (column_of (drop (i + 1) stands) s))) (not_here (get_or stands i d) s (is_same (get_or stands i d) s) refl ne) in
    omega (arith, here, h)

pub first_end : (stands : List Stand) (i : ℕ) (s : Stand) (all : ℕ) → length stands ≤ i → i + column_of (drop i stands) s ≡ all → i ≡ all
unfolding column_of
first_end stands i s all le h =
    let none : column_of (drop i stands) s ≡ 0 = ap (λ (xs : List Stand). column_of xs s) (drop_all i stands le) in
    omega (arith, none, h)
