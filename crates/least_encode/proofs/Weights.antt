-- How large the numbers of these rows are together.
use Rattle.std.proofs.Common.{◌≡◌, ◌∙◌, ap, ℕ, suc, ◌+◌, ◌*◌, ◌<◌, ◌≤◌, ◌^◌, ℤ, pos, neg_ℤ, unsigned_abs, to_z, of_z, w64, List, [], ◌∷◌, length, All, refl, arith}
use Rattle.std.proofs.lemmas.Int.{ints, fits_signed_from_abs, to_z-of_z}
use Rattle.prov_arena.specs.declared.part.Pair.{Pair}
use Rattle.prov_fold.specs.Graphs.{Graph}
use Rattle.prov_fold.specs.Sums.{added_by}
use Rattle.prov_fold.proofs.SameLemmas.{All_cons}
use Rattle.bool_encode.specs.declared.form.Key.TheVariants as key
use Rattle.bool_encode.specs.declared.form.Piece.{Piece}
use Rattle.bool_encode.specs.declared.stand.Stand.{Stand}
use Rattle.bool_encode.specs.Columns.{columns_of, IsOnMap}
use Rattle.bool_encode.specs.Rows.{heft, weight, IsKey, IsKid}
use Rattle.bool_encode.specs.Tables.{times}
use Rattle.bool_encode.proofs.Each.{All_none}
use Rattle.cmp_encode.specs.Tables.{selects, selectors}
use Rattle.cmp_encode.proofs.Weights.{light_own}

-- what fits 64 bits is kept by them
pub small_same : (n : ℤ) → unsigned_abs n ≤ 1000000000000000000 → to_z w64 (of_z w64 n) ≡ n
small_same n small = to_z-of_z w64 n (fits_signed_from_abs w64 n (omega (arith, small)))

module _ (g : Graph) (stands : List Stand) where
  selector_heft : (z i : ℕ) → heft (columns_of g stands (key.Selector z i)) ≡ 1
  unfolding columns_of
  selector_heft z i = refl

  times_one : (n : ℕ) (h : ℕ) → h ≡ 1 → n * h ≡ n
  times_one n h e = ap (λ (h : ℕ). n * h) e ∙ omega arith

  pub selector_light : (k : ℤ) (z i : ℕ) → unsigned_abs k * heft (columns_of g stands (key.Selector z i)) ≡ unsigned_abs k
  selector_light k z i = times_one (unsigned_abs k) (heft (columns_of g stands (key.Selector z i))) (selector_heft z i)

  neg_small : (k : ℤ) (n : ℕ) → unsigned_abs k ≤ n → unsigned_abs (neg_ℤ k) ≤ n
  neg_small k n h = omega (arith, ints, h)

  -- ---- a sum of selectors

  selectors_added : (k : ℤ) (z i : ℕ) (pairs : List Pair) → unsigned_abs k ≤ 1 → added_by (λ (p : Piece). unsigned_abs p.factor * heft (columns_of g stands p.key)) (selectors k z i pairs) ≤ length pairs
  selectors_added k z i [] small = omega arith
  selectors_added k z i (p ∷ pairs) small =
      let one = selector_light k z i in
      let rest = selectors_added k z (suc i) pairs small in
      omega (arith, one, rest, small)

  pub sum_weighs : (sign : ℤ) (b z : ℕ) (pairs : List Pair) → unsigned_abs sign ≤ 1 → length pairs < 2 ^ 32 → IsKid g stands 2 b → weight g stands (pos 0) (times (neg_ℤ sign) b ∷ selectors sign z 0 pairs) < 2 ^ 63
  sum_weighs sign b z pairs small few truth =
      let one = (light_own g stands (neg_ℤ sign) b truth (let s = neg_small sign 1 small in omega (arith, s))).light in
      let rest = selectors_added sign z 0 pairs small in
      omega (arith, one, rest, few)

  selectors_keys : (k : ℤ) (z i : ℕ) (pairs : List Pair) → All (λ (p : Piece). IsKey g p.key) (selectors k z i pairs)
  selectors_keys k z i [] = All_none (λ (p : Piece). IsKey g p.key)
  selectors_keys k z i (p ∷ pairs) = All_cons (λ (p : Piece). IsKey g p.key) (selects k z i) (selectors k z (suc i) pairs) tt (selectors_keys k z (suc i) pairs)

  pub sum_keys : (a k : ℤ) (b z : ℕ) (pairs : List Pair) → IsKid g stands 2 b → All (λ (p : Piece). IsKey g p.key) (times a b ∷ selectors k z 0 pairs)
  sum_keys a k b z pairs truth = All_cons (λ (p : Piece). IsKey g p.key) (times a b) (selectors k z 0 pairs) truth.there (selectors_keys k z 0 pairs)

  selectors_named : (k : ℤ) (z i : ℕ) (pairs : List Pair) → ((j : ℕ) → i ≤ j → j < i + length pairs → IsOnMap g stands (key.Selector z j)) → All (λ (p : Piece). IsOnMap g stands p.key) (selectors k z i pairs)
  selectors_named k z i [] on = All_none (λ (p : Piece). IsOnMap g stands p.key)
  selectors_named k z i (p ∷ pairs) on =
      All_cons (λ (p : Piece). IsOnMap g stands p.key) (selects k z i) (selectors k z (suc i) pairs) (on i (omega arith) (omega arith)) (selectors_named k z (suc i) pairs (λ j le lt. on j (omega (arith, le)) (omega (arith, lt))))

  pub sum_named : (a k : ℤ) (b z : ℕ) (pairs : List Pair) → IsKid g stands 2 b → ((j : ℕ) → j < length pairs → IsOnMap g stands (key.Selector z j)) → All (λ (p : Piece). IsOnMap g stands p.key) (times a b ∷ selectors k z 0 pairs)
  sum_named a k b z pairs truth on = All_cons (λ (p : Piece). IsOnMap g stands p.key) (times a b) (selectors k z 0 pairs) truth.on_map (selectors_named k z 0 pairs (λ j le lt. on j (omega (arith, lt))))
