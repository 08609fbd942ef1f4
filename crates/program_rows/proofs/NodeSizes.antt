-- The numbers of each form of a node are below 2^63 together.
use Rattle.std.proofs.Common.{◌≡◌, sym, ap, subst, refl, ℕ, suc, ◌+◌, ◌*◌, ◌<◌, ◌≤◌, ◌^◌, ℤ, pos, negsuc, ◌+ℤ◌, ◌-ℤ◌, ◌*ℤ◌, neg_ℤ, unsigned_abs, true, List, [], ◌∷◌, ◌++◌, map, flat_map, get_or, length, All, arith}
use Rattle.std.proofs.lemmas.Int.{ints}
use Rattle.std.proofs.lemmas.List.{length-append, length-map}
use Rattle.std.proofs.lemmas.List.Elements.{All-append}
use Rattle.std.proofs.Math.Nat.{mul-le-mul_left, mul-le-mul_right}
use Rattle.prov_arena.specs.declared.part.Pair.{Pair}
use Rattle.prov_arena.specs.Formulas.{Formula, FalseNode, TrueNode, PresNode, CellNode, PosNode, NotNode, AndNode, OrNode, LinNode, GuardNode, AbsNode, TotNode, MinNode}
use Rattle.prov_fold.specs.declared.span.Span.{Span}
use Rattle.prov_fold.specs.Folds.{IsFold, HasAid, OrStandsBefore}
use Rattle.prov_fold.specs.Graphs.{Graph, node, range, size, Fits}
use Rattle.prov_fold.specs.Kinds.{is_number, is_term, is_truth}
use Rattle.prov_fold.specs.Sums.{added_by}
use Rattle.prov_fold.proofs.SameLemmas.{All_head, All_tail, All_cons}
use Rattle.bool_encode.specs.declared.form.Key.TheVariants as key
use Rattle.bool_encode.specs.declared.form.Piece.{Piece}
use Rattle.bool_encode.specs.declared.stand.Stand.{Stand}
use Rattle.bool_encode.specs.Columns.{columns_by, columns_of}
use Rattle.bool_encode.specs.Forms.{Form, form}
use Rattle.bool_encode.specs.Rows.{heft, weight}
use Rattle.bool_encode.specs.Tables.{times, and_forms, or_forms}
use Rattle.bool_encode.proofs.Each.{All_none}
use Rattle.bool_encode.proofs.LightLemmas.{truth_light}
use Rattle.cmp_encode.specs.Spans.{narrow_span}
use Rattle.cmp_encode.specs.Tables.{aid_of, forms_of, pos_forms, guard_forms, abs_forms, tot_forms, selects, selectors, present_forms, sum_forms, above_forms, below_forms, end_forms, min_forms}
use Rattle.cmp_encode.proofs.Aids.{aid_there}
use Rattle.cmp_encode.proofs.Weights.{number_light}
use Rattle.whole_points.proofs.Named.{min_place}
use Rattle.least_encode.proofs.Ready.{narrow_small}
use Rattle.least_encode.proofs.Weights.{selector_light}

-- at most 10^17 in size, as the ends of ranges are
abbrev IsSmall : ℤ → Type 0
IsSmall n = unsigned_abs n ≤ 100000000000000000

abbrev AreSmall : Span → Type 0
AreSmall s = IsSmall s.lo × IsSmall s.hi

module _ (g : Graph) (stands : List Stand) where
  abbrev Light : Form → Type 0
  Light r = weight g stands r.constant r.pieces < 2 ^ 63

  abbrev Heft : ℕ → ℕ
  Heft z = heft (columns_of g stands (key.Node z))

  -- ---- how much a node weighs with a factor

  term_heft : (z : ℕ) (m : Formula) → is_term m ≡ true → heft (columns_by g stands z m) ≤ 2
  term_heft z FalseNode e = cc
  term_heft z TrueNode e = cc
  term_heft z (PresNode column) e = omega arith
  term_heft z (CellNode column) e = omega arith
  term_heft z (PosNode number) e = omega arith
  term_heft z (NotNode truth) e = cc
  term_heft z (AndNode kids) e = omega arith
  term_heft z (OrNode kids) e = omega arith
  term_heft z (LinNode c terms) e = cc
  term_heft z (GuardNode truth number) e = omega arith
  term_heft z (AbsNode number) e = omega arith
  term_heft z (TotNode number) e = omega arith
  term_heft z (MinNode pairs) e = omega arith

  term_light : (z : ℕ) → is_term (node g z) ≡ true → Heft z ≤ 2
  unfolding columns_of
  term_light z e = term_heft z (node g z) e

  abbrev Fair : ℤ → ℕ → Type 0
  Fair a z = unsigned_abs a * Heft z ≤ 1000000000000000000

  own : (a : ℤ) (z : ℕ) → unsigned_abs a ≤ 200000000000000001 → Heft z ≤ 2 → Fair a z
  own a z small light = let p = mul-le-mul_left (unsigned_abs a) light in omega (arith, p, small)

  whole : (a : ℤ) (z : ℕ) → unsigned_abs a ≤ 1 → Heft z ≤ 300000000000000000 → Fair a z
  whole a z small light = let p = mul-le-mul_right (Heft z) small in omega (arith, p, light)

  two : (c a b : ℤ) (x y : ℕ) → unsigned_abs c ≤ 1000000000000000000 → Fair a x → Fair b y → Light (form c (times a x ∷ times b y ∷ []))
  two c a b x y small p q = omega (arith, small, p, q)

  three : (c a b d : ℤ) (x y z : ℕ) → unsigned_abs c ≤ 1000000000000000000 → Fair a x → Fair b y → Fair d z → Light (form c (times a x ∷ times b y ∷ times d z ∷ []))
  three c a b d x y z small p q r = omega (arith, small, p, q, r)

  all_two : (r s : Form) → Light r → Light s → All Light (r ∷ s ∷ [])
  all_two r s p q = All_cons Light r (s ∷ []) p (All_cons Light s [] q (All_none Light))

  -- ---- numbers of ranges

  neg_small : (n : ℤ) → IsSmall n → unsigned_abs (neg_ℤ n) ≤ 200000000000000001
  neg_small n h = omega (arith, ints, h)

  next_small : (n : ℤ) → IsSmall n → unsigned_abs (n +ℤ pos 1) ≤ 200000000000000001
  next_small n h = omega (arith, ints, h)

  twice_small : (n : ℤ) → IsSmall n → unsigned_abs (pos 2 *ℤ n) ≤ 200000000000000001
  twice_small n h = omega (arith, ints, h)

  less_small : (m n : ℤ) → IsSmall m → IsSmall n → unsigned_abs (m -ℤ n) ≤ 200000000000000001
  less_small m n h k = omega (arith, ints, h, k)

  neg_same : (n : ℤ) → unsigned_abs (neg_ℤ n) ≡ unsigned_abs n
  neg_same n = omega (arith, ints)

  module _ (s : Span) (small : AreSmall s) where
    lo : unsigned_abs s.lo ≤ 200000000000000001
    lo = let h = small.0 in omega (arith, h)

    hi : unsigned_abs s.hi ≤ 200000000000000001
    hi = let h = small.1 in omega (arith, h)

    neg_lo : unsigned_abs (neg_ℤ s.lo) ≤ 200000000000000001
    neg_lo = neg_small s.lo small.0

    -- ---- by kind: n is a number, t and b are truths, and z is the node

    module _ (n z : ℕ) (number : Heft n ≤ 300000000000000000) (node : Heft z ≤ 2) where
      pos_light : All Light (pos_forms s n z)
      pos_light =
          let c = neg_lo in
          all_two (form (neg_ℤ s.lo) (times (pos 1) n ∷ times s.lo z ∷ [])) (form (negsuc 0) (times (s.hi +ℤ pos 1) z ∷ times (negsuc 0) n ∷ []))
          (two (neg_ℤ s.lo) (pos 1) s.lo n z (omega (arith, c)) (whole (pos 1) n (omega arith) number) (own s.lo z lo node))
          (two (negsuc 0) (s.hi +ℤ pos 1) (negsuc 0) z n (omega arith) (own (s.hi +ℤ pos 1) z (next_small s.hi small.1) node) (whole (negsuc 0) n (omega arith) number))

      guard_light : (t : ℕ) → Heft t ≤ 2 → All Light (guard_forms s t n z)
      guard_light t truth =
          let c = neg_lo in
          let d = hi in
          All_cons Light (form (pos 0) (times (pos 1) z ∷ times (neg_ℤ s.lo) t ∷ []))
          (form (pos 0) (times s.hi t ∷ times (negsuc 0) z ∷ [])
          ∷ form s.hi (times (pos 1) z ∷ times (negsuc 0) n ∷ times (neg_ℤ s.hi) t ∷ []) ∷ form (neg_ℤ s.lo) (times (pos 1) n ∷ times s.lo t ∷ times (negsuc 0) z ∷ []) ∷ [])
          (two (pos 0) (pos 1) (neg_ℤ s.lo) z t (omega arith) (own (pos 1) z (omega arith) node) (own (neg_ℤ s.lo) t neg_lo truth))
          (All_cons Light (form (pos 0) (times s.hi t ∷ times (negsuc 0) z ∷ []))
          (form s.hi (times (pos 1) z ∷ times (negsuc 0) n ∷ times (neg_ℤ s.hi) t ∷ []) ∷ form (neg_ℤ s.lo) (times (pos 1) n ∷ times s.lo t ∷ times (negsuc 0) z ∷ []) ∷ [])
          (two (pos 0) s.hi (negsuc 0) t z (omega arith) (own s.hi t hi truth) (own (negsuc 0) z (omega arith) node))
          (all_two (form s.hi (times (pos 1) z ∷ times (negsuc 0) n ∷ times (neg_ℤ s.hi) t ∷ [])) (form (neg_ℤ s.lo) (times (pos 1) n ∷ times s.lo t ∷ times (negsuc 0) z ∷ []))
          (three s.hi (pos 1) (negsuc 0) (neg_ℤ s.hi) z n t (omega (arith, d)) (own (pos 1) z (omega arith) node) (whole (negsuc 0) n (omega arith) number) (own (neg_ℤ s.hi) t (neg_small s.hi small.1) truth))
          (three (neg_ℤ s.lo) (pos 1) s.lo (negsuc 0) n t z (omega (arith, c)) (whole (pos 1) n (omega arith) number) (own s.lo t lo truth) (own (negsuc 0) z (omega arith) node))))

      abs_light : (b : ℕ) → Heft b ≤ 2 → All Light (abs_forms s n b z)
      abs_light b truth =
          let c = twice_small s.lo small.0 in
          let same = neg_same (pos 2 *ℤ s.lo) in
          All_cons Light (form (pos 0) (times (pos 1) z ∷ times (negsuc 0) n ∷ []))
          (form (pos 0) (times (pos 1) z ∷ times (pos 1) n ∷ [])
          ∷ form (neg_ℤ (pos 2 *ℤ s.lo)) (times (pos 1) n ∷ times (pos 2 *ℤ s.lo) b ∷ times (negsuc 0) z ∷ []) ∷ form (pos 0) (times (negsuc 0) n ∷ times (pos 2 *ℤ s.hi) b ∷ times (negsuc 0) z ∷ []) ∷ [])
          (two (pos 0) (pos 1) (negsuc 0) z n (omega arith) (own (pos 1) z (omega arith) node) (whole (negsuc 0) n (omega arith) number))
          (All_cons Light (form (pos 0) (times (pos 1) z ∷ times (pos 1) n ∷ []))
          (form (neg_ℤ (pos 2 *ℤ s.lo)) (times (pos 1) n ∷ times (pos 2 *ℤ s.lo) b ∷ times (negsuc 0) z ∷ []) ∷ form (pos 0) (times (negsuc 0) n ∷ times (pos 2 *ℤ s.hi) b ∷ times (negsuc 0) z ∷ []) ∷ [])
          (two (pos 0) (pos 1) (pos 1) z n (omega arith) (own (pos 1) z (omega arith) node) (whole (pos 1) n (omega arith) number))
          (all_two (form (neg_ℤ (pos 2 *ℤ s.lo)) (times (pos 1) n ∷ times (pos 2 *ℤ s.lo) b ∷ times (negsuc 0) z ∷ [])) (form (pos 0) (times (negsuc 0) n ∷ times (pos 2 *ℤ s.hi) b ∷ times (negsuc 0) z ∷ []))
          (three (neg_ℤ (pos 2 *ℤ s.lo)) (pos 1) (pos 2 *ℤ s.lo) (negsuc 0) n b z (omega (arith, c, same)) (whole (pos 1) n (omega arith) number) (own (pos 2 *ℤ s.lo) b c truth) (own (negsuc 0) z (omega arith) node))
          (three (pos 0) (negsuc 0) (pos 2 *ℤ s.hi) (negsuc 0) n b z (omega arith) (whole (negsuc 0) n (omega arith) number) (own (pos 2 *ℤ s.hi) b (twice_small s.hi small.1) truth) (own (negsuc 0) z (omega arith) node))))

    end_light : (b z : ℕ) → Heft b ≤ 2 → Heft z ≤ 2 → All Light (end_forms s b z)
    end_light b z truth node =
        all_two (form (pos 0) (times (pos 1) z ∷ times (neg_ℤ s.lo) b ∷ [])) (form (pos 0) (times s.hi b ∷ times (negsuc 0) z ∷ []))
        (two (pos 0) (pos 1) (neg_ℤ s.lo) z b (omega arith) (own (pos 1) z (omega arith) node) (own (neg_ℤ s.lo) b neg_lo truth))
        (two (pos 0) s.hi (negsuc 0) b z (omega arith) (own s.hi b hi truth) (own (negsuc 0) z (omega arith) node))

  tot_light : (n z : ℕ) → Heft n ≤ 300000000000000000 → Heft z ≤ 2 → All Light (tot_forms n z)
  tot_light n z number node =
      all_two (form (pos 0) (times (pos 1) z ∷ times (negsuc 0) n ∷ [])) (form (pos 0) (times (pos 1) n ∷ times (negsuc 0) z ∷ []))
      (two (pos 0) (pos 1) (negsuc 0) z n (omega arith) (own (pos 1) z (omega arith) node) (whole (negsuc 0) n (omega arith) number))
      (two (pos 0) (pos 1) (negsuc 0) n z (omega arith) (whole (pos 1) n (omega arith) number) (own (negsuc 0) z (omega arith) node))

  -- ---- And and Or, which have a form for each kid

  kids_added : (a : ℤ) (kids : List ℕ) → unsigned_abs a ≤ 1 → All (λ k. Heft k ≤ 2) kids → added_by (λ (p : Piece). unsigned_abs p.factor * heft (columns_of g stands p.key)) (map (times a) kids) ≤ 2 * length kids
  kids_added a [] small h = omega arith
  kids_added a (k ∷ kids) small h =
      let this = mul-le-mul_right (Heft k) small in
      let light = All_head (λ k. Heft k ≤ 2) k kids h in
      let rest = kids_added a kids small (All_tail (λ k. Heft k ≤ 2) k kids h) in
      omega (arith, this, light, rest)

  each_light : (a b : ℤ) (z : ℕ) (kids : List ℕ) → unsigned_abs a ≤ 1 → unsigned_abs b ≤ 1 → Heft z ≤ 2 → All (λ k. Heft k ≤ 2) kids → All Light (map (λ t. form (pos 0) (times a t ∷ times b z ∷ [])) kids)
  each_light a b z [] p q node h = All_none Light
  each_light a b z (k ∷ kids) p q node h =
      All_cons Light (form (pos 0) (times a k ∷ times b z ∷ [])) (map (λ t. form (pos 0) (times a t ∷ times b z ∷ [])) kids)
      (two (pos 0) a b k z (omega arith) (own a k (omega (arith, p)) (All_head (λ k. Heft k ≤ 2) k kids h)) (own b z (omega (arith, q)) node)) (each_light a b z kids p q node (All_tail (λ k. Heft k ≤ 2) k kids h))

  last_light : (c a b : ℤ) (z : ℕ) (kids : List ℕ) → unsigned_abs c ≤ length kids + 1 → unsigned_abs a ≤ 1 → unsigned_abs b ≤ 1 → Heft z ≤ 2 → All (λ k. Heft k ≤ 2) kids → length kids ≤ 50000000 → Light (form c (times a z ∷ map (times b) kids))
  last_light c a b z kids least p q node h few =
      let this = mul-le-mul_right (Heft z) p in
      let rest = kids_added b kids q h in
      omega (arith, this, node, rest, least, few)

  and_light : (kids : List ℕ) (z : ℕ) → Heft z ≤ 2 → All (λ k. Heft k ≤ 2) kids → length (and_forms kids z) ≤ 50000000 → All Light (and_forms kids z)
  and_light kids z node h few =
      let each = map (λ t. form (pos 0) (times (pos 1) t ∷ times (negsuc 0) z ∷ [])) kids in
      let last = form (pos (length kids) -ℤ pos 1) (times (pos 1) z ∷ map (times (negsuc 0)) kids) in
      let long = length-append each (last ∷ []) in
      let count = length-map kids (λ t. form (pos 0) (times (pos 1) t ∷ times (negsuc 0) z ∷ [])) in
      All-append Light each (last ∷ []) (each_light (pos 1) (negsuc 0) z kids (omega arith) (omega arith) node h)
      (All_cons Light last [] (last_light (pos (length kids) -ℤ pos 1) (pos 1) (negsuc 0) z kids (omega (arith, ints)) (omega arith) (omega arith) node h (omega (arith, few, long, count))) (All_none Light))

  or_light : (kids : List ℕ) (z : ℕ) → Heft z ≤ 2 → All (λ k. Heft k ≤ 2) kids → length (or_forms kids z) ≤ 50000000 → All Light (or_forms kids z)
  or_light kids z node h few =
      let each = map (λ t. form (pos 0) (times (negsuc 0) t ∷ times (pos 1) z ∷ [])) kids in
      let last = form (pos 0) (times (negsuc 0) z ∷ map (times (pos 1)) kids) in
      let long = length-append each (last ∷ []) in
      let count = length-map kids (λ t. form (pos 0) (times (negsuc 0) t ∷ times (pos 1) z ∷ [])) in
      All-append Light each (last ∷ []) (each_light (negsuc 0) (pos 1) z kids (omega arith) (omega arith) node h)
      (All_cons Light last [] (last_light (pos 0) (negsuc 0) (pos 1) z kids (omega arith) (omega arith) (omega arith) node h (omega (arith, few, long, count))) (All_none Light))

  -- ---- a Min, which has a form for each pair

  selectors_added : (a : ℤ) (z i : ℕ) (pairs : List Pair) → unsigned_abs a ≤ 1 → added_by (λ (p : Piece). unsigned_abs p.factor * heft (columns_of g stands p.key)) (selectors a z i pairs) ≤ length pairs
  selectors_added a z i [] small = omega arith
  selectors_added a z i (p ∷ pairs) small =
      let this = selector_light g stands a z i in
      let rest = selectors_added a z (suc i) pairs small in
      omega (arith, this, small, rest)

  sum_light : (a c : ℤ) (b z : ℕ) (pairs : List Pair) → unsigned_abs a ≤ 1 → unsigned_abs c ≤ 1 → Heft b ≤ 2 → length pairs ≤ 50000000 → Light (form (pos 0) (times c b ∷ selectors a z 0 pairs))
  sum_light a c b z pairs p q truth few =
      let this = mul-le-mul_right (Heft b) q in
      let rest = selectors_added a z 0 pairs p in
      omega (arith, this, truth, rest, few)

  abbrev IsPair : Pair → Type 0
  IsPair p = (Heft p.truth ≤ 2) × (Heft p.number ≤ 300000000000000000)

  present_light : (z i : ℕ) (pairs : List Pair) → All IsPair pairs → All Light (present_forms z i pairs)
  present_light z i [] h = All_none Light
  present_light z i (p ∷ pairs) h =
      let truth = own (pos 1) p.truth (omega arith) (All_head IsPair p pairs h).0 in
      let this = selector_light g stands (negsuc 0) z i in
      All_cons Light (form (pos 0) (times (pos 1) p.truth ∷ selects (negsuc 0) z i ∷ [])) (present_forms z (suc i) pairs) (omega (arith, truth, this)) (present_light z (suc i) pairs (All_tail IsPair p pairs h))

  module _ (s : Span) (small : AreSmall s) (r : ℕ → Span) (z : ℕ) (node : Heft z ≤ 2) where
    abbrev InRange : Pair → Type 0
    InRange p = AreSmall (r p.number)

    above_light : (pairs : List Pair) → All IsPair pairs → All InRange pairs → All Light (above_forms s r z pairs)
    above_light [] h k = All_none Light
    above_light (p ∷ pairs) h k =
        let most = s.hi -ℤ (r p.number).lo in
        let less = less_small s.hi (r p.number).lo small.1 (All_head InRange p pairs k).0 in
        let same = neg_same most in
        let is = All_head IsPair p pairs h in
        All_cons Light (form most (times (pos 1) p.number ∷ times (neg_ℤ most) p.truth ∷ times (negsuc 0) z ∷ [])) (above_forms s r z pairs)
        (three most (pos 1) (neg_ℤ most) (negsuc 0) p.number p.truth z (omega (arith, less)) (whole (pos 1) p.number (omega arith) is.1) (own (neg_ℤ most) p.truth (omega (arith, less, same)) is.0) (own (negsuc 0) z (omega arith) node))
        (above_light pairs (All_tail IsPair p pairs h) (All_tail InRange p pairs k))

    below_light : (i : ℕ) (pairs : List Pair) → All IsPair pairs → All InRange pairs → All Light (below_forms s r z i pairs)
    below_light i [] h k = All_none Light
    below_light i (p ∷ pairs) h k =
        let most = (r p.number).hi -ℤ s.lo in
        let less = less_small (r p.number).hi s.lo (All_head InRange p pairs k).1 small.0 in
        let same = neg_same most in
        let its = own (pos 1) z (omega arith) node in
        let number = whole (negsuc 0) p.number (omega arith) (All_head IsPair p pairs h).1 in
        let this = selector_light g stands (neg_ℤ most) z i in
        All_cons Light (form most (times (pos 1) z ∷ times (negsuc 0) p.number ∷ selects (neg_ℤ most) z i ∷ [])) (below_forms s r z (suc i) pairs) (omega (arith, less, same, its, number, this))
        (below_light (suc i) pairs (All_tail IsPair p pairs h) (All_tail InRange p pairs k))

    pairs_present : (i : ℕ) (pairs : List Pair) → length (present_forms z i pairs) ≡ length pairs
    pairs_present i [] = refl
    pairs_present i (p ∷ pairs) = ap suc (pairs_present (suc i) pairs)

    min_light : (h : Span) (b : ℕ) (pairs : List Pair) → AreSmall h → Heft b ≤ 2 → All IsPair pairs → All InRange pairs → length (min_forms s h r b z pairs) ≤ 50000000 → All Light (min_forms s h r b z pairs)
    min_light h b pairs ends truth are ranges most =
        let long = length-append (present_forms z 0 pairs) (sum_forms b z pairs ++ (above_forms s r z pairs ++ (below_forms s r z 0 pairs ++ end_forms h b z))) in
        let count = pairs_present 0 pairs in
        let few : length pairs ≤ 50000000 = omega (arith, most, long, count) in
        All-append Light (present_forms z 0 pairs) (sum_forms b z pairs ++ (above_forms s r z pairs ++ (below_forms s r z 0 pairs ++ end_forms h b z))) (present_light z 0 pairs are)
        (All-append Light (sum_forms b z pairs) (above_forms s r z pairs ++ (below_forms s r z 0 pairs ++ end_forms h b z))
        (all_two (form (pos 0) (times (negsuc 0) b ∷ selectors (pos 1) z 0 pairs)) (form (pos 0) (times (pos 1) b ∷ selectors (negsuc 0) z 0 pairs)) (sum_light (pos 1) (negsuc 0) b z pairs (omega arith) (omega arith) truth few)
        (sum_light (negsuc 0) (pos 1) b z pairs (omega arith) (omega arith) truth few))
        (All-append Light (above_forms s r z pairs) (below_forms s r z 0 pairs ++ end_forms h b z) (above_light pairs are ranges)
        (All-append Light (below_forms s r z 0 pairs) (end_forms h b z) (below_light 0 pairs are ranges) (end_light h ends b z truth node))))

  -- ---- the nodes of a list

  module _ (fold : IsFold g) where
    range_small : (n : ℕ) → n < size g → AreSmall (range g n)
    range_small n lt = let fits = fold.fits n lt in (fits.small_lo, fits.small_hi)

    number : (n : ℕ) → n < size g → is_number (node g n) ≡ true → Heft n ≤ 300000000000000000
    number n lt e = number_light g stands n fold lt e

    abbrev IsTyped : Pair → Type 0
    IsTyped p = (is_truth (node g p.truth) ≡ true) × (is_number (node g p.number) ≡ true)

    abbrev Kids : List Pair → List ℕ
    Kids pairs = flat_map (λ (p : Pair). p.truth ∷ p.number ∷ []) pairs

    numbers_there : (pairs : List Pair) → All (λ k. k < size g) (Kids pairs) → All (λ (p : Pair). p.number < size g) pairs
    numbers_there [] there = All_none (λ (p : Pair). p.number < size g)
    numbers_there (p ∷ pairs) there = All_cons (λ (p : Pair). p.number < size g) p pairs (there 1 0 (omega arith)) (numbers_there pairs (λ j d lt. there (suc (suc j)) d (omega (arith, lt))))

    each_pair : (pairs : List Pair) → All (λ (p : Pair). p.number < size g) pairs → All IsTyped pairs → All IsPair pairs
    each_pair pairs there kinds = λ j d lt. let is = kinds j d lt in (truth_light g stands (get_or pairs j d).truth is.0, number (get_or pairs j d).number (there j d lt) is.1)

    each_range : (pairs : List Pair) → All (λ (p : Pair). p.number < size g) pairs → All (λ (p : Pair). AreSmall (range g p.number)) pairs
    each_range pairs there = λ j d lt. range_small (get_or pairs j d).number (there j d lt)

    module _ (y : ℕ) (lt : y < size g) where
      node_y : (m : Formula) → m ≡ node g y → is_term m ≡ true → Heft y ≤ 2
      node_y m e term = term_light y (subst (λ (f : Formula). is_term f ≡ true) e term)

      some_there : (pairs : List Pair) → MinNode pairs ≡ node g y → Heft (aid_of g (MinNode pairs)) ≤ 2
      some_there pairs e =
          let stood : OrStandsBefore g y (map (λ (p : Pair). p.truth) pairs) = subst (HasAid g y) (sym e) (fold.aids y lt) in
          subst (λ (k : ℕ). Heft k ≤ 2) (sym (min_place g y fold lt pairs stood)) (truth_light g stands stood.place stood.truth)

      by_kind : (m : Formula) → m ≡ node g y → Fits g (range g y) m → length (forms_of g y m) ≤ 50000000 → All Light (forms_of g y m)
      by_kind (PosNode n) e fits few = let there = fits.kids 0 0 (omega arith) in pos_light (range g n) (range_small n there) n y (number n there fits.typed) (node_y (PosNode n) e refl)
      by_kind (GuardNode t n) e fits few =
          let there = fits.kids 1 0 (omega arith) in
          guard_light (range g n) (range_small n there) n y (number n there fits.typed.1) (node_y (GuardNode t n) e refl) t (truth_light g stands t fits.typed.0)
      by_kind (AbsNode n) e fits few =
          let there = fits.kids 0 0 (omega arith) in
          let aid = aid_there g y fold lt n (sym e) in
          abs_light (range g n) (range_small n there) n y (number n there fits.typed) (node_y (AbsNode n) e refl) (aid_of g (AbsNode n)) (truth_light g stands (aid_of g (AbsNode n)) (ap is_truth aid.1))
      by_kind (TotNode n) e fits few = tot_light n y (number n (fits.kids 0 0 (omega arith)) fits.typed) (node_y (TotNode n) e refl)
      by_kind (MinNode pairs) e fits few =
          let there = numbers_there pairs fits.kids in
          min_light (range g y) (range_small y lt) (range g) y (node_y (MinNode pairs) e refl) (narrow_span (range g) pairs) (aid_of g (MinNode pairs)) pairs (narrow_small g fold pairs (narrow_span (range g) pairs) refl there) (some_there pairs e)
          (each_pair pairs there fits.typed) (each_range pairs there) few
      by_kind (AndNode kids) e fits few = and_light kids y (node_y (AndNode kids) e refl) (λ j d less. truth_light g stands (get_or kids j d) (fits.typed j d less)) few
      by_kind (OrNode kids) e fits few = or_light kids y (node_y (OrNode kids) e refl) (λ j d less. truth_light g stands (get_or kids j d) (fits.typed j d less)) few
      by_kind FalseNode e fits few = All_none Light
      by_kind TrueNode e fits few = All_none Light
      by_kind (PresNode column) e fits few = All_none Light
      by_kind (CellNode column) e fits few = All_none Light
      by_kind (NotNode truth) e fits few = All_none Light
      by_kind (LinNode c terms) e fits few = All_none Light

      -- the forms of a node are light, if they are not too many
      pub forms_light : length (forms_of g y (node g y)) ≤ 50000000 → All (λ (r : Form). weight g stands r.constant r.pieces < 2 ^ 63) (forms_of g y (node g y))
      forms_light few = by_kind (node g y) refl (fold.fits y lt) few
