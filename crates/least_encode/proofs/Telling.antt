-- The rows of a Min tell that it has its value, and that its selectors choose a pair that has it.
use Rattle.std.proofs.Common.{◌≡◌, ◌∙◌, sym, ap, subst, refl, ℕ, suc, ◌+◌, ◌<◌, ◌≤◌, ℤ, pos, ◌*ℤ◌, ◌≤ℤ◌, Bool, true, false, ◌||◌, cond, List, [], ◌∷◌, map, flat_map, filter, length, All, arith}
use Rattle.std.specs.List.{list_any}
use Rattle.ip_rows.specs.declared.rows.IpRow.{IpRow}
use Rattle.prov_arena.specs.declared.part.Pair.{Pair}
use Rattle.prov_arena.specs.Formulas.{Formula, MinNode}
use Rattle.prov_fold.specs.Graphs.{Graph, node, range, size}
use Rattle.prov_fold.specs.Folds.{IsFold}
use Rattle.prov_fold.specs.Kinds.{is_truth, is_number}
use Rattle.prov_fold.specs.Spans.{least}
use Rattle.prov_fold.specs.Values.{as_number, holds}
use Rattle.prov_fold.specs.Meanings.{values_in}
use Rattle.prov_fold.proofs.AidMeanings.{min_aid}
use Rattle.prov_fold.proofs.InsideLemmas.{inside_is}
use Rattle.prov_fold.proofs.LeastLemmas.{least_all}
use Rattle.prov_fold.proofs.PlaceLemmas.{value_one}
use Rattle.prov_fold.proofs.SameLemmas.{All_head, All_tail, All_cons}
use Rattle.prov_fold.proofs.ValueLemmas.{IsIn}
use Rattle.bool_encode.specs.declared.form.Key.{Key}
use Rattle.bool_encode.specs.declared.form.Key.TheVariants as key
use Rattle.bool_encode.specs.declared.stand.Stand.{Stand}
use Rattle.bool_encode.specs.Columns.{reading}
use Rattle.bool_encode.specs.Forms.{Form, Hold}
use Rattle.bool_encode.specs.Points.{HasPairAt, has_least}
use Rattle.bool_encode.specs.Rows.{AreRows}
use Rattle.bool_encode.specs.Tellings.{IsRight}
use Rattle.bool_encode.proofs.Bits.{bit_cases}
use Rattle.bool_encode.proofs.Each.{All_none, All_of_map}
use Rattle.bool_encode.proofs.FormLemmas.{Is, NamesOnly, down, up}
use Rattle.bool_encode.proofs.Numbers.{cancel_is, one_times, zero_d}
use Rattle.bool_encode.proofs.RowLemmas.{rows_hold as forms_hold, hold_rows}
use Rattle.bool_encode.proofs.Telling.{below_at, fits_at, truth_bit, value_at}
use Rattle.cmp_encode.specs.Spans.{narrow_span}
use Rattle.cmp_encode.specs.Tables.{aid_of, forms_of, min_forms, named_by}
use Rattle.cmp_encode.proofs.LeastForms.{IsChosen, Known, PairIn, chosen_part, keyed, min_over, selector_is}
use Rattle.whole_points.proofs.Bits.{truth_between}
use Rattle.whole_points.proofs.LeastNames.{names_min}
use Rattle.whole_points.proofs.Named.{min_place}
use Rattle.whole_points.proofs.Narrow.{narrow_in}
use Rattle.least_encode.specs.Told.{Chooses, ChoosesIf, IsReadied, TellsLeast}
use Rattle.least_encode.proofs.Gadget.{AreBits, Picks, rows_hold, rows_pick}

-- ---- the pairs that are there

all_filtered : (P : Pair → Type 0) (h : Pair → Bool) (ps : List Pair) → All P (filter h ps) → All (λ (p : Pair). h p ≡ true → P p) ps
all_filtered P h [] all = All_none (λ (p : Pair). h p ≡ true → P p)
all_filtered P h (p ∷ ps) all = by_test (h p) refl all (all_filtered P h ps)
  where
    by_test : (b : Bool) → h p ≡ b → All P (cond b (p ∷ filter h ps) (filter h ps)) → (All P (filter h ps) → All (λ (p : Pair). h p ≡ true → P p) ps) → All (λ (p : Pair). h p ≡ true → P p) (p ∷ ps)
    by_test true e all rest = All_cons (λ (p : Pair). h p ≡ true → P p) p ps (λ is. All_head P p (filter h ps) all) (rest (All_tail P p (filter h ps) all))
    by_test false e all rest = All_cons (λ (p : Pair). h p ≡ true → P p) p ps (λ is. absurd (no_true (sym e ∙ is))) (rest all)
      where
        no_true : false ≡ true → ⊥
        no_true e = cc

none_there : (h : Pair → Bool) (ps : List Pair) → list_any h ps ≡ false → filter h ps ≡ []
none_there h [] e = refl
none_there h (p ∷ ps) e = by_test (h p) e (none_there h ps)
  where
    by_test : (b : Bool) → (b || list_any h ps) ≡ false → (list_any h ps ≡ false → filter h ps ≡ []) → cond b (p ∷ filter h ps) (filter h ps) ≡ []
    by_test true e r = cc
    by_test false e r = r e

module _ (g : Graph) (stands : List Stand) (z : ℕ) (fold : IsFold g) (lt : z < size g) (pairs : List Pair) (e : node g z ≡ MinNode pairs) (world : List ℤ) (d : ℕ) (point : List ℤ) (ready : IsReadied g stands z world d point) where
  abbrev F : Key → ℤ
  F = reading g stands d point

  abbrev V : ℕ → ℤ
  V = values_in g world

  abbrev R : ℕ → Type 0
  R k = IsRight g stands world d point k

  abbrev any : Bool
  any = list_any (λ (p : Pair). holds V p.truth) pairs

  abbrev b : ℕ
  b = aid_of g (MinNode pairs)

  abbrev w : ℕ → ℤ
  w pair = chosen_part d (F (key.Selector z pair))

  abbrev Forms : List Form
  Forms = min_forms (range g z) (narrow_span (range g) pairs) (range g) b z pairs

  abbrev Kids : List Pair → List ℕ
  Kids ps = flat_map (λ (p : Pair). p.truth ∷ p.number ∷ []) ps

  abbrev Typed : Pair → Type 0
  Typed p = (is_truth (node g p.truth) ≡ true) × (is_number (node g p.number) ≡ true)

  -- ---- the places

  right : All R (b ∷ Kids pairs)
  right = subst (λ (m : Formula). All R (named_by g m)) e ready.right

  less : All (λ k. k < z) (Kids pairs)
  less = below_at g z world d F fold lt ready.some ready.numbers (MinNode pairs) e

  typed : All Typed pairs
  typed = (fits_at g z world d F fold lt ready.some ready.numbers (MinNode pairs) e).typed

  pair_in : (p : Pair) → p.truth < z → p.number < z → Typed p → PairIn V (range g) p
  pair_in p t n kinds =
      let bit = truth_between (V p.truth) (truth_bit g z world d F fold lt ready.some ready.numbers p.truth t kinds.0) in
      let i = inside_is g world fold ready.numbers p.number (omega (arith, n, lt)) in
      record { truth_low = bit.0; truth_high = bit.1; low = i.low; high = i.high }

  pairs_in : (ps : List Pair) → All (λ k. k < z) (Kids ps) → All Typed ps → All (PairIn V (range g)) ps
  pairs_in [] below kinds = All_none (PairIn V (range g))
  pairs_in (p ∷ ps) below kinds =
      All_cons (PairIn V (range g)) p ps (pair_in p (below 0 0 (omega arith)) (below 1 0 (omega arith)) (kinds 0 p (omega arith)))
      (pairs_in ps (λ j a l. below (suc (suc j)) a (omega (arith, l))) (λ j a l. kinds (suc j) a (omega (arith, l))))

  ins : All (PairIn V (range g)) pairs
  ins = pairs_in pairs less typed

  any_is : V b ≡ as_number any
  any_is = let aid = min_aid g world fold ready.numbers z lt pairs e in ap V (min_place g z fold lt pairs aid.0) ∙ aid.1

  value : V z ≡ least (map (λ (p : Pair). V p.number) (filter (λ (p : Pair). holds V p.truth) pairs))
  value = value_at g z world d F fold lt ready.some ready.numbers (MinNode pairs) e

  -- ---- the selectors

  chosen_at : (j : ℕ) → j < length pairs → IsChosen d (F (key.Selector z j)) (w j)
  chosen_at j l = selector_is d (F (key.Selector z j)) ready.some (ready.bits j (subst (λ (m : Formula). HasPairAt j m) (sym e) l))

  bits : AreBits w 0 pairs
  bits j le l = let c = chosen_at j (omega (arith, l)) in bit_cases (w j) c.low c.high

  known : (i : ℕ) (ps : List Pair) → All R (Kids ps) → All (PairIn V (range g)) ps → ((j : ℕ) → i ≤ j → j < i + length ps → IsChosen d (F (key.Selector z j)) (w j)) → Known d F V w (range g) z i ps
  known i [] r inside chosen = tt
  known i (p ∷ ps) r inside chosen =
      let c = chosen i (omega arith) (omega arith) in
      let n = inside 0 p (omega arith) in (
        record { truth_is = r 0 0 (omega arith); number_is = r 1 0 (omega arith); chosen_is = c.is; truth_low = n.truth_low; truth_high = n.truth_high; chosen_low = c.low; chosen_high = c.high; low = n.low; high = n.high },
        known (suc i) ps (λ j a l. r (suc (suc j)) a (omega (arith, l))) (λ j a l. inside (suc j) a (omega (arith, l))) (λ j le l. chosen j (omega (arith, le)) (omega (arith, l))),
      )

  none_is : (j : ℕ) → j < length pairs → w j ≡ pos 0 → F (key.Selector z j) ≡ pos 0
  none_is j l is = (chosen_at j l).is ∙ ap (λ (x : ℤ). x *ℤ pos d) is ∙ zero_d d

  one_is : (j : ℕ) → j < length pairs → w j ≡ pos 1 → F (key.Selector z j) ≡ pos d
  one_is j l is = (chosen_at j l).is ∙ ap (λ (x : ℤ). x *ℤ pos d) is ∙ sym (one_times d)

  is_none : (j : ℕ) → j < length pairs → F (key.Selector z j) ≡ pos 0 → w j ≡ pos 0
  is_none j l is = cancel_is (w j) (pos 0) d ready.some (sym (chosen_at j l).is ∙ is ∙ sym (zero_d d))

  is_one : (j : ℕ) → j < length pairs → F (key.Selector z j) ≡ pos d → w j ≡ pos 1
  is_one j l is = cancel_is (w j) (pos 1) d ready.some (sym (chosen_at j l).is ∙ is ∙ one_times d)

  chooses : (t : Bool) → Picks t w (has_least V (V z)) pairs → ChoosesIf t d (λ j. F (key.Selector z j)) (has_least V (V z)) pairs
  chooses true (j, is, such) =
      let below = is.below in
      (j, record { there = omega (arith, below); chosen = one_is j (omega (arith, below)) is.one; others = λ k l ne. none_is k l (is.others k (omega arith) (omega (arith, l)) ne) }, such)
  chooses false none = λ j l. none_is j l (none j (omega arith) (omega (arith, l)))

  picks : (t : Bool) → ChoosesIf t d (λ j. F (key.Selector z j)) (has_least V (V z)) pairs → Picks t w (has_least V (V z)) pairs
  picks true (j, is, such) =
      let there = is.there in
      (j, record { from = omega arith; below = omega (arith, there); one = is_one j there is.chosen; others = λ k le l ne. is_none k (omega (arith, l)) (is.others k (omega (arith, l)) ne) }, such)
  picks false none = λ j le l. is_none j (omega (arith, l)) (none j (omega (arith, l)))

  -- ---- both ways

  names : R z → NamesOnly (Is d F (keyed V z w)) Forms
  names own =
      names_min (Is d F (keyed V z w)) (range g z) (narrow_span (range g) pairs) (range g) b z pairs (λ j a l. right (suc j) a (omega (arith, l))) (right 0 0 (omega arith)) own (λ j l. (chosen_at j l).is)

  back : Hold d F Forms → R z × ChoosesIf any d (λ j. F (key.Selector z j)) (has_least V (V z)) pairs
  back h =
      let own : R z = min_over d F V w (range g z) (range g) z ready.some (narrow_span (range g) pairs) b pairs (right 0 0 (omega arith)) any_is
      (known 0 pairs (λ j a l. right (suc j) a (omega (arith, l))) ins (λ j le l. chosen_at j (omega (arith, l)))) h ∙ ap (λ (x : ℤ). x *ℤ pos d) (sym value) in
      let held = down d F (keyed V z w) ready.some Forms (names own) h in
      (own, chooses any (rows_pick V w (range g z) (range g) z (narrow_span (range g) pairs) b pairs any any_is ins bits held))

  ahead : R z → ChoosesIf any d (λ j. F (key.Selector z j)) (has_least V (V z)) pairs → Hold d F Forms
  ahead own chosen =
      let i = inside_is g world fold ready.numbers z lt in
      let inside : All (λ (p : Pair). IsIn (range g p.number) (V p.number)) pairs = λ j a l. let n = ins j a l in record { low = n.low; high = n.high } in
      let narrow : any ≡ true → ((narrow_span (range g) pairs).lo ≤ℤ V z) × (V z ≤ℤ (narrow_span (range g) pairs).hi) =
      λ t. let n = subst (IsIn (narrow_span (range g) pairs)) (sym value) (narrow_in g V pairs inside (value_one g world fold) t) in (n.low, n.high) in
      let none : any ≡ false → V z ≡ pos 0 = λ f. value ∙ ap (λ (ps : List Pair). least (map (λ (p : Pair). V p.number) ps)) (none_there (λ (p : Pair). holds V p.truth) pairs f) in
      let lowest : All (λ (p : Pair). holds V p.truth ≡ true → V z ≤ℤ V p.number) pairs =
      all_filtered (λ (p : Pair). V z ≤ℤ V p.number) (λ (p : Pair). holds V p.truth) pairs
      (All_of_map (λ (x : ℤ). V z ≤ℤ x) (λ (p : Pair). V p.number) (filter (λ (p : Pair). holds V p.truth) pairs)
      (subst (λ (n : ℤ). All (λ (x : ℤ). n ≤ℤ x) (map (λ (p : Pair). V p.number) (filter (λ (p : Pair). holds V p.truth) pairs))) (sym value) (least_all (map (λ (p : Pair). V p.number) (filter (λ (p : Pair). holds V p.truth) pairs))))) in
      up d F (keyed V z w) Forms (names own) (rows_hold V w (range g z) (range g) z (narrow_span (range g) pairs) b pairs any any_is ins i.low i.high narrow none lowest (picks any chosen))

  pub told : (Hold d F (forms_of g z (node g z)) → R z × Chooses V z d (λ j. F (key.Selector z j)) (node g z)) × (R z × Chooses V z d (λ j. F (key.Selector z j)) (node g z) → Hold d F (forms_of g z (node g z)))
  told = subst (λ (m : Formula). (Hold d F (forms_of g z m) → R z × Chooses V z d (λ j. F (key.Selector z j)) m) × (R z × Chooses V z d (λ j. F (key.Selector z j)) m → Hold d F (forms_of g z m))) (sym e) (back, λ h. ahead h.0 h.1)

-- the rows of a Min tell its value and its choice
pub least_tells : (g : Graph) (stands : List Stand) (z : ℕ) (rows : List IpRow) → IsFold g → z < size g → (pairs : List Pair) → node g z ≡ MinNode pairs → AreRows g stands (forms_of g z (node g z)) rows → TellsLeast g stands z rows
unfolding TellsLeast
least_tells g stands z rows fold lt pairs e are = λ world d point ready.
    let both = told g stands z fold lt pairs e world d point ready in
    (λ h. both.0 (forms_hold g stands d point (forms_of g z (node g z)) rows are h), λ h. hold_rows g stands d point (forms_of g z (node g z)) rows are (both.1 h))
