-- The rows of And and Or tell their values.
use Rattle.std.proofs.Common.{◌≡◌, ◌∙◌, sym, ap, subst, refl, ℕ, ◌<◌, ◌==◌, ◌⊎◌, inl, inr, ℤ, pos, ◌*ℤ◌, ◌≤ℤ◌, Bool, true, false, cond, List, ◌∷◌, get_or, All, Result, Ok, Err, IfOk, arith}
use Rattle.std.proofs.lemmas.Int.{ints}
use Rattle.ip_rows.specs.declared.rows.IpRow.{IpRow}
use Rattle.prov_arena.specs.Formulas.{Formula, FalseNode, TrueNode, PresNode, CellNode, PosNode, NotNode, AndNode, OrNode, LinNode, GuardNode, AbsNode, TotNode, MinNode, kids_of}
use Rattle.prov_fold.specs.Graphs.{Graph, node, size, Fits, range}
use Rattle.prov_fold.specs.Kinds.{is_truth}
use Rattle.prov_fold.specs.Folds.{IsFold}
use Rattle.prov_fold.specs.Values.{value_of, HasNumbers}
use Rattle.prov_fold.specs.Meanings.{values_in, IsLater}
use Rattle.prov_fold.proofs.SameLemmas.{All_head, All_tail, All_cons}
use Rattle.prov_fold.proofs.StandLemmas.{keeps_same}
use Rattle.prov_fold.proofs.PlaceLemmas.{value_same, value_here, bit_kept}
use Rattle.bool_encode.specs.declared.form.Key.{Key}
use Rattle.bool_encode.specs.declared.form.Key.TheVariants as key
use Rattle.bool_encode.specs.declared.stand.Stand.{Stand}
use Rattle.bool_encode.specs.Forms.{Form, Hold}
use Rattle.bool_encode.specs.Columns.{reading, IsOnMap}
use Rattle.bool_encode.specs.Rows.{AreRows, IsKid}
use Rattle.bool_encode.specs.Tables.{and_forms, or_forms, bool_forms, is_joined}
use Rattle.bool_encode.specs.Tellings.{IsBit, Tells, is_switch}
use Rattle.bool_encode.proofs.Numbers.{cancel_is, zero_d, one_times}
use Rattle.bool_encode.proofs.FormLemmas.{NamesOnly, nodes, Held, Is, down, up, names_and, names_or}
use Rattle.bool_encode.proofs.Bits.{IsTruthValue}
use Rattle.bool_encode.proofs.Gadgets.{and_back, and_ahead, or_back, or_ahead}
use Rattle.bool_encode.proofs.LightLemmas.{light_truth, light_truths}
use Rattle.bool_encode.proofs.RowLemmas.{rows_hold, hold_rows}

-- ---- values with another at one place

with_at : ℕ → ℤ → (ℕ → ℤ) → ℕ → ℤ
with_at z w v k = cond (k == z) w (v k)

eq_self : (z : ℕ) → (z == z) ≡ true
eq_self z = grind arith

eq_less : (k z : ℕ) → k < z → (k == z) ≡ false
eq_less k z h = grind arith

at_self : (z : ℕ) (w : ℤ) (v : ℕ → ℤ) → with_at z w v z ≡ w
unfolding with_at
at_self z w v = ap (λ (b : Bool). cond b w (v z)) (eq_self z)

at_less : (z : ℕ) (w : ℤ) (v : ℕ → ℤ) (k : ℕ) → k < z → with_at z w v k ≡ v k
unfolding with_at
at_less z w v k h = ap (λ (b : Bool). cond b w (v k)) (eq_less k z h)

in_bit : (w : ℤ) → (w ≡ pos 0) ⊎ (w ≡ pos 1) → (pos 0 ≤ℤ w) × (w ≤ℤ pos 1)
in_bit w (inl e) = (omega (arith, ints, e), omega (arith, ints, e))
in_bit w (inr e) = (omega (arith, ints, e), omega (arith, ints, e))

-- ---- what is told at one place of a list

module _ (g : Graph) (z : ℕ) (world : List ℤ) (d : ℕ) (f : Key → ℤ) (fold : IsFold g) (lt : z < size g) (some : 0 < d) (has : HasNumbers g world) where
  pub below_at : (m : Formula) → node g z ≡ m → All (λ kid. kid < z) (kids_of m)
  below_at m e = subst (λ (m : Formula). All (λ kid. kid < z) (kids_of m)) e (fold.graph.below z lt)

  pub fits_at : (m : Formula) → node g z ≡ m → Fits g (range g z) m
  fits_at m e = subst (Fits g (range g z)) e (fold.fits z lt)

  pub here : IsLater g g world
  here = record { keeps = keeps_same g; fold = fold; has = has }

  pub value_at : (m : Formula) → node g z ≡ m → values_in g world z ≡ value_of world (values_in g world) m
  value_at m e = value_here g world fold z lt ∙ ap (value_of world (values_in g world)) e

  -- the value of a truth is 0 or 1
  pub truth_bit : (k : ℕ) → k < z → is_truth (node g k) ≡ true → IsTruthValue (values_in g world k)
  truth_bit k less e = bit_kept g g world here k (omega (arith, less, lt)) e

  pub truth_bits : (v : ℕ → ℤ) (kids : List ℕ) → All (λ k. k < z) kids → All (λ k. is_truth (node g k) ≡ true) kids → All (λ k. v k ≡ values_in g world k) kids → All (λ k. IsTruthValue (v k)) kids
  truth_bits v kids a b c = λ j x less. subst IsTruthValue (sym (c j x less)) (truth_bit (get_or kids j x) (a j x less) (b j x less))

  -- a truth with a column of its own, by what its forms say at whole numbers
  module _ (m : Formula) (e : node g z ≡ m) (forms : List Form)
      (names : (v : ℕ → ℤ) → All (λ k. Is d f (nodes v) (key.Node k)) (kids_of m) → Is d f (nodes v) (key.Node z) → NamesOnly (Is d f (nodes v)) forms)
      (back : (v : ℕ → ℤ) → All (λ k. v k ≡ values_in g world k) (kids_of m) → pos 0 ≤ℤ v z → v z ≤ℤ pos 1 → Held (nodes v) forms → v z ≡ value_of world v m)
      (ahead : (v : ℕ → ℤ) → All (λ k. v k ≡ values_in g world k) (kids_of m) → v z ≡ value_of world v m → Held (nodes v) forms)
      (right : All (λ k. f (key.Node k) ≡ values_in g world k *ℤ pos d) (kids_of m)) where
    module _ (w : ℤ) (own : f (key.Node z) ≡ w *ℤ pos d) (bit : (w ≡ pos 0) ⊎ (w ≡ pos 1)) where
      v : ℕ → ℤ
      v = with_at z w (values_in g world)

      self : v z ≡ w
      unfolding v
      self = at_self z w (values_in g world)

      same : All (λ k. v k ≡ values_in g world k) (kids_of m)
      unfolding v
      same = λ j x less. at_less z w (values_in g world) (get_or (kids_of m) j x) (below_at m e j x less)

      named : NamesOnly (Is d f (nodes v)) forms
      named = names v (λ j x less. right j x less ∙ ap (λ (y : ℤ). y *ℤ pos d) (sym (same j x less))) (own ∙ ap (λ (y : ℤ). y *ℤ pos d) (sym self))

      value_with : value_of world v m ≡ values_in g world z
      value_with = value_same world v (values_in g world) m same ∙ sym (value_at m e)

      switch_back : Hold d f forms → f (key.Node z) ≡ values_in g world z *ℤ pos d
      switch_back h =
          let b = in_bit w bit in
          let is = back v same (subst (λ (x : ℤ). pos 0 ≤ℤ x) (sym self) b.0) (subst (λ (x : ℤ). x ≤ℤ pos 1) (sym self) b.1) (down d f (nodes v) some forms named h) in
          own ∙ ap (λ (x : ℤ). x *ℤ pos d) (sym self ∙ is ∙ value_with)

      switch_ahead : f (key.Node z) ≡ values_in g world z *ℤ pos d → Hold d f forms
      switch_ahead h =
          let is : w ≡ values_in g world z = cancel_is w (values_in g world z) d some (sym own ∙ h) in
          up d f (nodes v) forms named (ahead v same (self ∙ is ∙ sym value_with))

    by_bit : (w : ℤ) → (w ≡ pos 0) ⊎ (w ≡ pos 1) → f (key.Node z) ≡ w *ℤ pos d → (Hold d f forms → f (key.Node z) ≡ values_in g world z *ℤ pos d) × (f (key.Node z) ≡ values_in g world z *ℤ pos d → Hold d f forms)
    by_bit w bit own = (switch_back w own bit, switch_ahead w own bit)

    pub switch_told : IsBit d (f (key.Node z)) → (Hold d f forms → f (key.Node z) ≡ values_in g world z *ℤ pos d) × (f (key.Node z) ≡ values_in g world z *ℤ pos d → Hold d f forms)
    switch_told (inl none) = by_bit (pos 0) (inl refl) (none ∙ sym (zero_d d))
    switch_told (inr one) = by_bit (pos 1) (inr refl) (one ∙ one_times d)

-- ---- And and Or

module _ (g : Graph) (z : ℕ) (world : List ℤ) (d : ℕ) (f : Key → ℤ) (fold : IsFold g) (lt : z < size g) (some : 0 < d) (has : HasNumbers g world) where
  abbrev Told : Formula → Type 0
  Told m = (Hold d f (bool_forms z m) → f (key.Node z) ≡ values_in g world z *ℤ pos d) × (f (key.Node z) ≡ values_in g world z *ℤ pos d → Hold d f (bool_forms z m))

  joined_told : (m : Formula) → node g z ≡ m → is_joined m ≡ true → All (λ k. f (key.Node k) ≡ values_in g world k *ℤ pos d) (kids_of m) → IsBit d (f (key.Node z)) → Told m
  joined_told (AndNode kids) e own right bit =
      let bits : (v : ℕ → ℤ) → All (λ k. v k ≡ values_in g world k) kids → All (λ k. IsTruthValue (v k)) kids =
      λ v same. truth_bits g z world d f fold lt some has v kids (below_at g z world d f fold lt some has (AndNode kids) e) (fits_at g z world d f fold lt some has (AndNode kids) e).typed same in
      switch_told g z world d f fold lt some has (AndNode kids) e (and_forms kids z) (λ v over self. names_and (Is d f (nodes v)) kids z over self)
      (λ v same low high h. and_back v kids z (bits v same) low high h) (λ v same is. and_ahead v kids z (bits v same) is) right bit
  joined_told (OrNode kids) e own right bit =
      let bits : (v : ℕ → ℤ) → All (λ k. v k ≡ values_in g world k) kids → All (λ k. IsTruthValue (v k)) kids =
      λ v same. truth_bits g z world d f fold lt some has v kids (below_at g z world d f fold lt some has (OrNode kids) e) (fits_at g z world d f fold lt some has (OrNode kids) e).typed same in
      switch_told g z world d f fold lt some has (OrNode kids) e (or_forms kids z) (λ v over self. names_or (Is d f (nodes v)) kids z over self)
      (λ v same low high h. or_back v kids z (bits v same) low high h) (λ v same is. or_ahead v kids z (bits v same) is) right bit
  joined_told FalseNode e own right bit = cc
  joined_told TrueNode e own right bit = cc
  joined_told (PresNode column) e own right bit = cc
  joined_told (CellNode column) e own right bit = cc
  joined_told (PosNode number) e own right bit = cc
  joined_told (NotNode truth) e own right bit = cc
  joined_told (LinNode c terms) e own right bit = cc
  joined_told (GuardNode truth number) e own right bit = cc
  joined_told (AbsNode number) e own right bit = cc
  joined_told (TotNode number) e own right bit = cc
  joined_told (MinNode pairs) e own right bit = cc

joined_switch : (m : Formula) → is_joined m ≡ true → is_switch m ≡ true
joined_switch (AndNode kids) e = refl
joined_switch (OrNode kids) e = refl
joined_switch FalseNode e = cc
joined_switch TrueNode e = cc
joined_switch (PresNode column) e = cc
joined_switch (CellNode column) e = cc
joined_switch (PosNode number) e = cc
joined_switch (NotNode truth) e = cc
joined_switch (LinNode c terms) e = cc
joined_switch (GuardNode truth number) e = cc
joined_switch (AbsNode number) e = cc
joined_switch (TotNode number) e = cc
joined_switch (MinNode pairs) e = cc

-- the rows of an And or an Or tell its value
pub joined_tells : (g : Graph) (stands : List Stand) (z : ℕ) (rows : List IpRow) → IsFold g → z < size g → is_joined (node g z) ≡ true → AreRows g stands (bool_forms z (node g z)) rows → Tells g stands z (kids_of (node g z)) rows
unfolding Tells
joined_tells g stands z rows fold lt own are = λ world d point ready.
    let told = joined_told g z world d (reading g stands d point) fold lt ready.some ready.numbers (node g z) refl own ready.right (ready.bit (joined_switch (node g z) own)) in
    (λ h. told.0 (rows_hold g stands d point (bool_forms z (node g z)) rows are h), λ h. hold_rows g stands d point (bool_forms z (node g z)) rows are (told.1 h))

-- ---- what the rows ask of the node and its kids

if_ok : {A E : Type 0} (r : Result A E) (P Q : A → Type 0) → ((a : A) → P a → Q a) → IfOk r P → IfOk r Q
if_ok (Ok a) P Q f h = f a h
if_ok (Err e) P Q f h = tt

module _ (g : Graph) (stands : List Stand) (z : ℕ) (fold : IsFold g) (lt : z < size g) where
  kids_ready : (m : Formula) (kids : List ℕ) → node g z ≡ m → is_truth m ≡ true → kids_of m ≡ kids → All (λ k. is_truth (node g k) ≡ true) kids → All (λ k. IsOnMap g stands (key.Node k)) (z ∷ kids_of (node g z)) → All (IsKid g stands 2) (z ∷ kids)
  kids_ready m kids e truth are typed named =
      let named' : All (λ k. IsOnMap g stands (key.Node k)) (z ∷ kids) = subst (λ (ks : List ℕ). All (λ k. IsOnMap g stands (key.Node k)) (z ∷ ks)) (ap kids_of e ∙ are) named in
      let below : All (λ k. k < z) kids = subst (All (λ k. k < z)) (ap kids_of e ∙ are) (fold.graph.below z lt) in
      All_cons (IsKid g stands 2) z kids (light_truth g stands z lt (All_head (λ k. IsOnMap g stands (key.Node k)) z kids named') (ap is_truth e ∙ truth))
      (light_truths g stands kids (λ j x less. let b = below j x less in omega (arith, b, lt)) (All_tail (λ k. IsOnMap g stands (key.Node k)) z kids named') typed)

  pub and_ready : (kids : List ℕ) → AndNode kids ≡ node g z → All (λ k. IsOnMap g stands (key.Node k)) (z ∷ kids_of (node g z)) → All (IsKid g stands 2) (z ∷ kids)
  and_ready kids e named = kids_ready (AndNode kids) kids (sym e) refl refl (subst (Fits g (range g z)) (sym e) (fold.fits z lt)).typed named

  pub or_ready : (kids : List ℕ) → OrNode kids ≡ node g z → All (λ k. IsOnMap g stands (key.Node k)) (z ∷ kids_of (node g z)) → All (IsKid g stands 2) (z ∷ kids)
  or_ready kids e named = kids_ready (OrNode kids) kids (sym e) refl refl (subst (Fits g (range g z)) (sym e) (fold.fits z lt)).typed named

  -- a call that gives the rows of the forms gives rows that tell the value
  pub joined_if : {E : Type 0} (r : Result (List IpRow) E) (m : Formula) → m ≡ node g z → is_joined (node g z) ≡ true → IfOk r (AreRows g stands (bool_forms z m)) → IfOk r (Tells g stands z (kids_of (node g z)))
  joined_if r m e own h =
      if_ok r (AreRows g stands (bool_forms z m)) (Tells g stands z (kids_of (node g z))) (λ rows are. joined_tells g stands z rows fold lt own (subst (λ (m : Formula). AreRows g stands (bool_forms z m) rows) e are)) h
