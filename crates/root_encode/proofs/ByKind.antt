-- What is asked of a truth of each kind, and what it takes.
use Rattle.std.proofs.Common.{◌≡◌, ◌∙◌, sym, ap, subst, ℕ, zero, suc, ◌+◌, ◌<◌, pos, negsuc, ◌-ℤ◌, Bool, true, false, not, cond, List, [], ◌∷◌, ◌++◌, map, flat_map, length, get_or, take, All, arith, append_assoc, append-nil}
use Rattle.ip_rows.specs.declared.rows.IpRow.{IpRow}
use Rattle.prov_arena.specs.Formulas.{Formula, FalseNode, TrueNode, PresNode, PosNode, NotNode, AndNode, OrNode, kids_of}
use Rattle.prov_fold.specs.Graphs.{Graph, node, size, range, Fits, HasTruth}
use Rattle.prov_fold.specs.Folds.{IsFold}
use Rattle.bool_encode.specs.declared.stand.Stand.{Stand}
use Rattle.bool_encode.specs.Forms.{Form, form}
use Rattle.bool_encode.specs.Rows.{AreRows, IsJoinedOn}
use Rattle.bool_encode.specs.Tables.{times}
use Rattle.bool_encode.proofs.LightLemmas.{truth_light}
use Rattle.cmp_encode.proofs.Weights.{number_light}
use Rattle.root_encode.specs.Roots.{AreJoinedOn, root_forms, sum_form, pos_form, pres_form}
use Rattle.root_encode.specs.Light.{IsLightNode}
use Rattle.root_encode.specs.Told.{Adds}
use Rattle.root_encode.proofs.Asked.{asked_is}
use Rattle.root_encode.proofs.Meant.{plain_truth}

module _ (g : Graph) (fold : IsFold g) (z : ℕ) (lt : z < size g) where
  -- ---- what is asked, by the kind

  pub not_is : (b : Bool) (t : ℕ) → NotNode t ≡ node g z → root_forms g (not b) t ≡ root_forms g b z
  not_is true t e = asked_is g fold true z (NotNode t) lt e
  not_is false t e = asked_is g fold false z (NotNode t) lt e

  pub and_held : (b : Bool) (kids : List ℕ) → AndNode kids ≡ node g z → b ≡ true → flat_map (root_forms g b) kids ≡ root_forms g b z
  and_held true kids e h = asked_is g fold true z (AndNode kids) lt e
  and_held false kids e h = cc

  pub and_lacks : (b : Bool) (kids : List ℕ) → AndNode kids ≡ node g z → b ≡ false → sum_form (pos (length kids) -ℤ pos 1) (negsuc 0) kids ∷ [] ≡ root_forms g b z
  and_lacks false kids e h = asked_is g fold false z (AndNode kids) lt e
  and_lacks true kids e h = cc

  pub or_held : (b : Bool) (kids : List ℕ) → OrNode kids ≡ node g z → b ≡ true → sum_form (negsuc 0) (pos 1) kids ∷ [] ≡ root_forms g b z
  or_held true kids e h = asked_is g fold true z (OrNode kids) lt e
  or_held false kids e h = cc

  pub or_lacks : (b : Bool) (kids : List ℕ) → OrNode kids ≡ node g z → b ≡ false → flat_map (root_forms g b) kids ≡ root_forms g b z
  or_lacks false kids e h = asked_is g fold false z (OrNode kids) lt e
  or_lacks true kids e h = cc

  pub pos_is : (b : Bool) (n : ℕ) → PosNode n ≡ node g z → pos_form b n ∷ [] ≡ root_forms g b z
  pos_is true n e = asked_is g fold true z (PosNode n) lt e
  pos_is false n e = asked_is g fold false z (PosNode n) lt e

  pub pres_is : (b : Bool) (column : ℕ) → PresNode column ≡ node g z → pres_form b z ∷ [] ≡ root_forms g b z
  pres_is true column e = asked_is g fold true z (PresNode column) lt e
  pres_is false column e = asked_is g fold false z (PresNode column) lt e

  pub false_is : (b : Bool) → FalseNode ≡ node g z → cond (not b) [] (form (negsuc 0) [] ∷ []) ≡ root_forms g b z
  false_is true e = asked_is g fold true z FalseNode lt e
  false_is false e = asked_is g fold false z FalseNode lt e

  pub true_is : (b : Bool) → TrueNode ≡ node g z → cond b [] (form (negsuc 0) [] ∷ []) ≡ root_forms g b z
  true_is true e = asked_is g fold true z TrueNode lt e
  true_is false e = asked_is g fold false z TrueNode lt e

  -- ---- the places that are named

  fits_as : (m : Formula) → m ≡ node g z → Fits g (range g z) m
  fits_as m e = subst (Fits g (range g z)) (sym e) (fold.fits z lt)

  pub below : (m : Formula) → m ≡ node g z → All (λ k. k < z) (kids_of m)
  below m e = subst (λ (m : Formula). All (λ k. k < z) (kids_of m)) (sym e) (fold.graph.below z lt)

  pub not_kid : (t : ℕ) → NotNode t ≡ node g z → HasTruth g t
  not_kid t e = let k = below (NotNode t) e 0 0 (omega arith) in record { below = omega (arith, k, lt); kind = plain_truth (node g t) (fits_as (NotNode t) e).typed }

  pub and_kids : (kids : List ℕ) → AndNode kids ≡ node g z → All (λ k. HasTruth g k) kids
  and_kids kids e = λ j d less. let k = below (AndNode kids) e j d less in record { below = omega (arith, k, lt); kind = (fits_as (AndNode kids) e).typed j d less }

  pub or_kids : (kids : List ℕ) → OrNode kids ≡ node g z → All (λ k. HasTruth g k) kids
  or_kids kids e = λ j d less. let k = below (OrNode kids) e j d less in record { below = omega (arith, k, lt); kind = (fits_as (OrNode kids) e).typed j d less }

  module _ (stands : List Stand) where
    light_kids : (kids : List ℕ) → All (λ k. HasTruth g k) kids → All (IsLightNode g stands 2) kids
    light_kids kids truths = λ j d less. record { there = (truths j d less).below; light = truth_light g stands (get_or kids j d) (truths j d less).kind }

    pub and_light : (kids : List ℕ) → AndNode kids ≡ node g z → All (IsLightNode g stands 2) kids
    and_light kids e = light_kids kids (and_kids kids e)

    pub or_light : (kids : List ℕ) → OrNode kids ≡ node g z → All (IsLightNode g stands 2) kids
    or_light kids e = light_kids kids (or_kids kids e)

    pub pos_light : (n : ℕ) → PosNode n ≡ node g z → IsLightNode g stands 300000000000000000 n
    pos_light n e =
        let k = below (PosNode n) e 0 0 (omega arith) in
        record { there = omega (arith, k, lt); light = number_light g stands n fold (omega (arith, k, lt)) (fits_as (PosNode n) e).typed }

    -- what is left of the single form
    abbrev Joined : List Form → Type 0
    Joined forms = AreJoinedOn g stands forms

    pub and_joined : (b : Bool) (kids : List ℕ) → AndNode kids ≡ node g z → b ≡ false → Joined (root_forms g b z) → IsJoinedOn g stands (map (times (negsuc 0)) kids)
    and_joined b kids e h named = (subst Joined (sym (and_lacks b kids e h)) named).0

    pub or_joined : (b : Bool) (kids : List ℕ) → OrNode kids ≡ node g z → b ≡ true → Joined (root_forms g b z) → IsJoinedOn g stands (map (times (pos 1)) kids)
    or_joined b kids e h named = (subst Joined (sym (or_held b kids e h)) named).0

    pub pos_joined : (b : Bool) (n : ℕ) → PosNode n ≡ node g z → Joined (root_forms g b z) → IsJoinedOn g stands (pos_form b n).pieces
    pos_joined b n e named = (subst Joined (sym (pos_is b n e)) named).0

    pub pres_joined : (b : Bool) (column : ℕ) → PresNode column ≡ node g z → Joined (root_forms g b z) → IsJoinedOn g stands (pres_form b z).pieces
    pres_joined b column e named = (subst Joined (sym (pres_is b column e)) named).0

-- ---- truths in turn

module _ (g : Graph) (stands : List Stand) where
  left_joined : (xs ys : List Form) → AreJoinedOn g stands (xs ++ ys) → AreJoinedOn g stands xs
  left_joined [] ys h = tt
  left_joined (x ∷ xs) ys h = (h.0, left_joined xs ys h.1)

  right_joined : (xs ys : List Form) → AreJoinedOn g stands (xs ++ ys) → AreJoinedOn g stands ys
  right_joined [] ys h = h
  right_joined (x ∷ xs) ys h = right_joined xs ys h.1

  -- what is left of the forms of one among truths
  pub one_joined : (f : ℕ → List Form) (kids : List ℕ) (i : ℕ) → i < length kids → AreJoinedOn g stands (flat_map f kids) → AreJoinedOn g stands (f (get_or kids i 0))
  one_joined f [] i lt h = absurd (omega (arith, lt))
  one_joined f (k ∷ kids) zero lt h = left_joined (f k) (flat_map f kids) h
  one_joined f (k ∷ kids) (suc i) lt h = one_joined f kids i (omega (arith, lt)) (right_joined (f k) (flat_map f kids) h)

rows_both : (g : Graph) (stands : List Stand) (xs ys : List Form) (made more : List IpRow) → AreRows g stands xs made → AreRows g stands ys more → AreRows g stands (xs ++ ys) (made ++ more)
rows_both g stands [] ys [] more h k = k
rows_both g stands [] ys (row ∷ made) more h k = absurd h
rows_both g stands (x ∷ xs) ys [] more h k = absurd h
rows_both g stands (x ∷ xs) ys (row ∷ made) more h k = (h.0, rows_both g stands xs ys made more h.1 k)

flat_suc : (f : ℕ → List Form) (kids : List ℕ) (i : ℕ) → i < length kids → flat_map f (take (suc i) kids) ≡ flat_map f (take i kids) ++ f (get_or kids i 0)
flat_suc f [] i lt = absurd (omega (arith, lt))
flat_suc f (k ∷ kids) zero lt = append-nil (f k)
flat_suc f (k ∷ kids) (suc i) lt = ap (λ (l : List Form). f k ++ l) (flat_suc f kids i (omega (arith, lt))) ∙ sym (append_assoc (f k) (flat_map f (take i kids)) (f (get_or kids i 0)))

flat_more : (f : ℕ → List Form) (kids : List ℕ) (i : ℕ) → i < length kids → flat_map f (take (i + 1) kids) ≡ flat_map f (take i kids) ++ f (get_or kids i 0)
flat_more f kids i lt = let more : i + 1 ≡ suc i = omega arith in ap (λ (n : ℕ). flat_map f (take n kids)) more ∙ flat_suc f kids i lt

-- rows were appended, and then those of one truth more
pub adds_more : (g : Graph) (stands : List Stand) (f : ℕ → List Form) (kids : List ℕ) (i : ℕ) (before mid after : List IpRow) → i < length kids → Adds g stands (flat_map f (take i kids)) before mid → Adds g stands (f (get_or kids i 0)) mid after
    → Adds g stands (flat_map f (take (i + 1) kids)) before after
adds_more g stands f kids i before mid after lt a b =
    record {
      made = a.made ++ b.made;
      all = b.all ∙ ap (λ (l : List IpRow). l ++ b.made) a.all ∙ append_assoc before a.made b.made;
      are = subst (λ (fs : List Form). AreRows g stands fs (a.made ++ b.made)) (sym (flat_more f kids i lt)) (rows_both g stands (flat_map f (take i kids)) (f (get_or kids i 0)) a.made b.made a.are b.are);
    }
