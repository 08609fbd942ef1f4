-- At a point at which each node on the map has its value on a world: what forms, roots and the aim come to.
use Rattle.std.proofs.Common.{◌≡◌, ◌∙◌, sym, ap, subst, refl, ℕ, suc, ◌<◌, ℤ, pos, negsuc, ◌+ℤ◌, ◌*ℤ◌, neg_ℤ, ◌≤ℤ◌, Bool, true, false, ◌&&◌, List, [], ◌∷◌, ◌++◌, get_or, All, Contains, Option, Some, None, arith}
use Rattle.std.specs.List.{list_all}
use Rattle.std.proofs.lemmas.Int.{ints}
use Rattle.ip_rows.specs.declared.rows.IpRow.{IpRow}
use Rattle.ip_rows.specs.declared.program.Program.{Program}
use Rattle.ip_rows.specs.Programs.{Holds, sum_at}
use Rattle.prov_fold.specs.Graphs.{Graph, size, HasTruth}
use Rattle.prov_fold.specs.Folds.{IsFold}
use Rattle.prov_fold.specs.Meanings.{values_in}
use Rattle.prov_fold.specs.Values.{HasNumbers, holds}
use Rattle.prov_fold.proofs.SameLemmas.{All_cons, All_head, All_tail}
use Rattle.bool_encode.specs.declared.form.Key.TheVariants as key
use Rattle.bool_encode.specs.declared.stand.Stand.{Stand}
use Rattle.bool_encode.specs.Columns.{IsOnMap, reading}
use Rattle.bool_encode.specs.Forms.{Form, form_at}
use Rattle.bool_encode.specs.Rows.{AreRows, HoldsOver, IsRowOf}
use Rattle.bool_encode.specs.Tellings.{IsRight}
use Rattle.bool_encode.proofs.Each.{All_none}
use Rattle.bool_encode.proofs.Numbers.{times_one}
use Rattle.root_encode.specs.Roots.{root_forms}
use Rattle.root_encode.specs.Told.{AreRight, TellsRoot, value_of}
use Rattle.root_encode.proofs.Telling.{root_tells}
use Rattle.used_columns.specs.Seeds.{IsSeed}
use Rattle.used_columns.proofs.Linear.{IsNodePiece, seeds_fix}
use Rattle.used_columns.proofs.Readings.{reading_linear, values_linear}
use Rattle.tiql_query.specs.declared.aim.Aim.{Aim}
use Rattle.tiql_query.specs.declared.aim.Aim.TheVariants as aims
use Rattle.world_points.specs.Points.{cost}
use Rattle.sym_query.specs.Meant.{aim_in}
use Rattle.program_rows.specs.Goals.{aim_form, goal_forms}
use Rattle.agg_encode.specs.Built.{goal_of}
use Rattle.agg_encode.specs.Encoding.{value_at}
use Rattle.agg_encode.proofs.RootNodes.{AreNodes}

-- ---- rows of two lots of forms

pub record Parted (g : Graph) (stands : List Stand) (xs ys : List Form) (rows : List IpRow) : Type 0 where
  pub left : List IpRow
  pub right : List IpRow
  pub whole : left ++ right ≡ rows
  pub first : AreRows g stands xs left
  pub second : AreRows g stands ys right

pub parted : (g : Graph) (stands : List Stand) (xs ys : List Form) (rows : List IpRow) → AreRows g stands (xs ++ ys) rows → Parted g stands xs ys rows
parted g stands [] ys rows are = record { left = []; right = rows; whole = refl; first = tt; second = are }
parted g stands (x ∷ xs) ys [] are = absurd are
parted g stands (x ∷ xs) ys (row ∷ rows) are =
    let rest = parted g stands xs ys rows are.1 in
    record { left = row ∷ rest.left; right = rest.right; whole = ap (λ (l : List IpRow). row ∷ l) rest.whole; first = (are.0, rest.first); second = rest.second }

pub all_left : {A : Type 0} (P : A → Type 0) (xs ys : List A) → All P (xs ++ ys) → All P xs
all_left P [] ys h = All_none P
all_left P (x ∷ xs) ys h = All_cons P x xs (All_head P x (xs ++ ys) h) (all_left P xs ys (All_tail P x (xs ++ ys) h))

pub all_right : {A : Type 0} (P : A → Type 0) (xs ys : List A) → All P (xs ++ ys) → All P ys
all_right P [] ys h = h
all_right P (x ∷ xs) ys h = all_right P xs ys (All_tail P x (xs ++ ys) h)

pub all_both : {A : Type 0} (P : A → Type 0) (xs ys : List A) → All P xs → All P ys → All P (xs ++ ys)
all_both P [] ys h k = k
all_both P (x ∷ xs) ys h k = All_cons P x (xs ++ ys) (All_head P x xs h) (all_both P xs ys (All_tail P x xs h) k)

-- ---- rows over 1

pub over_one : (point : List ℤ) (rows : List IpRow) → All (Holds point) rows → All (HoldsOver 1 point) rows
over_one point rows h = λ k d lt. subst (λ (n : ℤ). n ≤ℤ sum_at point (get_or rows k d).terms) (sym (times_one (get_or rows k d).least)) (h k d lt)

pub from_one : (point : List ℤ) (rows : List IpRow) → All (HoldsOver 1 point) rows → All (Holds point) rows
from_one point rows h = λ k d lt. subst (λ (n : ℤ). n ≤ℤ sum_at point (get_or rows k d).terms) (times_one (get_or rows k d).least) (h k d lt)

-- ---- what is minimized

and_left : (b c : Bool) → (b && c) ≡ true → b ≡ true
and_left true c e = refl
and_left false c e = e

and_right : (b c : Bool) → (b && c) ≡ true → c ≡ true
and_right true c e = e
and_right false c e = cc

and_both : (b c : Bool) → b ≡ true → c ≡ true → (b && c) ≡ true
and_both b c e f = rw (e, f) refl

small_worth : (v : ℤ) → pos 0 *ℤ pos 1 +ℤ (pos 1 *ℤ (v *ℤ pos 1) +ℤ pos 0) ≡ v
small_worth v = omega (arith, ints)

great_worth : (v : ℤ) → pos 0 *ℤ pos 1 +ℤ (negsuc 0 *ℤ (v *ℤ pos 1) +ℤ pos 0) ≡ neg_ℤ v
great_worth v = omega (arith, ints)

-- the aim's form comes to the score, as it is minimized
pub aim_worth : (g : Graph) (world : List ℤ) (aim : Aim) (number : Option ℕ) (s : ℤ) → aim_in (values_in g world) number ≡ s → (aim ≡ aims.Find → s ≡ pos 0) → form_at 1 (λ k. value_of g world k *ℤ pos 1) (aim_form (goal_of aim number)) ≡ cost aim s
unfolding cost
aim_worth g world aims.Find None s is none = sym (none refl)
aim_worth g world aims.Find (Some id) s is none = sym (none refl)
aim_worth g world (aims.Sum true source part) None s is none = ap neg_ℤ is
aim_worth g world (aims.Sum false source part) None s is none = is
aim_worth g world (aims.Sum true source part) (Some id) s is none = great_worth (values_in g world id) ∙ ap neg_ℤ is
aim_worth g world (aims.Sum false source part) (Some id) s is none = small_worth (values_in g world id) ∙ is

value_by : (c l s f : ℤ) → c ≡ neg_ℤ l → s ≡ f +ℤ l *ℤ pos 1 → c +ℤ s ≡ f
value_by c l s f e is = omega (arith, ints, e, is)

module _ (g : Graph) (fold : IsFold g) (stands : List Stand) (world : List ℤ) (has : HasNumbers g world) (point : List ℤ) (right : (z : ℕ) → z < size g → IsOnMap g stands (key.Node z) → IsRight g stands world 1 point z) where
  -- each seed of the form has its column
  abbrev pub IsSown : Form → Type 0
  IsSown r = (z : ℕ) → IsSeed g r.pieces z → (z < size g) × IsOnMap g stands (key.Node z)

  -- such a form comes to what it is on the world
  pub form_right : (r : Form) → All (IsNodePiece g) r.pieces → IsSown r → form_at 1 (reading g stands 1 point) r ≡ form_at 1 (λ k. value_of g world k *ℤ pos 1) r
  form_right r nodes sown =
      seeds_fix g 1 (reading g stands 1 point) (λ k. value_of g world k *ℤ pos 1) (reading_linear g fold stands 1 point) (values_linear g fold world has 1 (λ k. value_of g world k *ℤ pos 1) (λ z. refl)) r.constant r.pieces nodes
      (λ z seed. let its = sown z seed in right z its.0 its.1)

  pub forms_right : (forms : List Form) → AreNodes g forms → ((r : Form) → Contains forms r → IsSown r) → AreRight g stands world 1 point forms
  forms_right [] nodes sown = tt
  forms_right (r ∷ forms) nodes sown = (
    form_right r (All_head (λ (r : Form). All (IsNodePiece g) r.pieces) r forms nodes) (sown r (0, omega arith, refl)),
    forms_right forms (All_tail (λ (r : Form). All (IsNodePiece g) r.pieces) r forms nodes) (λ s c. sown s (suc c.0, (let lt = c.1 in omega (arith, lt)), c.2)),
  )

  right_left : (xs ys : List Form) → AreRight g stands world 1 point (xs ++ ys) → AreRight g stands world 1 point xs
  right_left [] ys h = tt
  right_left (x ∷ xs) ys h = (h.0, right_left xs ys h.1)

  right_right : (xs ys : List Form) → AreRight g stands world 1 point (xs ++ ys) → AreRight g stands world 1 point ys
  right_right [] ys h = h
  right_right (x ∷ xs) ys h = right_right xs ys h.1

  -- the rows of a root
  root_both : (z : ℕ) (rows : List IpRow) → HasTruth g z → AreRows g stands (root_forms g true z) rows → AreRight g stands world 1 point (root_forms g true z)
      → (All (HoldsOver 1 point) rows → holds (values_in g world) z ≡ true) × (holds (values_in g world) z ≡ true → All (HoldsOver 1 point) rows)
  unfolding TellsRoot
  root_both z rows truth are all =
      let told = root_tells g stands z rows fold truth are world 1 point (record { numbers = has; some = omega arith; right = all }) in
      (λ h. told.0 h, λ e. told.1 e)

  -- the rows of all roots hold exactly where all roots hold
  pub roots_held : (roots : List ℕ) (rows : List IpRow) → All (HasTruth g) roots → AreRows g stands (goal_forms g roots) rows → AreRight g stands world 1 point (goal_forms g roots) → All (HoldsOver 1 point) rows → list_all (holds (values_in g world)) roots ≡ true
  roots_held [] rows truths are all h = refl
  roots_held (z ∷ roots) rows truths are all h =
      let parts = parted g stands (root_forms g true z) (goal_forms g roots) rows are in
      let whole = subst (All (HoldsOver 1 point)) (sym parts.whole) h in
      and_both (holds (values_in g world) z) (list_all (holds (values_in g world)) roots)
      ((root_both z parts.left (All_head (HasTruth g) z roots truths) parts.first (right_left (root_forms g true z) (goal_forms g roots) all)).0 (all_left (HoldsOver 1 point) parts.left parts.right whole))
      (roots_held roots parts.right (All_tail (HasTruth g) z roots truths) parts.second (right_right (root_forms g true z) (goal_forms g roots) all) (all_right (HoldsOver 1 point) parts.left parts.right whole))

  pub roots_hold : (roots : List ℕ) (rows : List IpRow) → All (HasTruth g) roots → AreRows g stands (goal_forms g roots) rows → AreRight g stands world 1 point (goal_forms g roots) → list_all (holds (values_in g world)) roots ≡ true → All (HoldsOver 1 point) rows
  roots_hold [] [] truths are all e = All_none (HoldsOver 1 point)
  roots_hold [] (row ∷ rows) truths are all e = absurd are
  roots_hold (z ∷ roots) rows truths are all e =
      let parts = parted g stands (root_forms g true z) (goal_forms g roots) rows are in
      let one = holds (values_in g world) z in
      let rest = list_all (holds (values_in g world)) roots in
      subst (All (HoldsOver 1 point)) parts.whole
      (all_both (HoldsOver 1 point) parts.left parts.right
      ((root_both z parts.left (All_head (HasTruth g) z roots truths) parts.first (right_left (root_forms g true z) (goal_forms g roots) all)).1 (and_left one rest e))
      (roots_hold roots parts.right (All_tail (HasTruth g) z roots truths) parts.second (right_right (root_forms g true z) (goal_forms g roots) all) (and_right one rest e)))

  -- the value at the point
  pub value_is : (program : Program) (r : Form) (row : IpRow) → IsRowOf g stands r row → program.aim ≡ row.terms → program.constant ≡ neg_ℤ row.least → All (IsNodePiece g) r.pieces → IsSown r
      → value_at program point ≡ form_at 1 (λ k. value_of g world k *ℤ pos 1) r
  value_is program r row is terms constant nodes sown =
      value_by program.constant row.least (sum_at point program.aim) (form_at 1 (reading g stands 1 point) r) constant (ap (sum_at point) terms ∙ is.same 1 point) ∙ form_right r nodes sown
