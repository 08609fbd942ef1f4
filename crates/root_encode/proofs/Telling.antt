-- The rows of a root tell that it holds.
use Rattle.std.proofs.Common.{◌≡◌, ◌∙◌, sym, ap, subst, refl, ℕ, suc, ℤ, pos, ◌*ℤ◌, ◌≤ℤ◌, true, List, [], ◌∷◌, ◌++◌, get_or, arith}
use Rattle.ip_rows.specs.declared.rows.IpRow.{IpRow}
use Rattle.prov_fold.specs.Graphs.{Graph, HasTruth}
use Rattle.prov_fold.specs.Folds.{IsFold}
use Rattle.prov_fold.specs.Meanings.{values_in}
use Rattle.bool_encode.specs.declared.form.Key.{Key}
use Rattle.bool_encode.specs.declared.form.Key.TheVariants as key
use Rattle.bool_encode.specs.declared.stand.Stand.{Stand}
use Rattle.bool_encode.specs.Columns.{reading}
use Rattle.bool_encode.specs.Forms.{Form, Hold}
use Rattle.bool_encode.specs.Rows.{AreRows}
use Rattle.bool_encode.proofs.FormLemmas.{NamesOnly, nodes, Is, down, up}
use Rattle.bool_encode.proofs.RowLemmas.{rows_hold, hold_rows}
use Rattle.root_encode.specs.Roots.{root_forms}
use Rattle.root_encode.specs.Told.{value_of, AreRight, TellsRoot, Adds}
use Rattle.root_encode.proofs.Meant.{meant}

module _ (g : Graph) (stands : List Stand) (world : List ℤ) (d : ℕ) (point : List ℤ) where
  -- what a key is on the world, over d
  abbrev here : Key → ℤ
  here k = value_of g world k *ℤ pos d

  is_here : (k : Key) → Is d here (nodes (values_in g world)) k
  is_here (key.Node z) = refl
  is_here (key.Selector z pair) = refl

  names : (forms : List Form) → NamesOnly (Is d here (nodes (values_in g world))) forms
  names [] = tt
  names (r ∷ forms) = (λ j p lt. is_here (get_or r.pieces j p).key, names forms)

  -- the forms hold at the point exactly where they do on the world
  to_world : (forms : List Form) → AreRight g stands world d point forms → Hold d (reading g stands d point) forms → Hold d here forms
  to_world [] right h = tt
  to_world (r ∷ forms) right h = (subst (λ (x : ℤ). pos 0 ≤ℤ x) right.0 h.0, to_world forms right.1 h.1)

  to_point : (forms : List Form) → AreRight g stands world d point forms → Hold d here forms → Hold d (reading g stands d point) forms
  to_point [] right h = tt
  to_point (r ∷ forms) right h = (subst (λ (x : ℤ). pos 0 ≤ℤ x) (sym right.0) h.0, to_point forms right.1 h.1)

pub root_tells : (g : Graph) (stands : List Stand) (z : ℕ) (rows : List IpRow) → IsFold g → HasTruth g z → AreRows g stands (root_forms g true z) rows → TellsRoot g stands z rows
unfolding TellsRoot root_forms
root_tells g stands z rows fold truth are = λ world d point ready.
    let means = meant g world fold ready.numbers (suc z) true z (omega arith) truth.below truth.kind in
    let named = names g stands world d point (root_forms g true z) in (
      λ h. means.0 (down d (here g stands world d point) (nodes (values_in g world)) ready.some (root_forms g true z) named (to_world g stands world d point (root_forms g true z) ready.right (rows_hold g stands d point (root_forms g true z) rows are h))),
      λ is. hold_rows g stands d point (root_forms g true z) rows are (to_point g stands world d point (root_forms g true z) ready.right (up d (here g stands world d point) (nodes (values_in g world)) (root_forms g true z) named (means.1 is))),
    )

-- what was appended to no rows
pub adds_all : (g : Graph) (stands : List Stand) (forms : List Form) (before after : List IpRow) → before ≡ [] → Adds g stands forms before after → AreRows g stands forms after
adds_all g stands forms before after none a = subst (AreRows g stands forms) (sym (a.all ∙ ap (λ (rows : List IpRow). rows ++ a.made) none)) a.are
