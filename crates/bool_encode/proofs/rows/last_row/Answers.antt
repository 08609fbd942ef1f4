use Rattle.std.proofs.Common.{◌≡◌, ◌∙◌, sym, ap, subst, ◌<◌, ◌≤◌, ◌^◌, ℤ, neg_ℤ, unsigned_abs, to_z, of_z, w64, List, ◌∷◌, map, length, All, IfOk, arith}
use Rattle.std.proofs.Math.Facts.{to_z-of_z}
use Rattle.std.proofs.lemmas.Int.{ints}
use Rattle.ip_rows.specs.declared.rows.IpRow.{IpRow}
use Rattle.bool_encode.specs.declared.form.Piece.{Piece}
use Rattle.bool_encode.specs.Forms.{form}
use Rattle.bool_encode.specs.Columns.{IsOnMap}
use Rattle.bool_encode.specs.Rows.{IsKey, IsRowOf, weight}
use Rattle.bool_encode.specs.Tables.{times}
use Rattle.bool_encode.proofs.LightLemmas.{kid_keys, kid_named, last_light, pieces_end}
use Rattle.bool_encode.proofs.rows.last_row.Goals as goal

pieces_are : (c : goal.After-as_slice) → c.as_slice.result.now ≡ times c.args.sign c.args.id ∷ map (times (neg_ℤ c.args.sign)) c.args.kids.now
pieces_are c =
    c.as_slice.ensures.value
    ∙ pieces_end (times (neg_ℤ (to_z w64 (of_z w64 c.args.sign)))) c.args.kids.now c.loop-kid.kid-index c.loop-kid.pieces.items (times (to_z w64 (of_z w64 c.args.sign)) c.args.id ∷ map (times (neg_ℤ (to_z w64 (of_z w64 c.args.sign)))) c.args.kids.now) c.loop-kid-test.false c.loop-kid.invariant
    ∙ ap (λ (s : ℤ). times s c.args.id ∷ map (times (neg_ℤ s)) c.args.kids.now) (to_z-of_z c.ranges.sign)

pub form_row-requires-clause-there : goal.form_row-requires-clause-there
form_row-requires-clause-there c =
    subst (λ (ps : List Piece). All (λ (p : Piece). IsKey c.args.fold.now p.key) ps) (sym (pieces_are c)) (kid_keys c.args.fold.now c.args.map.now.stands c.args.sign (neg_ℤ c.args.sign) c.args.id c.args.kids.now c.requires.kids)

pub form_row-requires-clause-named : goal.form_row-requires-clause-named
form_row-requires-clause-named c =
    subst (λ (ps : List Piece). All (λ (p : Piece). IsOnMap c.args.fold.now c.args.map.now.stands p.key) ps) (sym (pieces_are c))
    (kid_named c.args.fold.now c.args.map.now.stands c.args.sign (neg_ℤ c.args.sign) c.args.id c.args.kids.now c.requires.kids)

pub form_row-requires-clause-light : goal.form_row-requires-clause-light
form_row-requires-clause-light c =
    let few : length c.args.kids.now < 2 ^ 61 = omega arith in
    let other : unsigned_abs (neg_ℤ c.args.sign) ≤ 1 = omega (arith, ints, c.requires.sign) in
    let light = last_light c.args.fold.now c.args.map.now.stands c.args.constant c.args.sign (neg_ℤ c.args.sign) c.args.id c.args.kids.now c.requires.sign other c.requires.constant few c.requires.kids in
    subst (λ (n : ℤ). weight c.args.fold.now c.args.map.now.stands n c.as_slice.result.now < 2 ^ 63) (sym (to_z-of_z c.ranges.constant))
    (subst (λ (ps : List Piece). weight c.args.fold.now c.args.map.now.stands c.args.constant ps < 2 ^ 63) (sym (pieces_are c)) light)

pub returns : goal.returns
returns c =
    subst (λ (n : ℤ). IfOk c.form_row.result (λ (row : IpRow). IsRowOf c.args.fold.now c.args.map.now.stands (form n (times c.args.sign c.args.id ∷ map (times (neg_ℤ c.args.sign)) c.args.kids.now)) row)) (to_z-of_z c.ranges.constant)
    (subst (λ (ps : List Piece). IfOk c.form_row.result (λ (row : IpRow). IsRowOf c.args.fold.now c.args.map.now.stands (form (to_z w64 (of_z w64 c.args.constant)) ps) row)) (pieces_at c) c.form_row.ensures.row)
  where
    pieces_at : (c : goal.After-drop-pieces-2) → c.as_slice.result.now ≡ times c.args.sign c.args.id ∷ map (times (neg_ℤ c.args.sign)) c.args.kids.now
    pieces_at c =
        c.as_slice.ensures.value
        ∙ pieces_end (times (neg_ℤ (to_z w64 (of_z w64 c.args.sign)))) c.args.kids.now c.loop-kid.kid-index c.loop-kid.pieces.items (times (to_z w64 (of_z w64 c.args.sign)) c.args.id ∷ map (times (neg_ℤ (to_z w64 (of_z w64 c.args.sign)))) c.args.kids.now) c.loop-kid-test.false c.loop-kid.invariant
        ∙ ap (λ (s : ℤ). times s c.args.id ∷ map (times (neg_ℤ s)) c.args.kids.now) (to_z-of_z c.ranges.sign)
