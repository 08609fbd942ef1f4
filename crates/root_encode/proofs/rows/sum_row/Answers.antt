use Rattle.std.proofs.Common.{◌≡◌, ◌∙◌, sym, ap, subst, ◌<◌, ◌^◌, ℤ, to_z, of_z, w64, List, map, length, All, arith}
use Rattle.std.proofs.Math.Facts.{to_z-of_z}
use Rattle.bool_encode.specs.declared.form.Piece.{Piece}
use Rattle.bool_encode.specs.Rows.{IsJoinedOn, IsKey, weight}
use Rattle.bool_encode.specs.Tables.{times}
use Rattle.bool_encode.proofs.LightLemmas.{pieces_end}
use Rattle.root_encode.proofs.Sums.{keys, light}
use Rattle.root_encode.proofs.rows.sum_row.Goals as goal

pieces_are : (c : goal.After-as_slice) → c.as_slice.result.now ≡ map (times c.args.sign) c.args.kids.now
pieces_are c =
    c.as_slice.ensures.value
    ∙ pieces_end (times (to_z w64 (of_z w64 c.args.sign))) c.args.kids.now c.loop-kid.kid-index c.loop-kid.pieces.items (map (times (to_z w64 (of_z w64 c.args.sign))) c.args.kids.now) c.loop-kid-test.false c.loop-kid.invariant
    ∙ ap (λ (s : ℤ). map (times s) c.args.kids.now) (to_z-of_z c.ranges.sign)

pub joined_row-requires-clause-there : goal.joined_row-requires-clause-there
joined_row-requires-clause-there c =
    subst (λ (ps : List Piece). All (λ (p : Piece). IsKey c.args.fold.now p.key) ps) (sym (pieces_are c)) (keys c.args.fold.now c.args.map.now.stands c.args.sign c.args.kids.now c.requires.kids)

pub joined_row-requires-clause-named : goal.joined_row-requires-clause-named
joined_row-requires-clause-named c = subst (IsJoinedOn c.args.fold.now c.args.map.now.stands) (sym (pieces_are c)) c.requires.named

pub joined_row-requires-clause-light : goal.joined_row-requires-clause-light
joined_row-requires-clause-light c =
    let few : length c.args.kids.now < 2 ^ 61 = omega arith in
    let small = light c.args.fold.now c.args.map.now.stands c.args.constant c.args.sign c.args.kids.now c.requires.sign c.requires.constant few c.requires.kids in
    subst (λ (n : ℤ). weight c.args.fold.now c.args.map.now.stands n c.as_slice.result.now < 2 ^ 63) (sym (to_z-of_z c.ranges.constant))
    (subst (λ (ps : List Piece). weight c.args.fold.now c.args.map.now.stands c.args.constant ps < 2 ^ 63) (sym (pieces_are c)) small)
