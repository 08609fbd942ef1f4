use Rattle.std.proofs.Common.{◌≡◌, ◌∙◌, sym, ap, subst, ◌<◌, ◌^◌, ℤ, pos, neg_ℤ, to_z, of_z, w64, List, [], ◌∷◌, ◌++◌, All, IfOk}
use Rattle.std.proofs.Math.Facts.{to_z-of_z}
use Rattle.ip_rows.specs.declared.rows.IpRow.{IpRow}
use Rattle.bool_encode.specs.declared.form.Piece.{Piece}
use Rattle.bool_encode.specs.Forms.{form}
use Rattle.bool_encode.specs.Columns.{IsOnMap}
use Rattle.bool_encode.specs.Rows.{IsKey, IsRowOf, weight}
use Rattle.bool_encode.specs.Tables.{times}
use Rattle.cmp_encode.specs.Tables.{selectors}
use Rattle.least_encode.proofs.Loops.{selectors_end, selectors_more}
use Rattle.least_encode.proofs.Weights.{sum_keys, sum_named, sum_weighs}
use Rattle.least_encode.proofs.forms.sum_row.Goals as goal

pieces_are : (c : goal.After-as_slice) → c.as_slice.result.now ≡ times (neg_ℤ c.args.sign) c.args.some_pair ∷ selectors c.args.sign c.args.id 0 c.args.pairs.now
pieces_are c =
    c.as_slice.ensures.value
    ∙ selectors_end c.loop-pair.pieces.items (times (neg_ℤ (to_z w64 (of_z w64 c.args.sign))) c.args.some_pair ∷ selectors (to_z w64 (of_z w64 c.args.sign)) c.args.id 0 c.args.pairs.now) (to_z w64 (of_z w64 c.args.sign)) c.args.id c.loop-pair.pair c.args.pairs.now c.loop-pair-test.false c.loop-pair.invariant
    ∙ ap (λ (s : ℤ). times (neg_ℤ s) c.args.some_pair ∷ selectors s c.args.id 0 c.args.pairs.now) (to_z-of_z c.ranges.sign)

pub loop-pair-preserved : goal.loop-pair-preserved
loop-pair-preserved c =
    selectors_more c.loop-pair.pieces.items c.push-in-loop-pair.new.self.items (times (neg_ℤ (to_z w64 (of_z w64 c.args.sign))) c.args.some_pair ∷ selectors (to_z w64 (of_z w64 c.args.sign)) c.args.id 0 c.args.pairs.now) (to_z w64 (of_z w64 c.args.sign)) c.args.id c.loop-pair.pair c.args.pairs.now (record { truth = 0; number = 0 }) c.loop-pair-test.true
    (c.in_ok-push-2.ensures.items ∙ ap (λ (p : Piece). c.loop-pair.pieces.items ++ p ∷ []) c.selects.ensures) c.loop-pair.invariant

pub form_row-requires-clause-there : goal.form_row-requires-clause-there
form_row-requires-clause-there c =
    subst (λ (ps : List Piece). All (λ (p : Piece). IsKey c.args.fold.now p.key) ps) (sym (pieces_are c)) (sum_keys c.args.fold.now c.args.map.now.stands (neg_ℤ c.args.sign) c.args.sign c.args.some_pair c.args.id c.args.pairs.now c.requires.some_pair)

pub form_row-requires-clause-named : goal.form_row-requires-clause-named
form_row-requires-clause-named c =
    subst (λ (ps : List Piece). All (λ (p : Piece). IsOnMap c.args.fold.now c.args.map.now.stands p.key) ps) (sym (pieces_are c))
    (sum_named c.args.fold.now c.args.map.now.stands (neg_ℤ c.args.sign) c.args.sign c.args.some_pair c.args.id c.args.pairs.now c.requires.some_pair c.requires.pairs.chosen)

pub form_row-requires-clause-light : goal.form_row-requires-clause-light
form_row-requires-clause-light c =
    subst (λ (ps : List Piece). weight c.args.fold.now c.args.map.now.stands (pos 0) ps < 2 ^ 63) (sym (pieces_are c)) (sum_weighs c.args.fold.now c.args.map.now.stands c.args.sign c.args.some_pair c.args.id c.args.pairs.now c.requires.sign c.requires.few c.requires.some_pair)

pub returns : goal.returns
returns c = subst (λ (ps : List Piece). IfOk c.form_row.result (λ (row : IpRow). IsRowOf c.args.fold.now c.args.map.now.stands (form (pos 0) ps) row)) (pieces_at c) c.form_row.ensures.row
  where
    pieces_at : (c : goal.After-drop-pieces-2) → c.as_slice.result.now ≡ times (neg_ℤ c.args.sign) c.args.some_pair ∷ selectors c.args.sign c.args.id 0 c.args.pairs.now
    pieces_at c =
        c.as_slice.ensures.value
        ∙ selectors_end c.loop-pair.pieces.items (times (neg_ℤ (to_z w64 (of_z w64 c.args.sign))) c.args.some_pair ∷ selectors (to_z w64 (of_z w64 c.args.sign)) c.args.id 0 c.args.pairs.now) (to_z w64 (of_z w64 c.args.sign)) c.args.id c.loop-pair.pair c.args.pairs.now c.loop-pair-test.false c.loop-pair.invariant
        ∙ ap (λ (s : ℤ). times (neg_ℤ s) c.args.some_pair ∷ selectors s c.args.id 0 c.args.pairs.now) (to_z-of_z c.ranges.sign)
