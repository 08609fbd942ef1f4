use Rattle.std.proofs.Common.{◌≡◌, ◌∙◌, ap, subst, sym, ◌<◌, ◌+◌, ◌*◌, ◌^◌, ℤ, ◌+ℤ◌, ◌*ℤ◌, neg_ℤ, unsigned_abs, to_z, of_z, FitsSigned, w64, List, rules}
use Rattle.std.proofs.Math.Facts.{to_z-of_z}
use Rattle.prov_fold.specs.Sums.{added_by, total_by}
use Rattle.bool_encode.specs.declared.form.Piece.{Piece}
use Rattle.bool_encode.specs.declared.stand.Stand.{Stand}
use Rattle.bool_encode.specs.Columns.{constant_of}
use Rattle.bool_encode.specs.Scraps.{spread}
use Rattle.bool_encode.proofs.JoinLemmas.{row_made}
use Rattle.bool_encode.proofs.LightLemmas.{scraps_light, constants_light}
use Rattle.bool_encode.proofs.form.joined_row.Goals as goal

pub joined-requires : goal.joined-requires
joined-requires c =
    scraps_light c.args.fold.now c.args.map.now.stands c.args.constant c.args.pieces.now c.in_ok-scraps.scraps.items
    (c.in_ok-scraps.ensures ∙ ap (λ (ss : List Stand). spread c.args.fold.now ss c.args.pieces.now) c.as_slice.ensures) c.requires.light

pub least-requires-clause-light : goal.least-requires-clause-light
least-requires-clause-light c =
    subst (λ (n : ℤ). unsigned_abs n + added_by (λ (p : Piece). unsigned_abs p.factor * unsigned_abs (constant_of c.args.fold.now p.key)) c.args.pieces.now < 2 ^ 63) (sym (to_z-of_z c.ranges.constant))
    (constants_light c.args.fold.now c.args.map.now.stands c.args.constant c.args.pieces.now c.requires.light)

pub returns : goal.returns
returns c =
    let fits : FitsSigned w64 c.least.result = search rules in
    let least : to_z w64 (of_z w64 c.least.result) ≡ neg_ℤ (c.args.constant +ℤ total_by (λ (p : Piece). p.factor *ℤ constant_of c.args.fold.now p.key) c.args.pieces.now) =
    to_z-of_z fits ∙ c.least.ensures ∙ ap (λ (n : ℤ). neg_ℤ (n +ℤ total_by (λ (p : Piece). p.factor *ℤ constant_of c.args.fold.now p.key) c.args.pieces.now)) (to_z-of_z c.ranges.constant) in
    record {
      row = row_made c.args.fold.now c.args.map.now.stands c.args.constant c.args.pieces.now c.in_ok-scraps.scraps.items c.in_ok-joined.ensures.0
          (c.in_ok-scraps.ensures ∙ ap (λ (ss : List Stand). spread c.args.fold.now ss c.args.pieces.now) c.as_slice.ensures) c.in_ok-joined.ensures.1 c.in_ok-joined.ensures.2 c.requires.named _ _ c.in_ok-joined.ensures.3 least;
    }
