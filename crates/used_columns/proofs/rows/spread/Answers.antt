use Rattle.std.proofs.Common.{◌<◌, ◌^◌, pos, unsigned_abs}
use Rattle.prov_arena.specs.declared.part.Term.{Term}
use Rattle.prov_fold.specs.Rules.{scaled}
use Rattle.bool_encode.specs.declared.form.Key.TheVariants as key
use Rattle.bool_encode.specs.declared.form.Piece.{Piece}
use Rattle.used_columns.specs.Seeds.{key_terms}
use Rattle.used_columns.proofs.SeedLemmas.{flat_part}
use Rattle.used_columns.proofs.rows.spread.Goals as goal

pub spread_one-requires-clause-small : goal.spread_one-requires-clause-small
spread_one-requires-clause-small c =
    flat_part (λ (t : Term). unsigned_abs t.factor < 2 ^ 63) (λ (p : Piece). scaled p.factor (key_terms c.args.fold.now p.key)) c.args.pieces.now c.loop-piece.piece-index (record { factor = pos 0; key = key.Node 0 }) c.loop-piece-test.true c.requires.small
