use Rattle.std.proofs.Common.{rules, ◌<◌, ◌^◌, sym, subst, unsigned_abs, FitsSigned, w64, All}
use Rattle.std.proofs.Math.Facts.{to_z-of_z}
use Rattle.prov_arena.specs.declared.part.Term.{Term}
use Rattle.prov_fold.specs.Graphs.{node}
use Rattle.prov_fold.specs.Rules.{scaled}
use Rattle.used_columns.specs.Seeds.{key_terms, terms_of}
use Rattle.used_columns.proofs.rows.spread_one.Goals as goal

pub spread_node-requires-clause-small : goal.spread_node-requires-clause-small
spread_node-requires-clause-small c =
    let fits : FitsSigned w64 c.args.piece.factor = search rules in
    subst (λ f. All (λ (t : Term). unsigned_abs t.factor < 2 ^ 63) (scaled f (terms_of c.in-Node.id (node c.args.fold.now c.in-Node.id)))) (sym (to_z-of_z fits))
    (subst (λ k. All (λ (t : Term). unsigned_abs t.factor < 2 ^ 63) (scaled c.args.piece.factor (key_terms c.args.fold.now k))) c.in-Node.is c.requires.small)
