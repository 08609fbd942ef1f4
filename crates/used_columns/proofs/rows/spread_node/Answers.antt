use Rattle.std.proofs.Common.{◌<◌, ◌^◌, ◌∙◌, sym, ap, subst, unsigned_abs, All}
use Rattle.std.proofs.Math.Facts.{to_z-of_z}
use Rattle.prov_arena.specs.declared.part.Term.{Term}
use Rattle.prov_arena.specs.Graphs.{at}
use Rattle.prov_fold.specs.Rules.{scaled}
use Rattle.used_columns.specs.Seeds.{terms_of}
use Rattle.used_columns.proofs.rows.spread_node.Goals as goal

pub add_scaled-requires-in-Lin : goal.add_scaled-requires-in-Lin
add_scaled-requires-in-Lin c =
    subst (λ f. All (λ (t : Term). unsigned_abs t.factor < 2 ^ 63) (scaled f c.in-Lin.more.now)) (sym (to_z-of_z c.ranges.factor))
    (subst (λ m. All (λ (t : Term). unsigned_abs t.factor < 2 ^ 63) (scaled c.args.factor (terms_of c.args.id m))) (sym (c.in-Lin.ensures.part ∙ ap (λ parts. at parts c.args.id) c.prov.ensures)) c.requires.small)
