use Rattle.std.proofs.Common.{rules}
use Rattle.std.proofs.lemmas.Slice.Eq.{slice_eq-Decides}
use Rattle.prov_arena.proofs.Items.{term_Decides}
use Rattle.prov_arena.proofs.words.same_terms.Goals as goal

pub returns : goal.returns
returns c =
    let h = slice_eq-Decides term_Decides c.args.a.now c.args.b.now c.eq.result c.eq.ensures in
    search (rules, h.0, h.1)
