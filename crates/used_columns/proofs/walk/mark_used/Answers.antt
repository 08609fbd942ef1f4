use Rattle.std.proofs.Common.{◌∙◌, ap, false}
use Rattle.std.proofs.lemmas.List.{length-replicate}
use Rattle.prov_fold.specs.Graphs.{size}
use Rattle.used_columns.specs.Marks.{marked}
use Rattle.used_columns.proofs.OrLemmas.{on_ok}
use Rattle.used_columns.proofs.NameLemmas.{are_used}
use Rattle.used_columns.proofs.walk.mark_used.Goals as goal

pub returns : goal.returns
returns c =
    let g = c.args.fold.now in
    let begun = c.mark_each.ensures ∙ ap (λ m. marked m c.args.seeds.now) c.requires.marks in
    on_ok c.mark_down.result (are_used g c.known.ensures c.args.seeds.now c.mark_each.new.marks c.mark_down.new.marks c.requires.seeds begun (length-replicate (size g) false)) c.mark_down.ensures
