use Rattle.std.proofs.Common.{◌≡◌, ap, length, arith}
use Rattle.prov_fold.specs.Graphs.{size}
use Rattle.used_columns.proofs.NameLemmas.{done_down}
use Rattle.used_columns.proofs.walk.mark_down.Goals as goal

pub loop-id-preserved : goal.loop-id-preserved
loop-id-preserved c =
    let count = c.loop-id.invariant.count in
    let all : length c.prov.result.now ≡ size c.args.fold.now = ap (λ parts. length parts) c.prov.ensures in
    done_down c.args.fold.now c.known.ensures c.loop-id.id c.args.marks.now c.loop-id.marks c.visit.new.marks (omega arith) (omega (arith, count, all)) c.in_ok-visit.ensures c.loop-id.invariant
