use Rattle.std.proofs.Common.{◌≡◌, ◌∙◌, sym, ap, subst, ◌+◌, ◌<◌, ◌++◌, length}
use Rattle.prov_fold.specs.Graphs.{size}
use Rattle.used_columns.specs.Columns.{marked_stands, stands_for}
use Rattle.used_columns.proofs.RangeLemmas.{from}
use Rattle.used_columns.proofs.CountLemmas.{list_begin, list_marked, list_unmarked, own_few}
use Rattle.used_columns.proofs.layout.stands.Goals as goal
use Rattle.used_columns.proofs.layout.stands.Goals.{then-used-id+in_ok-add_own, else-used-id}

pub loop-id-init : goal.loop-id-init
loop-id-init c = list_begin c.args.fold.now c.args.worlds c.args.used.now c.in_ok-stands.stands c.in_ok-stands.ensures

pub add_own-requires-clause-few : goal.add_own-requires-clause-few
add_own-requires-clause-few c =
    let there : c.loop-id.id < size c.args.fold.now = subst (λ n. c.loop-id.id < n) (c.len-id-end.ensures.len ∙ ap (λ parts. length parts) c.prov.ensures) c.loop-id-test.true in
    own_few c.args.fold.now c.args.worlds c.args.used.now c.loop-id.id there c.loop-id.stands 100000 c.if-used-id.true c.loop-id.invariant c.requires.few

pub loop-id-preserved : goal.loop-id-preserved
loop-id-preserved c =
    let g = c.args.fold.now in
    let used = c.args.used.now in
    let all = stands_for g c.args.worlds used in
    let there : c.loop-id.id < size g = subst (λ n. c.loop-id.id < n) (c.len-id-end.ensures.len ∙ ap (λ parts. length parts) c.prov.ensures) c.loop-id-test.true in
    elim c.if-used-id.branch [
      | then-used-id+in_ok-add_own w ↦ list_marked g c.args.worlds used c.loop-id.id there c.loop-id.stands c.if-used-id.stands all w.if-used-id.true (w.stands-is ∙ w.in_ok-add_own.ensures) c.loop-id.invariant
      | else-used-id w ↦
          subst (λ made. made ++ from (marked_stands g used) (size g) (c.loop-id.id + 1) ≡ all) (sym w.stands-is)
          (list_unmarked g c.args.worlds used c.loop-id.id there c.loop-id.stands all w.if-used-id.false c.loop-id.invariant)
    ]
