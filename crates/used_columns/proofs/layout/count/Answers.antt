use Rattle.std.proofs.Common.{◌≡◌, ◌∙◌, sym, ap, subst, ◌+◌, ◌<◌, length}
use Rattle.prov_arena.specs.Graphs.{at}
use Rattle.prov_fold.specs.Graphs.{node, size}
use Rattle.used_columns.specs.Columns.{marked_stands, own_stands, stands_for}
use Rattle.used_columns.proofs.RangeLemmas.{from}
use Rattle.used_columns.proofs.CountLemmas.{count_begin, count_marked, count_unmarked}
use Rattle.used_columns.proofs.layout.count.Goals as goal
use Rattle.used_columns.proofs.layout.count.Goals.{then-used-id+in_ok-count, else-used-id}

pub loop-id-init : goal.loop-id-init
loop-id-init c = count_begin c.args.fold.now c.args.worlds c.args.used.now

pub loop-id-preserved : goal.loop-id-preserved
loop-id-preserved c =
    let g = c.args.fold.now in
    let total = length (stands_for g c.args.worlds c.args.used.now) in
    let there : c.loop-id.id < size g = subst (λ n. c.loop-id.id < n) (c.len-id-end.ensures.len ∙ ap (λ parts. length parts) c.prov.ensures) c.loop-id-test.true in
    elim c.if-used-id.branch [
      | then-used-id+in_ok-count w ↦
          let own : w.own_count.result ≡ length (own_stands c.loop-id.id (node g c.loop-id.id)) = w.own_count.ensures c.loop-id.id ∙ ap (λ m. length (own_stands c.loop-id.id m)) (w.node.ensures.part ∙ ap (λ parts. at parts c.loop-id.id) w.prov-then-used-id.ensures) in
          count_marked g c.args.worlds c.args.used.now c.loop-id.id there c.loop-id.count c.if-used-id.count total w.if-used-id.true (w.count-is ∙ w.in_ok-count.ensures ∙ ap (λ n. c.loop-id.count + n) own) c.loop-id.invariant
      | else-used-id w ↦
          subst (λ n. n + length (from (marked_stands g c.args.used.now) (size g) (c.loop-id.id + 1)) ≡ total) (sym w.count-is)
          (count_unmarked g c.args.worlds c.args.used.now c.loop-id.id there c.loop-id.count total w.if-used-id.false c.loop-id.invariant)
    ]
