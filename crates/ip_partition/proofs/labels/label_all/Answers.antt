use Rattle.std.proofs.Common.{◌≡◌, ◌+◌, ◌-◌, ◌<◌, ℕ, Vec, Global, length, get_or, refl, ap, subst, arith}
use Rattle.ip_partition.specs.Spreading.{IsSpread}
use Rattle.ip_partition.proofs.ColumnLemmas.{room_same}
use Rattle.ip_partition.proofs.LabelLemmas.{labels_begin, labels_skip, labels_gain, labels_end, labelled_same}
use Rattle.ip_partition.proofs.labels.label_all.Goals as goal
use Rattle.ip_partition.proofs.labels.label_all.Goals.{then-labels-column-eq0+in_ok-begin_part, else-labels-column-eq0}

pub loop-column-init : goal.loop-column-init
loop-column-init c = labels_begin c.args.grid.now c.args.columns.now c.args.labels.now c.args.seen.now _ c.requires.none c.requires.unseen c.new-reached.ensures.items

pub bounds-labels-column : goal.bounds-labels-column
bounds-labels-column c = omega (arith, c.requires.within c.loop-column.column-index 0 (omega arith))

pub begin_part-requires-clause-room : goal.begin_part-requires-clause-room
begin_part-requires-clause-room c = room_same c.args.grid.now (length c.args.labels.now) (length c.args.seen.now) _ _ c.loop-column.auto.labels c.loop-column.auto.seen c.requires.room

pub begin_part-requires-clause-within : goal.begin_part-requires-clause-within
begin_part-requires-clause-within c = omega (arith, c.requires.within c.loop-column.column-index 0 (omega arith))

pub begin_part-requires-clause-begun : goal.begin_part-requires-clause-begun
begin_part-requires-clause-begun c =
    let same : c.loop-column.count ≡ c.loop-column.count + 1 - 1 = omega arith in
    subst (λ n. IsSpread c.args.grid.now n (length c.loop-column.reached.items) c.loop-column.labels c.loop-column.seen c.loop-column.reached.items) same c.loop-column.invariant.spread

pub loop-column-preserved : goal.loop-column-preserved
loop-column-preserved c =
    let column = get_or c.args.columns.now c.loop-column.column-index 0 in
    let same : length c.loop-column.labels ≡ length c.args.labels.now = c.loop-column.auto.labels in
    let below : get_or c.args.columns.now c.loop-column.column-index 0 < length c.args.labels.now = c.requires.within c.loop-column.column-index 0 c.loop-column-test.true in
    elim c.if-labels-column-eq0.branch [
      | then-labels-column-eq0+in_ok-begin_part w ↦
          labelled_same _ _ _ _ _ _ _ _ _ _ _ w.count-is w.labels-is w.seen-is (ap (λ (v : Vec ℕ Global). v.items) w.reached-is)
          (labels_gain c.args.grid.now c.args.columns.now c.loop-column.column-index c.loop-column.count c.loop-column.labels c.loop-column.seen c.loop-column.reached.items c.loop-column.invariant
          w.begin_part.new.labels w.begin_part.new.seen w.begin_part.new.reached.items column refl w.if-labels-column-eq0.true (omega arith) w.in_ok-begin_part.ensures)
      | else-labels-column-eq0 w ↦
          labelled_same _ _ _ _ _ _ _ _ _ _ _ w.count-is w.labels-is w.seen-is (ap (λ (v : Vec ℕ Global). v.items) w.reached-is)
          (labels_skip c.args.grid.now c.args.columns.now c.loop-column.column-index c.loop-column.count c.loop-column.labels c.loop-column.seen c.loop-column.reached.items c.loop-column.invariant w.if-labels-column-eq0.false)
    ]

pub returns : goal.returns
returns c =
    labels_end c.args.grid.now c.args.columns.now c.loop-column.column-index c.loop-column.count c.loop-column.labels c.loop-column.seen c.loop-column.reached.items
    c.loop-column-test.false c.loop-column.auto.column-index-end c.loop-column.invariant
