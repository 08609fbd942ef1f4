use Rattle.std.proofs.Common.{◌≡◌, ◌+◌, [], ◌∷◌, drop, length}
use Rattle.cert_check.specs.Walks.{IsWalk, boxes, in_nodes}
use Rattle.cert_check.proofs.Lengths.{AreLong}
use Rattle.cert_check.proofs.audit.Audit.check_tree.Given as goal

abbrev pub invariant-loop-at : goal.invariant-loop-at
invariant-loop-at l = record {
  walk : IsWalk l.walk;
  long : AreLong (length l.self.subject.columns.now) (boxes l.walk);
  left : in_nodes l.self.subject.query.now l.self.subject.tables.now l.self.subject.columns.now l.self.best l.self.part (drop l.at l.node-items) (boxes l.walk) (l.at + 1)
      ≡ in_nodes l.self.subject.query.now l.self.subject.tables.now l.self.subject.columns.now l.self.best l.self.part l.node-items (l.fn.root ∷ []) 1;
}
