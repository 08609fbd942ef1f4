use Rattle.std.proofs.Common.{◌+◌, pos, List, length, get_or, sym, ◌∙◌, ap, subst, arith}
use Rattle.std.specs.Prelude.{Err}
use Rattle.std.proofs.lemmas.Result.{err_from_is_err_and}
use Rattle.std.proofs.lemmas.List.{get_or_default, drop_all}
use Rattle.ip_rows.specs.declared.Bounds.{Bounds}
use Rattle.branch_tree.specs.declared.node.Node.{Node}
use Rattle.branch_tree.specs.declared.node.Node.TheVariants.{Split}
use Rattle.branch_tree.specs.declared.node.Reason.TheVariants.{Plain}
use Rattle.cert_check.specs.Checks.{TellsOutcome}
use Rattle.cert_check.specs.Reasons.{Outcome, in_tree}
use Rattle.cert_check.specs.Walks.{in_nodes, boxes}
use Rattle.cert_check.proofs.Lengths.{AreLong, long_behind, long_here, long_root}
use Rattle.cert_check.proofs.Nodes.{in_none, gives_here, right_here, parts_first, whole_tree}
use Rattle.cert_check.proofs.audit.Audit.check_tree.Goals as goal

pub loop-at-init : goal.loop-at-init
loop-at-init c = record { walk = c.new-walk.ensures.walk; long = long_root _ _ c.args.root c.new-walk.ensures.boxes c.requires.long; left = ap (λ (b : List (List Bounds)). in_nodes c.args.self.now.subject.query.now c.args.self.now.subject.tables.now c.args.self.now.subject.columns.now c.args.self.now.best c.args.self.now.part c.as_slice-node-items.result.now b 1) c.new-walk.ensures.boxes }

pub check_node-requires-clause-long : goal.check_node-requires-clause-long
check_node-requires-clause-long c = long_here (length c.args.self.now.subject.columns.now) (boxes c.loop-at.walk) _ c.in-Some.sides.now c.in-Some.ensures c.loop-at.invariant.long

pub returns-in_default : goal.returns-in_default
returns-in_default c = λ whole is.
    sym (whole_tree c.args.self.now.subject.query.now c.args.self.now.subject.tables.now c.args.self.now.subject.columns.now c.args.self.now.best c.args.self.now.part whole c.as_slice-node-items.result.now c.args.root (c.as_slice-node-items.ensures ∙ c.nodes.ensures.nodes ∙ is))
    ∙ sym c.loop-at.invariant.left ∙ in_none c.args.self.now.subject.query.now c.args.self.now.subject.tables.now c.args.self.now.subject.columns.now c.args.self.now.best c.args.self.now.part _ _ _ c.in_default.ensures

pub returns-in_err-check_node : goal.returns-in_err-check_node
returns-in_err-check_node c = λ whole is.
    let nodes = c.as_slice-node-items.result.now in
    let here = get_or nodes c.loop-at.at (Split 0 (pos 0) Plain) in
    let p = err_from_is_err_and c.from_residual.result c.from_residual.ensures.1 in
    subst (λ (o : Outcome). TellsOutcome (in_tree c.args.self.now.subject.query.now c.args.self.now.subject.tables.now c.args.self.now.subject.columns.now c.args.self.now.best whole c.args.root c.args.self.now.part 1) o) (sym (p.1 ∙ ap Err p.2))
    (gives_here c.args.self.now.subject.query.now c.args.self.now.subject.tables.now c.args.self.now.subject.columns.now c.args.self.now.best c.args.self.now.part nodes c.loop-at.at here c.in-Some.sides.now (boxes c.loop-at.walk) _ c.loop-at-test.true
    (get_or_default nodes c.loop-at.at (Split 0 (pos 0) Plain) here c.loop-at-test.true) c.in-Some.ensures _ c.in_err-check_node.field-0.0 c.in_err-check_node.ensures
    (c.loop-at.invariant.left ∙ whole_tree c.args.self.now.subject.query.now c.args.self.now.subject.tables.now c.args.self.now.subject.columns.now c.args.self.now.best c.args.self.now.part whole nodes c.args.root (c.as_slice-node-items.ensures ∙ c.nodes.ensures.nodes ∙ is)))

pub pass-requires-clause-parted : goal.pass-requires-clause-parted
pass-requires-clause-parted c =
    parts_first c.args.self.now.subject.query.now c.args.self.now.subject.tables.now c.args.self.now.subject.columns.now c.args.self.now.best c.args.self.now.part (get_or c.as_slice-node-items.result.now c.loop-at.at (Split 0 (pos 0) Plain)) c.in-Some.sides.now (c.loop-at.at + 1) (boxes c.loop-at.walk) _ c.in-Some.ensures
    c.in_ok-check_node.ensures

pub loop-at-preserved : goal.loop-at-preserved
loop-at-preserved c =
    let nodes = c.as_slice-node-items.result.now in
    let here = get_or nodes c.loop-at.at (Split 0 (pos 0) Plain) in
    record {
      walk = c.in_ok-pass.ensures.walk;
      long = subst (AreLong (length c.args.self.now.subject.columns.now)) (sym c.in_ok-pass.ensures.boxes) (long_behind (length c.args.self.now.subject.columns.now) here (boxes c.loop-at.walk) c.loop-at.invariant.long);
      left = right_here c.args.self.now.subject.query.now c.args.self.now.subject.tables.now c.args.self.now.subject.columns.now c.args.self.now.best c.args.self.now.part nodes c.loop-at.at here c.in-Some.sides.now (boxes c.loop-at.walk) _ c.loop-at-test.true
          (get_or_default nodes c.loop-at.at (Split 0 (pos 0) Plain) here c.loop-at-test.true) c.in-Some.ensures _ (boxes c.pass.new.self) c.in_ok-check_node.ensures c.in_ok-pass.ensures.boxes c.loop-at.invariant.left;
    }

pub returns : goal.returns
returns c = λ whole is.
    let nodes = c.as_slice-node-items.result.now in
    sym (whole_tree c.args.self.now.subject.query.now c.args.self.now.subject.tables.now c.args.self.now.subject.columns.now c.args.self.now.best c.args.self.now.part whole nodes c.args.root (c.as_slice-node-items.ensures ∙ c.nodes.ensures.nodes ∙ is))
    ∙ sym c.loop-at.invariant.left ∙ ap (λ (l : List Node). in_nodes c.args.self.now.subject.query.now c.args.self.now.subject.tables.now c.args.self.now.subject.columns.now c.args.self.now.best c.args.self.now.part l (boxes c.loop-at.walk) (c.loop-at.at + 1)) (drop_all c.loop-at.at nodes (omega arith))
