use Rattle.std.proofs.Common.{◌∙◌, ap, ◌++◌, arith}
use Rattle.prov_arena.specs.Formulas.{Formula, FalseNode}
use Rattle.program_text.specs.Text as spec
use Rattle.program_text.proofs.Numbered.{written_start, written_step, written_end}
use Rattle.program_text.proofs.nodes.put_all.Goals as goal

pub loop-id-init : goal.loop-id-init
loop-id-init c = written_start spec.node_line c.args.prov.now c.args.out.now.items

pub loop-id-preserved : goal.loop-id-preserved
loop-id-preserved c =
    written_step spec.node_line c.args.prov.now c.loop-id.id FalseNode c.args.out.now.items c.loop-id.out.items c.put_node.new.out.items (omega (arith, c.loop-id-test.true, c.len-id-end.ensures.len))
    (c.in_ok-put_node.ensures ∙ ap (λ (f : Formula). c.loop-id.out.items ++ spec.node_line c.loop-id.id f) c.node.ensures.part)
    c.loop-id.invariant

pub returns : goal.returns
returns c = written_end spec.node_line c.args.prov.now c.loop-id.id c.args.out.now.items c.loop-id.out.items (omega (arith, c.loop-id-test.false, c.len-id-end.ensures.len)) c.loop-id.invariant
