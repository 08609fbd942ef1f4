use Rattle.std.proofs.Common.{arith}
use Rattle.std.proofs.lemmas.Result.{err_from_is_err_and}
use Rattle.answer_text.specs.declared.world.WorldFault.TheVariants as fault
use Rattle.answer_text.proofs.Worlds.{surplus, world_no_fault}
use Rattle.answer_text.proofs.world.world_of.Goals as goal

pub returns-in_err-found-clause-no_world : goal.returns-in_err-found-clause-no_world
returns-in_err-found-clause-no_world c =
    let p = err_from_is_err_and c.from_residual.result c.from_residual.ensures.1 in
    rw (p.1, p.2) (λ ne world is. world_no_fault c.args.query.now c.args.tables.now c.args.worlds.now world _ is (c.in_err-found.ensures.fault ne))

pub returns-then-len-clause-fault : goal.returns-then-len-clause-fault
returns-then-len-clause-fault c =
    λ ne. rw c.len-then-len.ensures (surplus c.args.query.now c.args.tables.now c.args.worlds.now c.in_ok-found.found c.in_ok-found.ensures.found (omega (arith, c.len.ensures, c.len-2.ensures)))

pub returns-then-len-clause-no_world : goal.returns-then-len-clause-no_world
returns-then-len-clause-no_world c =
    λ ne world is. world_no_fault c.args.query.now c.args.tables.now c.args.worlds.now world (fault.NoTable c.len-then-len.result) is (returns-then-len-clause-fault c ne)
