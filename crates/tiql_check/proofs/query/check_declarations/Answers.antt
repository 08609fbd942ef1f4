use Rattle.std.proofs.Common.{arith, rules}
use Rattle.tiql_check.specs.Sound.{with_decl}
use Rattle.tiql_check.proofs.Turns.{turn-step, turn-err, turn-end}
use Rattle.tiql_check.proofs.query.check_declarations.Goals as goal

pub loop-decl-preserved : goal.loop-decl-preserved
loop-decl-preserved c = turn-step with_decl c.args.decls.now _ _ _ _ _ (omega arith) c.decl-item.is c.in_ok-add_decl.ensures c.loop-decl.invariant

pub returns-in_err-add_decl : goal.returns-in_err-add_decl
returns-in_err-add_decl c = search (rules, turn-err with_decl c.args.decls.now _ _ _ _ _ (omega arith) c.decl-item.is c.in_err-add_decl.ensures c.loop-decl.invariant)

pub returns : goal.returns
returns c = turn-end with_decl c.args.decls.now _ _ _ (omega arith) c.loop-decl.invariant
