use Rattle.std.proofs.Common.{rules, arith}
use Rattle.tiql_read.proofs.Loops.{left_none, left_on, left_stop, left_end, left_gives}
use Rattle.tiql_read.proofs.whole.declarations.Goals as goal

pub loop-init : goal.loop-init
loop-init c = rw c.new-decls.ensures (left_none _ _ c.args.words.now)

pub loop-preserved : goal.loop-preserved
loop-preserved c =
    left_on _ _ c.loop.decls _ _ c.loop.counter c.loop.rest.now _ _ _ (omega arith) (cc) c.in_ok-decl.ensures (search rules) c.loop.invariant

pub returns-then-not-begins_declaration : goal.returns-then-not-begins_declaration
returns-then-not-begins_declaration c = left_stop _ _ c.loop.decls _ c.loop.rest.now _ (cc) c.loop.invariant

pub returns-in_err-decl : goal.returns-in_err-decl
returns-in_err-decl c =
    search (rules, left_gives _ _ c.loop.decls _ c.loop.counter c.loop.rest.now c.in_err-decl.field-0.0 _ (omega arith) (cc) c.in_err-decl.ensures c.loop.invariant)

pub returns : goal.returns
returns c = left_end _ _ c.loop.decls _ c.loop.counter c.loop.rest.now _ (omega arith) c.loop.invariant
