use Rattle.std.proofs.Common.{◌++◌, codes, map, sym, ◌∙◌, ap, arith, rules}
use Rattle.tiql_tree.specs.declared.write_condition.CondRoom.TheVariants as room
use Rattle.tiql_tree.specs.Printed.{cond_made}
use Rattle.tiql_tree.specs.CondRooms.{cond_bytes, or_bytes, and_bytes}
use Rattle.tiql_tree.proofs.Making.{ok_same, ok_between, ok_behind}
use Rattle.tiql_tree.proofs.CondMaking.{bytes_Compare, bytes_Not, bytes_And, bytes_And_in, bytes_Or, bytes_Or_in, no_or, no_and, or_init, and_init}
use Rattle.tiql_tree.proofs.write_condition.+put_cond.Goals as goal

pub put_cond-returns-in-Compare : goal.put_cond-returns-in-Compare
put_cond-returns-in-Compare t c = rw (bytes_Compare c.args.room c.args.cond.now _ _ _ c.in-Compare.is) (search rules)

pub put_cond-returns-in_ok-put-in-Not : goal.put_cond-returns-in_ok-put-in-Not
put_cond-returns-in_ok-put-in-Not t c =
    ok_behind _ _ _ _ _ _ _ (bytes_Not c.args.room c.args.cond.now c.in-Not.part c.in-Not.is ∙ ap (λ p. codes "NOT " ++ cond_bytes room.Unit (cond_made p)) (sym c.get.ensures))
    c.in_ok-put-in-Not.ensures c.put_cond.ensures

pub put_cond-returns-then-takes_and : goal.put_cond-returns-then-takes_and
put_cond-returns-then-takes_and t c =
    ok_same _ _ _ _ _ (bytes_And c.args.room c.args.cond.now c.in-And.parts (sym c.takes_and.ensures ∙ c.if-takes_and.true) c.in-And.is ∙ ap (λ ps. and_bytes (map cond_made ps)) (sym c.as_slice.ensures)) c.put_and.ensures

pub put_cond-returns-in_ok-put_and-in-And : goal.put_cond-returns-in_ok-put_and-in-And
put_cond-returns-in_ok-put_and-in-And t c =
    ok_between _ _ _ _ _ _ _ _ _ (bytes_And_in c.args.room c.args.cond.now c.in-And.parts (sym c.takes_and.ensures ∙ c.if-takes_and.false) c.in-And.is ∙ ap (λ ps. codes "[ " ++ (and_bytes (map cond_made ps) ++ codes "] ")) (sym c.as_slice-in-And.ensures))
    c.in_ok-put-in-And.ensures c.in_ok-put_and-in-And.ensures c.put-in-And-2.ensures

pub put_cond-returns-then-takes_or : goal.put_cond-returns-then-takes_or
put_cond-returns-then-takes_or t c =
    ok_same _ _ _ _ _ (bytes_Or c.args.room c.args.cond.now c.in-Or.parts (sym c.takes_or.ensures ∙ c.if-takes_or.true) c.in-Or.is ∙ ap (λ ps. or_bytes (map cond_made ps)) (sym c.as_slice-then-takes_or.ensures)) c.put_or.ensures

pub put_cond-returns-in_ok-put_or-in-Or : goal.put_cond-returns-in_ok-put_or-in-Or
put_cond-returns-in_ok-put_or-in-Or t c =
    ok_between _ _ _ _ _ _ _ _ _ (bytes_Or_in c.args.room c.args.cond.now c.in-Or.parts (sym c.takes_or.ensures ∙ c.if-takes_or.false) c.in-Or.is ∙ ap (λ ps. codes "[ " ++ (or_bytes (map cond_made ps) ++ codes "] ")) (sym c.as_slice-in-Or.ensures))
    c.in_ok-put-in-Or.ensures c.in_ok-put_or-in-Or.ensures c.put-in-Or-2.ensures

pub put_and-returns-in_default : goal.put_and-returns-in_default
put_and-returns-in_default t c = ok_same _ _ _ _ _ (no_and c.args.parts.now (search rules)) c.put.ensures

pub put_or-returns-in_default : goal.put_or-returns-in_default
put_or-returns-in_default t c = ok_same _ _ _ _ _ (no_or c.args.parts.now (search rules)) c.put.ensures

pub put_or-loop-part-init : goal.put_or-loop-part-init
put_or-loop-part-init t c = or_init c.args.parts.now c.first-item.result _ _ (omega (arith, c.in-len1-up.len_at_least)) c.first-item.is c.in_ok-put_cond.ensures

pub put_and-loop-part-init : goal.put_and-loop-part-init
put_and-loop-part-init t c = and_init c.args.parts.now c.first-item.result _ _ (omega (arith, c.in-len1-up.len_at_least)) c.first-item.is c.in_ok-put_cond.ensures
