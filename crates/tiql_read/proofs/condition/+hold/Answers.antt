use Rattle.std.proofs.Common.{codes, sym, ◌∙◌, refl, subst, rules, arith}
use Rattle.tiql_tree.specs.declared.condition.TreeCond.TheViews.{And, Or}
use Rattle.tiql_read.specs.Steps.{next_at, is_key}
use Rattle.tiql_read.specs.Outcomes.{ReadsAs}
use Rattle.tiql_read.specs.Conditions.{and_by, or_by, unit_at, and_of, or_of}
use Rattle.tiql_read.proofs.Loops.{left_init, left_end, next_left_on, next_left_stop, next_left_gives}
use Rattle.tiql_read.proofs.Nested.{unit_compared, unit_wrong, unit_opened, followed_none, followed_wrong, followed_some}
use Rattle.tiql_read.proofs.condition.+hold.Goals as goal

pub unit-returns-then-not-begins_opening : goal.unit-returns-then-not-begins_opening
unit-returns-then-not-begins_opening t c =
    subst (λ r. ReadsAs c.compared.result r) (sym (unit_compared c.args.room c.args.words.now (cc))) c.compared.ensures

pub unit-returns-then-room-eq0 : goal.unit-returns-then-room-eq0
unit-returns-then-room-eq0 t c = λ left e. unit_wrong c.args.room c.args.words.now (cc) (search rules) ∙ (cc)

pub unit-returns : goal.unit-returns
unit-returns t c =
    subst (λ r. ReadsAs c.opened.result r) (sym (unit_opened c.args.room c.args.words.now (cc) (search rules))) c.opened.ensures

pub more_alternatives-loop-init : goal.more_alternatives-loop-init
more_alternatives-loop-init t c = left_init _ _ c.args.parts c.args.words.now

pub more_alternatives-loop-preserved : goal.more_alternatives-loop-preserved
more_alternatives-loop-preserved t c =
    next_left_on _ _ c.loop.parts _ _ c.loop.counter c.loop.rest.now c.in-Some.behind.now _ _ _ (omega arith) c.in-Some.ensures c.in_ok-part.ensures (search rules) c.loop.invariant

pub more_alternatives-returns-in_default : goal.more_alternatives-returns-in_default
more_alternatives-returns-in_default t c = next_left_stop _ _ c.loop.parts _ c.loop.rest.now _ c.in_default.ensures c.loop.invariant

pub more_alternatives-returns-in_err-part : goal.more_alternatives-returns-in_err-part
more_alternatives-returns-in_err-part t c =
    search (rules, next_left_gives _ _ c.loop.parts _ c.loop.counter c.loop.rest.now c.in-Some.behind.now c.in_err-part.field-0.0 _ (omega arith) c.in-Some.ensures c.in_err-part.ensures c.loop.invariant)

pub more_alternatives-returns : goal.more_alternatives-returns
more_alternatives-returns t c = left_end _ _ c.loop.parts _ c.loop.counter c.loop.rest.now _ (omega arith) c.loop.invariant

pub alternatives-returns-then-not-begins_key : goal.alternatives-returns-then-not-begins_key
unfolding or_by
alternatives-returns-then-not-begins_key t c =
    followed_none (and_by (unit_at c.args.room)) (is_key (codes "OR")) (next_at (is_key (codes "OR")) (and_by (unit_at c.args.room))) (λ x. x) or_of c.args.words.now c.in_ok-first.first c.in_ok-first.rest.now refl c.in_ok-first.ensures (cc)

pub alternatives-returns-in_err-parts : goal.alternatives-returns-in_err-parts
unfolding or_by
alternatives-returns-in_err-parts t c =
    search (rules, followed_wrong (and_by (unit_at c.args.room)) (is_key (codes "OR")) (next_at (is_key (codes "OR")) (and_by (unit_at c.args.room))) (λ x. x) or_of c.args.words.now c.in_ok-first.first c.in_ok-first.rest.now _ c.in_err-parts.field-0.0 c.in_ok-first.ensures c.in_err-parts.ensures)

pub alternatives-returns : goal.alternatives-returns
unfolding or_by
alternatives-returns t c =
    followed_some (and_by (unit_at c.args.room)) (is_key (codes "OR")) (next_at (is_key (codes "OR")) (and_by (unit_at c.args.room))) (λ x. x) or_of (λ parts. Or parts) c.args.words.now c.in_ok-first.first c.in_ok-first.rest.now _ _ _ (λ b bs. refl) c.in_ok-first.ensures (cc) (search rules) c.in_ok-parts.ensures

pub more_together-loop-init : goal.more_together-loop-init
more_together-loop-init t c = left_init _ _ c.args.parts c.args.words.now

pub more_together-loop-preserved : goal.more_together-loop-preserved
more_together-loop-preserved t c =
    next_left_on _ _ c.loop.parts _ _ c.loop.counter c.loop.rest.now c.in-Some.behind.now _ _ _ (omega arith) c.in-Some.ensures c.in_ok-part.ensures (search rules) c.loop.invariant

pub more_together-returns-in_default : goal.more_together-returns-in_default
more_together-returns-in_default t c = next_left_stop _ _ c.loop.parts _ c.loop.rest.now _ c.in_default.ensures c.loop.invariant

pub more_together-returns-in_err-part : goal.more_together-returns-in_err-part
more_together-returns-in_err-part t c =
    search (rules, next_left_gives _ _ c.loop.parts _ c.loop.counter c.loop.rest.now c.in-Some.behind.now c.in_err-part.field-0.0 _ (omega arith) c.in-Some.ensures c.in_err-part.ensures c.loop.invariant)

pub more_together-returns : goal.more_together-returns
more_together-returns t c = left_end _ _ c.loop.parts _ c.loop.counter c.loop.rest.now _ (omega arith) c.loop.invariant

pub together-returns-then-not-begins_key : goal.together-returns-then-not-begins_key
unfolding and_by
together-returns-then-not-begins_key t c =
    followed_none (unit_at c.args.room) (is_key (codes "AND")) (next_at (is_key (codes "AND")) (unit_at c.args.room)) (λ x. x) and_of c.args.words.now c.in_ok-first.first c.in_ok-first.rest.now refl c.in_ok-first.ensures (cc)

pub together-returns-in_err-parts : goal.together-returns-in_err-parts
unfolding and_by
together-returns-in_err-parts t c =
    search (rules, followed_wrong (unit_at c.args.room) (is_key (codes "AND")) (next_at (is_key (codes "AND")) (unit_at c.args.room)) (λ x. x) and_of c.args.words.now c.in_ok-first.first c.in_ok-first.rest.now _ c.in_err-parts.field-0.0 c.in_ok-first.ensures c.in_err-parts.ensures)

pub together-returns : goal.together-returns
unfolding and_by
together-returns t c =
    followed_some (unit_at c.args.room) (is_key (codes "AND")) (next_at (is_key (codes "AND")) (unit_at c.args.room)) (λ x. x) and_of (λ parts. And parts) c.args.words.now c.in_ok-first.first c.in_ok-first.rest.now _ _ _ (λ b bs. refl) c.in_ok-first.ensures (cc) (search rules) c.in_ok-parts.ensures
