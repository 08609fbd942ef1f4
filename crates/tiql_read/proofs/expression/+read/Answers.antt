use Rattle.std.proofs.Common.{codes, false, sym, ◌∙◌, refl, subst, rules, arith}
use Rattle.tiql_tree.specs.declared.expression.TreeForm.TheViews.{Sum, Product}
use Rattle.tiql_tree.specs.Trees.{expr_at, signed}
use Rattle.tiql_read.specs.Steps.{next_at, is_sign}
use Rattle.tiql_read.specs.Outcomes.{ReadsAs}
use Rattle.tiql_read.specs.Expressions.{place_of, adds, signed_by, term_by, sum_by, factor_at, product_of, sum_of}
use Rattle.tiql_read.proofs.Loops.{left_init, left_on, left_stop, left_end, left_gives, next_left_on, next_left_stop, next_left_gives}
use Rattle.tiql_read.proofs.Nested.{factor_simple, factor_wrong, factor_opened, followed_none, followed_wrong, followed_some}
use Rattle.tiql_read.proofs.expression.+read.Goals as goal

pub factor-returns-then-not-begins_opening : goal.factor-returns-then-not-begins_opening
factor-returns-then-not-begins_opening t c =
    subst (λ r. ReadsAs c.simple.result r) (sym (factor_simple c.args.room c.args.words.now (cc))) c.simple.ensures

pub factor-returns-then-room-eq0 : goal.factor-returns-then-room-eq0
factor-returns-then-room-eq0 t c = λ left e. factor_wrong c.args.room c.args.words.now (cc) (search rules) ∙ (cc)

pub factor-returns : goal.factor-returns
factor-returns t c =
    subst (λ r. ReadsAs c.opened.result r) (sym (factor_opened c.args.room c.args.words.now (cc) (search rules))) c.opened.ensures

pub more_factors-loop-init : goal.more_factors-loop-init
more_factors-loop-init t c = left_init _ _ c.args.parts c.args.words.now

pub more_factors-loop-preserved : goal.more_factors-loop-preserved
more_factors-loop-preserved t c =
    next_left_on _ _ c.loop.parts _ _ c.loop.counter c.loop.rest.now c.in-Some.behind.now _ _ _ (omega arith) c.in-Some.ensures c.in_ok-part.ensures (search rules) c.loop.invariant

pub more_factors-returns-in_default : goal.more_factors-returns-in_default
more_factors-returns-in_default t c = next_left_stop _ _ c.loop.parts _ c.loop.rest.now _ c.in_default.ensures c.loop.invariant

pub more_factors-returns-in_err-part : goal.more_factors-returns-in_err-part
more_factors-returns-in_err-part t c =
    search (rules, next_left_gives _ _ c.loop.parts _ c.loop.counter c.loop.rest.now c.in-Some.behind.now c.in_err-part.field-0.0 _ (omega arith) c.in-Some.ensures c.in_err-part.ensures c.loop.invariant)

pub more_factors-returns : goal.more_factors-returns
more_factors-returns t c = left_end _ _ c.loop.parts _ c.loop.counter c.loop.rest.now _ (omega arith) c.loop.invariant

pub more_terms-loop-init : goal.more_terms-loop-init
more_terms-loop-init t c = left_init adds (signed_by (term_by (factor_at c.args.room))) c.args.parts c.args.words.now

pub more_terms-loop-preserved : goal.more_terms-loop-preserved
more_terms-loop-preserved t c =
    left_on adds (signed_by (term_by (factor_at c.args.room))) c.loop.parts _ _ c.loop.counter c.loop.rest.now _ _ _ (omega arith) (cc) c.in_ok-part.ensures (search rules) c.loop.invariant

pub more_terms-returns-then-not-begins_adding : goal.more_terms-returns-then-not-begins_adding
more_terms-returns-then-not-begins_adding t c = left_stop _ _ c.loop.parts _ c.loop.rest.now _ (cc) c.loop.invariant

pub more_terms-returns-in_err-part : goal.more_terms-returns-in_err-part
more_terms-returns-in_err-part t c =
    search (rules, left_gives adds (signed_by (term_by (factor_at c.args.room))) c.loop.parts _ c.loop.counter c.loop.rest.now c.in_err-part.field-0.0 _ (omega arith) (cc) c.in_err-part.ensures c.loop.invariant)

pub more_terms-returns : goal.more_terms-returns
more_terms-returns t c = left_end _ _ c.loop.parts _ c.loop.counter c.loop.rest.now _ (omega arith) c.loop.invariant

pub sum-returns-then-not-begins_adding : goal.sum-returns-then-not-begins_adding
unfolding sum_by
sum-returns-then-not-begins_adding t c =
    followed_none (term_by (factor_at c.args.room)) adds (signed_by (term_by (factor_at c.args.room))) (signed false) sum_of c.args.words.now c.in_ok-first.first c.in_ok-first.rest.now refl c.in_ok-first.ensures (cc)

pub sum-returns-in_err-parts : goal.sum-returns-in_err-parts
unfolding sum_by
sum-returns-in_err-parts t c =
    search (rules, followed_wrong (term_by (factor_at c.args.room)) adds (signed_by (term_by (factor_at c.args.room))) (signed false) sum_of c.args.words.now c.in_ok-first.first c.in_ok-first.rest.now _ c.in_err-parts.field-0.0 c.in_ok-first.ensures c.in_err-parts.ensures)

pub sum-returns : goal.sum-returns
unfolding sum_by
sum-returns t c =
    followed_some (term_by (factor_at c.args.room)) adds (signed_by (term_by (factor_at c.args.room))) (signed false) sum_of (λ parts. expr_at (place_of c.in_ok-first.first) (Sum parts)) c.args.words.now c.in_ok-first.first c.in_ok-first.rest.now _ _ _ (λ b bs. refl) c.in_ok-first.ensures (cc) (search rules) c.in_ok-parts.ensures

pub term-returns-then-not-begins_sign : goal.term-returns-then-not-begins_sign
unfolding term_by
term-returns-then-not-begins_sign t c =
    followed_none (factor_at c.args.room) (is_sign (codes "*")) (next_at (is_sign (codes "*")) (factor_at c.args.room)) (λ x. x) product_of c.args.words.now c.in_ok-first.first c.in_ok-first.rest.now refl c.in_ok-first.ensures (cc)

pub term-returns-in_err-parts : goal.term-returns-in_err-parts
unfolding term_by
term-returns-in_err-parts t c =
    search (rules, followed_wrong (factor_at c.args.room) (is_sign (codes "*")) (next_at (is_sign (codes "*")) (factor_at c.args.room)) (λ x. x) product_of c.args.words.now c.in_ok-first.first c.in_ok-first.rest.now _ c.in_err-parts.field-0.0 c.in_ok-first.ensures c.in_err-parts.ensures)

pub term-returns : goal.term-returns
unfolding term_by
term-returns t c =
    followed_some (factor_at c.args.room) (is_sign (codes "*")) (next_at (is_sign (codes "*")) (factor_at c.args.room)) (λ x. x) product_of (λ parts. expr_at (place_of c.in_ok-first.first) (Product parts)) c.args.words.now c.in_ok-first.first c.in_ok-first.rest.now _ _ _ (λ b bs. refl) c.in_ok-first.ensures (cc) (search rules) c.in_ok-parts.ensures
