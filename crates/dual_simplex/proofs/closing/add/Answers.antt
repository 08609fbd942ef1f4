use Rattle.std.proofs.Common.{sym, ◌∙◌, ap, to_z, of_z}
use Rattle.std.specs.Int.{w128}
use Rattle.std.proofs.lemmas.Int.{to_z-of_z}
use Rattle.dual_simplex.proofs.Multipliers.{no_size}
use Rattle.dual_simplex.proofs.Reach.{none_added, one_added}
use Rattle.dual_simplex.proofs.closing.add.Goals as goal

pub returns-then-num-eq0 : goal.returns-then-num-eq0
returns-then-num-eq0 c = none_added c.args.factor.now c.args.made.now.items c.args.row (sym c.num.ensures.value ∙ sym (to_z-of_z w128 c.num.result (record { sfits = c.num.type_inv })) ∙ ap (λ n. to_z w128 n) c.if-num-eq0.true)

pub returns : goal.returns
returns c = one_added c.args.factor.now c.args.made.now.items _ c.args.row (λ e. c.if-num-eq0.false (ap (of_z w128) (c.num.ensures.value ∙ no_size c.args.factor.now e))) c.in_ok-push.ensures.items
