use Rattle.std.proofs.Common.{◌∙◌, arith, refl, sym, true≢false}
use Rattle.tables_csv.proofs.KeyLemmas.{other_keys, same_all, same_more, same_none}
use Rattle.tables_csv.proofs.keys.has_same_key.Goals as goal

pub returns-then-not-is_same : goal.returns-then-not-is_same
returns-then-not-is_same c = (
  (λ no. cc),
  (λ same. absurd (other_keys c.args.key.now c.args.one.now c.args.other.now c.loop-column.column-index (omega arith)
      (λ e. true≢false (sym (c.if-not-is_same.ensures.1 (c.get.ensures.value ∙ e ∙ sym c.get-in-loop-column.ensures.value)))) same)),
)

pub loop-column-init : goal.loop-column-init
loop-column-init c = same_none c.args.one.now c.args.other.now

pub loop-column-preserved : goal.loop-column-preserved
loop-column-preserved c =
    same_more c.args.key.now c.args.one.now c.args.other.now c.loop-column.column-index (omega arith) c.loop-column.invariant
    (sym c.get.ensures.value ∙ c.if-not-is_same.ensures.0 refl ∙ c.get-in-loop-column.ensures.value)

pub returns : goal.returns
returns c = ((λ _. same_all _ _ _ _ (omega arith) c.loop-column.invariant), (λ _. refl))
