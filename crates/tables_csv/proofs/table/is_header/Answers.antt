use Rattle.std.proofs.Common.{◌∙◌, arith}
use Rattle.tables_csv.proofs.Fields.{other_names, same_names}
use Rattle.tables_csv.proofs.HeaderLemmas.{name_at, name_there}
use Rattle.tables_csv.proofs.table.is_header.Goals as goal

pub returns-then-ne : goal.returns-then-ne
returns-then-ne c = (
  (λ no. cc),
  (λ same. absurd (other_names _ _ _ _ _ _ _ c.get.ensures.value c.ne.ensures c.if-ne.true (name_there c.args.columns.now c.loop-at.at (omega arith)) (c.as_bytes.ensures.value ∙ c.as_str.ensures.text)
      (name_at c.args.columns.now c.loop-at.at c.index-columns-at.result (omega arith) c.index-columns-at.is) same)),
)

pub loop-at-preserved : goal.loop-at-preserved
loop-at-preserved c =
    same_names _ _ _ _ _ _ _ c.get.ensures.value c.ne.ensures c.if-ne.false (name_there c.args.columns.now c.loop-at.at (omega arith)) (c.as_bytes.ensures.value ∙ c.as_str.ensures.text)
    (name_at c.args.columns.now c.loop-at.at c.index-columns-at.result (omega arith) c.index-columns-at.is) c.loop-at.invariant
