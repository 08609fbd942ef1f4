use Rattle.std.proofs.Common.{◌∙◌, ℕ, List, IsTrue, arith}
use Rattle.std.proofs.lemmas.List.Elements.{All-more}
use Rattle.base_kit.specs.Names.{is_name}
use Rattle.tables_csv.specs.WholeTables.{names_of}
use Rattle.tables_csv.proofs.HeaderLemmas.{name_at, name_there}
use Rattle.tables_csv.proofs.Lines.{field_pushed}
use Rattle.tables_csv.proofs.write.column_fields.Goals as goal

pub loop-column-preserved : goal.loop-column-preserved
loop-column-preserved c =
    let columns = c.args.columns.now in
    let i = c.loop-column.column-index in
    let named = name_at columns i c.column-item.result (omega arith) c.column-item.is in
    record {
      front = field_pushed _ _ _ _ (names_of columns) i _ c.in_ok-push_field.ensures.fields c.loop-column.invariant.front c.loop-column.invariant.partial
          (c.as_bytes.ensures.value ∙ c.as_str.ensures.text) (name_there columns i (omega arith)) named;
      partial = c.in_ok-push_field.ensures.partial;
      names = All-more (λ (name : List ℕ). IsTrue (is_name name)) (names_of columns) i c.column-item.result.name (name_there columns i (omega arith)) c.loop-column.invariant.names
          (rw (← named) c.as_str.ensures.is_name);
    }
