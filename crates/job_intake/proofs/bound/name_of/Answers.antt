use Rattle.std.proofs.Common.{ℕ, List, [], ap, ◌∙◌}
use Rattle.std.specs.Prelude.{Option, option_map, unwrap_or}
use Rattle.tiql_query.specs.declared.relation.QHypo.{QHypo}
use Rattle.job_intake.specs.Bounding.{hypo_name}
use Rattle.job_intake.proofs.bound.name_of.Goals as goal

name_in : Option QHypo → List ℕ
name_in found = unwrap_or (option_map (λ hypo. hypo.name) found) []

pub returns-in_ok-from_slice-in-Some : goal.returns-in_ok-from_slice-in-Some
unfolding hypo_name name_in
returns-in_ok-from_slice-in-Some c = c.in_ok-from_slice-in-Some.ensures ∙ c.as_bytes.ensures.value ∙ c.as_str.ensures.text ∙ ap name_in c.in-Some.ensures.value

pub returns-in-None : goal.returns-in-None
unfolding hypo_name name_in
returns-in-None c = c.new.ensures ∙ ap name_in c.in-None.ensures.value
