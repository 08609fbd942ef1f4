-- how the world of an answer stands
use Rattle.std.specs.Prelude.{◌≡◌, ◌⊎◌, ℕ, List, [], Option, Some, None, slice_get}
use Rattle.tiql_query.specs.declared.query.Query.{Query}
use Rattle.tiql_query.specs.declared.relation.QHypo.{QHypo}
use Rattle.world_def.specs.declared.world.World.{World}
use Rattle.world_def.specs.Columns.{Tables}
use Rattle.world_def.specs.Meaning as meaning
use Rattle.answer_text.specs.declared.answer.WorldText.{WorldText}
use Rattle.answer_text.specs.Worlds as sections
use Rattle.world_eval.specs.declared.standing.Standing.{Standing}
use Rattle.world_eval.specs.declared.standing.Standing.TheVariants as standing

-- the name of a section, and none of one that is missing
abbrev pub section_name : Option WorldText → List ℕ
section_name None = []
section_name (Some section) = section.name

-- the name of a hypothetical table, and behind these that of the section
abbrev pub name_or : Option QHypo → List ℕ → List ℕ
name_or None name = name
name_or (Some hypo) name = hypo.name

-- the name that goes with a number
unfoldable pub name_at : Query → List WorldText → ℕ → List ℕ
name_at query worlds number = name_or (slice_get query.hypos number) (section_name (slice_get worlds number))

-- the sections are a world that is first wrong at this number
abbrev pub IsWrongWorld : Query → Tables → List WorldText → ℕ → Type 0
IsWrongWorld query tables worlds number = (world : World) × sections.IsWorldOf query tables worlds world × meaning.IsFirstWrong query tables world number

-- the first number at which the sections are no world, or else at which their world is not possible
abbrev pub IsWrongFirst : Query → Tables → List WorldText → ℕ → Type 0
IsWrongFirst query tables worlds number = sections.IsFirstWrong query tables worlds number ⊎ IsWrongWorld query tables worlds number

-- the sections are a possible world, or this is the first name that is not right
abbrev pub IsStanding : Query → Tables → List WorldText → Standing → Type 0
IsStanding query tables worlds (standing.NotPossible name) = (number : ℕ) × IsWrongFirst query tables worlds number × (name ≡ name_at query worlds number)
IsStanding query tables worlds (standing.Possible world) = sections.IsWorldOf query tables worlds world × meaning.IsPossible query tables world
