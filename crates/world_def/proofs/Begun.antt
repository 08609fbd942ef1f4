-- where no view is made yet
use Rattle.std.proofs.Common.{◌≡◌, ◌∙◌, sym, ap, subst, refl, ℕ, zero, suc, List, [], ◌∷◌, length, Option, Some, None}
use Rattle.std.specs.Prelude.{slice_get, Ok}
use Rattle.std.proofs.lemmas.Option.{none-some, same_Some}
use Rattle.tiql_query.specs.declared.relation.Source.TheVariants as sources
use Rattle.tiql_query.specs.declared.query.Query.{Query}
use Rattle.world_def.specs.declared.world.World.{World}
use Rattle.world_def.specs.Columns.{Rows, Tables}
use Rattle.world_def.specs.Views.{rows_asked}
use Rattle.world_def.specs.Made.{none_of, AreMade}

length-none : (n : ℕ) → length (none_of n) ≡ n
unfolding none_of
length-none zero = refl
length-none (suc n) = ap suc (length-none n)

none_there : (n k : ℕ) (rows : Rows) → slice_get (none_of n) k ≡ Some (Some rows) → ⊥
unfolding none_of
none_there zero k rows e = none-some (Some rows) e
none_there (suc n) zero rows e = none-some rows (same_Some None (Some rows) e)
none_there (suc n) (suc k) rows e = none_there n k rows e

pub none_right : (query : Query) (tables : Tables) (world : World) (views : List (Option Rows)) → views ≡ none_of (length query.views) → AreMade query tables world views
none_right query tables world views is =
    record { long = ap length is ∙ length-none (length query.views); right = λ n rows there. absurd (none_there (length query.views) n rows (ap (λ l. slice_get l n) (sym is) ∙ there)) }
