-- where the columns are within their limits, there are few of them
use Rattle.std.proofs.Common.{◌≡◌, ◌≤◌, Bool, true, false, List, length, refl, arith, if◌then◌else◌}
use Rattle.std.specs.Prelude.{Result, Ok, Err, nat_lt}
use Rattle.tiql_query.specs.declared.world_column.WorldColumn.{WorldColumn}
use Rattle.job_intake.specs.declared.refusal.Refusal.{Refusal}
use Rattle.job_intake.specs.declared.refusal.Refusal.TheVariants as refusal
use Rattle.job_intake.specs.Bounding.{limits, unfixed}

pub few_columns : (columns : List WorldColumn) (u : Unit {0}) → Ok u ≡ limits columns → length columns ≤ 100000
unfolding limits
few_columns columns u e = by_test (nat_lt 100000 (length columns)) refl e
  where
    by_test : (b : Bool) → nat_lt 100000 (length columns) ≡ b → ◌≡◌ {A = Result (Unit {0}) Refusal} (Ok tt) (if b then Err (refusal.TooManyColumns (length columns)) else if nat_lt 1024 (unfixed columns) then Err (refusal.PartTooLarge (unfixed columns)) else Ok tt) → length columns ≤ 100000
    by_test true t h = absurd cc
    by_test false t h = grind arith
