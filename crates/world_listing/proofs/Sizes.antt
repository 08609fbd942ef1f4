-- How large what a listing holds may be: its columns, and the costs of its worlds.
use Rattle.std.proofs.Common.{◌≡◌, ℕ, ◌+◌, ◌<◌, ◌≤◌, ◌^◌, ℤ, pos, Bool, true, false, List, [], ◌∷◌, ◌++◌, length, map, refl, subst, arith, if◌then◌else◌, length-append}
use Rattle.std.specs.Prelude.{Option, Some, None, option_map, Result, Ok, Err, unsigned_abs, nat_lt, is_none}
use Rattle.std.proofs.lemmas.Bool.Decides.{nat_tests}
use Rattle.std.proofs.lemmas.Int.{ints}
use mir.Val.{SFits}
use mir.Syntax.{w64}
use Rattle.base_kit.specs.Asking.{and_then, all_of}
use Rattle.base_kit.specs.declared.value.Value.{Value}
use Rattle.tiql_query.specs.declared.aim.Aim.{Aim}
use Rattle.tiql_query.specs.declared.aim.Aim.TheVariants as aims
use Rattle.tiql_query.specs.declared.expression.Expr.{Expr}
use Rattle.tiql_query.specs.declared.relation.QBound.{QBound}
use Rattle.tiql_query.specs.declared.relation.QHypo.{QHypo}
use Rattle.tiql_query.specs.declared.query.Query.{Query}
use Rattle.tiql_query.specs.declared.world_column.WorldColumn.{WorldColumn}
use Rattle.world_def.specs.declared.fault.BoundsFault.TheVariants as fault
use Rattle.row_values.specs.declared.fault.Wide.{Wide}
use Rattle.world_def.specs.declared.world.World.{World}
use Rattle.row_values.specs.Asked.{asked, passes, within}
use Rattle.row_values.specs.Values.{total}
use Rattle.world_def.specs.Columns.{Rows, Tables, cell_column, columns_of, inside, presence_column, rows_of, with_cell, with_column, with_hypo, with_presence, with_row}
use Rattle.world_def.specs.Judging as judging
use Rattle.world_def.specs.Judging.{broken_from, named, score_asked, sum_over}
use Rattle.world_def.specs.Views.{rows_asked}
use Rattle.world_def.specs.Turns.{turns}
use Rattle.row_values.proofs.Agreed.{and_then-Ok, same_answer}
use Rattle.world_points.specs.Points.{is_of_world, judged, judged_at, world_at, cost}

-- what each turn keeps, all keep
turns_keep : {E S X : Type 0} (P : S → Type 0) (f : ℕ → X → S → Result S E) → ((n : ℕ) (x : X) (s t : S) → P s → f n x s ≡ Ok t → P t) →
    (n : ℕ) (xs : List X) (s t : S) → P s → turns f n xs s ≡ Ok t → P t
unfolding turns
turns_keep P f step n [] s t h e = subst P (same_answer s t e) h
turns_keep P f step n (x ∷ xs) s t h e =
    let both = and_then-Ok (f n x s) (λ more. turns f (n + 1) xs more) t e in
    turns_keep P f step (n + 1) xs both.0 t (step n x s both.0 h both.1) both.2

-- at most 20,000,000 columns
abbrev IsFew : List WorldColumn → Type 0
IsFew columns = length columns ≤ 20000000

column_few : (column : WorldColumn) (made more : List WorldColumn) → with_column column made ≡ Ok more → IsFew more
unfolding with_column
column_few column made more = by_test (nat_lt (length made) 20000000) refl
  where
    by_test : (b : Bool) → nat_lt (length made) 20000000 ≡ b → (if b then Ok (made ++ column ∷ []) else Err fault.TooManyWorldColumns) ≡ Ok more → length more ≤ 20000000
    by_test true e h =
        let same : made ++ column ∷ [] ≡ more = same_answer (made ++ column ∷ []) more h in
        let few : length made < 20000000 = grind (arith, nat_tests) in
        subst (λ (l : List WorldColumn). length l ≤ 20000000) same (omega (arith, few, length-append made (column ∷ [])))
    by_test false e h = cc

cell_few : (hypo : ℕ) (droppable : Bool) (at : ℕ) (row : List Value) (place : ℕ) (bound : QBound) (made more : List WorldColumn) → IsFew made → with_cell hypo droppable at row place bound made ≡ Ok more → IsFew more
unfolding with_cell
cell_few hypo droppable at row place bound made more few e =
    let both = and_then-Ok (cell_column hypo droppable at row bound) (λ column. with_column column made) more e in
    column_few both.0 made more both.2

presence_few : (hypo : ℕ) (droppable : Bool) (at : ℕ) (made more : List WorldColumn) → IsFew made → with_presence hypo droppable at made ≡ Ok more → IsFew more
unfolding with_presence
presence_few hypo true at made more few e = column_few (presence_column hypo at) made more e
presence_few hypo false at made more few e = subst IsFew (same_answer made more e) few

row_few : (number : ℕ) (hypo : QHypo) (at : ℕ) (row : List Value) (made more : List WorldColumn) → IsFew made → with_row number hypo at row made ≡ Ok more → IsFew more
unfolding with_row
row_few number hypo at row made more few e =
    let both = and_then-Ok (inside number hypo.filter row) (λ may_change. if may_change then and_then (with_presence number hypo.droppable at made) (λ begun. turns (with_cell number hypo.droppable at row) 0 hypo.set begun) else Ok made) more e in
    by_test both.0 both.2
  where
    by_test : (b : Bool) → (if b then and_then (with_presence number hypo.droppable at made) (λ begun. turns (with_cell number hypo.droppable at row) 0 hypo.set begun) else Ok made) ≡ Ok more → length more ≤ 20000000
    by_test true h =
        let both = and_then-Ok (with_presence number hypo.droppable at made) (λ begun. turns (with_cell number hypo.droppable at row) 0 hypo.set begun) more h in
        turns_keep IsFew (with_cell number hypo.droppable at row) (cell_few number hypo.droppable at row) 0 hypo.set both.0 more (presence_few number hypo.droppable at made both.0 few both.1) both.2
    by_test false h = subst IsFew (same_answer made more h) few

hypo_few : (tables : Tables) (number : ℕ) (hypo : QHypo) (made more : List WorldColumn) → IsFew made → with_hypo tables number hypo made ≡ Ok more → IsFew more
unfolding with_hypo
hypo_few tables number hypo made more few e = turns_keep IsFew (with_row number hypo) (row_few number hypo) 0 (rows_of tables hypo.table) made more few e

pub columns_few : (query : Query) (tables : Tables) (columns : List WorldColumn) → columns_of query tables ≡ Ok columns → length columns ≤ 20000000
unfolding columns_of
columns_few query tables columns made = turns_keep IsFew (with_hypo tables) (hypo_few tables) 0 query.hypos [] columns (omega arith) made

-- what is asked without a fault is at most 10^17 in size
abbrev wide : ℤ → Wide
wide m = record { number = m }

within_small : (m n : ℤ) → within m ≡ Ok n → unsigned_abs n ≤ 10 ^ 17
unfolding within
within_small m n = by_test (passes m) refl
  where
    by_test : (b : Bool) → passes m ≡ b → (if b then Err (wide m) else Ok m) ≡ Ok n → unsigned_abs n ≤ 10 ^ 17
    by_test true e h = cc
    by_test false e h = subst (λ (k : ℤ). unsigned_abs k ≤ 10 ^ 17) (same_answer m n h) (grind (arith, nat_tests))

sum_small : (part : Expr) (rows : Rows) (n : ℤ) → sum_over part rows ≡ Ok n → unsigned_abs n ≤ 10 ^ 17
unfolding sum_over
sum_small part rows n e =
    let both = and_then-Ok (all_of (map (λ row. asked (row ∷ []) part) rows)) (λ ns. within (total ns)) n e in
    within_small (total both.0) n both.2

score_small : (query : Query) (tables : Tables) (world : World) (aim : Aim) (n : ℤ) → score_asked query tables world aim ≡ Ok n → unsigned_abs n ≤ 10 ^ 17
unfolding score_asked
score_small query tables world aims.Find n e = subst (λ (k : ℤ). unsigned_abs k ≤ 10 ^ 17) (same_answer (pos 0) n e) (omega arith)
score_small query tables world (aims.Sum maximize source part) n e =
    let both = and_then-Ok (rows_asked query tables world source) (λ rows. named source (sum_over part rows)) n e in
    by_sum both.0 (sum_over part both.0) refl both.2
  where
    by_sum : (rows : Rows) (r : Result ℤ Wide) → sum_over part rows ≡ r → named source r ≡ Ok n → unsigned_abs n ≤ 10 ^ 17
    by_sum rows (Ok m) is h = subst (λ (k : ℤ). unsigned_abs k ≤ 10 ^ 17) (same_answer m n h) (sum_small part rows m is)
    by_sum rows (Err wide) is h = cc

-- the score of a world that is not at fault
scored_small : (query : Query) (tables : Tables) (world : World) (n : ℤ) → judging.judged query tables world ≡ Ok (Some n) → unsigned_abs n ≤ 10 ^ 17
unfolding judging.judged
scored_small query tables world n e =
    let both = and_then-Ok (broken_from query tables world 1 query.requires_) (λ broken. if is_none broken then and_then (score_asked query tables world query.aim) (λ n. Ok (Some n)) else Ok None) (Some n) e in
    by_test (is_none both.0) both.2
  where
    by_test : (b : Bool) → (if b then and_then (score_asked query tables world query.aim) (λ n. Ok (Some n)) else Ok None) ≡ Ok (Some n) → unsigned_abs n ≤ 10 ^ 17
    by_test true h =
        let score = and_then-Ok (score_asked query tables world query.aim) (λ n. Ok (Some n)) (Some n) h in
        let same : score.0 ≡ n = let told = score.2 in cc in
        subst (λ (k : ℤ). unsigned_abs k ≤ 10 ^ 17) same (score_small query tables world query.aim score.0 score.1)
    by_test false h = cc

cost_small : (aim : Aim) (n : ℤ) → unsigned_abs n ≤ 10 ^ 17 → unsigned_abs (cost aim n) ≤ 10 ^ 17
unfolding cost
cost_small aims.Find n small = small
cost_small (aims.Sum true source part) n small = omega (arith, ints, small)
cost_small (aims.Sum false source part) n small = small

-- a cost whose sign is turned twice
pub cost_back : (aim : Aim) (n : ℤ) → cost aim (cost aim n) ≡ n
unfolding cost
cost_back aims.Find n = refl
cost_back (aims.Sum true source part) n = omega (arith, ints)
cost_back (aims.Sum false source part) n = refl

-- the cost of a world that is not at fault
pub judged_world_small : (query : Query) (tables : Tables) (world : World) (v : ℤ) → judged query tables world ≡ Ok (Some v) → unsigned_abs v ≤ 10 ^ 17
unfolding judged
judged_world_small query tables world v e =
    let both = and_then-Ok (judging.judged query tables world) (λ score. Ok (option_map (cost query.aim) score)) (Some v) e in
    by_score both.0 both.1 (same_answer (option_map (cost query.aim) both.0) (Some v) both.2)
  where
    by_score : (score : Option ℤ) → judging.judged query tables world ≡ Ok score → option_map (cost query.aim) score ≡ Some v → unsigned_abs v ≤ 10 ^ 17
    by_score None is h = absurd (let k : ◌≡◌ {A = Option ℤ} None (Some v) = h in cc)
    by_score (Some n) is h =
        let same : cost query.aim n ≡ v = cc in
        subst (λ (k : ℤ). unsigned_abs k ≤ 10 ^ 17) same (cost_small query.aim n (scored_small query tables world n is))

pub judged_small : (query : Query) (tables : Tables) (columns : List WorldColumn) (point : List ℤ) (v : ℤ) → judged_at query tables columns point ≡ Ok (Some v) → unsigned_abs v ≤ 10 ^ 17
unfolding judged_at
judged_small query tables columns point v = by_test (is_of_world query tables columns point)
  where
    by_test : (b : Bool) → (if b then judged query tables (world_at query tables columns point) else Ok None) ≡ Ok (Some v) → unsigned_abs v ≤ 10 ^ 17
    by_test true e = judged_world_small query tables (world_at query tables columns point) v e
    by_test false e = cc

-- a score fits 64 bits
small_fits : (n : ℤ) → unsigned_abs n ≤ 10 ^ 17 → SFits w64 n
small_fits n small = omega (arith, ints, small)

pub fits_score : (aim : Aim) (n : ℤ) → unsigned_abs n ≤ 10 ^ 17 → SFits w64 (cost aim n)
fits_score aim n small = small_fits (cost aim n) (cost_small aim n small)
