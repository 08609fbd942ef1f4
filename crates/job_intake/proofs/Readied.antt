-- a job to which the words and the files come is ready
use Rattle.std.proofs.Common.{◌≡◌, ℕ, ◌<◌, ◌≤◌, Bool, true, false, List, [], ◌∷◌, ◌++◌, length, refl, sym, ◌∙◌, ap, subst, inl, inr, arith, if◌then◌else◌}
use Rattle.std.specs.Prelude.{Option, Some, None, Result, Ok, Err, IfOk, All, nat_le, ◌&&◌, codes, bytes_eq}
use Rattle.std.specs.Char.{is_ascii_digit}
use Rattle.std.specs.List.{list_all}
use Rattle.std.specs.Str.Parse.{digits_value}
use Rattle.std.proofs.lemmas.Bool.{and_parts}
use Rattle.std.proofs.lemmas.Option.{none-some, same_Some}
use Rattle.base_kit.proofs.Results.{same_Ok}
use Rattle.tiql_tree.specs.declared.tree.Tree.{Tree}
use Rattle.tiql_tree.specs.Spelled.{Spelled}
use Rattle.tiql_check.specs.Sound.{Sound}
use Rattle.tiql_check.proofs.FitQuery.{well_formed}
use Rattle.tiql_check.proofs.SmallText.{text_small}
use Rattle.tiql_query.specs.WellFormed.{IsWellFormed}
use Rattle.tiql_query.specs.declared.query.Query.{Query}
use Rattle.tiql_query.specs.declared.world_column.WorldColumn.{WorldColumn}
use Rattle.world_def.specs.Columns.{Tables}
use Rattle.job_intake.specs.declared.job.Job.{Job}
use Rattle.job_intake.specs.declared.job.Task.{Task}
use Rattle.job_intake.specs.declared.job.Task.TheVariants as tasks
use Rattle.job_intake.specs.declared.refusal.Refusal.{Refusal}
use Rattle.job_intake.specs.declared.refusal.Stop.{Stop}
use Rattle.job_intake.specs.declared.refusal.Stop.TheVariants as stop
use Rattle.job_intake.specs.Asking.{AskComes, IsAsked, QueryComes, TreeComes}
use Rattle.job_intake.specs.Bounding.{BoundComes, LimitComes}
use Rattle.job_intake.specs.Files.{FileComes}
use Rattle.job_intake.specs.Jobs.{Comes, Finished, JobComes, Loaded, Opened, WordsCome}
use Rattle.job_intake.specs.Loading.{LoadComes}
use Rattle.job_intake.specs.Ready.{IsFew, IsReady}
use Rattle.job_intake.specs.Steps.{Follows, Then}
use Rattle.job_intake.specs.Tasks.{AnswerComes, CheckComes, EvaluateComes, IsTaken, TextComes, TaskComes}
use Rattle.job_intake.specs.Visits.{Visit, after_fetches}
use Rattle.job_intake.specs.Words.{Command, Form, begins_plain, check, evaluate, form_of, four_words, nodes_of, solve, solve_form}
use Rattle.job_intake.proofs.Counted.{few_columns}
use Rattle.job_intake.proofs.Counting.{few_declared, wide_declared}
use Rattle.job_intake.proofs.Loaded.{tables_loaded}
use Rattle.job_intake.proofs.Steps.{came}

-- the nodes that words name are at most as many as may be worked
abbrev IsBudgeted : Command → Type 0
IsBudgeted (solve nodes) = nodes ≤ 100000
IsBudgeted (check name) = Unit {0}
IsBudgeted (evaluate name) = Unit {0}

nodes_few : (word : List ℕ) (nodes : ℕ) → nodes_of word ≡ Some nodes → nodes ≤ 100000
nodes_few word nodes e = by_test (nat_le (length word) 6 && begins_plain word && list_all is_ascii_digit word && nat_le (digits_value 10 word) 100000) refl e
  where
    few : (n : ℕ) → nat_le n 100000 ≡ true → n ≡ nodes → nodes ≤ 100000
    few n least same = grind arith

    by_test : (b : Bool) → (nat_le (length word) 6 && begins_plain word && list_all is_ascii_digit word && nat_le (digits_value 10 word) 100000) ≡ b → ◌≡◌ {A = Option ℕ} (if b then Some (digits_value 10 word) else None) (Some nodes) → nodes ≤ 100000
    by_test true t e = few (digits_value 10 word) (and_parts (nat_le (length word) 6 && begins_plain word && list_all is_ascii_digit word) (nat_le (digits_value 10 word) 100000) t).1 (same_Some (digits_value 10 word) nodes e)
    by_test false t e = absurd (let no : ◌≡◌ {A = Option ℕ} None (Some nodes) = e in cc)

solve_few : (word query folder : List ℕ) (nodes : Option ℕ) (form : Form) → ((count : ℕ) → nodes ≡ Some count → count ≤ 100000) → solve_form word query folder nodes ≡ Some form → IsBudgeted form.2
solve_few word query folder None form few e = absurd (none-some form e)
solve_few word query folder (Some nodes) form few e = by_test (bytes_eq word (codes "solve")) e
  where
    by_test : (b : Bool) → (if b then Some (query, folder, solve nodes) else None) ≡ Some form → IsBudgeted form.2
    by_test true e = subst (λ (f : Form). IsBudgeted f.2) (same_Some (query, folder, solve nodes) form e) (few nodes refl)
    by_test false e = absurd (none-some form e)

four_few : (word query folder last : List ℕ) (form : Form) → four_words word query folder last ≡ Some form → IsBudgeted form.2
four_few word query folder last form e = by_test (bytes_eq word (codes "check")) e
  where
    by_eval : (b : Bool) → (if b then Some (query, folder, evaluate last) else solve_form word query folder (nodes_of last)) ≡ Some form → IsBudgeted form.2
    by_eval true e = subst (λ (f : Form). IsBudgeted f.2) (same_Some (query, folder, evaluate last) form e) tt
    by_eval false e = solve_few word query folder (nodes_of last) form (λ count is. nodes_few last count is) e

    by_test : (b : Bool) → (if b then Some (query, folder, check last) else (if bytes_eq word (codes "eval") then Some (query, folder, evaluate last) else solve_form word query folder (nodes_of last))) ≡ Some form → IsBudgeted form.2
    by_test true e = subst (λ (f : Form). IsBudgeted f.2) (same_Some (query, folder, check last) form e) tt
    by_test false e = by_eval (bytes_eq word (codes "eval")) e

form_few : (words : List (List ℕ)) (form : Form) → form_of words ≡ Some form → IsBudgeted form.2
form_few [] form e = absurd (none-some form e)
form_few (word ∷ []) form e = absurd (none-some form e)
form_few (word ∷ query ∷ []) form e = absurd (none-some form e)
form_few (word ∷ query ∷ folder ∷ []) form e = solve_few word query folder (Some 10000) form (λ count is. let same : count ≡ 10000 = cc in omega (arith, same)) e
form_few (word ∷ query ∷ folder ∷ last ∷ []) form e = four_few word query folder last form e
form_few (word ∷ query ∷ folder ∷ last ∷ more ∷ words) form e = absurd (none-some form e)

task_taken : (v : Visit) (command : Command) (task : Task) → IsBudgeted command → TaskComes v command (Ok task) → IsTaken task
task_taken v (solve nodes) task few comes = subst IsTaken (sym (same_Ok task (tasks.Solve nodes) comes)) few
task_taken v (check name) task few comes =
    let read = came (AnswerComes v name) CheckComes task comes in
    let bytes = came (FileComes v 536870912 name) TextComes read.0 read.1 in
    subst IsTaken (sym (same_Ok task (tasks.Check read.0) read.2)) bytes.2.meets
task_taken v (evaluate name) task few comes =
    let read = came (AnswerComes v name) EvaluateComes task comes in
    let bytes = came (FileComes v 536870912 name) TextComes read.0 read.1 in
    subst IsTaken (sym (same_Ok task (tasks.Evaluate read.0) read.2)) bytes.2.meets

columns_few : (task : Task) (columns : List WorldColumn) (done : Unit {0}) → LimitComes task columns (Ok done) → IsFew task columns
columns_few (tasks.Solve nodes) columns done comes = few_columns columns done comes
columns_few (tasks.Check answer) columns done comes = few_columns columns done comes
columns_few (tasks.Evaluate answer) columns done comes = tt

module _ (v : Visit) where
  finished_ready : (w : Visit) (folder : List ℕ) (command : Command) (query : Query) (tables : Tables) (columns : List WorldColumn) (job : Job) → IsBudgeted command → IsAsked query → All (λ table. 0 < length table.columns) query.tables
      → LoadComes w folder query.tables (Ok tables) → BoundComes query tables (Ok columns) → Finished v command query tables columns (Ok job) → IsReady job
  finished_ready w folder command query tables columns job few asked wide loaded bound finished =
      let task = came (TaskComes v command) (λ task. Then (LimitComes task columns) (JobComes query tables columns task)) job finished in
      let limit = came (LimitComes task.0 columns) (JobComes query tables columns task.0) job task.2 in
      let made : Job = record { query = query; tables = tables; columns = columns; task = task.0 } in
      subst IsReady (sym (same_Ok job made limit.2)) (record {
        asked = asked;
        tables = tables_loaded folder w query.tables tables loaded;
        columns = bound;
        wide = wide;
        few = columns_few task.0 columns limit.0 limit.1;
        taken = task_taken v command task.0 few task.1;
      })

query_fit : (bytes : List ℕ) (tree : Tree) (query : Query) → Spelled bytes tree → Sound tree query → IsWellFormed query
unfolding Sound
query_fit bytes tree query spelled sound = well_formed tree query (text_small tree (bytes, record { other = tree; spelled = spelled; same = refl })) sound

-- a sound query of a text is one that fits together, and has few declarations
asked_if : (bytes : List ℕ) (tree : Tree) (query : Query) → length bytes < 4294967295 → Spelled bytes tree → Sound tree query → IsAsked query
asked_if bytes tree query short spelled sound =
    let few = few_declared bytes tree query spelled sound in
    record { fit = query_fit bytes tree query spelled sound; numbered = record { hypos = omega (arith, few.0, short); views = omega (arith, few.2, short); requires_ = omega (arith, few.1, short) } }

-- so is what the check of its tree gives
pub asked_result : (bytes : List ℕ) (tree : Tree) (result : Result Query Stop) → length bytes < 4294967295 → Spelled bytes tree → Follows (QueryComes tree) result → IfOk result IsAsked
asked_result bytes tree (Ok query) short spelled comes = asked_if bytes tree query short spelled comes
asked_result bytes tree (Err why) short spelled comes = tt

-- what a text asks is a query that is asked so, each table of which has a column
query_asked : (bytes : List ℕ) (query : Query) → length bytes ≤ 16777216 → AskComes bytes (Ok query) → IsAsked query × All (λ table. 0 < length table.columns) query.tables
query_asked bytes query short comes =
    let tree = came (TreeComes bytes) QueryComes query comes in
    (asked_if bytes tree.0 query (omega (arith, short)) tree.1 tree.2, wide_declared bytes tree.0 query tree.1 tree.2)

pub comes_ready : (words : List (List ℕ)) (v : Visit) (job : Job) → Comes words v (Ok job) → IsReady job
comes_ready words v job comes =
    let form = came (WordsCome words) (Opened v) job comes in
    let next = after_fetches 1 v in
    let file = came (FileComes v 16777216 form.0.0) (λ bytes. Then (AskComes bytes) (Loaded next form.0.1 form.0.2)) job form.2 in
    let ask = came (AskComes file.0) (Loaded next form.0.1 form.0.2) job file.2 in
    let last = after_fetches (length (ask.0).tables) next in
    let load = came (LoadComes next form.0.1 (ask.0).tables) (λ tables. Then (BoundComes ask.0 tables) (Finished last form.0.2 ask.0 tables)) job ask.2 in
    let bound = came (BoundComes ask.0 load.0) (Finished last form.0.2 ask.0 load.0) job load.2 in
    let asked = query_asked file.0 ask.0 file.1.2 ask.1 in
    finished_ready last next form.0.1 form.0.2 ask.0 load.0 bound.0 job (form_few words form.0 form.1) asked.0 asked.1 load.1 bound.1 bound.2

-- so is one that is given of it
pub ready_if_given : (words : List (List ℕ)) (v : Visit) (result : Result Job Stop) → Follows (Comes words v) result → IfOk result IsReady
ready_if_given words v (Ok job) gives = comes_ready words v job gives
ready_if_given words v (Err why) gives = tt
