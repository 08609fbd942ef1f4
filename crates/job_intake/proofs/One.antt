-- where it is told which files there are, the words and the files come to one job or one refusal
use Rattle.std.proofs.Common.{◌≡◌, ◌≢◌, ◌⊎◌, ℕ, zero, suc, true, false, ◌<◌, ◌≤◌, List, [], ◌∷◌, ◌++◌, length, refl, sym, ◌∙◌, ap, ap₂, subst, inl, inr, arith}
use Rattle.std.specs.Prelude.{Option, Some, None, IsSome, IfSome, Result, Ok, Err}
use Rattle.std.proofs.lemmas.Bool.{cases_lt, false≢true}
use Rattle.std.proofs.lemmas.Option.{none-some, same_Some}
use Rattle.base_kit.proofs.Results.{Ok-Err, same_Err, same_Ok}
use Rattle.base_kit.specs.declared.place.Place.{Place}
use Rattle.outside_io.specs.Shelves.{Contents, Failures, NextFails, later}
use Rattle.tiql_tree.specs.declared.tree.Tree.{Tree}
use Rattle.tiql_read.proofs.Single.{one_tree, one_stop}
use Rattle.tiql_query.specs.declared.query.Query.{Query}
use Rattle.tiql_query.specs.declared.relation.QTable.{QTable}
use Rattle.tiql_query.specs.declared.world_column.WorldColumn.{WorldColumn}
use Rattle.tiql_check.specs.declared.fault.SoundFault.{SoundFault}
use Rattle.tiql_check.specs.Sound.{Sound, FirstBroken}
use Rattle.tables_csv.proofs.Outcomes.{table_one, fault_one, table_no_fault}
use Rattle.world_def.specs.declared.fault.BoundsFault.{BoundsFault}
use Rattle.world_def.specs.Columns.{Rows, Tables}
use Rattle.answer_text.specs.declared.answer.Answer.{Answer}
use Rattle.answer_text.proofs.AnswerTexts.{one_answer, some_stop}
use Rattle.job_intake.specs.declared.job.Task.TheVariants as task
use Rattle.job_intake.specs.declared.refusal.Refusal.{Refusal}
use Rattle.job_intake.specs.declared.refusal.Refusal.TheVariants as refusal
use Rattle.job_intake.specs.declared.refusal.FileFault.{FileFault}
use Rattle.job_intake.specs.declared.refusal.FileFault.TheVariants as fault
use Rattle.job_intake.specs.Asking.{TreeComes, QueryComes, AskComes}
use Rattle.job_intake.specs.Bounding.{BoundComes, LimitComes, refused_bounds}
use Rattle.job_intake.specs.Files.{FileStops, FileComes}
use Rattle.job_intake.specs.Jobs.{JobComes, Finished, Loaded, Opened, WordsCome, Comes}
use Rattle.job_intake.specs.Loading.{ReadComes, TableComes, AreLoaded, LoadComes}
use Rattle.job_intake.specs.Steps.{Then}
use Rattle.job_intake.specs.Tasks.{IsUnreadable, AnswerComes, CheckComes, EvaluateComes, TextComes, TaskComes}
use Rattle.job_intake.specs.declared.job.Task.{Task}
use Rattle.job_intake.specs.Visits.{Visit, Holds, IsFailed, IsTold, after_fetches, later_by}
use Rattle.job_intake.specs.Words.{Command, Form, solve, check, evaluate, table_path}
use Rattle.job_intake.proofs.Steps.{IsOne, then_one}

words_one : (words : List (List ℕ)) → IsOne (WordsCome words)
words_one words (Ok a) (Ok b) x y = ap (λ f. Ok f) (same_Some a b (sym x ∙ y))
words_one words (Ok a) (Err w) x y = absurd (none-some a (sym y.1 ∙ x))
words_one words (Err w) (Ok b) x y = absurd (none-some b (sym x.1 ∙ y))
words_one words (Err w) (Err u) x y = ap (λ why. Err why) (x.0 ∙ sym y.0)

module _ (v : Visit) (is : IsTold v) where
  stands : (name bytes : List ℕ) → Holds v name bytes → is.held name ≡ Some bytes
  stands name bytes h = subst (λ (c : Contents). IfSome c (λ map. map name ≡ Some bytes)) is.told h

  missing : (name : List ℕ) → IfSome v.held (λ held. held name ≡ None) → is.held name ≡ None
  missing name h = subst (λ (c : Contents). IfSome c (λ map. map name ≡ None)) is.told h

  one_file : (name a b : List ℕ) → Holds v name a → Holds v name b → a ≡ b
  one_file name a b x y = same_Some a b (sym (stands name a x) ∙ stands name b y)

  -- what is told of the next fetch is that it fails, or that it does not
  apart : NextFails v.fails true → IsFailed v → NextFails v.fails false → ⊥
  apart fails failed goes = by_told is.failures
    where
      by_some : (told : Failures) → IsSome told → NextFails told true → NextFails told false → ⊥
      by_some None some fails goes = absurd (false≢true some)
      by_some (Some due) some fails goes = cc

      by_told : IsSome v.fails ⊎ ¬ IsFailed v → ⊥
      by_told (inl told) = by_some v.fails told fails goes
      by_told (inr none) = none failed

  is_there : (most : ℕ) (name bytes : List ℕ) (why : FileFault) → FileComes v most name (Ok bytes) → FileStops v most name why → ⊥
  is_there most name bytes fault.Absent comes stops = none-some bytes (sym (missing name stops.1.1) ∙ stands name bytes comes.1)
  is_there most name bytes fault.ReadFailed comes stops = apart stops.0 stops.1 comes.0
  is_there most name bytes fault.TooLong comes stops = let same = one_file name stops.1.0 bytes stops.1.1 comes.1 in omega (arith, comes.2, stops.1.2, ap length same)

  one_fault : (most : ℕ) (name : List ℕ) (one other : FileFault) → FileStops v most name one → FileStops v most name other → one ≡ other
  one_fault most name fault.Absent fault.Absent x y = refl
  one_fault most name fault.Absent fault.ReadFailed x y = absurd (apart y.0 y.1 x.0)
  one_fault most name fault.Absent fault.TooLong x y = absurd (none-some y.1.0 (sym (missing name x.1.1) ∙ stands name y.1.0 y.1.1))
  one_fault most name fault.ReadFailed fault.Absent x y = absurd (apart x.0 x.1 y.0)
  one_fault most name fault.ReadFailed fault.ReadFailed x y = refl
  one_fault most name fault.ReadFailed fault.TooLong x y = absurd (apart x.0 x.1 y.0)
  one_fault most name fault.TooLong fault.Absent x y = absurd (none-some x.1.0 (sym (missing name y.1.1) ∙ stands name x.1.0 x.1.1))
  one_fault most name fault.TooLong fault.ReadFailed x y = absurd (apart y.0 y.1 x.0)
  one_fault most name fault.TooLong fault.TooLong x y = refl

  file_one : (most : ℕ) (name : List ℕ) → IsOne (FileComes v most name)
  file_one most name (Ok a) (Ok b) x y = ap (λ l. Ok l) (one_file name a b x.1 y.1)
  file_one most name (Ok a) (Err w) x y = absurd (is_there most name a y.0 x y.2)
  file_one most name (Err w) (Ok b) x y = absurd (is_there most name b x.0 y x.2)
  file_one most name (Err w) (Err u) x y = ap (λ why. Err why) (x.1 ∙ ap (refusal.File name) (one_fault most name x.0 y.0 x.2 y.2) ∙ sym y.1)

tree_one : (bytes : List ℕ) → IsOne (TreeComes bytes)
tree_one bytes (Ok a) (Ok b) x y = ap (λ t. Ok t) (one_tree bytes a b x y)
tree_one bytes (Ok a) (Err w) x y = absurd (y.2.none a x)
tree_one bytes (Err w) (Ok b) x y = absurd (x.2.none b y)
tree_one bytes (Err w) (Err u) x y = ap (λ why. Err why) (x.1 ∙ ap (λ (p : Place). refusal.Syntax p) (one_stop bytes x.0 y.0 x.2 y.2) ∙ sym y.1)

not_both : (tree : Tree) (query : Query) (told : SoundFault) → Sound tree query → FirstBroken tree told → ⊥
unfolding Sound FirstBroken
not_both tree query told sound broken = Ok-Err query told (sym sound ∙ broken)

same_query : (tree : Tree) (one other : Query) → Sound tree one → Sound tree other → one ≡ other
unfolding Sound
same_query tree one other a b = same_Ok one other (sym a ∙ b)

same_rule : (tree : Tree) (one other : SoundFault) → FirstBroken tree one → FirstBroken tree other → one ≡ other
unfolding FirstBroken
same_rule tree one other a b = same_Err one other (sym a ∙ b)

query_one : (tree : Tree) → IsOne (QueryComes tree)
query_one tree (Ok a) (Ok b) x y = ap (λ q. Ok q) (same_query tree a b x y)
query_one tree (Ok a) (Err w) x y = absurd (not_both tree a y.0 x y.3)
query_one tree (Err w) (Ok b) x y = absurd (not_both tree b x.0 y x.3)
query_one tree (Err w) (Err u) x y = ap (λ why. Err why) (x.1 ∙ ap (λ (f : SoundFault). refusal.Unsound f) (same_rule tree x.0 y.0 x.3 y.3) ∙ sym y.1)

ask_one : (bytes : List ℕ) → IsOne (AskComes bytes)
ask_one bytes = then_one (TreeComes bytes) QueryComes (tree_one bytes) query_one

read_one : (table : QTable) (bytes : List ℕ) → IsOne (ReadComes table bytes)
read_one table bytes (Ok a) (Ok b) x y = ap (λ r. Ok r) (table_one bytes table a b x y)
read_one table bytes (Ok a) (Err w) x y = absurd (table_no_fault bytes table a y.0 x y.3)
read_one table bytes (Err w) (Ok b) x y = absurd (table_no_fault bytes table b x.0 y x.3)
read_one table bytes (Err w) (Err u) x y = ap (λ why. Err why) (x.1 ∙ ap (refusal.Table table.name) (fault_one bytes table x.0 y.0 x.3 y.3) ∙ sym y.1)

bound_one : (query : Query) (tables : Tables) → IsOne (BoundComes query tables)
bound_one query tables (Ok a) (Ok b) x y = ap (λ c. Ok c) (same_Ok a b (sym x ∙ y))
bound_one query tables (Ok a) (Err w) x y = absurd (Ok-Err a y.0 (sym x ∙ y.3))
bound_one query tables (Err w) (Ok b) x y = absurd (Ok-Err b x.0 (sym y ∙ x.3))
bound_one query tables (Err w) (Err u) x y = ap (λ why. Err why) (x.1 ∙ ap (refused_bounds query) (same_Err x.0 y.0 (sym x.3 ∙ y.3)) ∙ sym y.1)

same_line : (bytes : List ℕ) (one other : ℕ) → IsUnreadable bytes one → IsUnreadable bytes other → one ≡ other
same_line bytes one other a b = by_order (cases_lt one other) (cases_lt other one)
  where
    none_apart : (one ≢ other) → ⊥
    none_apart ne = some_stop bytes (λ count stop. ne (a.at count stop ∙ sym (b.at count stop)))

    by_order : (one < other) ⊎ (other ≤ one) → (other < one) ⊎ (one ≤ other) → one ≡ other
    by_order (inl lt) more = absurd (none_apart (λ e. omega (arith, lt, e)))
    by_order (inr le) (inl lt) = absurd (none_apart (λ e. omega (arith, lt, e)))
    by_order (inr le) (inr ge) = omega (arith, le, ge)

answer_one : (bytes : List ℕ) → IsOne (TextComes bytes)
answer_one bytes (Ok a) (Ok b) x y = ap (λ t. Ok t) (one_answer a b bytes x y)
answer_one bytes (Ok a) (Err w) x y = absurd (y.2.none a x)
answer_one bytes (Err w) (Ok b) x y = absurd (x.2.none b y)
answer_one bytes (Err w) (Err u) x y = ap (λ why. Err why) (x.1 ∙ ap refusal.Unreadable (same_line bytes x.0 y.0 x.2 y.2) ∙ sym y.1)

some_later : (fails : Failures) → IsSome fails → IsSome (later fails)
some_later None some = absurd (false≢true some)
some_later (Some due) some = refl

some_later_by : (n : ℕ) (fails : Failures) → IsSome fails → IsSome (later_by n fails)
some_later_by zero fails some = some
some_later_by (suc n) fails some = some_later_by n (later fails) (some_later fails some)

-- what is told is told behind some fetches too
told_after : (n : ℕ) (v : Visit) → IsTold v → IsTold (after_fetches n v)
told_after n v is = record { held = is.held; told = is.told; failures = by_told is.failures }
  where
    by_told : IsSome v.fails ⊎ ¬ IsFailed v → IsSome (later_by n v.fails) ⊎ ¬ IsFailed v
    by_told (inl some) = inl (some_later_by n v.fails some)
    by_told (inr none) = inr none

head_of : (t u : QTable) (ts us : List QTable) → t ∷ ts ≡ u ∷ us → t ≡ u
head_of t u ts us e = cc

tail_of : (t u : QTable) (ts us : List QTable) → t ∷ ts ≡ u ∷ us → ts ≡ us
tail_of t u ts us e = cc

module _ (folder : List ℕ) where
  table_is : (v : Visit) → IsTold v → (table : QTable) → IsOne (TableComes v folder table)
  table_is v is table = then_one (FileComes v 16777216 (table_path folder table.name)) (ReadComes table) (file_one v is 16777216 (table_path folder table.name)) (read_one table)

  rows_are : (v : Visit) → IsTold v → (table : QTable) (one other : Rows) → TableComes v folder table (Ok one) → TableComes v folder table (Ok other) → one ≡ other
  rows_are v is table one other a b = same_Ok one other (table_is v is table (Ok one) (Ok other) a b)

  -- a table that has rows is not refused
  not_refused : (v : Visit) → IsTold v → (table : QTable) (rows : Rows) (why : Refusal) → TableComes v folder table (Ok rows) → TableComes v folder table (Err why) → ⊥
  not_refused v is table rows why a b = Ok-Err rows why (table_is v is table (Ok rows) (Err why) a b)

  same_refusal : (v : Visit) → IsTold v → (table : QTable) (one other : Refusal) → TableComes v folder table (Err one) → TableComes v folder table (Err other) → one ≡ other
  same_refusal v is table one other a b = same_Err one other (table_is v is table (Err one) (Err other) a b)

  loaded_one : (v : Visit) → IsTold v → (tables : List QTable) (one other : Tables) → AreLoaded v folder tables one → AreLoaded v folder tables other → one ≡ other
  loaded_one v is [] [] [] a b = refl
  loaded_one v is [] [] (s ∷ other) a b = absurd b
  loaded_one v is [] (r ∷ one) other a b = absurd a
  loaded_one v is (table ∷ tables) [] other a b = absurd a
  loaded_one v is (table ∷ tables) (r ∷ one) [] a b = absurd b
  loaded_one v is (table ∷ tables) (r ∷ one) (s ∷ other) a b =
      ap₂ (λ (x : Rows) (l : Tables). x ∷ l) (rows_are v is table r s a.0 b.0) (loaded_one (after_fetches 1 v) (told_after 1 v is) tables one other a.1 b.1)

  loaded_at : (v : Visit) (before : List QTable) (table : QTable) (behind : List QTable) (made : Tables) → AreLoaded v folder (before ++ table ∷ behind) made → (rows : Rows) × TableComes (after_fetches (length before) v) folder table (Ok rows)
  loaded_at v [] table behind [] a = absurd a
  loaded_at v [] table behind (r ∷ made) a = (r, a.0)
  loaded_at v (b ∷ before) table behind [] a = absurd a
  loaded_at v (b ∷ before) table behind (r ∷ made) a = loaded_at (after_fetches 1 v) before table behind made a.1

  one_refused : (v : Visit) → IsTold v → (before before' : List QTable) (table table' : QTable) (behind behind' : List QTable) (made made' : Tables) (one other : Refusal) → before ++ table ∷ behind ≡ before' ++ table' ∷ behind'
      → AreLoaded v folder before made → AreLoaded v folder before' made' → TableComes (after_fetches (length before) v) folder table (Err one) → TableComes (after_fetches (length before') v) folder table' (Err other) → one ≡ other
  one_refused v is [] [] table table' behind behind' made made' one other e a b x y = same_refusal v is table' one other (subst (λ (t : QTable). TableComes v folder t (Err one)) (head_of table table' behind behind' e) x) y
  one_refused v is [] (c ∷ before') table table' behind behind' made [] one other e a b x y = absurd b
  one_refused v is [] (c ∷ before') table table' behind behind' made (r ∷ made') one other e a b x y =
      absurd (not_refused v is c r one b.0 (subst (λ (t : QTable). TableComes v folder t (Err one)) (head_of table c behind (before' ++ table' ∷ behind') e) x))
  one_refused v is (c ∷ before) [] table table' behind behind' [] made' one other e a b x y = absurd a
  one_refused v is (c ∷ before) [] table table' behind behind' (r ∷ made) made' one other e a b x y =
      absurd (not_refused v is c r other a.0 (subst (λ (t : QTable). TableComes v folder t (Err other)) (sym (head_of c table' (before ++ table ∷ behind) behind' e)) y))
  one_refused v is (c ∷ before) (d ∷ before') table table' behind behind' [] made' one other e a b x y = absurd a
  one_refused v is (c ∷ before) (d ∷ before') table table' behind behind' (r ∷ made) [] one other e a b x y = absurd b
  one_refused v is (c ∷ before) (d ∷ before') table table' behind behind' (r ∷ made) (s ∷ made') one other e a b x y =
      one_refused (after_fetches 1 v) (told_after 1 v is) before before' table table' behind behind' made made' one other (tail_of c d (before ++ table ∷ behind) (before' ++ table' ∷ behind') e) a.1 b.1 x y

  load_one : (v : Visit) → IsTold v → (tables : List QTable) → IsOne (LoadComes v folder tables)
  load_one v is tables (Ok a) (Ok b) x y = ap (λ t. Ok t) (loaded_one v is tables a b x y)
  load_one v is tables (Ok a) (Err w) x y = absurd (let there = loaded_at v y.before y.table y.behind a (subst (λ (ts : List QTable). AreLoaded v folder ts a) y.are x) in
      not_refused (after_fetches (length y.before) v) (told_after (length y.before) v is) y.table there.0 w there.1 y.refused)
  load_one v is tables (Err w) (Ok b) x y = absurd (let there = loaded_at v x.before x.table x.behind b (subst (λ (ts : List QTable). AreLoaded v folder ts b) x.are y) in
      not_refused (after_fetches (length x.before) v) (told_after (length x.before) v is) x.table there.0 w there.1 x.refused)
  load_one v is tables (Err w) (Err u) x y = ap (λ why. Err why) (one_refused v is x.before y.before x.table y.table x.behind y.behind x.made y.made w u (sym x.are ∙ y.are) x.loaded y.loaded x.refused y.refused)

given_one : (v : Visit) → IsTold v → (name : List ℕ) → IsOne (AnswerComes v name)
given_one v is name = then_one (FileComes v 536870912 name) TextComes (file_one v is 536870912 name) answer_one

task_is : (v : Visit) → IsTold v → (command : Command) → IsOne (TaskComes v command)
task_is v is (solve nodes) = λ one other x y. x ∙ sym y
task_is v is (check name) = then_one (AnswerComes v name) CheckComes (given_one v is name) (λ answer one other x y. x ∙ sym y)
task_is v is (evaluate name) = then_one (AnswerComes v name) EvaluateComes (given_one v is name) (λ answer one other x y. x ∙ sym y)

limit_is : (task : Task) (columns : List WorldColumn) → IsOne (LimitComes task columns)
limit_is (task.Solve nodes) columns = λ one other x y. x ∙ sym y
limit_is (task.Check answer) columns = λ one other x y. x ∙ sym y
limit_is (task.Evaluate answer) columns = λ one other x y. x ∙ sym y

finished_one : (v : Visit) → IsTold v → (command : Command) (query : Query) (tables : Tables) (columns : List WorldColumn) → IsOne (Finished v command query tables columns)
finished_one v is command query tables columns =
    then_one (TaskComes v command) (λ task. Then (LimitComes task columns) (JobComes query tables columns task)) (task_is v is command)
    (λ task. then_one (LimitComes task columns) (JobComes query tables columns task) (limit_is task columns) (λ u one other x y. x ∙ sym y))

all_loaded_one : (v : Visit) → IsTold v → (folder : List ℕ) (command : Command) (query : Query) → IsOne (Loaded v folder command query)
all_loaded_one v is folder command query =
    let next = after_fetches (length query.tables) v in
    then_one (LoadComes v folder query.tables) (λ tables. Then (BoundComes query tables) (Finished next command query tables)) (load_one folder v is query.tables)
    (λ tables. then_one (BoundComes query tables) (Finished next command query tables) (bound_one query tables) (λ columns. finished_one next (told_after (length query.tables) v is) command query tables columns))

module _ (v : Visit) (is : IsTold v) where
  opened_one : (form : Form) → IsOne (Opened v form)
  opened_one form =
      let next = after_fetches 1 v in
      then_one (FileComes v 16777216 form.0) (λ bytes. Then (AskComes bytes) (Loaded next form.1 form.2)) (file_one v is 16777216 form.0)
      (λ bytes. then_one (AskComes bytes) (Loaded next form.1 form.2) (ask_one bytes) (λ query. all_loaded_one next (told_after 1 v is) form.1 form.2 query))

  pub comes_one : (words : List (List ℕ)) → IsOne (Comes words v)
  comes_one words = then_one (WordsCome words) (Opened v) (words_one words) (λ form. opened_one form)
