-- loops over rows and requirements
use Rattle.std.proofs.Common.{◌≡◌, ◌≢◌, ℕ, ℤ, pos, ◌+◌, ◌<◌, ◌≤◌, Bool, true, false, List, [], ◌∷◌, length, get_or, drop, sym, ◌∙◌, Option, Some, None}
use Rattle.std.specs.Prelude.{Result, Ok, Err, is_some}
use Rattle.std.proofs.lemmas.List.{drop_more, drop_all}
use Rattle.base_kit.specs.Asking.{left}
use Rattle.base_kit.specs.declared.value.Value.{Value}
use Rattle.tiql_query.specs.declared.expression.Expr.{Expr}
use Rattle.tiql_query.specs.declared.condition.Cond.{Cond}
use Rattle.tiql_query.specs.declared.aim.Require.{Require}
use Rattle.row_values.specs.declared.fault.Wide.{Wide}
use Rattle.tiql_query.specs.declared.query.Query.{Query}
use Rattle.world_def.specs.declared.fault.EvalFault.{EvalFault}
use Rattle.world_def.specs.declared.fault.EvalFault.TheVariants as fault
use Rattle.world_def.specs.declared.world.World.{World}
use Rattle.world_def.specs.declared.judge.Broken.{Broken}
use Rattle.row_values.specs.Asked.{asked, truth_asked}
use Rattle.world_def.specs.Columns.{Rows, Tables}
use Rattle.world_def.specs.Judging.{first_broken, one_meets, broken_at, broken_from, sum_over, score_asked, judged}
use Rattle.row_values.proofs.Evaluate.{summed, summed_init}

module _ (test : Cond) (rows : Rows) (i : ℕ) (row : List Value) (lt : i < length rows) (is : row ≡ get_or rows i row) where
  pub broken-step : (n : ℕ) (r : Result (Option ℕ) Wide) → truth_asked (row ∷ []) test ≡ Ok true → first_broken test n (drop i rows) ≡ r → first_broken test (n + 1) (drop (i + 1) rows) ≡ r
  unfolding first_broken
  broken-step n r e h = sym (rw (drop_more rows i row lt, ← is, e)) ∙ h

  pub broken-here : (n : ℕ) (r : Result (Option ℕ) Wide) → truth_asked (row ∷ []) test ≡ Ok false → first_broken test n (drop i rows) ≡ r → Ok (Some n) ≡ r
  unfolding first_broken
  broken-here n r e h = sym (rw (drop_more rows i row lt, ← is, e)) ∙ h

  pub broken-err : (n : ℕ) (w : Wide) (r : Result (Option ℕ) Wide) → truth_asked (row ∷ []) test ≡ Err w → first_broken test n (drop i rows) ≡ r → Err w ≡ r
  unfolding first_broken
  broken-err n w r e h = sym (rw (drop_more rows i row lt, ← is, e)) ∙ h

  pub meets-step : (r : Result Bool Wide) → truth_asked (row ∷ []) test ≡ Ok false → one_meets test (drop i rows) ≡ r → one_meets test (drop (i + 1) rows) ≡ r
  unfolding one_meets
  meets-step r e h = sym (rw (drop_more rows i row lt, ← is, e)) ∙ h

  pub meets-here : (r : Result Bool Wide) → truth_asked (row ∷ []) test ≡ Ok true → one_meets test (drop i rows) ≡ r → Ok true ≡ r
  unfolding one_meets
  meets-here r e h = sym (rw (drop_more rows i row lt, ← is, e)) ∙ h

  pub meets-err : (w : Wide) (r : Result Bool Wide) → truth_asked (row ∷ []) test ≡ Err w → one_meets test (drop i rows) ≡ r → Err w ≡ r
  unfolding one_meets
  meets-err w r e h = sym (rw (drop_more rows i row lt, ← is, e)) ∙ h

module _ (test : Cond) (rows : Rows) (i : ℕ) (le : length rows ≤ i) where
  pub broken-end : (n : ℕ) (r : Result (Option ℕ) Wide) → first_broken test n (drop i rows) ≡ r → Ok None ≡ r
  unfolding first_broken
  broken-end n r h = sym (rw (drop_all i rows le)) ∙ h

  pub meets-end : (r : Result Bool Wide) → one_meets test (drop i rows) ≡ r → Ok false ≡ r
  unfolding one_meets
  meets-end r h = sym (rw (drop_all i rows le)) ∙ h

module _ (query : Query) (tables : Tables) (world : World) (needs : List Require) where
  pub first-step : (i n : ℕ) (need : Require) (found : Option Broken) (r : Result (Option Broken) EvalFault) → i < length needs → need ≡ get_or needs i need → is_some found ≡ false
      → broken_at query tables world n need ≡ Ok found → broken_from query tables world n (drop i needs) ≡ r → broken_from query tables world (n + 1) (drop (i + 1) needs) ≡ r
  unfolding broken_from
  first-step i n need None r lt is said e h = sym (rw (drop_more needs i need lt, ← is, e)) ∙ h
  first-step i n need (Some broken) r lt is said e h = absurd (let k : true ≡ false = said in cc)

  pub first-here : (i n : ℕ) (need : Require) (found : Option Broken) (r : Result (Option Broken) EvalFault) → i < length needs → need ≡ get_or needs i need → is_some found ≡ true
      → broken_at query tables world n need ≡ Ok found → broken_from query tables world n (drop i needs) ≡ r → r ≡ Ok found
  unfolding broken_from
  first-here i n need None r lt is said e h = absurd (let k : false ≡ true = said in cc)
  first-here i n need (Some broken) r lt is said e h = sym h ∙ rw (drop_more needs i need lt, ← is, e)

  pub first-err : (i n : ℕ) (need : Require) (w : EvalFault) (r : Result (Option Broken) EvalFault) → i < length needs → need ≡ get_or needs i need
      → (w ≢ fault.Memory → broken_at query tables world n need ≡ Err w) → broken_from query tables world n (drop i needs) ≡ r → w ≢ fault.Memory → r ≡ Err w
  unfolding broken_from
  first-err i n need w r lt is gives h ne = sym h ∙ rw (drop_more needs i need lt, ← is, gives ne)

  pub first-end : (i n : ℕ) (r : Result (Option Broken) EvalFault) → length needs ≤ i → broken_from query tables world n (drop i needs) ≡ r → r ≡ Ok None
  unfolding broken_from
  first-end i n r le h = sym h ∙ rw (drop_all i needs le)

pub sum-init : (part : Expr) (rows : Rows) → left (λ row. asked (row ∷ []) part) rows 0 (summed (pos 0)) ≡ sum_over part rows
unfolding sum_over
sum-init part rows = summed_init (λ row. asked (row ∷ []) part) rows

-- the score of a world that meets, step by step
module _ (query : Query) (tables : Tables) (world : World) where
  pub judged-err : (e : EvalFault) → (e ≢ fault.Memory → broken_from query tables world 1 query.requires_ ≡ Err e) → e ≢ fault.Memory → judged query tables world ≡ Err e
  unfolding judged
  judged-err e h ne = rw (h ne)

  pub judged-broken : (found : Option Broken) (broken : Broken) → broken_from query tables world 1 query.requires_ ≡ Ok found → found ≡ Some broken → judged query tables world ≡ Ok None
  unfolding judged
  judged-broken found broken h is = rw (h, is)

  pub judged-wide : (found : Option Broken) (e : EvalFault) → broken_from query tables world 1 query.requires_ ≡ Ok found → found ≡ None → (e ≢ fault.Memory → score_asked query tables world query.aim ≡ Err e) → e ≢ fault.Memory → judged query tables world ≡ Err e
  unfolding judged
  judged-wide found e h is gives ne = rw (h, is, gives ne)

  pub judged-score : (found : Option Broken) (n : ℤ) → broken_from query tables world 1 query.requires_ ≡ Ok found → found ≡ None → score_asked query tables world query.aim ≡ Ok n → judged query tables world ≡ Ok (Some n)
  unfolding judged
  judged-score found n h is e = rw (h, is, e)
