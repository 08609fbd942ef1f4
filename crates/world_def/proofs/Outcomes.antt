-- what the view with a number comes to, over what the views before it came to
use Rattle.std.proofs.Common.{◌≡◌, ◌<◌, ◌+◌, ℕ, zero, suc, List, [], ◌∷◌, ◌++◌, length, map, take, refl, sym, ◌∙◌, ap, arith, append_assoc, append-nil, length-take-le, take_at, Option, Some, None, unwrap_or}
use Rattle.std.specs.Prelude.{Result, Ok, slice_get, option_map}
use Rattle.std.proofs.lemmas.List.{length_push}
use Rattle.std.proofs.lemmas.Option.{slice_get_past, slice_get_within, slice_get-map}
use Rattle.tiql_query.specs.declared.view.QView.{QView}
use Rattle.tiql_query.specs.declared.query.Query.{Query}
use Rattle.world_def.specs.declared.fault.EvalFault.{EvalFault}
use Rattle.world_def.specs.declared.world.World.{World}
use Rattle.world_def.specs.Columns.{Rows, Tables, rows_of}
use Rattle.world_def.specs.Relations.{rows_of_view, views_from}
use Rattle.world_def.specs.Views.{view_asked, rows_made, outcomes_from, outcome_at}

-- ---- lists each of whose items is made from those before it

module _ {A X : Type 0} (f : List A → X → A) where
  unfoldable chain : List A → List X → List A
  chain so_far [] = so_far
  chain so_far (x ∷ xs) = chain (so_far ++ f so_far x ∷ []) xs

  chain_more : (xs : List X) (so_far : List A) → (more : List A) × (chain so_far xs ≡ so_far ++ more)
  unfolding chain
  chain_more [] so_far = ([], sym (append-nil so_far))
  chain_more (x ∷ xs) so_far =
      let rest = chain_more xs (so_far ++ f so_far x ∷ []) in
      (f so_far x ∷ rest.0, rest.1 ∙ append_assoc so_far (f so_far x ∷ []) rest.0)

get_here : {A : Type 0} (front more : List A) (y : A) (m : ℕ) → m ≡ length front → slice_get (front ++ y ∷ more) m ≡ Some y
get_here [] more y zero e = refl
get_here [] more y (suc m) e = absurd (omega (arith, e))
get_here (x ∷ front) more y zero e = absurd (omega (arith, e))
get_here (x ∷ front) more y (suc m) e = get_here front more y m (omega (arith, e))

-- an item, from those before it
chain_get : {A X : Type 0} (f : List A → X → A) (xs : List X) (so_far : List A) (k m : ℕ) → m ≡ length so_far + k
    → slice_get (chain f so_far xs) m ≡ option_map (f (take m (chain f so_far xs))) (slice_get xs k)
unfolding chain
chain_get f [] so_far k m e = slice_get_past so_far m (omega (arith, e))
chain_get f (x ∷ xs) so_far zero m e =
    let rest = chain_more f xs (so_far ++ f so_far x ∷ []) in
    let whole = rest.1 ∙ append_assoc so_far (f so_far x ∷ []) rest.0 in
    let long : m ≡ length so_far = omega (arith, e) in
    ap (λ items. slice_get items m) whole ∙ get_here so_far rest.0 (f so_far x) m long
    ∙ ap (λ front. Some (f front x)) (sym (ap (take m) whole ∙ take_at so_far (f so_far x ∷ rest.0) m (sym long)))
chain_get f (x ∷ xs) so_far (suc k) m e =
    let longer = length_push so_far (f so_far x) in
    chain_get f xs (so_far ++ f so_far x ∷ []) k m (omega (arith, e, longer))

get_take : {A : Type 0} (xs : List A) (k j : ℕ) → j < k → slice_get (take k xs) j ≡ slice_get xs j
get_take xs zero j lt = absurd (omega (arith, lt))
get_take [] (suc k) j lt = refl
get_take (x ∷ xs) (suc k) zero lt = refl
get_take (x ∷ xs) (suc k) (suc j) lt = get_take xs k j (omega (arith, lt))

-- ---- as they are asked

module _ (query : Query) (tables : Tables) (world : World) where
  -- what the views come to
  abbrev pub outcomes : List (Result Rows EvalFault)
  outcomes = outcomes_from query tables world [] query.views

  -- the rows of the views before the one with this number
  abbrev pub rows_before : ℕ → List Rows
  rows_before k = map rows_made (take k outcomes)

  abbrev next_asked : List (Result Rows EvalFault) → QView → Result Rows EvalFault
  next_asked so_far view = view_asked query tables world (map rows_made so_far) (length so_far) view

  outcomes_are : (views : List QView) (so_far : List (Result Rows EvalFault)) → outcomes_from query tables world so_far views ≡ chain next_asked so_far views
  unfolding outcomes_from chain
  outcomes_are [] so_far = refl
  outcomes_are (view ∷ views) so_far = outcomes_are views (so_far ++ next_asked so_far view ∷ [])

  outcome_get : (k : ℕ) (found : Option QView) → slice_get query.views k ≡ found → slice_get outcomes k ≡ option_map (next_asked (take k outcomes)) found
  outcome_get k found is =
      let all = outcomes_are query.views [] in
      ap (λ items. slice_get items k) all ∙ chain_get next_asked query.views [] k k (omega arith)
      ∙ ap (λ items. option_map (next_asked (take k items)) (slice_get query.views k)) (sym all)
      ∙ ap (option_map (next_asked (take k outcomes))) is

  -- a view that is there, over the rows of those before it
  pub outcome_is : (k : ℕ) (view : QView) → slice_get query.views k ≡ Some view → outcome_at query tables world k ≡ view_asked query tables world (rows_before k) k view
  unfolding outcome_at
  outcome_is k view is =
      let here = outcome_get k (Some view) is in
      let less = slice_get_within outcomes k (next_asked (take k outcomes) view) here in
      let long : length (take k outcomes) ≡ k = length-take-le k outcomes (omega (arith, less)) in
      ap (λ found. unwrap_or found (Ok [])) here ∙ ap (λ (n : ℕ). view_asked query tables world (rows_before k) n view) long

  -- one that is not there has no rows
  pub outcome_none : (k : ℕ) → slice_get query.views k ≡ None → outcome_at query tables world k ≡ Ok []
  unfolding outcome_at
  outcome_none k is = ap (λ found. unwrap_or found (Ok [])) (outcome_get k None is)

  made_or_none : (found : Option (Result Rows EvalFault)) → unwrap_or (option_map rows_made found) [] ≡ rows_made (unwrap_or found (Ok []))
  made_or_none None = refl
  made_or_none (Some outcome) = refl

  -- the rows of a view before are those that it came to
  pub before_is : (k j : ℕ) → j < k → rows_of (rows_before k) j ≡ rows_made (outcome_at query tables world j)
  unfolding rows_of outcome_at
  before_is k j lt =
      ap (λ found. unwrap_or found []) (slice_get-map rows_made (take k outcomes) j ∙ ap (option_map rows_made) (get_take outcomes k j lt))
      ∙ made_or_none (slice_get outcomes j)

-- ---- as they are meant

module _ (query : Query) (tables : Tables) (world : World) where
  -- the rows of the views
  abbrev pub meant : List Rows
  meant = views_from tables world [] query.views

  meant_are : (views : List QView) (so_far : List Rows) → views_from tables world so_far views ≡ chain (rows_of_view tables world) so_far views
  unfolding views_from chain
  meant_are [] so_far = refl
  meant_are (view ∷ views) so_far = meant_are views (so_far ++ rows_of_view tables world so_far view ∷ [])

  meant_get : (k : ℕ) (found : Option QView) → slice_get query.views k ≡ found → slice_get meant k ≡ option_map (rows_of_view tables world (take k meant)) found
  meant_get k found is =
      let all = meant_are query.views [] in
      ap (λ items. slice_get items k) all ∙ chain_get (rows_of_view tables world) query.views [] k k (omega arith)
      ∙ ap (λ items. option_map (rows_of_view tables world (take k items)) (slice_get query.views k)) (sym all)
      ∙ ap (option_map (rows_of_view tables world (take k meant))) is

  pub meant_is : (k : ℕ) (view : QView) → slice_get query.views k ≡ Some view → rows_of meant k ≡ rows_of_view tables world (take k meant) view
  unfolding rows_of
  meant_is k view is = ap (λ found. unwrap_or found []) (meant_get k (Some view) is)

  pub meant_none : (k : ℕ) → slice_get query.views k ≡ None → rows_of meant k ≡ []
  unfolding rows_of
  meant_none k is = ap (λ found. unwrap_or found []) (meant_get k None is)

  pub meant_before : (k j : ℕ) → j < k → rows_of (take k meant) j ≡ rows_of meant j
  unfolding rows_of
  meant_before k j lt = ap (λ found. unwrap_or found []) (get_take meant k j lt)
