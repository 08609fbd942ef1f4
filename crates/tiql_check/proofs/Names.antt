-- the columns that a name may mean, source by source
use Rattle.std.proofs.Common.{◌≡◌, ℕ, ◌+◌, ◌<◌, ◌≤◌, Bool, true, false, ◌||◌, List, [], ◌∷◌, ◌++◌, length, get_or, map, drop, refl, sym, ◌∙◌, ap}
use Rattle.std.specs.Prelude.{Option, Some, None, is_some, ok_or, Result, Ok, Err}
use Rattle.std.specs.Option.{option_to_list}
use Rattle.std.specs.List.{list_any}
use Rattle.std.proofs.lemmas.List.{drop_more, drop_all, append-nil}
use Rattle.std.proofs.lemmas.Bool.{false≢true}
use Rattle.tiql_tree.specs.declared.expression.TreeRef.{TreeRef}
use Rattle.tiql_check.specs.declared.fault.SoundFault.{SoundFault}
use Rattle.tiql_check.specs.declared.fault.SoundFault.TheVariants as fault
use Rattle.tiql_check.specs.declared.scope.Found.{Found}
use Rattle.tiql_check.specs.declared.scope.Meant.{Meant}
use Rattle.tiql_check.specs.declared.scope.InScope.{InScope}
use Rattle.tiql_tree.specs.declared.tree.TreeSource.{TreeSource}
use Rattle.tiql_query.specs.declared.relation.Source.{Source}
use Rattle.tiql_check.specs.declared.known.Known.{Known}
use Rattle.tiql_check.specs.Turns.{ChecksTo}
use Rattle.tiql_check.specs.Known.{declared, columns_in}
use Rattle.tiql_check.specs.Selects.{Taken, has_alias, with_source}
use Rattle.tiql_check.specs.Scopes.{seen, scope_of, fitting, of_source, candidates, only_one, meant}

-- what a check comes to without want of memory
pub gives-is : {A : Type 0} (outcome r : Result A SoundFault) → outcome ≡ r → ChecksTo outcome r
gives-is outcome (Ok a) is = is
gives-is outcome (Err e) is = λ ne. is

module _ (ref : TreeRef) (scope : List InScope) where
  rest-is : (i : ℕ) (it : InScope) → i < length scope → it ≡ get_or scope i it → candidates ref i (scope_of (drop i scope)) ≡ of_source i (fitting ref (seen it)) ++ candidates ref (i + 1) (scope_of (drop (i + 1) scope))
  unfolding candidates scope_of
  rest-is i it lt is = rw (drop_more scope i it lt, ← is) refl

  pub none_here : (i : ℕ) (it : InScope) (l r : List Meant) → i < length scope → it ≡ get_or scope i it → None ≡ fitting ref (seen it) → l ++ candidates ref i (scope_of (drop i scope)) ≡ r → l ++ candidates ref (i + 1) (scope_of (drop (i + 1) scope)) ≡ r
  none_here i it l r lt is none h = ap (λ o. l ++ (of_source i o ++ candidates ref (i + 1) (scope_of (drop (i + 1) scope)))) none ∙ ap (λ m. l ++ m) (sym (rest-is i it lt is)) ∙ h

  one_here : (i : ℕ) (it : InScope) (found : Found) → i < length scope → it ≡ get_or scope i it → Some found ≡ fitting ref (seen it) → candidates ref i (scope_of (drop i scope)) ≡ record { at = record { source = i; column = found.number }; kind = found.kind } ∷ candidates ref (i + 1) (scope_of (drop (i + 1) scope))
  one_here i it found lt is some = rest-is i it lt is ∙ ap (λ o. of_source i o ++ candidates ref (i + 1) (scope_of (drop (i + 1) scope))) (sym some)

  pub first_here : (i n : ℕ) (it : InScope) (found : Found) (before : Option Meant) (r : List Meant) → n ≡ i → i < length scope → it ≡ get_or scope i it → Some found ≡ fitting ref (seen it) → is_some before ≡ false → option_to_list before ++ candidates ref i (scope_of (drop i scope)) ≡ r → record { at = record { source = n; column = found.number }; kind = found.kind } ∷ candidates ref (i + 1) (scope_of (drop (i + 1) scope)) ≡ r
  first_here i n it found None r at lt is some none h =
      ap (λ (k : ℕ). record { at = record { source = k; column = found.number }; kind = found.kind } ∷ candidates ref (i + 1) (scope_of (drop (i + 1) scope))) at
      ∙ sym (one_here i it found lt is some) ∙ h
  first_here i n it found (Some m) r at lt is some none h = absurd (false≢true (sym none))

  pub second_here : (i : ℕ) (it : InScope) (found : Found) (before : Option Meant) → i < length scope → it ≡ get_or scope i it → Some found ≡ fitting ref (seen it) → is_some before ≡ true → option_to_list before ++ candidates ref i (scope_of (drop i scope)) ≡ candidates ref 0 (scope_of scope) → meant (scope_of scope) ref ≡ Err (fault.SameName ref.place)
  unfolding meant
  second_here i it found None lt is some there h = absurd (false≢true there)
  second_here i it found (Some m) lt is some there h = ap (only_one ref.place) (sym h ∙ ap (λ l. m ∷ l) (one_here i it found lt is some))

  pub at_end : (i : ℕ) (before : Option Meant) → length scope ≤ i → option_to_list before ++ candidates ref i (scope_of (drop i scope)) ≡ candidates ref 0 (scope_of scope) → meant (scope_of scope) ref ≡ ok_or before (fault.UnknownName ref.place)
  unfolding meant candidates scope_of
  at_end i before le h = ap (only_one ref.place) (sym h ∙ ap (λ l. option_to_list before ++ candidates ref i (scope_of l)) (drop_all i scope le) ∙ append-nil (option_to_list before)) ∙ by_before before
    where
      by_before : (o : Option Meant) → only_one ref.place (option_to_list o) ≡ ok_or o (fault.UnknownName ref.place)
      by_before None = refl
      by_before (Some m) = refl

-- one source more
pub scope_push : (items : List InScope) (it : InScope) → scope_of (items ++ it ∷ []) ≡ scope_of items ++ seen it ∷ []
unfolding scope_of
scope_push [] it = refl
scope_push (x ∷ xs) it = ap (λ l. seen x ∷ l) (scope_push xs it)

pub source_added : (known : Known) (before next : Taken) (tree : TreeSource) (source : Source) → Ok source ≡ declared known tree.relation → has_alias tree.alias.name before.scope ≡ false → next.sources ≡ before.sources ++ source ∷ [] → next.scope ≡ before.scope ++ record { alias = Some tree.alias.name; columns = columns_in known source } ∷ [] → with_source known before tree ≡ Ok next
source_added known before next tree source ok new sources scope = rw (← ok, new, ← sources, ← scope) refl

-- a test of mapped items
pub list_any-map : {A B : Type 0} (p : B → Bool) (f : A → B) (xs : List A) → list_any p (map f xs) ≡ list_any (λ x. p (f x)) xs
list_any-map p f [] = refl
list_any-map p f (x ∷ xs) = ap (λ b. p (f x) || b) (list_any-map p f xs)
