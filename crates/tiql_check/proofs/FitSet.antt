-- the set columns of a hypothetical table: each is set once, none is of the key, and each is a whole number
use Rattle.std.proofs.Common.{◌≡◌, ℕ, true, false, ◌==◌, ◌||◌, not, List, [], ◌∷◌, ◌++◌, refl, sym, ◌∙◌, ap, subst, if◌then◌else◌}
use Rattle.std.specs.Prelude.{Option, Some, None, Ok, Err, All}
use Rattle.std.specs.List.{list_all}
use Rattle.std.proofs.lemmas.Bool.{eqb-false, ne_eqb, not-true, not_from_false}
use Rattle.std.proofs.lemmas.List.Folds.{list_any-append}
use Rattle.std.proofs.lemmas.List.Elements.{All-nil, All-push}
use Rattle.tiql_query.specs.declared.relation.QTable.{QTable}
use Rattle.tiql_query.specs.declared.relation.QBound.{QBound}
use Rattle.tiql_query.specs.Kinds.{kind_at, is_number}
use Rattle.tiql_query.specs.WellFormed.{IsBoundFit, are_once}
use Rattle.tiql_tree.specs.declared.tree.Spot.{Spot}
use Rattle.tiql_tree.specs.declared.tree.TreeBound.{TreeBound}
use Rattle.tiql_check.specs.declared.fault.SoundFault.TheVariants as fault
use Rattle.tiql_check.specs.declared.scope.Kind.{Kind}
use Rattle.tiql_check.specs.declared.scope.Found.{Found}
use Rattle.tiql_check.specs.Turns.{◌>>=◌, in_turn}
use Rattle.tiql_check.specs.Scopes.{Scope, column_named}
use Rattle.tiql_check.specs.Expressions.{number_in}
use Rattle.tiql_check.specs.Tables.{is_among}
use Rattle.tiql_check.specs.Hypos.{bare_scope, is_set, set_column, with_bound}
use Rattle.tiql_check.specs.Small.{small_expr, small_bound}
use Rattle.tiql_check.proofs.Inverse.{came_of, kept, through}
use Rattle.tiql_check.proofs.Fit.{column_there}
use Rattle.tiql_check.proofs.FitExprs.{number_fit}
use Rattle.std.proofs.lemmas.Bool.{and_parts}
use Rattle.std.proofs.lemmas.Bool.{and_from}
use Rattle.std.proofs.lemmas.Bool.{or_parts}
use Rattle.base_kit.proofs.Results.{same_Ok}

other_way : (m n : ℕ) → (m == n) ≡ false → (n == m) ≡ false
other_way m n differ = ne_eqb n m (λ e. eqb-false m n differ (sym e))

-- one column more, which was not set before
pub once_push : (before : List QBound) (made : QBound) → is_set made.column before ≡ false → are_once before ≡ true → are_once (before ++ made ∷ []) ≡ true
unfolding are_once
once_push [] made free once = refl
once_push (b ∷ bs) made free once =
    let tests = and_parts (not (is_set b.column bs)) (are_once bs) once in
    let parts = or_parts (b.column == made.column) (is_set made.column bs) free in
    let unset : is_set b.column (bs ++ made ∷ []) ≡ false = list_any-append (λ (bound : QBound). bound.column == b.column) bs (made ∷ [])
    ∙ ap (λ test. test || ((made.column == b.column) || false)) (not-true (is_set b.column bs) tests.0) ∙ ap (λ test. test || false) (other_way b.column made.column parts.0) in
    and_from (not (is_set b.column (bs ++ made ∷ []))) (are_once (bs ++ made ∷ [])) (not_from_false (is_set b.column (bs ++ made ∷ [])) unset) (once_push bs made parts.1 tests.1)

-- the bounds made so far fit
pub record AreBoundsFit (table : QTable) (bounds : List QBound) : Type 0 where
  pub fit : All (IsBoundFit table.columns) bounds
  pub once : are_once bounds ≡ true
  pub keys : All (λ bound. is_among bound.column table.key ≡ false) bounds

-- the number of a column that may be set: it is not set yet, not of the key, and that of a whole number
record MaySet (table : QTable) (before : List QBound) (n : ℕ) : Type 0 where
  unset : is_set n before ≡ false
  free : is_among n table.key ≡ false
  whole : is_number (kind_at (table.columns ∷ []) (record { source = 0; column = n })) ≡ true

may_set : (table : QTable) (before : List QBound) (name : Spot) (n : ℕ) → set_column table before name (column_named name.name 0 table.columns) ≡ Ok n → MaySet table before n
unfolding kind_at
may_set table before name n e = by_found (column_named name.name 0 table.columns) refl e
  where
    by_found : (o : Option Found) → column_named name.name 0 table.columns ≡ o → set_column table before name o ≡ Ok n → MaySet table before n
    by_found None is h = absurd (let k : Err (fault.UnknownName name.place) ≡ Ok n = h in cc)
    by_found (Some found) is h =
        let new = kept (is_set found.number before) (fault.SameName name.place) (if is_among found.number table.key then Err (fault.KeyUnknown name.place) else (if found.kind.text then Err (fault.WrongType name.place) else Ok found.number)) n h in
        let free = kept (is_among found.number table.key) (fault.KeyUnknown name.place) (if found.kind.text then Err (fault.WrongType name.place) else Ok found.number) n new.1 in
        let plain = kept found.kind.text (fault.WrongType name.place) (Ok found.number) n free.1 in
        let there = column_there name.name 0 [] table.columns found refl is in
        subst (MaySet table before) (same_Ok found.number n plain.1) (record {
          unset = new.0;
          free = free.0;
          whole = rw there.1 (ap (λ (k : Kind). not k.text) there.2 ∙ rw plain.0 refl);
        })

bound_step : (table : QTable) (before next : List QBound) (bound : TreeBound) → small_bound bound ≡ true → with_bound (bare_scope table) table before bound ≡ Ok next → AreBoundsFit table before → AreBoundsFit table next
bound_step table before next bound small e p =
    let tests = and_parts (small_expr bound.lo) (small_expr bound.hi) small in
    let scope : Scope = bare_scope table in
    let number = came_of (set_column table before bound.name (column_named bound.name.name 0 table.columns)) (λ number. number_in scope bound.lo >>= (λ lo. number_in scope bound.hi >>= (λ hi. Ok (before ++ record { column = number; lo = lo.expr; hi = hi.expr } ∷ [])))) next e in
    let lo = came_of (number_in scope bound.lo) (λ lo. number_in scope bound.hi >>= (λ hi. Ok (before ++ record { column = number.0; lo = lo.expr; hi = hi.expr } ∷ []))) next number.2 in
    let hi = came_of (number_in scope bound.hi) (λ hi. Ok (before ++ record { column = number.0; lo = (lo.0).expr; hi = hi.expr } ∷ [])) next lo.2 in
    let made : QBound = record { column = number.0; lo = (lo.0).expr; hi = (hi.0).expr } in
    let may = may_set table before bound.name number.0 number.1 in
    subst (AreBoundsFit table) (same_Ok (before ++ made ∷ []) next hi.2) (record {
      fit = All-push (IsBoundFit table.columns) before made p.fit (record {
        column = may.whole;
        lo = ap is_number (number_fit scope bound.lo lo.0 lo.1 tests.0);
        hi = ap is_number (number_fit scope bound.hi hi.0 hi.1 tests.1);
      });
      once = once_push before made may.unset p.once;
      keys = All-push (λ (it : QBound). is_among it.column table.key ≡ false) before made p.keys may.free;
    })

no_bounds : (table : QTable) → AreBoundsFit table []
unfolding are_once
no_bounds table = record { fit = All-nil (IsBoundFit table.columns); once = refl; keys = All-nil (λ (it : QBound). is_among it.column table.key ≡ false) }

pub bounds_fit : (table : QTable) (trees : List TreeBound) (bounds : List QBound) → list_all small_bound trees ≡ true → in_turn (with_bound (bare_scope table) table) [] trees ≡ Ok bounds → AreBoundsFit table bounds
bounds_fit table trees bounds small e = through (with_bound (bare_scope table) table) (AreBoundsFit table) small_bound (bound_step table) trees [] bounds small e (no_bounds table)
