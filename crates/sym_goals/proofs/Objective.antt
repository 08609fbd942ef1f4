-- the number of the objective, step by step
use Rattle.std.proofs.Common.{◌≡◌, ◌∙◌, sym, ap, subst, refl, ℕ, ◌+◌, ◌<◌, ◌≤◌, ℤ, pos, ◌+ℤ◌, ◌*ℤ◌, Bool, true, false, cond, List, [], ◌∷◌, ◌++◌, length, get_or, take, map, All, Result, Ok, Err, arith}
use Rattle.std.specs.Prelude.{if◌then◌else◌}
use Rattle.std.proofs.lemmas.Int.{ints}
use Rattle.std.proofs.lemmas.List.{take_all}
use Rattle.tiql_query.specs.declared.relation.Column.{Column}
use Rattle.tiql_query.specs.declared.expression.Expr.{Expr}
use Rattle.row_values.specs.Values.{number, total, value}
use Rattle.prov_fold.specs.Graphs.{Graph, HasNumber}
use Rattle.prov_fold.specs.Values.{holds}
use Rattle.prov_fold.specs.declared.span.Scaled.{Scaled}
use Rattle.prov_fold.specs.Rules as rule
use Rattle.sym_rows.specs.declared.fault.WalkFault.{WalkFault}
use Rattle.sym_rows.specs.declared.row.SymRow.{SymRow}
use Rattle.sym_rows.specs.Cells.{row_in, is_there, rows_in}
use Rattle.sym_rows.specs.Walks.{Walked, Walk, gives, ◌>>=◌, by_rule, Makes}
use Rattle.sym_rows.proofs.Makes.{makes_gives, makes_then, makes_stop}
use Rattle.sym_values.specs.Meanings.{IsRowFit, HasKind, IsNumberOf}
use Rattle.sym_values.specs.Numbers.{number_of}
use Rattle.sym_values.specs.Steps.{IsPart, IsSumMade, scaled_in}
use Rattle.sym_values.proofs.Numbering.{makes_on}
use Rattle.sym_goals.specs.Goals.{share_of, shares_of, total_of, aim_of}
use Rattle.sym_goals.specs.Meant.{IsAimOf}
use Rattle.sym_goals.specs.Shares.{share_in, IsShareOf, AreSharesOf}
use Rattle.sym_goals.proofs.Turns.{one_fit, one_more}

one_times : (n : ℤ) → pos 1 *ℤ n ≡ n
one_times n = grind (arith, ints)

-- ---- one row

module _ (columns : List Column) (part : Expr) (row : SymRow) (g : Graph) where
  abbrev value_walk : Walked ℕ
  value_walk = number_of (columns ∷ []) (row ∷ []) part g

  abbrev IsValue : ℕ → List ℤ → (ℕ → ℤ) → Type 0
  IsValue = IsNumberOf (columns ∷ []) (row ∷ []) part

  abbrev as_part : ℕ → Scaled
  as_part share = record { factor = pos 1; number = share }

  abbrev then_part : ℕ → Walk Scaled
  then_part share g = gives (as_part share) g

  abbrev guarded : ℕ → Walk ℕ
  guarded value g = by_rule (rule.guard row.presence value) g

  abbrev then_guard : ℕ → Walk Scaled
  then_guard value g = guarded value g >>= then_part

  abbrev IsGuarded : ℕ → ℕ → List ℤ → (ℕ → ℤ) → Type 0
  IsGuarded value id numbers v = v id ≡ (if holds v row.presence then v value else pos 0)

  pub share_ok : (value share : ℕ) (mid late : Graph) → Makes value_walk HasNumber IsValue g (Ok value) mid → Makes (by_rule (rule.guard row.presence value) mid) HasNumber (λ id _ v. v id ≡ (if holds v row.presence then v value else pos 0)) mid (Ok share) late
      → Makes (share_of columns part row g) IsPart (IsShareOf columns part row) g (Ok (record { factor = pos 1; number = share })) late
  unfolding share_of
  share_ok value share mid late h k =
      makes_on HasNumber IsValue IsPart (IsShareOf columns part row) (λ made world v. IsValue value world v → IsShareOf columns part row made world v) value_walk then_guard g mid value late (Ok (as_part share)) (λ made world v first tells. tells first) h
      (makes_on HasNumber (IsGuarded value) IsPart (λ made world v. IsValue value world v → IsShareOf columns part row made world v) (λ made _ v. made ≡ as_part share) (guarded value mid) then_part mid late share late (Ok (as_part share))
      (λ made world v is same first fit has. ap (scaled_in v) same ∙ one_times (v share) ∙ is ∙ ap (λ (n : ℤ). cond (is_there v row) n (pos 0)) (first (one_fit columns row fit) has)) k
      (makes_gives IsPart (λ made _ v. made ≡ as_part share) (as_part share) late (record { number = k.good; one = omega arith }) (λ l world later. refl)))

  pub share_stop : (e : WalkFault) (after : Graph) → Makes value_walk HasNumber IsValue g (Err e) after → Makes (share_of columns part row g) IsPart (IsShareOf columns part row) g (Err e) after
  unfolding share_of
  share_stop e after h = makes_stop HasNumber IsValue IsPart (IsShareOf columns part row) value_walk then_guard g after e h

  pub share_late : (value : ℕ) (e : WalkFault) (mid after : Graph) → Makes value_walk HasNumber IsValue g (Ok value) mid → Makes (by_rule (rule.guard row.presence value) mid) HasNumber (λ id _ v. v id ≡ (if holds v row.presence then v value else pos 0)) mid (Err e) after
      → Makes (share_of columns part row g) IsPart (IsShareOf columns part row) g (Err e) after
  unfolding share_of
  share_late value e mid after h k =
      makes_then HasNumber IsValue IsPart (IsShareOf columns part row) value_walk then_guard g mid value after (Err e) h
      (makes_stop HasNumber (IsGuarded value) IsPart (IsShareOf columns part row) (guarded value mid) then_part mid after e k)

-- ---- the rows in turn

module _ (columns : List Column) (part : Expr) (rows : List SymRow) where
  abbrev pub SharesSo : ℕ → List Scaled → List ℤ → (ℕ → ℤ) → Type 0
  SharesSo i made numbers v = All (IsRowFit columns) rows → HasKind (columns ∷ []) part → map (scaled_in v) made ≡ map (share_in v part) (take i rows)

  pub shares_step : (i : ℕ) (row : SymRow) (made : List Scaled) (one : Scaled) (numbers : List ℤ) (v : ℕ → ℤ) → i < length rows → row ≡ get_or rows i row → SharesSo i made numbers v → IsShareOf columns part row one numbers v → SharesSo (i + 1) (made ++ one ∷ []) numbers v
  shares_step i row made one numbers v lt is so mine fit has = one_more (scaled_in v) (share_in v part) rows i row made one lt is (so fit has) (mine (subst (IsRowFit columns) (sym is) (fit i row lt)) has)

  pub shares_end : (i : ℕ) (made : List Scaled) (numbers : List ℤ) (v : ℕ → ℤ) → length rows ≤ i → SharesSo i made numbers v → AreSharesOf columns part rows made numbers v
  shares_end i made numbers v le so fit has = so fit has ∙ ap (map (share_in v part)) (take_all i rows le)

-- ---- their sum

zero_and : (n m : ℤ) → n ≡ m → pos 0 +ℤ n ≡ m
zero_and n m same = omega (arith, ints, same)

-- rows that are not there bring nothing
total_there : (v : ℕ → ℤ) (part : Expr) (rows : List SymRow) → total (map (share_in v part) rows) ≡ total (map (λ row. number (value (row ∷ []) part)) (rows_in v rows))
total_there v part [] = refl
total_there v part (row ∷ rows) = by_there (is_there v row) refl (total_there v part rows)
  where
    by_there : (b : Bool) → is_there v row ≡ b → total (map (share_in v part) rows) ≡ total (map (λ row. number (value (row ∷ []) part)) (rows_in v rows)) → total (map (share_in v part) (row ∷ rows)) ≡ total (map (λ row. number (value (row ∷ []) part)) (rows_in v (row ∷ rows)))
    by_there true e rest = rw e (ap (λ (n : ℤ). number (value (row_in v row ∷ []) part) +ℤ n) rest)
    by_there false e rest = rw e (zero_and _ _ rest)

module _ (columns : List Column) (part : Expr) (rows : List SymRow) (g mid : Graph) where
  abbrev AreParts : Graph → List Scaled → Type 0
  AreParts g made = All (IsPart g) made

  pub aim_ok : (made items : List Scaled) (after : Graph) (r : Result ℕ WalkFault) → items ≡ made → Makes (shares_of columns part rows g) (λ g made. All (IsPart g) made) (AreSharesOf columns part rows) g (Ok made) mid → Makes (total_of items mid) HasNumber (IsSumMade items) mid r after
      → Makes (aim_of columns part rows g) HasNumber (IsAimOf columns part rows) g r after
  unfolding aim_of
  aim_ok made items after r same h k =
      makes_on AreParts (AreSharesOf columns part rows) HasNumber (IsAimOf columns part rows) (IsSumMade made) (shares_of columns part rows g) total_of g mid made after r
      (λ id world v are is fit has. is ∙ ap total (are fit has) ∙ total_there v part rows) h (subst (λ (l : List Scaled). Makes (total_of l mid) HasNumber (IsSumMade l) mid r after) same k)

  pub aim_stop : (e : WalkFault) → Makes (shares_of columns part rows g) (λ g made. All (IsPart g) made) (AreSharesOf columns part rows) g (Err e) mid → Makes (aim_of columns part rows g) HasNumber (IsAimOf columns part rows) g (Err e) mid
  unfolding aim_of
  aim_stop e h = makes_stop AreParts (AreSharesOf columns part rows) HasNumber (IsAimOf columns part rows) (shares_of columns part rows g) total_of g mid e h
