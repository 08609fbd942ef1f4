-- What the tests on worked programs show.
use Rattle.std.proofs.Common.{◌≡◌, ◌≢◌, ℕ, zero, suc, ◌+◌, ◌<◌, Bool, true, false, ◌&&◌, nat_eq, nat_lt, pos, unsigned_abs, List, [], ◌∷◌, length, map, get_or, sym, ap, subst, arith, refl}
use Rattle.std.specs.List.{All, Contains, list_all, list_any}
use Rattle.std.specs.List.Sorted.{IsStrictlyIncreasing}
use Rattle.std.proofs.lemmas.Bool.{ltb-true, eqb-true}
use Rattle.std.proofs.lemmas.List.Elements.{All-nil, All-cons}
use Rattle.std.proofs.lemmas.Map.Views.{Contains-from_any}
use Rattle.ip_rows.specs.declared.rows.Coef.{Coef}
use Rattle.ip_rows.specs.declared.rows.IpRow.{IpRow}
use Rattle.ip_rows.specs.declared.mult.Mult.{Mult}
use Rattle.ip_rows.specs.Rows.{AreTerms}
use Rattle.safe_bound.specs.Bound.{row_at}
use Rattle.safe_bound.specs.Below.{IsReach}
use Rattle.number_tests.specs.Programs.{rise, is_term, are_terms, are_within}

both : (a b : Bool) → (a && b) ≡ true → (a ≡ true) × (b ≡ true)
both true b e = (refl, e)
both false b e = cc

pub all_from : {X : Type 0} (P : X → Type 0) (p : X → Bool) → ((x : X) → p x ≡ true → P x) → (xs : List X) → list_all p xs ≡ true → All P xs
all_from P p h [] e = All-nil P
all_from P p h (x ∷ xs) e =
    let b = both (p x) (list_all p xs) e in
    All-cons P x xs (h x b.0) (all_from P p h xs b.1)

pub rises : (ns : List ℕ) → rise ns ≡ true → IsStrictlyIncreasing ns
rises [] e k lt = absurd (omega arith)
rises (m ∷ []) e k lt = absurd (omega arith)
rises (m ∷ n ∷ ns) e zero lt = ltb-true m n (both (nat_lt m n) (rise (n ∷ ns)) e).0
rises (m ∷ n ∷ ns) e (suc k) lt =
    let next : suc k + 1 ≡ suc (k + 1) = omega arith in
    subst (λ j. get_or (m ∷ n ∷ ns) (suc k) 0 < get_or (m ∷ n ∷ ns) j 0) (sym next) (rises (n ∷ ns) (both (nat_lt m n) (rise (n ∷ ns)) e).1 k (omega arith))

not_zero : (term : Coef) → nat_lt 0 (unsigned_abs term.factor) ≡ true → term.factor ≢ pos 0
not_zero term h same =
    let some : 0 < unsigned_abs term.factor = ltb-true 0 (unsigned_abs term.factor) h in
    let none : unsigned_abs term.factor ≡ 0 = ap unsigned_abs same in
    omega arith

pub terms_from : (columns : ℕ) (terms : List Coef) → are_terms columns terms ≡ true → AreTerms columns terms
terms_from columns terms e =
    let b = both (rise (map (λ (term : Coef). term.column) terms)) (list_all (is_term columns) terms) e in
    record {
      rising = rises (map (λ (term : Coef). term.column) terms) b.0;
      there = all_from (λ (term : Coef). term.column < columns) (is_term columns) (λ term h. ltb-true term.column columns (both (nat_lt term.column columns) (nat_lt 0 (unsigned_abs term.factor)) h).0) terms b.1;
      factors = all_from (λ (term : Coef). term.factor ≢ pos 0) (is_term columns) (λ term h. not_zero term (both (nat_lt term.column columns) (nat_lt 0 (unsigned_abs term.factor)) h).1) terms b.1;
    }

pub rows_from : (columns : ℕ) (rows : List IpRow) → list_all (λ (row : IpRow). are_terms columns row.terms) rows ≡ true → All (λ (row : IpRow). AreTerms columns row.terms) rows
rows_from columns = all_from (λ (row : IpRow). AreTerms columns row.terms) (λ (row : IpRow). are_terms columns row.terms) (λ row h. terms_from columns row.terms h)

pub within_from : (reach : List ℕ) (terms : List Coef) → are_within reach terms ≡ true → All (λ (term : Coef). Contains reach term.column) terms
within_from reach =
    all_from (λ (term : Coef). Contains reach term.column) (λ (term : Coef). list_any (nat_eq term.column) reach) (λ term h. Contains-from_any eqb-true term.column reach h)

pub named_from : (rows : List IpRow) (ms : List Mult) → list_all (λ (m : Mult). nat_lt m.row (length rows)) ms ≡ true → All (λ (m : Mult). m.row < length rows) ms
named_from rows =
    all_from (λ (m : Mult). m.row < length rows) (λ (m : Mult). nat_lt m.row (length rows)) (λ m h. ltb-true m.row (length rows) h)

pub reach_from : (columns : ℕ) (rows : List IpRow) (aim : List Coef) (ms : List Mult) (reach : List ℕ) → rise reach ≡ true → list_all (λ column. nat_lt column columns) reach ≡ true → are_within reach aim ≡ true → list_all (λ (m : Mult). are_within reach (row_at rows m.row).terms) ms ≡ true → IsReach columns rows aim ms reach
reach_from columns rows aim ms reach up below aims named =
    record {
      rising = rises reach up;
      there = all_from (λ column. column < columns) (λ column. nat_lt column columns) (λ column h. ltb-true column columns h) reach below;
      aim_within = within_from reach aim aims;
      rows_within = all_from (λ (m : Mult). All (λ (term : Coef). Contains reach term.column) (row_at rows m.row).terms) (λ (m : Mult). are_within reach (row_at rows m.row).terms) (λ m h. within_from reach (row_at rows m.row).terms h) ms named;
    }
