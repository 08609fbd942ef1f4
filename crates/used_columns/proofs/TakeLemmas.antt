-- Taking the nodes whose totals are not 0, one term after another.
use Rattle.std.proofs.Common.{◌≡◌, ◌≢◌, ◌∙◌, sym, ap, subst, refl, ℕ, ◌+◌, ◌<◌, ◌≤◌, ◌↔◌, ◌==◌, ◌||◌, if◌then◌else◌, cond, Bool, true, false, ◌⊎◌, inl, inr, ⊎_elim, ℤ, pos, ◌+ℤ◌, List, [], ◌∷◌, ◌++◌, length, take, get_or, set, replicate, Contains, arith}
use Rattle.std.specs.List.{list_any}
use Rattle.std.specs.Ordering.{int_eq}
use Rattle.std.proofs.lemmas.Bool.{cases_eq}
use Rattle.std.proofs.lemmas.Bool.Decides.{Decides-eqb, Decides-int_eq}
use Rattle.std.proofs.lemmas.List.{take_more, take_all, length-set, length-replicate, get_or-set_same, get_or-set_other, get_or-replicate, ext_get_or}
use Rattle.std.proofs.lemmas.List.Elements.{Contains-push, Contains-push_cases, Contains-append_left}
use Rattle.prov_arena.specs.declared.part.Term.{Term}
use Rattle.prov_fold.specs.Rules.{factor_at}
use Rattle.used_columns.specs.Seeds.{AreTotals}

-- a term of the node is among them
abbrev pub among : ℕ → List Term → Bool
among z ts = list_any (λ (t : Term). t.node == z) ts

among_push : (z : ℕ) (ts : List Term) (t : Term) → among z (ts ++ t ∷ []) ≡ (among z ts || (t.node == z))
among_push z [] t = or_false (t.node == z)
  where
    or_false : (b : Bool) → (b || false) ≡ b
    or_false true = refl
    or_false false = refl
among_push z (s ∷ ts) t = ap (λ b. (s.node == z) || b) (among_push z ts t) ∙ or_assoc (s.node == z) (among z ts) (t.node == z)
  where
    or_assoc : (a b c : Bool) → (a || (b || c)) ≡ ((a || b) || c)
    or_assoc true b c = refl
    or_assoc false b c = refl

or_left : (a b : Bool) → a ≡ true → (a || b) ≡ true
or_left a b e = ap (λ x. x || b) e

or_right : (a b : Bool) → b ≡ true → (a || b) ≡ true
or_right true b e = refl
or_right false b e = e

or_cases : (a b : Bool) → (a || b) ≡ true → (a ≡ true) ⊎ (b ≡ true)
or_cases true b e = inl refl
or_cases false b e = inr e

or_false_both : (a b : Bool) → (a || b) ≡ false → (a ≡ false) × (b ≡ false)
or_false_both true b e = cc
or_false_both false b e = (refl, e)

-- a node without a term has the factor 0
factor_none : (ts : List Term) (z : ℕ) → among z ts ≡ false → factor_at ts z ≡ pos 0
factor_none [] z e = refl
factor_none (t ∷ ts) z e =
    let parts = or_false_both (t.node == z) (among z ts) e in
    let first = ap (λ b. if b then t.factor else pos 0) parts.0 in
    let rest = factor_none ts z parts.1 in
    (λ i. first i +ℤ rest i)

by_bool : (b : Bool) → (b ≡ true) ⊎ (b ≡ false)
by_bool true = inl refl
by_bool false = inr refl

-- what is taken once the terms that are done have had their turn
pub record AreTaken (n : ℕ) (ts done : List Term) (totals : List ℤ) (seeds : List ℕ) : Type 0 where
  pub count : length totals ≡ n
  pub left : (z : ℕ) → z < n → get_or totals z (pos 0) ≡ cond (among z done) (pos 0) (factor_at ts z)
  pub taken : (z : ℕ) → Contains seeds z ↔ ((among z done ≡ true) × (factor_at ts z ≢ pos 0))

pub taken_begin : (n : ℕ) (ts : List Term) (totals : List ℤ) → AreTotals n ts totals → AreTaken n ts (take 0 ts) totals []
taken_begin n ts totals are = record {
  count = are.count;
  left = are.each;
  taken = λ z. (λ c. absurd (omega (arith, c.1)), λ h. let no : false ≡ true = h.0 in cc);
}

module _ (n : ℕ) (ts : List Term) (i : ℕ) (t : Term) (lt : i < length ts) (is : t ≡ get_or ts i t) (there : t.node < n) (totals next : List ℤ) (seeds more : List ℕ)
    (zeroed : next ≡ set totals t.node (pos 0)) (made : more ≡ (if int_eq (get_or totals t.node (pos 0)) (pos 0) then seeds else seeds ++ t.node ∷ [])) (are : AreTaken n ts (take i ts) totals seeds) where
  abbrev k : ℕ
  k = t.node

  abbrev done : List Term
  done = take i ts

  abbrev total : ℤ
  total = get_or totals k (pos 0)

  among_next : (z : ℕ) → among z (take (i + 1) ts) ≡ (among z done || (k == z))
  among_next z = ap (among z) (take_more ts i t lt ∙ ap (λ (x : Term). done ++ x ∷ []) (sym is)) ∙ among_push z done t

  among_self : among k (take (i + 1) ts) ≡ true
  among_self = among_next k ∙ or_right (among k done) (k == k) ((Decides-eqb k k).1 refl)

  among_kept : (z : ℕ) → among z done ≡ true → among z (take (i + 1) ts) ≡ true
  among_kept z e = among_next z ∙ or_left (among z done) (k == z) e

  among_other : (z : ℕ) → z ≢ k → among z (take (i + 1) ts) ≡ among z done
  among_other z ne = among_next z ∙ same (among z done) (k == z) refl
    where
      same : (a b : Bool) → (k == z) ≡ b → (a || b) ≡ a
      same true b e = refl
      same false true e = absurd (ne (sym ((Decides-eqb k z).0 e)))
      same false false e = refl

  left_next : (z : ℕ) → z < n → get_or next z (pos 0) ≡ cond (among z (take (i + 1) ts)) (pos 0) (factor_at ts z)
  left_next z less =
      let count = are.count in
      ap (λ (m : List ℤ). get_or m z (pos 0)) zeroed
      ∙ ⊎_elim
      (λ same.
      ap (λ x. get_or (set totals k (pos 0)) x (pos 0)) same ∙ get_or-set_same totals k (pos 0) (pos 0) (omega (arith, there, count))
      ∙ sym (ap (λ x. cond (among x (take (i + 1) ts)) (pos 0) (factor_at ts x)) same ∙ ap (λ b. cond b (pos 0) (factor_at ts k)) among_self))
      (λ other. get_or-set_other totals k z (pos 0) (pos 0) other ∙ are.left z less ∙ sym (ap (λ b. cond b (pos 0) (factor_at ts z)) (among_other z other)))
      (cases_eq z k)

  -- the total is the factor where the node had no turn yet, else 0
  total_fresh : among k done ≡ false → total ≡ factor_at ts k
  total_fresh e = are.left k there ∙ ap (λ b. cond b (pos 0) (factor_at ts k)) e

  total_gone : among k done ≡ true → total ≡ pos 0
  total_gone e = are.left k there ∙ ap (λ b. cond b (pos 0) (factor_at ts k)) e

  more_kept : (b : Bool) → int_eq total (pos 0) ≡ b → (z : ℕ) → Contains seeds z → Contains more z
  more_kept true e z c = subst (λ xs. Contains xs z) (sym (made ∙ ap (λ b. if b then seeds else seeds ++ k ∷ []) e)) c
  more_kept false e z c = subst (λ xs. Contains xs z) (sym (made ∙ ap (λ b. if b then seeds else seeds ++ k ∷ []) e)) (Contains-append_left seeds (k ∷ []) z c)

  -- what is new is a node whose factor is not 0
  more_from : (b : Bool) → int_eq total (pos 0) ≡ b → (z : ℕ) → Contains more z → Contains seeds z ⊎ ((k ≡ z) × (total ≢ pos 0))
  more_from true e z c = inl (subst (λ xs. Contains xs z) (made ∙ ap (λ b. if b then seeds else seeds ++ k ∷ []) e) c)
  more_from false e z c =
      ⊎_elim (λ old. inl old) (λ same. inr (same, λ zero. let no : false ≡ true = sym e ∙ (Decides-int_eq total (pos 0)).1 zero in cc))
      (Contains-push_cases seeds k z (subst (λ xs. Contains xs z) (made ∙ ap (λ b. if b then seeds else seeds ++ k ∷ []) e) c))

  more_has : (b : Bool) → int_eq total (pos 0) ≡ b → total ≢ pos 0 → Contains more k
  more_has true e ne = absurd (ne ((Decides-int_eq total (pos 0)).0 e))
  more_has false e ne = subst (λ xs. Contains xs k) (sym (made ∙ ap (λ b. if b then seeds else seeds ++ k ∷ []) e)) (Contains-push seeds k)

  factor_here : total ≢ pos 0 → factor_at ts k ≢ pos 0
  factor_here ne none = ⊎_elim (λ gone. ne (total_gone gone)) (λ fresh. ne (total_fresh fresh ∙ none)) (by_bool (among k done))

  seed_is : (z : ℕ) → Contains more z → (among z (take (i + 1) ts) ≡ true) × (factor_at ts z ≢ pos 0)
  seed_is z c =
      ⊎_elim (λ old. let h = (are.taken z).0 old in (among_kept z h.0, h.1))
      (λ (new : (k ≡ z) × (total ≢ pos 0)). (subst (λ x. among x (take (i + 1) ts) ≡ true) new.0 among_self, subst (λ x. factor_at ts x ≢ pos 0) new.0 (factor_here new.1)))
      (more_from (int_eq total (pos 0)) refl z c)

  -- a node that had its turn before is among the seeds, and the others have their factor as total
  seed_here : factor_at ts k ≢ pos 0 → Contains more k
  seed_here ne =
      ⊎_elim (λ gone. more_kept (int_eq total (pos 0)) refl k ((are.taken k).1 (gone, ne))) (λ fresh. more_has (int_eq total (pos 0)) refl (λ zero. ne (sym (total_fresh fresh) ∙ zero)))
      (by_bool (among k done))

  seed_has : (z : ℕ) → (among z (take (i + 1) ts) ≡ true) × (factor_at ts z ≢ pos 0) → Contains more z
  seed_has z (at, ne) =
      ⊎_elim (λ old. more_kept (int_eq total (pos 0)) refl z ((are.taken z).1 (old, ne)))
      (λ new. let same : k ≡ z = (Decides-eqb k z).0 new in subst (Contains more) same (seed_here (λ zero. ne (ap (factor_at ts) (sym same) ∙ zero))))
      (or_cases (among z done) (k == z) (sym (among_next z) ∙ at))

  pub taken_more : AreTaken n ts (take (i + 1) ts) next more
  taken_more = record {
    count = ap (λ m. length m) zeroed ∙ length-set totals k (pos 0) ∙ are.count;
    left = left_next;
    taken = λ z. (seed_is z, seed_has z);
  }

module _ (n i : ℕ) (ts : List Term) (totals : List ℤ) (seeds : List ℕ) (le : length ts ≤ i) (are : AreTaken n ts (take i ts) totals seeds) where
  all_done : take i ts ≡ ts
  all_done = take_all i ts le

  among_there : (z : ℕ) → factor_at ts z ≢ pos 0 → among z (take i ts) ≡ true
  among_there z ne = ap (among z) all_done ∙ ⊎_elim (λ yes_. yes_) (λ none. absurd (ne (factor_none ts z none))) (by_bool (among z ts))

  pub taken_seeds : (z : ℕ) → Contains seeds z ↔ (factor_at ts z ≢ pos 0)
  taken_seeds z = (λ c. ((are.taken z).0 c).1, λ ne. (are.taken z).1 (among_there z ne, ne))

  total_zero : (z : ℕ) (b : Bool) → among z ts ≡ b → cond (among z ts) (pos 0) (factor_at ts z) ≡ pos 0
  total_zero z true e = ap (λ b. cond b (pos 0) (factor_at ts z)) e
  total_zero z false e = ap (λ b. cond b (pos 0) (factor_at ts z)) e ∙ factor_none ts z e

  pub taken_totals : totals ≡ replicate n (pos 0)
  taken_totals =
      let count = are.count in
      let long = length-replicate n (pos 0) in
      ext_get_or (pos 0) totals (replicate n (pos 0)) (count ∙ sym long)
      (λ z lt. are.left z (omega (arith, lt, count)) ∙ ap (λ xs. cond (among z xs) (pos 0) (factor_at ts z)) all_done ∙ total_zero z (among z ts) refl ∙ sym (get_or-replicate n z (pos 0) (pos 0) (omega (arith, lt, count))))
