-- what is checked fits: expressions have the kind that is told of them, and conditions compare what is alike
use Rattle.std.proofs.Common.{◌≡◌, ℕ, ◌+◌, Bool, true, false, List, [], ◌∷◌, ◌++◌, length, suc, get_or, map, refl, sym, ◌∙◌, ap, subst, append_assoc, arith, if◌then◌else◌}
use Rattle.std.specs.Prelude.{Option, Some, None, slice_get}
use Rattle.std.specs.List.{AllByRecursion}
use Rattle.std.proofs.lemmas.List.{map-append, length-append, length-map}
use Rattle.std.proofs.lemmas.Option.{slice_get-get_or}
use Rattle.std.proofs.Math.Seq.{get_or-append_seam}
use Rattle.tiql_query.specs.declared.relation.Column.{Column}
use Rattle.tiql_query.specs.Kinds as query
use Rattle.tiql_query.specs.Kinds.{kind_at, arithmetic, multiplied, kind, is_fit}
use Rattle.tiql_tree.specs.declared.expression.TreeRef.{TreeRef}
use Rattle.tiql_check.specs.declared.scope.Kind.{Kind}
use Rattle.tiql_check.specs.declared.scope.Found.{Found}
use Rattle.tiql_check.specs.declared.scope.Meant.{Meant}
use Rattle.tiql_check.specs.Scopes.{same, Seen, Scope, kind_of, column_named, may_qualify, fitting, of_source, candidates}

-- the columns of each source
abbrev pub cols : Scope → query.Scope
cols scope = map (λ (it : Seen). it.columns) scope

abbrev pub as_kind : Kind → query.Kind
as_kind kind = record { text = kind.text; unknown = kind.unknown }

pub at_front : {A : Type 0} (front : List A) (x : A) (rest : List A) (n : ℕ) → n ≡ length front → slice_get (front ++ x ∷ rest) n ≡ Some x
at_front front x rest n e =
    slice_get-get_or (front ++ x ∷ rest) n x (let l : length (front ++ x ∷ rest) ≡ length front + suc (length rest) = length-append front (x ∷ rest) in omega (arith, e, l))
    ∙ ap Some (ap (λ k. get_or (front ++ x ∷ rest) k x) e ∙ get_or-append_seam front x rest x)

abbrev Stands : List Column → Found → Type 0
Stands columns found = (c : Column) × (slice_get columns found.number ≡ Some c) × (kind_of c ≡ found.kind)

pub column_there : (name : List ℕ) (n : ℕ) (front columns : List Column) (found : Found) → n ≡ length front → column_named name n columns ≡ Some found → Stands (front ++ columns) found
unfolding column_named
column_there name n front [] found at e = absurd (let h : None ≡ Some found = e in cc)
column_there name n front (c ∷ cs) found at e =
    by_name (λ h. column_there name (n + 1) (front ++ c ∷ []) cs found (let l : length (front ++ c ∷ []) ≡ length front + 1 = length-append front (c ∷ []) in omega (arith, at, l)) h) (same c.name name) refl e
  where
    by_name : (column_named name (n + 1) cs ≡ Some found → Stands ((front ++ c ∷ []) ++ cs) found) → (b : Bool) → same c.name name ≡ b
        → (if same c.name name then Some (record { number = n; kind = kind_of c }) else column_named name (n + 1) cs) ≡ Some found → Stands (front ++ c ∷ cs) found
    by_name more true is h =
        let here : record { number = n; kind = kind_of c } ≡ found = (let k : Some (record { number = n; kind = kind_of c }) ≡ Some found = sym (rw is refl) ∙ h in cc) in
        subst (Stands (front ++ c ∷ cs)) here (c, at_front front c cs n at, refl)
    by_name more false is h = subst (λ l. Stands l found) (append_assoc front (c ∷ []) cs) (more (sym (rw is refl) ∙ h))

-- the column that is meant is there, and is of the kind that is told
abbrev pub IsThere : Scope → Meant → Type 0
IsThere scope m = kind_at (cols scope) m.at ≡ Some (as_kind m.kind)

source_there : (scope : Scope) (n : ℕ) (it : Seen) (found : Found) → slice_get (cols scope) n ≡ Some it.columns → Stands it.columns found → IsThere scope (record { at = record { source = n; column = found.number }; kind = found.kind })
unfolding kind_at
source_there scope n it found is stands = rw (is, stands.1) (ap (λ (k : Kind). Some (as_kind k)) stands.2)

pub candidates_there : (ref : TreeRef) (n : ℕ) (front rest : Scope) → n ≡ length front → AllByRecursion (IsThere (front ++ rest)) (candidates ref n rest)
unfolding candidates
candidates_there ref n front [] at = tt
candidates_there ref n front (it ∷ rest) at =
    by_fit (subst (λ l. AllByRecursion (IsThere l) (candidates ref (n + 1) rest)) (append_assoc front (it ∷ []) rest)
    (candidates_there ref (n + 1) (front ++ it ∷ []) rest (let l : length (front ++ it ∷ []) ≡ length front + 1 = length-append front (it ∷ []) in omega (arith, at, l)))) (fitting ref it) refl
  where
    here : slice_get (cols (front ++ it ∷ rest)) n ≡ Some it.columns
    here = ap (λ l. slice_get l n) (map-append (λ (it : Seen). it.columns) front (it ∷ rest)) ∙ at_front (cols front) it.columns (cols rest) n (at ∙ sym (length-map front (λ (it : Seen). it.columns)))

    fitting_there : (found : Found) → fitting ref it ≡ Some found → Stands it.columns found
    fitting_there found is = by_may (may_qualify ref.relation it.alias) refl is
      where
        by_may : (b : Bool) → may_qualify ref.relation it.alias ≡ b → (if may_qualify ref.relation it.alias then column_named ref.column 0 it.columns else None) ≡ Some found → Stands it.columns found
        by_may true may h = column_there ref.column 0 [] it.columns found refl (sym (rw may refl) ∙ h)
        by_may false may h = absurd (let e : None ≡ Some found = sym (rw may refl) ∙ h in cc)

    by_fit : AllByRecursion (IsThere (front ++ it ∷ rest)) (candidates ref (n + 1) rest) → (o : Option Found) → fitting ref it ≡ o → AllByRecursion (IsThere (front ++ it ∷ rest)) (of_source n (fitting ref it) ++ candidates ref (n + 1) rest)
    by_fit more None is = rw is more
    by_fit more (Some found) is = rw is (source_there (front ++ it ∷ rest) n it found here (fitting_there found is), more)
