-- loops that look for a name, and loops that make one column after the other
use Rattle.std.proofs.Common.{◌≡◌, ℕ, ◌+◌, ◌<◌, ◌≤◌, true, false, List, [], ◌∷◌, ◌++◌, length, get_or, drop, sym, ◌∙◌, ap, append_assoc}
use Rattle.std.specs.Prelude.{Option, Some, None}
use Rattle.std.proofs.lemmas.List.{drop_more, drop_all, append-nil}
use Rattle.tiql_query.specs.declared.relation.Source.{Source}
use Rattle.tiql_query.specs.declared.relation.Column.{Column}
use Rattle.tiql_query.specs.declared.relation.QBound.{QBound}
use Rattle.tiql_query.specs.WellFormed.{with_set}
use Rattle.tiql_check.specs.declared.scope.Found.{Found}
use Rattle.tiql_check.specs.declared.known.Relation.{Relation}
use Rattle.tiql_check.specs.Scopes.{same, column_named}
use Rattle.tiql_check.specs.Known.{relation_named}
use Rattle.tiql_check.specs.Hypos.{is_set}

pub relation_found : (name : List ℕ) (relations : List Relation) (i : ℕ) (relation : Relation) (r : Option Source) → i < length relations → relation ≡ get_or relations i relation → same relation.name name ≡ true → relation_named name (drop i relations) ≡ r → Some relation.source ≡ r
unfolding relation_named
relation_found name relations i relation r lt is found h = sym (rw (drop_more relations i relation lt, ← is, found)) ∙ h

pub relation_passed : (name : List ℕ) (relations : List Relation) (i : ℕ) (relation : Relation) (r : Option Source) → i < length relations → relation ≡ get_or relations i relation → same relation.name name ≡ false → relation_named name (drop i relations) ≡ r → relation_named name (drop (i + 1) relations) ≡ r
unfolding relation_named
relation_passed name relations i relation r lt is other h = sym (rw (drop_more relations i relation lt, ← is, other)) ∙ h

pub relation_missed : (name : List ℕ) (relations : List Relation) (i : ℕ) (r : Option Source) → length relations ≤ i → relation_named name (drop i relations) ≡ r → None ≡ r
unfolding relation_named
relation_missed name relations i r le h = sym (rw (drop_all i relations le)) ∙ h

pub column_passed : (name : List ℕ) (columns : List Column) (i : ℕ) (column : Column) (r : Option Found) → i < length columns → column ≡ get_or columns i column → same column.name name ≡ false → column_named name i (drop i columns) ≡ r → column_named name (i + 1) (drop (i + 1) columns) ≡ r
unfolding column_named
column_passed name columns i column r lt is other h = sym (rw (drop_more columns i column lt, ← is, other)) ∙ h

pub column_missed : (name : List ℕ) (columns : List Column) (i : ℕ) (r : Option Found) → length columns ≤ i → column_named name i (drop i columns) ≡ r → None ≡ r
unfolding column_named
column_missed name columns i r le h = sym (rw (drop_all i columns le)) ∙ h

pub set_step : (set : List QBound) (columns made more r : List Column) (i : ℕ) (column : Column) → i < length columns → column ≡ get_or columns i column → more ≡ made ++ record column { unknown = is_set i set } ∷ [] → made ++ with_set set i (drop i columns) ≡ r → more ++ with_set set (i + 1) (drop (i + 1) columns) ≡ r
unfolding with_set
set_step set columns made more r i column lt is e h =
    ap (λ l. l ++ with_set set (i + 1) (drop (i + 1) columns)) e ∙ append_assoc made _ _ ∙ sym (rw (drop_more columns i column lt, ← is)) ∙ h

pub set_end : (set : List QBound) (columns made r : List Column) (i : ℕ) → length columns ≤ i → made ++ with_set set i (drop i columns) ≡ r → made ≡ r
unfolding with_set
set_end set columns made r i le h = sym (append-nil made) ∙ sym (rw (drop_all i columns le)) ∙ h
