-- the tables of a query of one table
use Rattle.std.proofs.Common.{◌≡◌, ◌≤◌, ◌<◌, List, [], ◌∷◌, ◌++◌, length, get_or, subst, sym, arith}
use Rattle.std.specs.List.{AllZip}
use Rattle.base_kit.specs.declared.value.Value.{Value}
use Rattle.tiql_query.specs.declared.relation.QTable.{QTable}
use Rattle.tiql_query.specs.Rows.{AreRowsOf}

one_zip : (tables : List QTable) (table : QTable) (rows : List (List Value)) → 1 ≤ length tables → length tables < 2 → table ≡ get_or tables 0 table → AreRowsOf table rows → AllZip AreRowsOf tables (rows ∷ [])
one_zip [] table rows least below is are = absurd (omega (arith, least))
one_zip (first ∷ []) table rows least below is are = (subst (λ (t : QTable). AreRowsOf t rows) is are, tt)
one_zip (first ∷ second ∷ more) table rows least below is are = absurd (omega (arith, below))

pub one_table : (tables seen : List QTable) (table : QTable) (rows : List (List Value)) (none made : List (List (List Value))) → seen ≡ tables → 1 ≤ length seen → length seen < 2 → table ≡ get_or seen 0 table → AreRowsOf table rows
    → none ≡ [] → made ≡ none ++ rows ∷ [] → AllZip AreRowsOf tables made
one_table tables seen table rows none made same least below is are empty push =
    subst (λ (l : List (List (List Value))). AllZip AreRowsOf tables l) (sym (rw empty at push)) (subst (λ (l : List QTable). AllZip AreRowsOf l (rows ∷ [])) same (one_zip seen table rows least below is are))
