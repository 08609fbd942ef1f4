-- the definitions on queries whose words and trees are known
use Rattle.std.proofs.Common.{◌≡◌, ℕ, pos, true, false, List, [], ◌∷◌, ◌++◌, codes, refl, sym, ◌∙◌, ap, append_assoc, get_or, zero, suc, arith}
use Rattle.std.specs.List.{flat_map, AllByRecursion}
use Rattle.std.specs.declared.option.Option.TheVariants.{None, Some}
use Rattle.base_kit.specs.declared.place.Place.{Place}
use Rattle.tiql_lex.specs.declared.token.TokenKind.TheVariants as kinds
use Rattle.tiql_tree.specs.declared.condition.TreeCmp.TheVariants.{Eq, Ne, Lt, Le, Gt}
use Rattle.std.specs.declared.option.Option.TheVariants.{None, Some}
use Rattle.tiql_tree.specs.declared.expression.TreeForm.TheVariants.{Number, Text, Ref}
use Rattle.tiql_tree.specs.declared.expression.TreeForm.TheViews.{Sum, Product, Neg, Abs}
use Rattle.tiql_tree.specs.declared.condition.TreeCond.TheVariants.{Compare}
use Rattle.tiql_tree.specs.declared.condition.TreeCond.TheViews.{Not, And, Or}
use Rattle.tiql_tree.specs.declared.tree.Spot.{Spot}
use Rattle.tiql_tree.specs.declared.tree.Decl.{Decl}
use Rattle.tiql_tree.specs.declared.tree.Decl.TheVariants.{Table, Hypo, View, Require}
use Rattle.tiql_tree.specs.declared.tree.TreeValue.TheVariants as values
use Rattle.tiql_tree.specs.declared.tree.TreeRequire.TheVariants as needs
use Rattle.tiql_tree.specs.declared.tree.TreeGoal.TheVariants as goals
use Rattle.tiql_tree.specs.Texts.{UnitText}
use Rattle.tiql_tree.specs.Texts.{DeclText, GoalText, QueryText}
use Rattle.tiql_tree.specs.Texts.RefText.{alone, qualified}
use Rattle.tiql_tree.specs.Texts.ExprText.{last_term, next_term}
use Rattle.tiql_tree.specs.Texts.TermText.{last_factor, next_factor}
use Rattle.tiql_tree.specs.Texts.FactorText.{negated, numeral, value_text, reference, absolute, grouped}
use Rattle.tiql_tree.specs.Texts.CondText.{last_conj, next_conj}
use Rattle.tiql_tree.specs.Texts.ConjText.{last_unit, next_unit}
use Rattle.tiql_tree.specs.Texts.UnitText.{denied, bracketed, compared}
use Rattle.tiql_tree.specs.Texts.ItemText.{lone_ref, plain_item, sum_item, count_item}
use Rattle.tiql_tree.specs.Texts.RequireText.{all_have, some_have, none_is}
use Rattle.tiql_tree.specs.Texts.DeclText.{table_decl, hypo_decl, view_decl, require_decl}
use Rattle.tiql_tree.specs.Texts.GoalText.{find_goal, sum_goal}
use Rattle.tiql_tree.specs.Words.{Word, key, sign, named, digits}
use Rattle.tiql_tree.specs.Grammar.{ref_words, expr_words, cond_words, column_words, table_words, bound_words, hypo_words, item_words, source_words, select_words, view_words, require_words, decl_words, goal_words, query_words}
use Rattle.tiql_tree.specs.Nesting.{expr_depth, cond_depth, goal_depth, query_depth}
use Rattle.tiql_tree.specs.Trees.{Places, expr_at, signed, ref_tree, ref_name, expr_tree, cond_tree, column_tree, table_tree, bound_tree, hypo_tree, item_tree, source_tree, select_tree, view_tree, require_tree, decl_tree, goal_tree, query_tree}
use Rattle.tiql_tree.specs.Spelled.{places_of, Begins}
use Rattle.tiql_tree.specs.Unplaced.{tree_only, HasText}
use Rattle.tiql_tree.specs.Printed.{written}
use Rattle.tiql_tree.proofs.Written.{Good, written_again}
use Rattle.base_kit.specs.Keywords.{is_keyword}

abbrev at : ℕ → ℕ → Place
at line column = record { line = line; column = column }

abbrev spot_at : List ℕ → ℕ → ℕ → Spot
spot_at name line column = record { name = name; place = record { line = line; column = column } }

-- the query of a cap on a sum
cap : QueryText
cap = record { decls = ((table_decl (record { name = (codes "item"); columns = (record { first = (record { name = (codes "id"); is_text = false }); more = ((record { name = (codes "price"); is_text = false }) ∷ (record { name = (codes "qty"); is_text = false }) ∷ []) }); key_names = (Some (record { first = (codes "id"); more = [] })) })) ∷ (hypo_decl (record { name = (codes "h"); table = (codes "item"); bounds = (Some (record { first = (record { name = (codes "qty"); lo = (last_term (last_factor (numeral (codes "0")))); hi = (last_term (last_factor (reference (alone (codes "qty"))))) }); more = [] })); filter = None; is_dropped = false })) ∷ (view_decl (record { name = (codes "tot"); arms = record { first = (record { is_distinct = false; items = (record { first = (sum_item (last_term (last_factor (reference (qualified (codes "h") (codes "qty"))))) (codes "n")); more = [] }); sources = (record { first = (record { relation = (codes "h"); alias = None }); more = [] }); filter = None; group = None }); more = [] } })) ∷ (require_decl (all_have (codes "tot") (last_conj (last_unit (compared Le (last_term (last_factor (reference (alone (codes "n"))))) (last_term (last_factor (numeral (codes "8"))))))))) ∷ []); goal = (sum_goal true (last_term (next_factor (reference (alone (codes "price"))) (last_factor (reference (alone (codes "qty")))))) (codes "h")) }

cap_words : query_words cap ≡ (key (codes "TABLE") ∷ named (codes "item") ∷ sign (codes "(") ∷ named (codes "id") ∷ key (codes "INT") ∷ sign (codes ",") ∷ named (codes "price") ∷ key (codes "INT") ∷ sign (codes ",") ∷ named (codes "qty") ∷ key (codes "INT") ∷ sign (codes ")") ∷ key (codes "KEY") ∷ sign (codes "(") ∷ named (codes "id") ∷ sign (codes ")") ∷ sign (codes ";") ∷ key (codes "HYPO") ∷ named (codes "h") ∷ key (codes "FROM") ∷ named (codes "item") ∷ key (codes "SET") ∷ named (codes "qty") ∷ key (codes "IN") ∷ digits (codes "0") ∷ sign (codes "..") ∷ named (codes "qty") ∷ sign (codes ";") ∷ key (codes "VIEW") ∷ named (codes "tot") ∷ key (codes "AS") ∷ key (codes "SELECT") ∷ key (codes "SUM") ∷ sign (codes "(") ∷ named (codes "h") ∷ sign (codes ".") ∷ named (codes "qty") ∷ sign (codes ")") ∷ key (codes "AS") ∷ named (codes "n") ∷ key (codes "FROM") ∷ named (codes "h") ∷ sign (codes ";") ∷ key (codes "REQUIRE") ∷ key (codes "ALL") ∷ named (codes "tot") ∷ key (codes "HAVE") ∷ named (codes "n") ∷ sign (codes "<=") ∷ digits (codes "8") ∷ sign (codes ";") ∷ key (codes "MAXIMIZE") ∷ key (codes "SUM") ∷ sign (codes "(") ∷ named (codes "price") ∷ sign (codes "*") ∷ named (codes "qty") ∷ sign (codes ")") ∷ key (codes "FROM") ∷ named (codes "h") ∷ sign (codes ";") ∷ [])
unfolding ref_words expr_words cond_words column_words table_words bound_words hypo_words item_words source_words select_words view_words require_words decl_words goal_words query_words cap
cap_words = refl

cap_places : Places
cap_places = (at 1 1 ∷ at 1 7 ∷ at 1 12 ∷ at 1 13 ∷ at 1 16 ∷ at 1 19 ∷ at 1 21 ∷ at 1 27 ∷ at 1 30 ∷ at 1 32 ∷ at 1 36 ∷ at 1 39 ∷ at 1 41 ∷ at 1 45 ∷ at 1 46 ∷ at 1 48 ∷ at 1 49 ∷ at 2 1 ∷ at 2 6 ∷ at 2 8 ∷ at 2 13 ∷ at 2 18 ∷ at 2 22 ∷ at 2 26 ∷ at 2 29 ∷ at 2 31 ∷ at 2 34 ∷ at 2 37 ∷ at 3 1 ∷ at 3 6 ∷ at 3 10 ∷ at 3 13 ∷ at 3 20 ∷ at 3 23 ∷ at 3 24 ∷ at 3 25 ∷ at 3 26 ∷ at 3 29 ∷ at 3 31 ∷ at 3 34 ∷ at 3 36 ∷ at 3 41 ∷ at 3 42 ∷ at 4 1 ∷ at 4 9 ∷ at 4 13 ∷ at 4 17 ∷ at 4 22 ∷ at 4 24 ∷ at 4 27 ∷ at 4 28 ∷ at 5 1 ∷ at 5 10 ∷ at 5 13 ∷ at 5 14 ∷ at 5 20 ∷ at 5 22 ∷ at 5 25 ∷ at 5 27 ∷ at 5 32 ∷ at 5 33 ∷ [])

cap_tree : query_tree cap_places cap ≡ record { decls = (Table (record { name = (spot_at (codes "item") 1 7); columns = (record { name = (spot_at (codes "id") 1 13); text = false } ∷ record { name = (spot_at (codes "price") 1 21); text = false } ∷ record { name = (spot_at (codes "qty") 1 32); text = false } ∷ []); key = ((spot_at (codes "id") 1 46) ∷ []) }) ∷ Hypo (record { name = (spot_at (codes "h") 2 6); table = (spot_at (codes "item") 2 13); set = (record { name = (spot_at (codes "qty") 2 22); lo = (expr_at (at 2 29) (Number (pos 0))); hi = (expr_at (at 2 34) (Ref (record { place = at 2 34; relation = None; column = codes "qty" }))) } ∷ []); filter = None; dropped = None }) ∷ View (record { name = (spot_at (codes "tot") 3 6); arms = (record { place = at 3 13; distinct = false; items = (record { place = at 3 20; value = values.Sum (expr_at (at 3 24) (Ref (record { place = at 3 24; relation = Some (codes "h"); column = codes "qty" }))); name = (spot_at (codes "n") 3 34) } ∷ []); sources = (record { relation = (spot_at (codes "h") 3 41); alias = (spot_at (codes "h") 3 41) } ∷ []); filter = None; group = [] } ∷ []) }) ∷ Require (needs.All (spot_at (codes "tot") 4 13) (Compare Le (expr_at (at 4 22) (Ref (record { place = at 4 22; relation = None; column = codes "n" }))) (expr_at (at 4 27) (Number (pos 8))))) ∷ []); goal = goals.Sum true (expr_at (at 5 14) (Product ((expr_at (at 5 14) (Ref (record { place = at 5 14; relation = None; column = codes "price" }))) ∷ (expr_at (at 5 22) (Ref (record { place = at 5 22; relation = None; column = codes "qty" }))) ∷ []))) (spot_at (codes "h") 5 32) }
unfolding ref_tree ref_name expr_tree cond_tree column_tree table_tree bound_tree hypo_tree item_tree source_tree select_tree view_tree require_tree decl_tree goal_tree query_tree ref_words expr_words cond_words column_words table_words bound_words hypo_words item_words source_words select_words view_words require_words decl_words goal_words query_words cap cap_places
cap_tree = refl

-- a query with what the other one lacks
rich : QueryText
rich = record { decls = ((table_decl (record { name = (codes "t"); columns = (record { first = (record { name = (codes "a"); is_text = false }); more = ((record { name = (codes "b"); is_text = true }) ∷ []) }); key_names = None })) ∷ (hypo_decl (record { name = (codes "h"); table = (codes "t"); bounds = (Some (record { first = (record { name = (codes "a"); lo = (last_term (last_factor (negated (grouped (last_term (last_factor (numeral (codes "1")))))))); hi = (last_term (next_factor (absolute (last_term (last_factor (reference (alone (codes "a")))))) (last_factor (grouped (next_term (last_factor (numeral (codes "2"))) true (last_term (last_factor (reference (alone (codes "a")))))))))) }); more = [] })); filter = (Some (last_conj (last_unit (denied (bracketed (next_conj (last_unit (compared Eq (last_term (last_factor (reference (alone (codes "b"))))) (last_term (last_factor (value_text (codes "x")))))) (last_conj (next_unit (compared Ne (last_term (last_factor (reference (alone (codes "a"))))) (last_term (last_factor (numeral (codes "1"))))) (last_unit (compared Lt (last_term (last_factor (reference (alone (codes "a"))))) (last_term (last_factor (numeral (codes "2")))))))))))))); is_dropped = true })) ∷ (view_decl (record { name = (codes "v"); arms = record { first = (record { is_distinct = true; items = (record { first = (lone_ref (qualified (codes "h") (codes "a"))); more = ((plain_item (next_term (last_factor (grouped (next_term (last_factor (reference (alone (codes "a")))) false (last_term (last_factor (numeral (codes "1"))))))) true (last_term (last_factor (numeral (codes "2"))))) (codes "c")) ∷ []) }); sources = (record { first = (record { relation = (codes "h"); alias = None }); more = ((record { relation = (codes "t"); alias = (Some (codes "s")) }) ∷ []) }); filter = (Some (last_conj (last_unit (compared Gt (last_term (last_factor (reference (alone (codes "a"))))) (last_term (last_factor (numeral (codes "0")))))))); group = (Some (record { first = (alone (codes "a")); more = ((qualified (codes "h") (codes "b")) ∷ []) })) }); more = ((record { is_distinct = false; items = (record { first = (count_item (codes "n")); more = [] }); sources = (record { first = (record { relation = (codes "h"); alias = None }); more = [] }); filter = None; group = None }) ∷ []) } })) ∷ (require_decl (none_is (codes "v"))) ∷ []); goal = find_goal }

rich_words : query_words rich ≡ (key (codes "TABLE") ∷ named (codes "t") ∷ sign (codes "(") ∷ named (codes "a") ∷ key (codes "INT") ∷ sign (codes ",") ∷ named (codes "b") ∷ key (codes "TEXT") ∷ sign (codes ")") ∷ sign (codes ";") ∷ key (codes "HYPO") ∷ named (codes "h") ∷ key (codes "FROM") ∷ named (codes "t") ∷ key (codes "SET") ∷ named (codes "a") ∷ key (codes "IN") ∷ sign (codes "-") ∷ sign (codes "(") ∷ digits (codes "1") ∷ sign (codes ")") ∷ sign (codes "..") ∷ key (codes "ABS") ∷ sign (codes "(") ∷ named (codes "a") ∷ sign (codes ")") ∷ sign (codes "*") ∷ sign (codes "(") ∷ digits (codes "2") ∷ sign (codes "-") ∷ named (codes "a") ∷ sign (codes ")") ∷ key (codes "WHERE") ∷ key (codes "NOT") ∷ sign (codes "[") ∷ named (codes "b") ∷ sign (codes "=") ∷ record { kind = kinds.Text; text = codes "'x'" } ∷ key (codes "OR") ∷ named (codes "a") ∷ sign (codes "<>") ∷ digits (codes "1") ∷ key (codes "AND") ∷ named (codes "a") ∷ sign (codes "<") ∷ digits (codes "2") ∷ sign (codes "]") ∷ key (codes "DROP") ∷ sign (codes ";") ∷ key (codes "VIEW") ∷ named (codes "v") ∷ key (codes "AS") ∷ key (codes "SELECT") ∷ key (codes "DISTINCT") ∷ named (codes "h") ∷ sign (codes ".") ∷ named (codes "a") ∷ sign (codes ",") ∷ sign (codes "(") ∷ named (codes "a") ∷ sign (codes "+") ∷ digits (codes "1") ∷ sign (codes ")") ∷ sign (codes "-") ∷ digits (codes "2") ∷ key (codes "AS") ∷ named (codes "c") ∷ key (codes "FROM") ∷ named (codes "h") ∷ sign (codes ",") ∷ named (codes "t") ∷ key (codes "AS") ∷ named (codes "s") ∷ key (codes "WHERE") ∷ named (codes "a") ∷ sign (codes ">") ∷ digits (codes "0") ∷ key (codes "GROUP") ∷ key (codes "BY") ∷ named (codes "a") ∷ sign (codes ",") ∷ named (codes "h") ∷ sign (codes ".") ∷ named (codes "b") ∷ key (codes "UNION") ∷ key (codes "ALL") ∷ key (codes "SELECT") ∷ key (codes "COUNT") ∷ sign (codes "(") ∷ sign (codes "*") ∷ sign (codes ")") ∷ key (codes "AS") ∷ named (codes "n") ∷ key (codes "FROM") ∷ named (codes "h") ∷ sign (codes ";") ∷ key (codes "REQUIRE") ∷ key (codes "NONE") ∷ named (codes "v") ∷ sign (codes ";") ∷ key (codes "FIND") ∷ sign (codes ";") ∷ [])
unfolding ref_words expr_words cond_words column_words table_words bound_words hypo_words item_words source_words select_words view_words require_words decl_words goal_words query_words rich
rich_words = refl

rich_places : Places
rich_places = (at 1 1 ∷ at 1 7 ∷ at 1 9 ∷ at 1 10 ∷ at 1 12 ∷ at 1 15 ∷ at 1 17 ∷ at 1 19 ∷ at 1 23 ∷ at 1 24 ∷ at 2 1 ∷ at 2 6 ∷ at 2 8 ∷ at 2 13 ∷ at 2 15 ∷ at 2 19 ∷ at 2 21 ∷ at 2 24 ∷ at 2 25 ∷ at 2 26 ∷ at 2 27 ∷ at 2 29 ∷ at 2 32 ∷ at 2 35 ∷ at 2 36 ∷ at 2 37 ∷ at 2 39 ∷ at 2 41 ∷ at 2 42 ∷ at 2 44 ∷ at 2 46 ∷ at 2 47 ∷ at 2 49 ∷ at 2 55 ∷ at 2 59 ∷ at 2 60 ∷ at 2 62 ∷ at 2 64 ∷ at 2 68 ∷ at 2 71 ∷ at 2 73 ∷ at 2 76 ∷ at 2 78 ∷ at 2 82 ∷ at 2 84 ∷ at 2 86 ∷ at 2 87 ∷ at 2 89 ∷ at 2 93 ∷ at 3 1 ∷ at 3 6 ∷ at 3 8 ∷ at 3 11 ∷ at 3 18 ∷ at 3 27 ∷ at 3 28 ∷ at 3 29 ∷ at 3 30 ∷ at 3 32 ∷ at 3 33 ∷ at 3 35 ∷ at 3 37 ∷ at 3 38 ∷ at 3 40 ∷ at 3 42 ∷ at 3 44 ∷ at 3 47 ∷ at 3 49 ∷ at 3 54 ∷ at 3 55 ∷ at 3 57 ∷ at 3 59 ∷ at 3 62 ∷ at 3 64 ∷ at 3 70 ∷ at 3 72 ∷ at 3 74 ∷ at 3 76 ∷ at 3 82 ∷ at 3 85 ∷ at 3 86 ∷ at 3 88 ∷ at 3 89 ∷ at 3 90 ∷ at 3 92 ∷ at 3 98 ∷ at 3 102 ∷ at 3 109 ∷ at 3 114 ∷ at 3 115 ∷ at 3 116 ∷ at 3 118 ∷ at 3 121 ∷ at 3 123 ∷ at 3 128 ∷ at 3 129 ∷ at 4 1 ∷ at 4 9 ∷ at 4 14 ∷ at 4 15 ∷ at 5 1 ∷ at 5 5 ∷ [])

rich_tree : query_tree rich_places rich ≡ record { decls = (Table (record { name = (spot_at (codes "t") 1 7); columns = (record { name = (spot_at (codes "a") 1 10); text = false } ∷ record { name = (spot_at (codes "b") 1 17); text = true } ∷ []); key = [] }) ∷ Hypo (record { name = (spot_at (codes "h") 2 6); table = (spot_at (codes "t") 2 13); set = (record { name = (spot_at (codes "a") 2 19); lo = (expr_at (at 2 24) (Neg (expr_at (at 2 25) (Number (pos 1))))); hi = (expr_at (at 2 32) (Product ((expr_at (at 2 32) (Abs (expr_at (at 2 36) (Ref (record { place = at 2 36; relation = None; column = codes "a" }))))) ∷ (expr_at (at 2 41) (Sum (signed false (expr_at (at 2 42) (Number (pos 2))) ∷ signed true (expr_at (at 2 46) (Ref (record { place = at 2 46; relation = None; column = codes "a" }))) ∷ []))) ∷ []))) } ∷ []); filter = (Some (Not (Or ((Compare Eq (expr_at (at 2 60) (Ref (record { place = at 2 60; relation = None; column = codes "b" }))) (expr_at (at 2 64) (Text (codes "x")))) ∷ (And ((Compare Ne (expr_at (at 2 71) (Ref (record { place = at 2 71; relation = None; column = codes "a" }))) (expr_at (at 2 76) (Number (pos 1)))) ∷ (Compare Lt (expr_at (at 2 82) (Ref (record { place = at 2 82; relation = None; column = codes "a" }))) (expr_at (at 2 86) (Number (pos 2)))) ∷ [])) ∷ [])))); dropped = (Some (at 2 89)) }) ∷ View (record { name = (spot_at (codes "v") 3 6); arms = (record { place = at 3 11; distinct = true; items = (record { place = at 3 27; value = values.Plain (expr_at (at 3 27) (Ref (record { place = at 3 27; relation = Some (codes "h"); column = codes "a" }))); name = (spot_at (codes "a") 3 29) } ∷ record { place = at 3 32; value = values.Plain (expr_at (at 3 32) (Sum (signed false (expr_at (at 3 32) (Sum (signed false (expr_at (at 3 33) (Ref (record { place = at 3 33; relation = None; column = codes "a" }))) ∷ signed false (expr_at (at 3 37) (Number (pos 1))) ∷ []))) ∷ signed true (expr_at (at 3 42) (Number (pos 2))) ∷ []))); name = (spot_at (codes "c") 3 47) } ∷ []); sources = (record { relation = (spot_at (codes "h") 3 54); alias = (spot_at (codes "h") 3 54) } ∷ record { relation = (spot_at (codes "t") 3 57); alias = (spot_at (codes "s") 3 62) } ∷ []); filter = (Some (Compare Gt (expr_at (at 3 70) (Ref (record { place = at 3 70; relation = None; column = codes "a" }))) (expr_at (at 3 74) (Number (pos 0))))); group = ((record { place = at 3 85; relation = None; column = codes "a" }) ∷ (record { place = at 3 88; relation = Some (codes "h"); column = codes "b" }) ∷ []) } ∷ record { place = at 3 102; distinct = false; items = (record { place = at 3 109; value = values.Count; name = (spot_at (codes "n") 3 121) } ∷ []); sources = (record { relation = (spot_at (codes "h") 3 128); alias = (spot_at (codes "h") 3 128) } ∷ []); filter = None; group = [] } ∷ []) }) ∷ Require (needs.None (spot_at (codes "v") 4 14)) ∷ []); goal = goals.Find }
unfolding ref_tree ref_name expr_tree cond_tree column_tree table_tree bound_tree hypo_tree item_tree source_tree select_tree view_tree require_tree decl_tree goal_tree query_tree ref_words expr_words cond_words column_words table_words bound_words hypo_words item_words source_words select_words view_words require_words decl_words goal_words query_words rich rich_places
rich_tree = refl

-- FIND alone begins a query
find : QueryText
find = record { decls = []; goal = find_goal }

find_begins : Begins (key (codes "FIND") ∷ [])
unfolding find query_words goal_words query_depth goal_depth
find_begins = (sign (codes ";") ∷ [], find, record { spelling = refl; depth = omega arith })

-- the first byte, and what follows the first word
first_byte : List Word → ℕ
first_byte [] = 0
first_byte (w ∷ ws) = get_or w.text 0 0

tail_of : List Word → List Word
tail_of [] = []
tail_of (w ∷ ws) = ws

-- no declaration begins with FIND
decl_first : (d : DeclText) (rest more : List Word) → decl_words d ++ rest ≡ key (codes "FIND") ∷ more → ⊥
unfolding decl_words table_words hypo_words view_words require_words first_byte
decl_first (table_decl table) rest more e = let h : 84 ≡ 70 = ap first_byte e in omega (arith, h)
decl_first (hypo_decl hypo) rest more e = let h : 72 ≡ 70 = ap first_byte e in omega (arith, h)
decl_first (view_decl view) rest more e = let h : 86 ≡ 70 = ap first_byte e in omega (arith, h)
decl_first (require_decl (all_have name c)) rest more e = let h : 82 ≡ 70 = ap first_byte e in omega (arith, h)
decl_first (require_decl (some_have name c)) rest more e = let h : 82 ≡ 70 = ap first_byte e in omega (arith, h)
decl_first (require_decl (none_is name)) rest more e = let h : 82 ≡ 70 = ap first_byte e in omega (arith, h)

goal_first : (g : GoalText) (more : List Word) → goal_words g ≡ key (codes "FIND") ∷ more → more ≡ sign (codes ";") ∷ []
unfolding goal_words first_byte tail_of
goal_first find_goal more e = sym (ap tail_of e)
goal_first (sum_goal true part relation) more e = let h : 77 ≡ 70 = ap first_byte e in absurd (omega (arith, h))
goal_first (sum_goal false part relation) more e = let h : 77 ≡ 70 = ap first_byte e in absurd (omega (arith, h))

-- behind FIND only a semicolon stands, and nothing behind that
find_ends : (q : QueryText) (more : List Word) → query_words q ≡ key (codes "FIND") ∷ more → more ≡ sign (codes ";") ∷ []
unfolding query_words
find_ends q more e = by_decls q.decls e
  where
    by_decls : (ds : List DeclText) → flat_map decl_words ds ++ goal_words q.goal ≡ key (codes "FIND") ∷ more → more ≡ sign (codes ";") ∷ []
    by_decls [] e = goal_first q.goal more e
    by_decls (d ∷ ds) e = absurd (decl_first d (flat_map decl_words ds ++ goal_words q.goal) more (sym (append_assoc (decl_words d) (flat_map decl_words ds) (goal_words q.goal)) ∙ e))

find_good : AllByRecursion Good (query_words find)
unfolding find query_words goal_words is_keyword
find_good = (record { shape = refl; kind = refl; fits = tt }, (record { shape = refl; kind = refl; fits = tt }, tt))

-- some text spells the tree of FIND
pub find_has_text : (decls : List Decl) → decls ≡ [] → HasText (record { decls = decls; goal = goals.Find })
unfolding find query_tree goal_tree tree_only query_depth goal_depth
find_has_text decls none =
    let again = written_again (query_words find) find_good in (
      written (query_words find),
      record {
        other = query_tree (places_of (again.0).tokens) find;
        spelled = record { lexed = again.0; tokens = again.1; end = again.2; query = find; grammar = record { spelling = sym again.3; depth = omega arith }; gives = refl };
        same = ap (λ (ds : List Decl). tree_only (record { decls = ds; goal = goals.Find })) (sym none);
      },
    )

-- so many signs that open one another around a condition
brackets : ℕ → UnitText → UnitText
brackets zero unit = unit
brackets (suc n) unit = bracketed (last_conj (last_unit (brackets n unit)))

one_is_one : UnitText
one_is_one = compared Eq (last_term (last_factor (reference (alone (codes "a"))))) (last_term (last_factor (numeral (codes "1"))))

-- are as deep as they are many: 64 are allowed, and the 65th is one too many
brackets_deep : (n : ℕ) → cond_depth (last_conj (last_unit (brackets n one_is_one))) ≡ n
unfolding brackets one_is_one cond_depth expr_depth
brackets_deep zero = refl
brackets_deep (suc n) = let deep = brackets_deep n in omega (arith, deep)
