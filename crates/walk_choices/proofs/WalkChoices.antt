-- walks that append no presence and no cell: fold rules, and what they are put together of
use Rattle.std.proofs.Common.{ℕ, ◌+◌, ℤ, Bool, true, false, cond, List, [], ◌∷◌, Result, Ok, Err}
use Rattle.base_kit.specs.Asking.{and_then}
use Rattle.ip_rows.specs.declared.Bounds.{Bounds}
use Rattle.prov_arena.specs.declared.part.Pair.{Pair}
use Rattle.prov_fold.specs.declared.fault.FoldFault.{FoldFault}
use Rattle.prov_fold.specs.declared.span.Scaled.{Scaled}
use Rattle.prov_fold.specs.Graphs.{Graph}
use Rattle.prov_fold.specs.Rules as rule
use Rattle.base_kit.specs.declared.value.Value.{Value}
use Rattle.row_values.specs.declared.fault.Wide.{Wide}
use Rattle.row_values.specs.Values.{number}
use Rattle.sym_rows.specs.declared.row.Cell.TheVariants as cells
use Rattle.sym_rows.specs.Hypos.{settled}
use Rattle.sym_rows.specs.Walks.{Walk, each, through, walked_by, by_rule, told}
use Rattle.walk_choices.proofs.RuleChoices.{IsOver, constant_over, pos_over, not_over, sum_over, guard_over, abs_over, tot_over, and_over, or_over, min_over}

-- the list behind a walk, also where it stopped
abbrev pub list_behind : {A F : Type 0} → Result (A × Graph) (F × Graph) → Graph
list_behind (Ok made) = made.1
list_behind (Err stop) = stop.1

-- what names a column there names one of these
pub record WalkedOver {A F : Type 0} (sides : List Bounds) (walked : Result (A × Graph) (F × Graph)) : Type 0 where
  pub behind : IsOver sides (list_behind walked)

-- ---- what walks are put together of

pub ok_over : {A F : Type 0} (sides : List Bounds) (made : A × Graph) → IsOver sides made.1 → WalkedOver {A = A} {F = F} sides (Ok made)
ok_over sides made over = record { behind = over }

pub err_over : {A F : Type 0} (sides : List Bounds) (stop : F × Graph) → IsOver sides stop.1 → WalkedOver {A = A} {F = F} sides (Err stop)
err_over sides stop over = record { behind = over }

pub bind_over : {A B F : Type 0} (sides : List Bounds) (walked : Result (A × Graph) (F × Graph)) (next : A × Graph → Result (B × Graph) (F × Graph)) → WalkedOver sides walked
    → ((made : A × Graph) → IsOver sides made.1 → WalkedOver sides (next made)) → WalkedOver sides (and_then walked next)
bind_over sides (Ok made) next over h = h made over.behind
bind_over sides (Err stop) next over h = record { behind = over.behind }

pub cond_over : {A F : Type 0} (sides : List Bounds) (b : Bool) (x y : Result (A × Graph) (F × Graph)) → WalkedOver sides x → WalkedOver sides y → WalkedOver sides (cond b x y)
cond_over sides true x y h k = h
cond_over sides false x y h k = k

pub each_over : {X A : Type 0} (sides : List Bounds) (f : ℕ → X → Walk A) → ((i : ℕ) (x : X) (g : Graph) → IsOver sides g → WalkedOver sides (f i x g)) → (i : ℕ) (xs : List X) (g : Graph) → IsOver sides g → WalkedOver sides (each f i xs g)
unfolding each
each_over sides f h i [] g over = ok_over sides ([], g) over
each_over sides f h i (x ∷ xs) g over =
    bind_over sides (f i x g) _ (h i x g over) (λ made more. bind_over sides (each f (i + 1) xs made.1) _ (each_over sides f h (i + 1) xs made.1 more) (λ rest last. ok_over sides (made.0 ∷ rest.0, rest.1) last))

pub through_over : {X S : Type 0} (sides : List Bounds) (f : X → S → Walk S) → ((x : X) (made : S) (g : Graph) → IsOver sides g → WalkedOver sides (f x made g)) → (xs : List X) (made : S) (g : Graph) → IsOver sides g → WalkedOver sides (through f xs made g)
unfolding through
through_over sides f h [] made g over = ok_over sides (made, g) over
through_over sides f h (x ∷ xs) made g over = bind_over sides (f x made g) _ (h x made g over) (λ more kept. through_over sides f h xs more.0 more.1 kept)

pub told_over : {A : Type 0} (sides : List Bounds) (r : Result A Wide) (g : Graph) → IsOver sides g → WalkedOver sides (told r g)
told_over sides (Ok a) g over = ok_over sides (a, g) over
told_over sides (Err wide) g over = err_over sides _ over

-- ---- fold rules

module _ (sides : List Bounds) where
  by_over : (r : Result ℕ FoldFault) (g : Graph) → IsOver sides g → WalkedOver sides (walked_by r g)
  by_over (Ok id) g over = ok_over sides (id, g) over
  by_over (Err e) g over = err_over sides _ over

  pub rule_over : (it : rule.Rule) (g : Graph) → IsOver sides (it g).list → WalkedOver sides (by_rule it g)
  rule_over it g over = by_over (it g).gives (it g).list over

  pub constant_walk : (c : ℤ) (g : Graph) → IsOver sides g → WalkedOver sides (by_rule (rule.constant c) g)
  constant_walk c g over = rule_over (rule.constant c) g (constant_over sides c g over)

  pub pos_walk : (number : ℕ) (g : Graph) → IsOver sides g → WalkedOver sides (by_rule (rule.pos_of number) g)
  pos_walk number g over = rule_over (rule.pos_of number) g (pos_over sides number g over)

  pub not_walk : (truth : ℕ) (g : Graph) → IsOver sides g → WalkedOver sides (by_rule (rule.not_of truth) g)
  not_walk truth g over = rule_over (rule.not_of truth) g (not_over sides truth g over)

  pub sum_walk : (c : ℤ) (parts : List Scaled) (g : Graph) → IsOver sides g → WalkedOver sides (by_rule (rule.sum c parts) g)
  sum_walk c parts g over = rule_over (rule.sum c parts) g (sum_over sides c parts g over)

  pub guard_walk : (truth number : ℕ) (g : Graph) → IsOver sides g → WalkedOver sides (by_rule (rule.guard truth number) g)
  guard_walk truth number g over = rule_over (rule.guard truth number) g (guard_over sides truth number g over)

  pub abs_walk : (number : ℕ) (g : Graph) → IsOver sides g → WalkedOver sides (by_rule (rule.abs number) g)
  abs_walk number g over = rule_over (rule.abs number) g (abs_over sides number g over)

  pub tot_walk : (number : ℕ) (g : Graph) → IsOver sides g → WalkedOver sides (by_rule (rule.tot number) g)
  tot_walk number g over = rule_over (rule.tot number) g (tot_over sides number g over)

  pub and_walk : (kids : List ℕ) (g : Graph) → IsOver sides g → WalkedOver sides (by_rule (rule.and_of kids) g)
  and_walk kids g over = rule_over (rule.and_of kids) g (and_over sides kids g over)

  pub or_walk : (kids : List ℕ) (g : Graph) → IsOver sides g → WalkedOver sides (by_rule (rule.or_of kids) g)
  or_walk kids g over = rule_over (rule.or_of kids) g (or_over sides kids g over)

  pub min_walk : (pairs : List Pair) (g : Graph) → IsOver sides g → WalkedOver sides (by_rule (rule.min_of pairs) g)
  min_walk pairs g over = rule_over (rule.min_of pairs) g (min_over sides pairs g over)

  -- a cell that has no world column
  pub settled_over : (unknown : Bool) (value : Value) (g : Graph) → IsOver sides g → WalkedOver sides (settled unknown value g)
  settled_over true value g over = bind_over sides (by_rule (rule.constant (number value)) g) _ (constant_walk (number value) g over) (λ made more. ok_over sides (cells.Number made.0, made.1) more)
  settled_over false value g over = ok_over sides (cells.Fixed value, g) over
