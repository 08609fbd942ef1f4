-- how what is printed of a condition goes by its form
use Rattle.std.proofs.Common.{◌≡◌, ℕ, ◌-◌, ◌<◌, ◌≤◌, true, false, List, [], ◌∷◌, ◌++◌, map, length, drop, take, get_or, flat_map, codes, refl, sym, ◌∙◌, ap, append_assoc, arith}
use Rattle.std.proofs.lemmas.Bool.{false≢true}
use Rattle.std.proofs.lemmas.List.{append-nil}
use Rattle.std.proofs.lemmas.Grind.{flat_map-append}
use denote.Hole.Carrier.{roll}
use Rattle.tiql_tree.specs.declared.expression.TreeExpr.{TreeExpr}
use Rattle.tiql_tree.specs.declared.condition.TreeCmp.{TreeCmp}
use Rattle.tiql_tree.specs.declared.condition.TreeCmp.TheVariants.{Eq, Ne, Lt, Le, Gt, Ge}
use Rattle.tiql_tree.specs.declared.condition.TreeCond.{TreeCond}
use Rattle.tiql_tree.specs.declared.condition.TreeCond.TheOpen.{TreeCond-F}
use Rattle.tiql_tree.specs.declared.condition.TreeCond.TheFolds.{fold-roll-TreeCond}
use Rattle.tiql_tree.specs.declared.condition.TreeCond.TheVariants.{Compare}
use Rattle.tiql_tree.specs.declared.condition.TreeCond.TheViews.{Not, And, Or, roll-TreeCond}
use Rattle.tiql_tree.specs.declared.write_condition.CondRoom.{CondRoom}
use Rattle.tiql_tree.specs.declared.write_condition.CondRoom.TheVariants as room
use Rattle.tiql_tree.specs.Words.{Word, sign}
use Rattle.tiql_tree.specs.Texts.{ConjText, UnitText}
use Rattle.tiql_tree.specs.Texts.UnitText.{denied, compared}
use Rattle.tiql_tree.specs.Grammar.{cmp_text, expr_words, cond_words, conj_words, unit_words}
use Rattle.tiql_tree.specs.Printed.{spaced, written, expr_text, CondMade, made_unit, made_conj, made_cond, as_conj, as_unit, or_from, and_from, or_made, and_made, cond_step, cond_made}
use Rattle.tiql_tree.specs.Rooms.{expr_bytes}
use Rattle.tiql_tree.specs.CondRooms.{takes_or, takes_and, cond_bytes, compare_bytes, or_bytes, and_bytes, or_part, and_part}
use Rattle.tiql_tree.proofs.Making.{written-append, with_first}

in_brackets : List Word → List Word
in_brackets words = sign (codes "[") ∷ words ++ sign (codes "]") ∷ []

written_brackets : (ws : List Word) → written (in_brackets ws) ≡ codes "[ " ++ (written ws ++ codes "] ")
unfolding written in_brackets
written_brackets ws = ap (λ (l : List ℕ). codes "[ " ++ l) (flat_map-append spaced ws _)

pub made-Compare : (c : TreeCond) (cmp : TreeCmp) (one other : TreeExpr) → c ≡ Compare cmp one other → cond_made c ≡ made_unit (compared cmp (expr_text one) (expr_text other))
unfolding cond_made roll-TreeCond roll
made-Compare c cmp one other is = ap cond_made is ∙ fold-roll-TreeCond CondMade cond_step (TreeCond-F.Compare cmp one other)

pub made-Not : (c part : TreeCond) → c ≡ Not part → cond_made c ≡ made_unit (denied (as_unit (cond_made part)))
unfolding cond_made roll-TreeCond roll
made-Not c part is = ap cond_made is ∙ fold-roll-TreeCond CondMade cond_step (TreeCond-F.Not part)

pub made-And : (c : TreeCond) (parts : List TreeCond) → c ≡ And parts → cond_made c ≡ made_conj (and_made (map cond_made parts))
unfolding cond_made roll-TreeCond roll
made-And c parts is = ap cond_made is ∙ fold-roll-TreeCond CondMade cond_step (TreeCond-F.And parts)

pub made-Or : (c : TreeCond) (parts : List TreeCond) → c ≡ Or parts → cond_made c ≡ made_cond (or_made (map cond_made parts))
unfolding cond_made roll-TreeCond roll
made-Or c parts is = ap cond_made is ∙ fold-roll-TreeCond CondMade cond_step (TreeCond-F.Or parts)

-- a unit needs no signs that group it
unit_bytes : (r : CondRoom) (u : UnitText) → cond_bytes r (made_unit u) ≡ written (unit_words u)
unfolding cond_bytes cond_words
unit_bytes room.Or u = refl
unit_bytes room.And u = refl
unit_bytes room.Unit u = refl

cmp_spaced : (cmp : TreeCmp) → spaced (sign (cmp_text cmp)) ≡ cmp_text cmp ++ 32 ∷ []
cmp_spaced Eq = refl
cmp_spaced Ne = refl
cmp_spaced Lt = refl
cmp_spaced Le = refl
cmp_spaced Gt = refl
cmp_spaced Ge = refl

pub bytes_Compare : (r : CondRoom) (c : TreeCond) (cmp : TreeCmp) (one other : TreeExpr) → c ≡ Compare cmp one other → cond_bytes r (cond_made c) ≡ compare_bytes cmp one other
unfolding written unit_words expr_bytes
bytes_Compare r c cmp one other is =
    ap (cond_bytes r) (made-Compare c cmp one other is) ∙ unit_bytes r (compared cmp (expr_text one) (expr_text other))
    ∙ written-append (expr_words (expr_text one)) _
    ∙ ap (λ (l : List ℕ). written (expr_words (expr_text one)) ++ (l ++ written (expr_words (expr_text other)))) (cmp_spaced cmp)
    ∙ sym (append_assoc (written (expr_words (expr_text one))) (cmp_text cmp ++ 32 ∷ []) (written (expr_words (expr_text other))))

pub bytes_Not : (r : CondRoom) (c part : TreeCond) → c ≡ Not part → cond_bytes r (cond_made c) ≡ codes "NOT " ++ cond_bytes room.Unit (cond_made part)
unfolding written unit_words cond_bytes
bytes_Not r c part is = ap (cond_bytes r) (made-Not c part is) ∙ unit_bytes r (denied (as_unit (cond_made part)))

pub bytes_And : (r : CondRoom) (c : TreeCond) (parts : List TreeCond) → takes_and r ≡ true → c ≡ And parts → cond_bytes r (cond_made c) ≡ and_bytes (map cond_made parts)
unfolding cond_bytes and_bytes cond_words
bytes_And room.Or c parts takes is = ap (cond_bytes room.Or) (made-And c parts is)
bytes_And room.And c parts takes is = ap (cond_bytes room.And) (made-And c parts is)
bytes_And room.Unit c parts takes is = absurd (false≢true takes)

pub bytes_And_in : (r : CondRoom) (c : TreeCond) (parts : List TreeCond) → takes_and r ≡ false → c ≡ And parts → cond_bytes r (cond_made c) ≡ codes "[ " ++ (and_bytes (map cond_made parts) ++ codes "] ")
unfolding cond_bytes and_bytes cond_words in_brackets
bytes_And_in room.Or c parts not is = absurd (false≢true (sym not))
bytes_And_in room.And c parts not is = absurd (false≢true (sym not))
bytes_And_in room.Unit c parts not is = ap (cond_bytes room.Unit) (made-And c parts is) ∙ written_brackets (conj_words (and_made (map cond_made parts)))

pub bytes_Or : (r : CondRoom) (c : TreeCond) (parts : List TreeCond) → takes_or r ≡ true → c ≡ Or parts → cond_bytes r (cond_made c) ≡ or_bytes (map cond_made parts)
unfolding cond_bytes or_bytes
bytes_Or room.Or c parts takes is = ap (cond_bytes room.Or) (made-Or c parts is)
bytes_Or room.And c parts takes is = absurd (false≢true takes)
bytes_Or room.Unit c parts takes is = absurd (false≢true takes)

pub bytes_Or_in : (r : CondRoom) (c : TreeCond) (parts : List TreeCond) → takes_or r ≡ false → c ≡ Or parts → cond_bytes r (cond_made c) ≡ codes "[ " ++ (or_bytes (map cond_made parts) ++ codes "] ")
unfolding cond_bytes or_bytes conj_words in_brackets
bytes_Or_in room.Or c parts not is = absurd (false≢true (sym not))
bytes_Or_in room.And c parts not is = ap (cond_bytes room.And) (made-Or c parts is) ∙ written_brackets (cond_words (or_made (map cond_made parts)))
bytes_Or_in room.Unit c parts not is = ap (cond_bytes room.Unit) (made-Or c parts is) ∙ written_brackets (cond_words (or_made (map cond_made parts)))

-- the parts behind the first one
ors_bytes : (conj : ConjText) (parts : List CondMade) → written (cond_words (or_from conj parts)) ≡ written (conj_words conj) ++ flat_map or_part parts
unfolding cond_words cond_bytes written
ors_bytes conj [] = sym (append-nil (written (conj_words conj)))
ors_bytes conj (part ∷ parts) = written-append (conj_words conj) _ ∙ ap (λ (l : List ℕ). written (conj_words conj) ++ (codes "OR " ++ l)) (ors_bytes (as_conj part) parts)

ands_bytes : (unit : UnitText) (parts : List CondMade) → written (conj_words (and_from unit parts)) ≡ written (unit_words unit) ++ flat_map and_part parts
unfolding conj_words cond_bytes written
ands_bytes unit [] = sym (append-nil (written (unit_words unit)))
ands_bytes unit (part ∷ parts) = written-append (unit_words unit) _ ∙ ap (λ (l : List ℕ). written (unit_words unit) ++ (codes "AND " ++ l)) (ands_bytes (as_unit part) parts)

or_split : (part : TreeCond) (parts : List TreeCond) → or_bytes (map cond_made (part ∷ parts)) ≡ cond_bytes room.And (cond_made part) ++ flat_map or_part (map cond_made parts)
unfolding or_bytes cond_bytes
or_split part parts = ors_bytes (as_conj (cond_made part)) (map cond_made parts)

and_split : (part : TreeCond) (parts : List TreeCond) → and_bytes (map cond_made (part ∷ parts)) ≡ cond_bytes room.Unit (cond_made part) ++ flat_map and_part (map cond_made parts)
unfolding and_bytes cond_bytes
and_split part parts = ands_bytes (as_unit (cond_made part)) (map cond_made parts)

pub or_init : (parts : List TreeCond) (first : TreeCond) (old new : List ℕ) → 1 ≤ length parts → first ≡ get_or parts 0 first → new ≡ old ++ cond_bytes room.And (cond_made first) → new ++ flat_map or_part (map cond_made (take (length parts - 1) (drop 1 parts))) ≡ old ++ or_bytes (map cond_made parts)
or_init parts first old new long is e =
    ap (λ (l : List ℕ). l ++ flat_map or_part (map cond_made (take (length parts - 1) (drop 1 parts)))) e
    ∙ append_assoc old (cond_bytes room.And (cond_made first)) _
    ∙ ap (λ (l : List ℕ). old ++ l) (sym (ap (λ (l : List TreeCond). or_bytes (map cond_made l)) (with_first parts first long is) ∙ or_split first _))

pub and_init : (parts : List TreeCond) (first : TreeCond) (old new : List ℕ) → 1 ≤ length parts → first ≡ get_or parts 0 first → new ≡ old ++ cond_bytes room.Unit (cond_made first) → new ++ flat_map and_part (map cond_made (take (length parts - 1) (drop 1 parts))) ≡ old ++ and_bytes (map cond_made parts)
and_init parts first old new long is e =
    ap (λ (l : List ℕ). l ++ flat_map and_part (map cond_made (take (length parts - 1) (drop 1 parts)))) e
    ∙ append_assoc old (cond_bytes room.Unit (cond_made first)) _
    ∙ ap (λ (l : List ℕ). old ++ l) (sym (ap (λ (l : List TreeCond). and_bytes (map cond_made l)) (with_first parts first long is) ∙ and_split first _))

pub no_or : (parts : List TreeCond) → length parts < 1 → or_bytes (map cond_made parts) ≡ codes "0 <> 0 "
unfolding or_bytes written cond_words expr_words
no_or [] none = refl
no_or (part ∷ parts) none = absurd (omega arith)

pub no_and : (parts : List TreeCond) → length parts < 1 → and_bytes (map cond_made parts) ≡ codes "0 = 0 "
unfolding and_bytes written cond_words expr_words
no_and [] none = refl
no_and (part ∷ parts) none = absurd (omega arith)
