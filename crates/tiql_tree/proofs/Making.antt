-- how what is printed of an expression goes by its form
use Rattle.std.proofs.Common.{◌≡◌, ℕ, ℤ, ◌+◌, ◌-◌, ◌<◌, ◌≤◌, Bool, true, false, List, [], ◌∷◌, ◌++◌, map, length, drop, take, get_or, flat_map, codes, decimal, unsigned_abs, refl, sym, ◌∙◌, ap, subst, append_assoc, arith, OnOk, Result, if◌then◌else◌, take_all}
use Rattle.std.proofs.lemmas.Bool.{false≢true}
use Rattle.std.proofs.lemmas.List.{append-nil, drop_more}
use Rattle.std.proofs.lemmas.Grind.{flat_map-append}
use Rattle.base_kit.specs.declared.memory.Memory.{Memory}
use denote.Hole.Carrier.{roll}
use Rattle.tiql_lex.specs.Kinds.{quoted}
use Rattle.tiql_tree.specs.declared.expression.TreeRef.{TreeRef}
use Rattle.tiql_tree.specs.declared.expression.TreeExpr.{TreeExpr, fold_out-TreeExpr}
use Rattle.tiql_tree.specs.declared.expression.TreeSigned.{TreeSigned, fold_out-TreeSigned}
use Rattle.tiql_tree.specs.declared.expression.TreeForm.{TreeForm}
use Rattle.tiql_tree.specs.declared.expression.TreeForm.TheOpen.{TreeForm-F}
use Rattle.tiql_tree.specs.declared.expression.TreeForm.TheFolds.{fold-roll-TreeForm}
use Rattle.tiql_tree.specs.declared.expression.TreeForm.TheVariants.{Number, Text, Ref}
use Rattle.tiql_tree.specs.declared.expression.TreeForm.TheViews.{Sum, Product, Neg, Abs, roll-TreeForm}
use Rattle.tiql_tree.specs.declared.write_expression.Room.{Room}
use Rattle.tiql_tree.specs.declared.write_expression.Room.TheVariants as room
use Rattle.base_kit.specs.declared.place.Place.{Place}
use Rattle.tiql_tree.specs.Trees.{expr_at, form_of}
use Rattle.tiql_tree.specs.Words.{Word, sign}
use Rattle.tiql_tree.specs.Texts.{TermText, FactorText}
use Rattle.tiql_tree.specs.Texts.FactorText.{negated, numeral, value_text, reference, absolute}
use Rattle.tiql_tree.specs.Grammar.{in_parens, ref_words, expr_words, term_words, factor_words}
use Rattle.tiql_tree.specs.Printed.{spaced, written, ExprMade, SignedMade, made_factor, made_term, made_sum, as_expr, as_term, as_factor, sum_from, product_from, sum_made, product_made}
use Rattle.tiql_tree.specs.Printed.{ref_text, form_made, expr_of_form, signed_of_form, expr_made, signed_made, made_of_form}
use Rattle.tiql_tree.specs.Rooms.{takes_sum, takes_product, expr_bytes, sum_bytes, product_bytes, plus_or_minus, signed_bytes, star_bytes}

pub written-append : (ws vs : List Word) → written (ws ++ vs) ≡ written ws ++ written vs
unfolding written
written-append ws vs = flat_map-append spaced ws vs

pub written_parens : (ws : List Word) → written (in_parens ws) ≡ codes "( " ++ (written ws ++ codes ") ")
unfolding written
written_parens ws = ap (λ (l : List ℕ). codes "( " ++ l) (flat_map-append spaced ws _)

pub expr_made-is : (e : TreeExpr) (f : TreeForm) → e.form ≡ f → expr_made e ≡ made_of_form f
unfolding expr_made made_of_form
expr_made-is e f is = fold_out-TreeExpr ExprMade ExprMade SignedMade form_made expr_of_form signed_of_form e ∙ ap made_of_form is

-- only the form counts
pub made-form : (p : Place) (e : TreeExpr) → expr_made (expr_at p (form_of e)) ≡ expr_made e
made-form p e = expr_made-is _ _ refl ∙ sym (expr_made-is e _ refl)

pub signed_made-is : (s : TreeSigned) → signed_made s ≡ (s.minus, expr_made s.part)
unfolding signed_made expr_made
signed_made-is s = fold_out-TreeSigned ExprMade ExprMade SignedMade form_made expr_of_form signed_of_form s

pub made-Number : (e : TreeExpr) (n : ℤ) → e.form ≡ Number n → expr_made e ≡ made_factor (numeral (decimal (unsigned_abs n)))
unfolding made_of_form roll-TreeForm roll
made-Number e n is = expr_made-is e (Number n) is ∙ fold-roll-TreeForm ExprMade ExprMade SignedMade form_made expr_of_form signed_of_form (TreeForm-F.Number n)

pub made-Text : (e : TreeExpr) (t : List ℕ) → e.form ≡ Text t → expr_made e ≡ made_factor (value_text t)
unfolding made_of_form roll-TreeForm roll
made-Text e t is = expr_made-is e (Text t) is ∙ fold-roll-TreeForm ExprMade ExprMade SignedMade form_made expr_of_form signed_of_form (TreeForm-F.Text t)

pub made-Ref : (e : TreeExpr) (r : TreeRef) → e.form ≡ Ref r → expr_made e ≡ made_factor (reference (ref_text r))
unfolding made_of_form roll-TreeForm roll
made-Ref e r is = expr_made-is e (Ref r) is ∙ fold-roll-TreeForm ExprMade ExprMade SignedMade form_made expr_of_form signed_of_form (TreeForm-F.Ref r)

pub made-Sum : (e : TreeExpr) (parts : List TreeSigned) → e.form ≡ Sum parts → expr_made e ≡ made_sum (sum_made (map signed_made parts))
unfolding made_of_form signed_made roll-TreeForm roll
made-Sum e parts is = expr_made-is e (Sum parts) is ∙ fold-roll-TreeForm ExprMade ExprMade SignedMade form_made expr_of_form signed_of_form (TreeForm-F.Sum parts)

pub made-Product : (e : TreeExpr) (parts : List TreeExpr) → e.form ≡ Product parts → expr_made e ≡ made_term (product_made (map expr_made parts))
unfolding made_of_form expr_made roll-TreeForm roll
made-Product e parts is = expr_made-is e (Product parts) is ∙ fold-roll-TreeForm ExprMade ExprMade SignedMade form_made expr_of_form signed_of_form (TreeForm-F.Product parts)

pub made-Neg : (e part : TreeExpr) → e.form ≡ Neg part → expr_made e ≡ made_factor (negated (as_factor (expr_made part)))
unfolding made_of_form expr_made roll-TreeForm roll
made-Neg e part is = expr_made-is e (Neg part) is ∙ fold-roll-TreeForm ExprMade ExprMade SignedMade form_made expr_of_form signed_of_form (TreeForm-F.Neg part)

pub made-Abs : (e part : TreeExpr) → e.form ≡ Abs part → expr_made e ≡ made_factor (absolute (as_expr (expr_made part)))
unfolding made_of_form expr_made roll-TreeForm roll
made-Abs e part is = expr_made-is e (Abs part) is ∙ fold-roll-TreeForm ExprMade ExprMade SignedMade form_made expr_of_form signed_of_form (TreeForm-F.Abs part)

-- a factor needs no signs that group it
factor_bytes : (r : Room) (f : FactorText) → expr_bytes r (made_factor f) ≡ written (factor_words f)
unfolding expr_bytes expr_words
factor_bytes room.Sum f = refl
factor_bytes room.Product f = refl
factor_bytes room.Factor f = refl

pub bytes_Number : (r : Room) (e : TreeExpr) (n : ℤ) → e.form ≡ Number n → expr_bytes r (expr_made e) ≡ decimal (unsigned_abs n) ++ 32 ∷ []
unfolding written factor_words
bytes_Number r e n is = ap (expr_bytes r) (made-Number e n is) ∙ factor_bytes r (numeral (decimal (unsigned_abs n))) ∙ append-nil (decimal (unsigned_abs n) ++ 32 ∷ [])

pub bytes_Text : (r : Room) (e : TreeExpr) (t : List ℕ) → e.form ≡ Text t → expr_bytes r (expr_made e) ≡ quoted t ++ 32 ∷ []
unfolding written factor_words
bytes_Text r e t is = ap (expr_bytes r) (made-Text e t is) ∙ factor_bytes r (value_text t) ∙ append-nil (quoted t ++ 32 ∷ [])

pub bytes_Ref : (r : Room) (e : TreeExpr) (ref : TreeRef) → e.form ≡ Ref ref → expr_bytes r (expr_made e) ≡ written (ref_words (ref_text ref))
unfolding factor_words
bytes_Ref r e ref is = ap (expr_bytes r) (made-Ref e ref is) ∙ factor_bytes r (reference (ref_text ref))

pub bytes_Neg : (r : Room) (e part : TreeExpr) → e.form ≡ Neg part → expr_bytes r (expr_made e) ≡ codes "- " ++ expr_bytes room.Factor (expr_made part)
unfolding written factor_words expr_bytes
bytes_Neg r e part is = ap (expr_bytes r) (made-Neg e part is) ∙ factor_bytes r (negated (as_factor (expr_made part)))

pub bytes_Abs : (r : Room) (e part : TreeExpr) → e.form ≡ Abs part → expr_bytes r (expr_made e) ≡ codes "ABS ( " ++ (expr_bytes room.Sum (expr_made part) ++ codes ") ")
unfolding written factor_words expr_bytes
bytes_Abs r e part is =
    ap (expr_bytes r) (made-Abs e part is) ∙ factor_bytes r (absolute (as_expr (expr_made part)))
    ∙ ap (λ (l : List ℕ). codes "ABS " ++ l) (written_parens (expr_words (as_expr (expr_made part))))

pub bytes_Sum : (r : Room) (e : TreeExpr) (parts : List TreeSigned) → takes_sum r ≡ true → e.form ≡ Sum parts → expr_bytes r (expr_made e) ≡ sum_bytes (map signed_made parts)
unfolding expr_bytes sum_bytes
bytes_Sum room.Sum e parts takes is = ap (expr_bytes room.Sum) (made-Sum e parts is)
bytes_Sum room.Product e parts takes is = absurd (false≢true takes)
bytes_Sum room.Factor e parts takes is = absurd (false≢true takes)

pub bytes_Sum_in : (r : Room) (e : TreeExpr) (parts : List TreeSigned) → takes_sum r ≡ false → e.form ≡ Sum parts → expr_bytes r (expr_made e) ≡ codes "( " ++ (sum_bytes (map signed_made parts) ++ codes ") ")
unfolding expr_bytes sum_bytes term_words
bytes_Sum_in room.Sum e parts not is = absurd (false≢true (sym not))
bytes_Sum_in room.Product e parts not is = ap (expr_bytes room.Product) (made-Sum e parts is) ∙ written_parens (expr_words (sum_made (map signed_made parts)))
bytes_Sum_in room.Factor e parts not is = ap (expr_bytes room.Factor) (made-Sum e parts is) ∙ written_parens (expr_words (sum_made (map signed_made parts)))

pub bytes_Product : (r : Room) (e : TreeExpr) (parts : List TreeExpr) → takes_product r ≡ true → e.form ≡ Product parts → expr_bytes r (expr_made e) ≡ product_bytes (map expr_made parts)
unfolding expr_bytes product_bytes expr_words
bytes_Product room.Sum e parts takes is = ap (expr_bytes room.Sum) (made-Product e parts is)
bytes_Product room.Product e parts takes is = ap (expr_bytes room.Product) (made-Product e parts is)
bytes_Product room.Factor e parts takes is = absurd (false≢true takes)

pub bytes_Product_in : (r : Room) (e : TreeExpr) (parts : List TreeExpr) → takes_product r ≡ false → e.form ≡ Product parts → expr_bytes r (expr_made e) ≡ codes "( " ++ (product_bytes (map expr_made parts) ++ codes ") ")
unfolding expr_bytes product_bytes expr_words
bytes_Product_in room.Sum e parts not is = absurd (false≢true (sym not))
bytes_Product_in room.Product e parts not is = absurd (false≢true (sym not))
bytes_Product_in room.Factor e parts not is = ap (expr_bytes room.Factor) (made-Product e parts is) ∙ written_parens (term_words (product_made (map expr_made parts)))

-- the parts of a sum behind the first one
terms_bytes : (term : TermText) (parts : List SignedMade) → written (expr_words (sum_from term parts)) ≡ written (term_words term) ++ flat_map signed_bytes parts
unfolding expr_words expr_bytes written
terms_bytes term [] = sym (append-nil (written (term_words term)))
terms_bytes term (part ∷ parts) = written-append (term_words term) _ ∙ ap (λ (l : List ℕ). written (term_words term) ++ l) (by_minus part.0 (terms_bytes (as_term part.1) parts))
  where
    by_minus : (minus : Bool) → written (expr_words (sum_from (as_term part.1) parts)) ≡ written (term_words (as_term part.1)) ++ flat_map signed_bytes parts
        → written (sign (if minus then codes "-" else codes "+") ∷ expr_words (sum_from (as_term part.1) parts)) ≡ signed_bytes (minus, part.1) ++ flat_map signed_bytes parts
    by_minus true more = ap (λ (l : List ℕ). codes "- " ++ l) more
    by_minus false more = ap (λ (l : List ℕ). codes "+ " ++ l) more

-- the factors of a product behind the first one
factors_bytes : (factor : FactorText) (parts : List ExprMade) → written (term_words (product_from factor parts)) ≡ written (factor_words factor) ++ flat_map star_bytes parts
unfolding term_words expr_bytes written
factors_bytes factor [] = sym (append-nil (written (factor_words factor)))
factors_bytes factor (part ∷ parts) = written-append (factor_words factor) _ ∙ ap (λ (l : List ℕ). written (factor_words factor) ++ (codes "* " ++ l)) (factors_bytes (as_factor part) parts)

-- a sum of this first part and these others
pub sum_split : (part : TreeSigned) (parts : List TreeSigned) → sum_bytes (map signed_made (part ∷ parts)) ≡ expr_bytes room.Product (expr_made part.part) ++ flat_map signed_bytes (map signed_made parts)
unfolding sum_bytes expr_bytes
sum_split part parts =
    terms_bytes (as_term (signed_made part).1) (map signed_made parts)
    ∙ ap (λ (s : SignedMade). written (term_words (as_term s.1)) ++ flat_map signed_bytes (map signed_made parts)) (signed_made-is part)

pub product_split : (part : TreeExpr) (parts : List TreeExpr) → product_bytes (map expr_made (part ∷ parts)) ≡ expr_bytes room.Factor (expr_made part) ++ flat_map star_bytes (map expr_made parts)
unfolding product_bytes expr_bytes
product_split part parts = factors_bytes (as_factor (expr_made part)) (map expr_made parts)

-- a list with a first part
pub with_first : {A : Type 0} (parts : List A) (first : A) → 1 ≤ length parts → first ≡ get_or parts 0 first → parts ≡ first ∷ take (length parts - 1) (drop 1 parts)
with_first [] first long is = absurd (omega arith)
with_first (part ∷ parts) first long is = let size : length (part ∷ parts) - 1 ≡ length parts = omega arith in ap (λ a. a ∷ parts) (sym is) ∙ ap (λ (l : List _). first ∷ l) (sym (ap (λ n. take n parts) size ∙ take_all (length parts) parts (omega arith)))

-- the loop over the parts of a sum
pub terms_init : (parts : List TreeSigned) (first : TreeSigned) (old new : List ℕ) → 1 ≤ length parts → first ≡ get_or parts 0 first → new ≡ old ++ expr_bytes room.Product (expr_made first.part) → new ++ flat_map signed_bytes (map signed_made (take (length parts - 1) (drop 1 parts))) ≡ old ++ sum_bytes (map signed_made parts)
terms_init parts first old new long is e =
    ap (λ (l : List ℕ). l ++ flat_map signed_bytes (map signed_made (take (length parts - 1) (drop 1 parts)))) e
    ∙ append_assoc old (expr_bytes room.Product (expr_made first.part)) _
    ∙ ap (λ (l : List ℕ). old ++ l) (sym (ap (λ (l : List TreeSigned). sum_bytes (map signed_made l)) (with_first parts first long is) ∙ sum_split first _))

pub factors_init : (parts : List TreeExpr) (first : TreeExpr) (old new : List ℕ) → 1 ≤ length parts → first ≡ get_or parts 0 first → new ≡ old ++ expr_bytes room.Factor (expr_made first) → new ++ flat_map star_bytes (map expr_made (take (length parts - 1) (drop 1 parts))) ≡ old ++ product_bytes (map expr_made parts)
factors_init parts first old new long is e =
    ap (λ (l : List ℕ). l ++ flat_map star_bytes (map expr_made (take (length parts - 1) (drop 1 parts)))) e
    ∙ append_assoc old (expr_bytes room.Factor (expr_made first)) _
    ∙ ap (λ (l : List ℕ). old ++ l) (sym (ap (λ (l : List TreeExpr). product_bytes (map expr_made l)) (with_first parts first long is) ∙ product_split first _))

pub terms_next : (more : List TreeSigned) (i : ℕ) (part : TreeSigned) (old mid new whole : List ℕ) → i < length more → part ≡ get_or more i part
    → mid ≡ old ++ plus_or_minus part.minus → new ≡ mid ++ expr_bytes room.Product (expr_made part.part)
    → old ++ flat_map signed_bytes (map signed_made (drop i more)) ≡ whole → new ++ flat_map signed_bytes (map signed_made (drop (i + 1) more)) ≡ whole
terms_next more i part old mid new whole lt is m n h =
    let rest : List ℕ = flat_map signed_bytes (map signed_made (drop (i + 1) more)) in
    let sign_ : List ℕ = plus_or_minus part.minus in
    let body : List ℕ = expr_bytes room.Product (expr_made part.part) in
    let front : signed_bytes (signed_made part) ≡ sign_ ++ body = ap signed_bytes (signed_made-is part) in
    let split : flat_map signed_bytes (map signed_made (drop i more)) ≡ (sign_ ++ body) ++ rest = ap (λ (l : List TreeSigned). flat_map signed_bytes (map signed_made l)) (drop_more more i part lt ∙ ap (λ (a : TreeSigned). a ∷ drop (i + 1) more) (sym is)) ∙ ap (λ (l : List ℕ). l ++ rest) front in
    ap (λ (l : List ℕ). l ++ rest) (n ∙ ap (λ (l : List ℕ). l ++ body) m ∙ append_assoc old sign_ body) ∙ append_assoc old (sign_ ++ body) rest ∙ ap (λ (l : List ℕ). old ++ l) (sym split) ∙ h

-- what was appended, said otherwise
pub ok_same : (r : Result (Unit {0}) Memory) (new old a b : List ℕ) → a ≡ b → OnOk r (new ≡ old ++ b) → OnOk r (new ≡ old ++ a)
ok_same r new old a b same h = subst (λ (l : List ℕ). OnOk r (new ≡ old ++ l)) (sym same) h

-- between two signs
pub ok_between : (r : Result (Unit {0}) Memory) (old one two new all a b c : List ℕ) → all ≡ a ++ (b ++ c) → one ≡ old ++ a → two ≡ one ++ b → OnOk r (new ≡ two ++ c) → OnOk r (new ≡ old ++ all)
ok_between r old one two new all a b c whole f s h =
    subst (λ (l : List ℕ). OnOk r (new ≡ l)) (ap (λ (l : List ℕ). l ++ c) (s ∙ ap (λ (l : List ℕ). l ++ b) f) ∙ append_assoc (old ++ a) b c ∙ append_assoc old a (b ++ c) ∙ ap (λ (l : List ℕ). old ++ l) (sym whole)) h

-- behind a sign
pub ok_behind : (r : Result (Unit {0}) Memory) (old one new all a b : List ℕ) → all ≡ a ++ b → one ≡ old ++ a → OnOk r (new ≡ one ++ b) → OnOk r (new ≡ old ++ all)
ok_behind r old one new all a b whole f h =
    subst (λ (l : List ℕ). OnOk r (new ≡ l)) (ap (λ (l : List ℕ). l ++ b) f ∙ append_assoc old a b ∙ ap (λ (l : List ℕ). old ++ l) (sym whole)) h

pub no_terms : (parts : List TreeSigned) → length parts < 1 → sum_bytes (map signed_made parts) ≡ codes "0 "
unfolding sum_bytes written expr_words
no_terms [] none = refl
no_terms (part ∷ parts) none = absurd (omega arith)

pub no_factors : (parts : List TreeExpr) → length parts < 1 → product_bytes (map expr_made parts) ≡ codes "1 "
unfolding product_bytes written term_words
no_factors [] none = refl
no_factors (part ∷ parts) none = absurd (omega arith)
