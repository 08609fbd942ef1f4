use Rattle.std.proofs.Common.{ℕ, ◌≤◌, List, length, sym, ◌∙◌, subst, rules}
use Rattle.std.proofs.lemmas.Bool.{false≢true}
use Rattle.std.specs.Str.{IsUtf8}
use Rattle.tiql_lex.proofs.Texts.{is_text_yes, is_text_no, no_text}
use Rattle.tiql_lex.proofs.scan.is_text.Goals as goal

pub returns-in-Some-clause-yes : goal.returns-in-Some-clause-yes
returns-in-Some-clause-yes c = λ e.
    is_text_yes c.args.lexeme.now c.in-Some.value.items (search rules)
    (subst (λ (v : List ℕ). IsUtf8 v × (length v ≤ 1000)) c.deref.ensures.value (c.is_value.ensures.0 e))

pub returns-in-Some-clause-no : goal.returns-in-Some-clause-no
returns-in-Some-clause-no c = λ e.
    is_text_no c.args.lexeme.now c.in-Some.value.items (search rules) (λ good.
    false≢true (sym e ∙ c.is_value.ensures.1 (subst (λ (v : List ℕ). IsUtf8 v × (length v ≤ 1000)) (sym c.deref.ensures.value) good)))

pub returns-in-None-clause-no : goal.returns-in-None-clause-no
returns-in-None-clause-no c = λ e t. no_text c.args.lexeme.now c.in_ok-value.field-0 c.in-None.is c.in_ok-value.ensures.none t
