-- with which words an expression begins
use Rattle.std.proofs.Common.{◌≡◌, ℕ, Bool, false, cond, List, ◌∷◌, ◌++◌, codes, ◌∙◌, ap, append_assoc}
use Rattle.tiql_tree.specs.Words.{Word}
use Rattle.tiql_read.proofs.Exact.{starts}
use Rattle.tiql_tree.specs.Words.{key, sign, named, digits, in_quotes}
use Rattle.tiql_tree.specs.Texts.{FactorText, TermText, ExprText}
use Rattle.tiql_tree.specs.Texts.RefText.{alone, qualified}
use Rattle.tiql_tree.specs.Texts.FactorText.{negated, numeral, value_text, reference, absolute, grouped}
use Rattle.tiql_tree.specs.Texts.TermText.{last_factor, next_factor}
use Rattle.tiql_tree.specs.Texts.ExprText.{last_term, next_term}
use Rattle.tiql_tree.specs.Grammar.{ref_words, factor_words, term_words, expr_words}

-- a test that no first word of an expression passes
pub record NoHead (test : Word → Bool) : Type 0 where
  pub minus : test (sign (codes "-")) ≡ false
  pub paren : test (sign (codes "(")) ≡ false
  pub abs : test (key (codes "ABS")) ≡ false
  pub number : (n : List ℕ) → test (digits n) ≡ false
  pub text : (v : List ℕ) → test (in_quotes v) ≡ false
  pub name : (n : List ℕ) → test (named n) ≡ false

factor_head : {test : Word → Bool} → NoHead test → (f : FactorText) (us : List Word) → starts test (factor_words f ++ us) ≡ false
unfolding factor_words ref_words
factor_head never (negated f) us = never.minus
factor_head never (numeral n) us = never.number n
factor_head never (value_text v) us = never.text v
factor_head never (reference (alone n)) us = never.name n
factor_head never (reference (qualified n m)) us = never.name n
factor_head never (absolute e) us = never.abs
factor_head never (grouped e) us = never.paren

term_head : {test : Word → Bool} → NoHead test → (d : TermText) (us : List Word) → starts test (term_words d ++ us) ≡ false
unfolding term_words
term_head never (last_factor f) us = factor_head never f us
term_head {test} never (next_factor f m) us = ap (starts test) (append_assoc (factor_words f) (sign (codes "*") ∷ term_words m) us) ∙ factor_head never f (sign (codes "*") ∷ (term_words m ++ us))

pub expr_head : {test : Word → Bool} → NoHead test → (d : ExprText) (us : List Word) → starts test (expr_words d ++ us) ≡ false
unfolding expr_words
expr_head never (last_term f) us = term_head never f us
expr_head {test} never (next_term f minus m) us = ap (starts test) (append_assoc (term_words f) (sign (cond minus (codes "-") (codes "+")) ∷ expr_words m) us) ∙ term_head never f (sign (cond minus (codes "-") (codes "+")) ∷ (expr_words m ++ us))
