-- the column that an expression is by itself, by its variant
use Rattle.std.proofs.Common.{◌≡◌, ℕ, ℤ, List, refl, sym, ◌∙◌, ap}
use Rattle.std.specs.Prelude.{Option, Some, None}
use denote.Hole.Carrier.{roll}
use Rattle.tiql_query.specs.declared.expression.At.{At}
use Rattle.tiql_query.specs.declared.expression.Signed.{Signed}
use Rattle.tiql_query.specs.declared.expression.Expr.{Expr, roll-out-Expr}
use Rattle.tiql_query.specs.declared.expression.Expr.TheOpen.{Expr-F}
use Rattle.tiql_query.specs.declared.expression.Expr.TheFolds.{fold-roll-Expr}
use Rattle.tiql_query.specs.declared.expression.Expr.TheVariants.{Int, Text, Column}
use Rattle.tiql_query.specs.declared.expression.Expr.TheViews.{Sum, Product, Neg, Abs, roll-Expr, out-Expr}
use Rattle.tiql_check.specs.Selects.{lone_step, lone_column}

pub lone-Int : (e : Expr) (n : ℤ) → e ≡ Int n → None ≡ lone_column e
unfolding lone_column roll-Expr roll
lone-Int e n is = sym (ap lone_column is ∙ fold-roll-Expr (Option At) (Option At) lone_step (λ part. part.part) (Expr-F.Int n))

pub lone-Text : (e : Expr) (t : List ℕ) → e ≡ Text t → None ≡ lone_column e
unfolding lone_column roll-Expr roll
lone-Text e t is = sym (ap lone_column is ∙ fold-roll-Expr (Option At) (Option At) lone_step (λ part. part.part) (Expr-F.Text t))

pub lone-Column : (e : Expr) (at : At) → e ≡ Column at → Some at ≡ lone_column e
unfolding lone_column roll-Expr roll
lone-Column e at is = sym (ap lone_column is ∙ fold-roll-Expr (Option At) (Option At) lone_step (λ part. part.part) (Expr-F.Column at))

pub lone-Sum : (e : Expr) (parts : List Signed) → e ≡ Sum parts → None ≡ lone_column e
unfolding lone_column roll-Expr roll
lone-Sum e parts is = sym (ap lone_column is ∙ fold-roll-Expr (Option At) (Option At) lone_step (λ part. part.part) (Expr-F.Sum parts))

pub lone-Product : (e : Expr) (parts : List Expr) → e ≡ Product parts → None ≡ lone_column e
unfolding lone_column roll-Expr roll
lone-Product e parts is = sym (ap lone_column is ∙ fold-roll-Expr (Option At) (Option At) lone_step (λ part. part.part) (Expr-F.Product parts))

pub lone-Neg : (e part : Expr) → e ≡ Neg part → None ≡ lone_column e
unfolding lone_column roll-Expr roll
lone-Neg e part is = sym (ap lone_column is ∙ fold-roll-Expr (Option At) (Option At) lone_step (λ part. part.part) (Expr-F.Neg part))

pub lone-Abs : (e part : Expr) → e ≡ Abs part → None ≡ lone_column e
unfolding lone_column roll-Expr roll
lone-Abs e part is = sym (ap lone_column is ∙ fold-roll-Expr (Option At) (Option At) lone_step (λ part. part.part) (Expr-F.Abs part))

-- an expression that is by itself a column is that column
pub column-lone : (e : Expr) (at : At) → lone_column e ≡ Some at → e ≡ Column at
unfolding roll-Expr roll
column-lone e at lone = by_form (out-Expr e) refl
  where
    rolled : (o : Expr-F Expr Signed) → out-Expr e ≡ o → e ≡ roll-Expr o
    rolled o is = sym (roll-out-Expr e) ∙ ap roll-Expr is

    none_lone : None ≡ lone_column e → e ≡ Column at
    none_lone is = absurd (let h : None ≡ Some at = is ∙ lone in cc)

    by_form : (o : Expr-F Expr Signed) → out-Expr e ≡ o → e ≡ Column at
    by_form (Expr-F.Int n) is = none_lone (lone-Int e n (rolled (Expr-F.Int n) is))
    by_form (Expr-F.Text t) is = none_lone (lone-Text e t (rolled (Expr-F.Text t) is))
    by_form (Expr-F.Column other) is =
        let h : Some other ≡ Some at = lone-Column e other (rolled (Expr-F.Column other) is) ∙ lone in
        let same : other ≡ at = cc in
        rolled (Expr-F.Column other) is ∙ ap Column same
    by_form (Expr-F.Sum parts) is = none_lone (lone-Sum e parts (rolled (Expr-F.Sum parts) is))
    by_form (Expr-F.Product parts) is = none_lone (lone-Product e parts (rolled (Expr-F.Product parts) is))
    by_form (Expr-F.Neg part) is = none_lone (lone-Neg e part (rolled (Expr-F.Neg part) is))
    by_form (Expr-F.Abs part) is = none_lone (lone-Abs e part (rolled (Expr-F.Abs part) is))
