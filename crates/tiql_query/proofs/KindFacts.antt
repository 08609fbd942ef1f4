-- the kind of an expression, and whether a condition fits, by their variants
use Rattle.std.proofs.Common.{◌≡◌, ℕ, ℤ, ◌^◌, Bool, true, false, ◌||◌, ◌&&◌, List, [], ◌∷◌, ◌++◌, map, refl, sym, ◌∙◌, ap, unsigned_abs, if◌then◌else◌, Option, Some, None}
use Rattle.std.specs.Prelude.{nat_le}
use Rattle.std.specs.List.{list_all}
use denote.Hole.Carrier.{roll}
use Rattle.tiql_query.specs.declared.expression.At.{At}
use Rattle.tiql_query.specs.declared.expression.Signed.{Signed, fold-Signed, fold_out-Signed}
use Rattle.tiql_query.specs.declared.expression.Expr.{Expr}
use Rattle.tiql_query.specs.declared.expression.Expr.TheOpen.{Expr-F}
use Rattle.tiql_query.specs.declared.expression.Expr.TheFolds.{fold-roll-Expr}
use Rattle.tiql_query.specs.declared.expression.Expr.TheVariants.{Int, Text, Column}
use Rattle.tiql_query.specs.declared.expression.Expr.TheViews.{Sum, Product, Neg, Abs, roll-Expr}
use Rattle.tiql_query.specs.declared.condition.Cmp.{Cmp}
use Rattle.tiql_query.specs.declared.condition.Cond.{Cond}
use Rattle.tiql_query.specs.declared.condition.Cond.TheOpen.{Cond-F}
use Rattle.tiql_query.specs.declared.condition.Cond.TheFolds.{fold-roll-Cond}
use Rattle.tiql_query.specs.declared.condition.Cond.TheVariants.{Compare}
use Rattle.tiql_query.specs.declared.condition.Cond.TheViews.{Not, And, Or, roll-Cond}
use Rattle.tiql_query.specs.Kinds.{Kind, Scope, number, kind_at, with_part, arithmetic, with_factor, multiplied, kind_step, part_step, kind, are_alike, fit_step, is_fit}

unfoldable pub signed_kind : Scope → Signed → Option Kind
signed_kind scope = fold-Signed (Option Kind) (Option Kind) (kind_step scope) part_step

module _ (scope : Scope) where
  pub signed_kind-is : (s : Signed) → signed_kind scope s ≡ kind scope s.part
  unfolding signed_kind kind
  signed_kind-is s = fold_out-Signed (Option Kind) (Option Kind) (kind_step scope) part_step s

  pub kind-Int : (n : ℤ) → kind scope (Int n) ≡ (if nat_le (unsigned_abs n) (10 ^ 15) then Some (number false) else None)
  unfolding kind roll-Expr roll
  kind-Int n = fold-roll-Expr (Option Kind) (Option Kind) (kind_step scope) part_step (Expr-F.Int n)

  pub kind-Text : (t : List ℕ) → kind scope (Text t) ≡ Some (record { text = true; unknown = false })
  unfolding kind roll-Expr roll
  kind-Text t = fold-roll-Expr (Option Kind) (Option Kind) (kind_step scope) part_step (Expr-F.Text t)

  pub kind-Column : (at : At) → kind scope (Column at) ≡ kind_at scope at
  unfolding kind roll-Expr roll
  kind-Column at = fold-roll-Expr (Option Kind) (Option Kind) (kind_step scope) part_step (Expr-F.Column at)

  pub kind-Sum : (parts : List Signed) → kind scope (Sum parts) ≡ arithmetic (map (signed_kind scope) parts)
  unfolding kind signed_kind roll-Expr roll
  kind-Sum parts = fold-roll-Expr (Option Kind) (Option Kind) (kind_step scope) part_step (Expr-F.Sum parts)

  pub kind-Product : (parts : List Expr) → kind scope (Product parts) ≡ multiplied (map (kind scope) parts)
  unfolding kind roll-Expr roll
  kind-Product parts = fold-roll-Expr (Option Kind) (Option Kind) (kind_step scope) part_step (Expr-F.Product parts)

  pub kind-Neg : (part : Expr) → kind scope (Neg part) ≡ arithmetic (kind scope part ∷ [])
  unfolding kind roll-Expr roll
  kind-Neg part = fold-roll-Expr (Option Kind) (Option Kind) (kind_step scope) part_step (Expr-F.Neg part)

  pub kind-Abs : (part : Expr) → kind scope (Abs part) ≡ arithmetic (kind scope part ∷ [])
  unfolding kind roll-Expr roll
  kind-Abs part = fold-roll-Expr (Option Kind) (Option Kind) (kind_step scope) part_step (Expr-F.Abs part)

  pub fit-Compare : (test : Cmp) (one other : Expr) → is_fit scope (Compare test one other) ≡ are_alike (kind scope one) (kind scope other)
  unfolding is_fit roll-Cond roll
  fit-Compare test one other = fold-roll-Cond Bool (fit_step scope) (Cond-F.Compare test one other)

  pub fit-Not : (part : Cond) → is_fit scope (Not part) ≡ is_fit scope part
  unfolding is_fit roll-Cond roll
  fit-Not part = fold-roll-Cond Bool (fit_step scope) (Cond-F.Not part)

  pub fit-And : (parts : List Cond) → is_fit scope (And parts) ≡ list_all (λ fit. fit) (map (is_fit scope) parts)
  unfolding is_fit roll-Cond roll
  fit-And parts = fold-roll-Cond Bool (fit_step scope) (Cond-F.And parts)

  pub fit-Or : (parts : List Cond) → is_fit scope (Or parts) ≡ list_all (λ fit. fit) (map (is_fit scope) parts)
  unfolding is_fit roll-Cond roll
  fit-Or parts = fold-roll-Cond Bool (fit_step scope) (Cond-F.Or parts)

-- a test of these three
or_assoc : (a b c : Bool) → (a || (b || c)) ≡ ((a || b) || c)
or_assoc true b c = refl
or_assoc false b c = refl

or_false : (a : Bool) → (a || false) ≡ a
or_false true = refl
or_false false = refl

one_unknown : (a b c : Bool) → (a && b) ≡ false → ((a || b) && c) ≡ false → ((b && c) ≡ false) × ((a && (b || c)) ≡ false)
one_unknown true true c p q = absurd (let e : true ≡ false = p in cc)
one_unknown true false true p q = absurd (let e : true ≡ false = q in cc)
one_unknown true false false p q = (refl, refl)
one_unknown false true true p q = absurd (let e : true ≡ false = q in cc)
one_unknown false true false p q = (refl, refl)
one_unknown false false c p q = (refl, refl)

and_false : (a : Bool) → (a && false) ≡ false
and_false true = refl
and_false false = refl

same_unknown : {one other : Kind} → Some one ≡ Some other → one.unknown ≡ other.unknown
same_unknown {one} {other} e = let same : one ≡ other = cc in ap (λ (k : Kind). k.unknown) same

-- one part more behind the others
pub arithmetic-push : (ks : List (Option Kind)) (others part : Kind) → arithmetic ks ≡ Some others → part.text ≡ false → arithmetic (ks ++ Some part ∷ []) ≡ Some (number (others.unknown || part.unknown))
unfolding arithmetic
arithmetic-push [] others part is plain = rw plain (ap (λ b. Some (number b)) (or_false part.unknown) ∙ ap (λ (o : Bool). Some (number (o || part.unknown))) (same_unknown is))
arithmetic-push (None ∷ ks) others part is plain = absurd (let e : None ≡ Some others = is in cc)
arithmetic-push (Some first ∷ ks) others part is plain = by_rest (λ rest e. arithmetic-push ks rest part e plain) (arithmetic ks) refl first.text refl is
  where
    by_rest : ((rest : Kind) → arithmetic ks ≡ Some rest → arithmetic (ks ++ Some part ∷ []) ≡ Some (number (rest.unknown || part.unknown)))
        → (rest : Option Kind) → arithmetic ks ≡ rest → (text : Bool) → first.text ≡ text → with_part first rest ≡ Some others → with_part first (arithmetic (ks ++ Some part ∷ [])) ≡ Some (number (others.unknown || part.unknown))
    by_rest more None e text t h = absurd (let e : None ≡ Some others = h in cc)
    by_rest more (Some rest) e true t h = absurd (let e : None ≡ Some others = sym (rw t refl) ∙ h in cc)
    by_rest more (Some rest) e false t h = rw (more rest e) (rw t
        (ap (λ b. Some (number b)) (or_assoc first.unknown rest.unknown part.unknown) ∙ ap (λ (o : Bool). Some (number (o || part.unknown))) (let k : Some (number (first.unknown || rest.unknown)) ≡ Some others = sym (rw t refl) ∙ h in same_unknown k)))

-- one factor more behind the others
pub multiplied-push : (ks : List (Option Kind)) (others part : Kind) → multiplied ks ≡ Some others → part.text ≡ false → (others.unknown && part.unknown) ≡ false → multiplied (ks ++ Some part ∷ []) ≡ Some (number (others.unknown || part.unknown))
unfolding multiplied
multiplied-push [] others part is plain one = rw (plain, and_false part.unknown) (ap (λ b. Some (number b)) (or_false part.unknown) ∙ ap (λ (o : Bool). Some (number (o || part.unknown))) (same_unknown is))
multiplied-push (None ∷ ks) others part is plain one = absurd (let e : None ≡ Some others = is in cc)
multiplied-push (Some first ∷ ks) others part is plain one = by_rest (λ rest e two. multiplied-push ks rest part e plain two) (multiplied ks) refl is
  where
    by_tests : (rest : Kind) (text : Bool) → first.text ≡ text → (both : Bool) → (first.unknown && rest.unknown) ≡ both
        → (if first.text || (first.unknown && rest.unknown) then None else Some (number (first.unknown || rest.unknown))) ≡ Some others
        → (first.text ≡ false) × ((first.unknown && rest.unknown) ≡ false) × (first.unknown || rest.unknown ≡ others.unknown)
    by_tests rest true t both b h = absurd (let e : None ≡ Some others = sym (rw t refl) ∙ h in cc)
    by_tests rest false t true b h = absurd (let e : None ≡ Some others = sym (rw (t, b) refl) ∙ h in cc)
    by_tests rest false t false b h = (t, b, same_unknown {one = number (first.unknown || rest.unknown)} {other = others} (sym (rw (t, b) refl) ∙ h))

    joined : (rest : Kind) → multiplied (ks ++ Some part ∷ []) ≡ Some (number (rest.unknown || part.unknown)) → first.text ≡ false → (first.unknown && (rest.unknown || part.unknown)) ≡ false → first.unknown || rest.unknown ≡ others.unknown
        → with_factor first (multiplied (ks ++ Some part ∷ [])) ≡ Some (number (others.unknown || part.unknown))
    joined rest more t b u = rw (more, t, b) (ap (λ b. Some (number b)) (or_assoc first.unknown rest.unknown part.unknown) ∙ ap (λ (o : Bool). Some (number (o || part.unknown))) u)

    by_rest : ((rest : Kind) → multiplied ks ≡ Some rest → (rest.unknown && part.unknown) ≡ false → multiplied (ks ++ Some part ∷ []) ≡ Some (number (rest.unknown || part.unknown)))
        → (rest : Option Kind) → multiplied ks ≡ rest → with_factor first rest ≡ Some others → with_factor first (multiplied (ks ++ Some part ∷ [])) ≡ Some (number (others.unknown || part.unknown))
    by_rest more None e h = absurd (let e : None ≡ Some others = h in cc)
    by_rest more (Some rest) e h =
        let tests = by_tests rest first.text refl (first.unknown && rest.unknown) refl h in
        let ones = one_unknown first.unknown rest.unknown part.unknown tests.1 (ap (λ (o : Bool). o && part.unknown) tests.2 ∙ one) in
        joined rest (more rest e ones.0) tests.0 ones.1 tests.2
