-- Seeds that are appended form by form.
use Rattle.std.proofs.Common.{◌≡◌, ◌∙◌, sym, ap, subst, refl, ℕ, zero, suc, ◌+◌, ◌<◌, ⊎_elim, List, [], ◌∷◌, ◌++◌, length, take, get_or, All, Contains, arith}
use Rattle.std.specs.Prelude.{◌↔◌}
use Rattle.std.proofs.lemmas.List.Elements.{Contains-append_left, Contains-append_right, Contains-append_cases}
use Rattle.prov_fold.specs.Graphs.{Graph}
use Rattle.bool_encode.specs.declared.form.Piece.{Piece}
use Rattle.bool_encode.specs.Forms.{Form}
use Rattle.used_columns.specs.Seeds.{IsSeed}
use Rattle.program_rows.specs.declared.linear.LinearForm.{LinearForm}
use Rattle.program_rows.specs.Fair.{told, told_all}
use Rattle.program_rows.specs.Goals.{AreSeedsOf}
use Rattle.program_rows.specs.Sown.{Sows}

one_is : (r x : Form) → Contains (r ∷ []) x → r ≡ x
one_is r x (zero, lt, e) = e
one_is r x (suc k, lt, e) = absurd (omega (arith, lt))

has_one : (r : Form) → Contains (r ∷ []) r
has_one r = (0, omega arith, refl)

pub seeds_at : (g : Graph) (ps qs : List Piece) (seeds : List ℕ) → ps ≡ qs → ((z : ℕ) → Contains seeds z ↔ IsSeed g ps z) → (z : ℕ) → Contains seeds z ↔ IsSeed g qs z
seeds_at g ps qs seeds e are = subst (λ (l : List Piece). (z : ℕ) → Contains seeds z ↔ IsSeed g l z) e are

module _ (g : Graph) (r : Form) (before seeds : List ℕ) (are : (z : ℕ) → Contains seeds z ↔ IsSeed g r.pieces z) (forms : List Form) (sown : AreSeedsOf g forms before) (z : ℕ) where
  abbrev Named : List Form → Type 0
  Named fs = (x : Form) × Contains fs x × IsSeed g x.pieces z

  from_before : Contains before z → Named (forms ++ r ∷ [])
  from_before c = let named = (sown z).0 c in (named.0, Contains-append_left forms (r ∷ []) named.0 named.1, named.2)

  from_seeds : Contains seeds z → Named (forms ++ r ∷ [])
  from_seeds c = (r, Contains-append_right forms (r ∷ []) r (has_one r), (are z).0 c)

  to_named : Contains (before ++ seeds) z → Named (forms ++ r ∷ [])
  to_named c = ⊎_elim from_before from_seeds (Contains-append_cases before seeds z c)

  of_named : Named (forms ++ r ∷ []) → Contains (before ++ seeds) z
  of_named (x, has, seed) =
      ⊎_elim (λ (c : Contains forms x). Contains-append_left before seeds z ((sown z).1 (x, c, seed)))
      (λ (c : Contains (r ∷ []) x). Contains-append_right before seeds z ((are z).1 (subst (λ (y : Form). IsSeed g y.pieces z) (sym (one_is r x c)) seed))) (Contains-append_cases forms (r ∷ []) x has)

-- the seeds of one form more
pub sows : (g : Graph) (r : Form) (before seeds after : List ℕ) → after ≡ before ++ seeds → ((z : ℕ) → Contains seeds z ↔ IsSeed g r.pieces z) → Sows g r before after
sows g r before seeds after e are = λ forms sown. subst (AreSeedsOf g (forms ++ r ∷ [])) (sym e) (λ z. (to_named g r before seeds are forms sown z, of_named g r before seeds are forms sown z))

no_seed : (z : ℕ) → Contains [] z → ⊥
no_seed z (k, lt, e) = absurd (omega (arith, lt))

no_form : (x : Form) → Contains [] x → ⊥
no_form x (k, lt, e) = absurd (omega (arith, lt))

pub sown_none : (g : Graph) (seeds : List ℕ) → seeds ≡ [] → AreSeedsOf g [] seeds
sown_none g seeds e = subst (AreSeedsOf g []) (sym e) (λ z. ((λ c. absurd (no_seed z c)), (λ named. absurd (no_form named.0 named.1))))

told_suc : (forms : List LinearForm) (i : ℕ) (d : LinearForm) → i < length forms → told_all (take (suc i) forms) ≡ told_all (take i forms) ++ told (get_or forms i d) ∷ []
told_suc [] i d lt = absurd (omega (arith, lt))
told_suc (f ∷ forms) zero d lt = refl
told_suc (f ∷ forms) (suc i) d lt = ap (λ (l : List Form). told f ∷ l) (told_suc forms i d (omega (arith, lt)))

pub told_more : (forms : List LinearForm) (i : ℕ) (d : LinearForm) → i < length forms → told_all (take (i + 1) forms) ≡ told_all (take i forms) ++ told (get_or forms i d) ∷ []
told_more forms i d lt = let more : i + 1 ≡ suc i = omega arith in ap (λ (n : ℕ). told_all (take n forms)) more ∙ told_suc forms i d lt

pub told_each : (P : Form → Type 0) (forms : List LinearForm) → All P (told_all forms) → (i : ℕ) (d : LinearForm) → i < length forms → P (told (get_or forms i d))
told_each P [] h i d lt = absurd (omega (arith, lt))
told_each P (f ∷ forms) h zero d lt = h 0 (told f) (omega arith)
told_each P (f ∷ forms) h (suc i) d lt = told_each P forms (λ j x less. h (suc j) x (omega (arith, less))) i d (omega (arith, lt))
