-- all on which a wanted view rests is wanted
use Rattle.std.proofs.Common.{◌≡◌, ◌∙◌, ◌<◌, ◌≤◌, ◌==◌, ℕ, zero, suc, Bool, true, false, List, [], ◌∷◌, ◌++◌, refl, sym, ap, subst, ⊎_elim, arith, if◌then◌else◌}
use Rattle.std.proofs.lemmas.Bool.{eqb-true, false≢true, or_cases}
use Rattle.tiql_query.specs.declared.view.QView.{QView}
use Rattle.world_def.specs.Views.{is_among, reads_at, wanted, wanted_from}
use Rattle.world_def.proofs.Wanted.{AreEarlier, among_either, wanted_reads}

-- a number is among these
abbrev pub Has : List ℕ → ℕ → Type 0
Has these k = is_among these k ≡ true

alone : (n k : ℕ) → Has (n ∷ []) k → n ≡ k
alone n k has = ⊎_elim (λ same. eqb-true n k same) (λ none. absurd (false≢true none)) (or_cases (n == k) false has)

module _ (views : List QView) where
  -- what has these, and all that is read below a number, has all that is wanted with these
  least : (Is : ℕ → Type 0) (top : ℕ) → ((j k : ℕ) → j < top → Is j → Has (reads_at views j) k → Is k)
      → (n : ℕ) (these : List ℕ) → n ≤ top → ((k : ℕ) → Has these k → Is k) → (k : ℕ) → Has (wanted_from views n these) k → Is k
  unfolding wanted_from
  least Is top step zero these le inside k has = inside k has
  least Is top step (suc n) these le inside k has =
      least Is top step n (if is_among these n then these ++ reads_at views n else these) (omega arith) (by_test (is_among these n) refl) k has
    where
      by_test : (b : Bool) → is_among these n ≡ b → (k : ℕ) → Has (if b then these ++ reads_at views n else these) k → Is k
      by_test true e k has = ⊎_elim (λ old. inside k old) (λ new. step n k (omega arith) (inside n e) new) (among_either these (reads_at views n) k has)
      by_test false e k has = inside k has

  -- what one that is wanted rests on is wanted
  pub wanted_rests : (n i k : ℕ) → AreEarlier views → Has (wanted views n) i → Has (wanted views i) k → Has (wanted views n) k
  wanted_rests n i k earlier has rests =
      least (λ j. Has (wanted views n) j) (suc i) (λ j k lt there read. wanted_reads views n j k earlier there read) (suc i) (i ∷ []) (omega arith)
      (λ k h. subst (λ (j : ℕ). Has (wanted views n) j) (alone i k h) has) k rests

  -- a view that reads nothing is wanted alone
  pub wanted_alone : (n k : ℕ) → reads_at views n ≡ [] → Has (wanted views n) k → n ≡ k
  wanted_alone n k none has =
      least (λ j. n ≡ j) (suc n) (λ j m lt same read. absurd (false≢true (sym (ap (λ l. is_among l m) none) ∙ subst (λ (i : ℕ). Has (reads_at views i) m) (sym same) read)))
      (suc n) (n ∷ []) (omega arith) (λ j h. alone n j h) k has
