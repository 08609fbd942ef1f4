-- the lines of items in turn, as a loop writes them
use Rattle.std.proofs.Common.{◌≡◌, sym, ap, ◌∙◌, refl, ℕ, ◌+◌, ◌<◌, ◌≤◌, List, ◌++◌, length, get_or, drop, append_assoc, append-nil}
use Rattle.std.proofs.lemmas.List.{drop_more, drop_all}
use Rattle.program_text.specs.Text.{numbered}

-- what is written where the items from this number on are still to be written
pub Written : {A : Type 0} → (ℕ → A → List ℕ) → List A → ℕ → List ℕ → List ℕ → Type 0
Written line items n before now = now ++ numbered line n (drop n items) ≡ before ++ numbered line 0 items

module _ {A : Type 0} (line : ℕ → A → List ℕ) (items : List A) where
  pub written_start : (before : List ℕ) → Written line items 0 before before
  unfolding Written
  written_start before = refl

  pub written_step : (n : ℕ) (none : A) (before now more : List ℕ) → n < length items → more ≡ now ++ line n (get_or items n none) → Written line items n before now → Written line items (n + 1) before more
  unfolding Written numbered
  written_step n none before now more below made h = ap (λ (l : List ℕ). l ++ numbered line (n + 1) (drop (n + 1) items)) made ∙ append_assoc now (line n (get_or items n none)) (numbered line (n + 1) (drop (n + 1) items)) ∙ sym (rw (drop_more items n none below) refl) ∙ h

  pub written_end : (n : ℕ) (before now : List ℕ) → length items ≤ n → Written line items n before now → now ≡ before ++ numbered line 0 items
  unfolding Written numbered
  written_end n before now all h = sym (rw (drop_all n items all) (append-nil now)) ∙ h
