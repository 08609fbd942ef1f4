-- a loop that checks one part after the other, and stops at the first broken rule
use Rattle.std.proofs.Common.{◌≡◌, ◌≢◌, ℕ, ◌+◌, ◌<◌, ◌≤◌, List, length, get_or, map, drop, sym, ◌∙◌}
use Rattle.std.specs.Prelude.{Result, Ok, Err}
use Rattle.std.proofs.lemmas.List.{drop_more, drop_all}
use Rattle.tiql_check.specs.declared.fault.SoundFault.{SoundFault}
use Rattle.tiql_check.specs.declared.fault.SoundFault.TheVariants as fault
use Rattle.tiql_check.specs.Turns.{in_turn}

-- the parts are seen through g
module _ {S X Y : Type 0} (f : S → Y → Result S SoundFault) (g : X → Y) (xs : List X) where
  pub turn_map-step : (s next : S) (i : ℕ) (x : X) (r : Result S SoundFault) → i < length xs → x ≡ get_or xs i x → f s (g x) ≡ Ok next → in_turn f s (map g (drop i xs)) ≡ r → in_turn f next (map g (drop (i + 1) xs)) ≡ r
  unfolding in_turn
  turn_map-step s next i x r lt is e h = sym (rw (drop_more xs i x lt, ← is, e)) ∙ h

  pub turn_map-err : (s : S) (i : ℕ) (x : X) (e : SoundFault) (r : Result S SoundFault) → i < length xs → x ≡ get_or xs i x → (e ≢ fault.Memory → f s (g x) ≡ Err e) → in_turn f s (map g (drop i xs)) ≡ r → e ≢ fault.Memory → r ≡ Err e
  unfolding in_turn
  turn_map-err s i x e r lt is gives h ne = sym h ∙ rw (drop_more xs i x lt, ← is, gives ne)

  pub turn_map-end : (s : S) (i : ℕ) (r : Result S SoundFault) → length xs ≤ i → in_turn f s (map g (drop i xs)) ≡ r → r ≡ Ok s
  unfolding in_turn
  turn_map-end s i r le h = sym h ∙ rw (drop_all i xs le)

module _ {S X : Type 0} (f : S → X → Result S SoundFault) (xs : List X) where
  pub turn-step : (s next : S) (i : ℕ) (x : X) (r : Result S SoundFault) → i < length xs → x ≡ get_or xs i x → f s x ≡ Ok next → in_turn f s (drop i xs) ≡ r → in_turn f next (drop (i + 1) xs) ≡ r
  unfolding in_turn
  turn-step s next i x r lt is e h = sym (rw (drop_more xs i x lt, ← is, e)) ∙ h

  pub turn-err : (s : S) (i : ℕ) (x : X) (e : SoundFault) (r : Result S SoundFault) → i < length xs → x ≡ get_or xs i x → (e ≢ fault.Memory → f s x ≡ Err e) → in_turn f s (drop i xs) ≡ r → e ≢ fault.Memory → r ≡ Err e
  unfolding in_turn
  turn-err s i x e r lt is gives h ne = sym h ∙ rw (drop_more xs i x lt, ← is, gives ne)

  pub turn-end : (s : S) (i : ℕ) (r : Result S SoundFault) → length xs ≤ i → in_turn f s (drop i xs) ≡ r → r ≡ Ok s
  unfolding in_turn
  turn-end s i r le h = sym h ∙ rw (drop_all i xs le)
