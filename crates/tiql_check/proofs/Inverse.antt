-- what a check that comes to something tells of its parts
use Rattle.std.proofs.Common.{◌≡◌, Bool, true, false, List, [], ◌∷◌, map, refl, subst, if◌then◌else◌}
use Rattle.std.specs.Prelude.{Result, Ok, Err}
use Rattle.std.specs.List.{list_all}
use Rattle.tiql_check.specs.declared.fault.SoundFault.{SoundFault}
use Rattle.tiql_check.specs.Turns.{◌>>=◌, in_turn}
use Rattle.std.proofs.lemmas.Bool.{and_parts}
use Rattle.base_kit.proofs.Results.{same_Ok}

-- the first check came to something, and so did the next
pub came_of : {A B : Type 0} (r : Result A SoundFault) (f : A → Result B SoundFault) (b : B) → (r >>= f) ≡ Ok b → (a : A) × (r ≡ Ok a) × (f a ≡ Ok b)
came_of (Ok a) f b e = (a, refl, e)
came_of (Err w) f b e = absurd (let h : Err w ≡ Ok b = e in cc)

-- a rule is not broken
pub kept : {A : Type 0} (broken : Bool) (w : SoundFault) (r : Result A SoundFault) (a : A) → (if broken then Err w else r) ≡ Ok a → (broken ≡ false) × (r ≡ Ok a)
kept true w r a e = absurd (let h : Err w ≡ Ok a = e in cc)
kept false w r a e = (refl, e)

-- what holds before the first part, and of each next one, holds behind the last
pub through : {S X : Type 0} (f : S → X → Result S SoundFault) (P : S → Type 0) (Q : X → Bool) → ((s next : S) (x : X) → Q x ≡ true → f s x ≡ Ok next → P s → P next)
    → (xs : List X) (s last : S) → list_all Q xs ≡ true → in_turn f s xs ≡ Ok last → P s → P last
unfolding in_turn
through {S} {X} f P Q step [] s last all e p = subst P (same_Ok s last e) p
through {S} {X} f P Q step (x ∷ xs) s last all e p =
    let one = came_of (f s x) (λ next. in_turn f next xs) last e in
    let tests = and_parts (Q x) (list_all Q xs) all in
    through f P Q step xs one.0 last tests.1 one.2 (step s one.0 x tests.0 one.1 p)

-- likewise where the parts are seen through g, and something is known of each
pub through_seen : {S W X Y : Type 0} (f : S → Y → Result S SoundFault) (first : W → X) (g : X → Y) (q : X → Bool) (P : S → Type 0)
    → ((s next : S) (w : W) → q (first w) ≡ true → f s (g (first w)) ≡ Ok next → P s → P next)
    → (ws : List W) (s last : S) → list_all (λ test. test) (map q (map first ws)) ≡ true → in_turn f s (map g (map first ws)) ≡ Ok last → P s → P last
unfolding in_turn
through_seen f first g q P step [] s last all e p = subst P (same_Ok s last e) p
through_seen f first g q P step (w ∷ ws) s last all e p =
    let one = came_of (f s (g (first w))) (λ next. in_turn f next (map g (map first ws))) last e in
    let tests = and_parts (q (first w)) (list_all (λ test. test) (map q (map first ws))) all in
    through_seen f first g q P step ws one.0 last tests.1 one.2 (step s one.0 w tests.0 one.1 p)
