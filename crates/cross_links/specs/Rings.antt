-- Circular doubly linked lists by index. Each place is in the circle of its head, and a head is the
-- first place of its circle. Places may be taken out, and are put back in the opposite order.
use Rattle.std.specs.Prelude.{◌≡◌, ◌≢◌, ℕ, ◌+◌, ◌-◌, ◌<◌, ◌≤◌, zero, suc, List, [], ◌∷◌, ◌++◌, length, All, slice_index, slice_set}

-- y is none of the places that were taken out, of which the last comes first
abbrev pub Stays : List ℕ → ℕ → Type 0
Stays [] y = Unit {0}
Stays (x ∷ off) y = (x ≢ y) × Stays off y

-- y is a place, and was not taken out
abbrev pub There : ℕ → List ℕ → ℕ → Type 0
There places off y = (y < places) × Stays off y

-- the places that are there stand in circles, one for each head, in rising order
pub record Rings (places : ℕ) (head : ℕ → ℕ) (off : List ℕ) (next back : ℕ → ℕ) : Type 0 where
  pub next_there : (y : ℕ) → There places off y → There places off (next y)
  pub back_there : (y : ℕ) → There places off y → There places off (back y)
  pub back_next : (y : ℕ) → There places off y → back (next y) ≡ y
  pub next_back : (y : ℕ) → There places off y → next (back y) ≡ y
  pub same_head : (y : ℕ) → There places off y → head (next y) ≡ head y
  pub wraps : (y : ℕ) → There places off y → next y ≤ y → next y ≡ head y
  pub first : (y z : ℕ) → There places off y → There places off z → head z ≡ head y → y < z → (y < next y) × (next y ≤ z)

-- the links are rings, and so they are after each step of putting back the last place that was taken out
unfoldable pub Undoable : ℕ → (ℕ → ℕ) → List ℕ → List ℕ → List ℕ → Type 0
Undoable places head [] next back = Rings places head [] (slice_index next) (slice_index back)
Undoable places head (x ∷ off) next back = Rings places head (x ∷ off) (slice_index next) (slice_index back)
    × Undoable places head off (slice_set next (slice_index back x) x) (slice_set back (slice_index next x) x)

-- as many links back as forward, all of them to places
pub record Closed (next back : List ℕ) : Type 0 where
  pub same : length back ≡ length next
  pub nexts : All (λ y. y < length next) next
  pub backs : All (λ y. y < length next) back

-- the n places from the given one on, the last first
abbrev pub falling : ℕ → ℕ → List ℕ
falling from zero = []
falling from (suc n) = (from + n) ∷ falling from n

-- each place from one up to another is there, and is no head
abbrev pub AreInner : ℕ → (ℕ → ℕ) → List ℕ → ℕ → ℕ → Type 0
AreInner places head off from to = (x : ℕ) → from ≤ x → x < to → There places off x × (head x ≢ x)

-- the second links are the first without the places from one up to another
unfoldable pub TakesOut : ℕ → ℕ → List ℕ → List ℕ → List ℕ → List ℕ → Type 0
TakesOut from to next back next' back' = (head : ℕ → ℕ) (off : List ℕ) → AreInner (length next) head off from to
    → Undoable (length next) head off next back → Undoable (length next) head (falling from (to - from) ++ off) next' back'

-- the second links are the first with the places from one up to another, which were the last taken out
unfoldable pub PutsBack : ℕ → ℕ → List ℕ → List ℕ → List ℕ → List ℕ → Type 0
PutsBack from to next back next' back' = (head : ℕ → ℕ) (off : List ℕ)
    → Undoable (length next) head (falling from (to - from) ++ off) next back → Undoable (length next) head off next' back'
