-- what functions that read parts give, by what is read first and behind it
use Rattle.std.proofs.Common.{◌≡◌, ℕ, zero, suc, ◌-◌, Bool, true, false, List, [], ◌∷◌, length, refl, sym, ◌∙◌, ap, arith}
use Rattle.std.specs.Prelude.{Ok, Err}
use Rattle.tiql_tree.specs.Words.{Word}
use Rattle.tiql_read.specs.declared.word.Stop.{Stop}
use Rattle.tiql_read.specs.declared.word.Stop.TheVariants.{Wrong}
use Rattle.tiql_read.specs.Steps.{Words, Reading, begins, many_at, ◌>>=◌}
use Rattle.tiql_read.specs.Outcomes.{with_front, ReadsAs}
use Rattle.tiql_read.specs.Expressions.{opens, simple_at, opened_by, factor_at, expression_at}
use Rattle.tiql_read.specs.Conditions.{opens_cond, compare_by, enclosed_by, unit_at}
use Rattle.tiql_read.proofs.Loops.{many_some, many_none}
use Rattle.base_kit.proofs.Results.{same_Ok}

-- a part, and parts of another kind that follow
abbrev ok_of : {A : Type 0} → A → Words → Reading A
ok_of x words = Ok (x, words)

abbrev pub joined : {A B : Type 0} → (A → List B → A) → A → List B × Words → Reading A
joined whole first more = Ok (whole first more.0, more.1)

module _ {A B : Type 0} (part : Words → Reading A) (test : Word → Bool) (next : Words → Reading B) (one : A → B) (whole : A → List B → A) where
  abbrev pub followed : Words → Reading A
  followed words = part words >>= λ first. many_at test next first.1 >>= joined whole first.0

  -- none follows
  pub followed_none : (words : Words) (first : A) (rest : Words) → whole first [] ≡ first → part words ≡ Ok (first, rest) → begins test rest ≡ false → followed words ≡ Ok (first, rest)
  followed_none words first rest alone is none =
      rw (is, many_none test next rest none) (ap (λ (x : A). ok_of x rest) alone)

  -- what follows is wrong
  pub followed_wrong : (words : Words) (first : A) (rest : Words) (front : List B) (stop : Stop) → part words ≡ Ok (first, rest) → ((k : ℕ) → stop ≡ Wrong k → with_front front (many_at test next rest) ≡ Err k) → ReadsAs (Err stop) (followed words)
  followed_wrong words first rest front stop is wrong = λ k e. rw is (by_more (many_at test next rest) k (wrong k e))
    where
      by_more : (m : Reading (List B)) (k : ℕ) → with_front front m ≡ Err k → (m >>= joined whole first) ≡ Err k
      by_more (Ok more) k e = cc
      by_more (Err n) k e = cc

  -- some follow
  pub followed_some : (made : List B → A) (words : Words) (first : A) (rest : Words) (front parts : List B) (last : Words) → ((b : B) (bs : List B) → whole first (b ∷ bs) ≡ made (one first ∷ b ∷ bs)) → part words ≡ Ok (first, rest) → begins test rest ≡ true → front ≡ one first ∷ [] → with_front front (many_at test next rest) ≡ Ok (parts, last) → followed words ≡ Ok (made parts, last)
  followed_some made words first rest front parts last law is some single all =
      rw is (by_more (many_at test next rest) refl (ap (λ (l : List B). with_front l (many_at test next rest)) (sym single) ∙ all))
    where
      by_list : (more : List B) (w : Words) → many_at test next rest ≡ Ok (more, w) → ◌≡◌ {A = Reading (List B)} (Ok (one first ∷ more, w)) (Ok (parts, last)) → ◌≡◌ {A = Reading A} (Ok (whole first more, w)) (Ok (made parts, last))
      by_list [] w e all = absurd (omega (arith, many_some test next rest [] w some e))
      by_list (b ∷ bs) w e all =
          ap (λ (l : A). ok_of l w) (law b bs) ∙ ap (λ (p : List B × Words). ok_of (made p.0) p.1) (same_Ok (one first ∷ b ∷ bs, w) (parts, last) all)

      by_more : (m : Reading (List B)) → many_at test next rest ≡ m → with_front (one first ∷ []) m ≡ Ok (parts, last) → (m >>= joined whole first) ≡ Ok (made parts, last)
      by_more (Ok more) e all = by_list more.0 more.1 e all
      by_more (Err n) e all = cc

-- a factor that opens nothing
pub factor_simple : (room : ℕ) (words : Words) → begins opens words ≡ false → factor_at room words ≡ simple_at words
unfolding factor_at
factor_simple zero words none = rw none refl
factor_simple (suc room) words none = rw none refl

pub factor_wrong : (room : ℕ) (words : Words) → begins opens words ≡ true → room ≡ 0 → factor_at room words ≡ Err (length words)
unfolding factor_at
factor_wrong zero words some none = rw some refl
factor_wrong (suc room) words some none = absurd (omega arith)

pub factor_opened : (room : ℕ) (words : Words) → begins opens words ≡ true → (room ≡ 0 → ⊥) → factor_at room words ≡ opened_by (factor_at (room - 1)) words
unfolding factor_at
factor_opened zero words some room_left = absurd (room_left refl)
factor_opened (suc room) words some room_left =
    let back : suc room - 1 ≡ room = omega arith in
    rw some (ap (λ n. opened_by (factor_at n) words) (sym back))

-- a part of a condition that opens nothing
pub unit_compared : (room : ℕ) (words : Words) → begins opens_cond words ≡ false → unit_at room words ≡ compare_by (expression_at room) words
unfolding unit_at
unit_compared zero words none = rw none refl
unit_compared (suc room) words none = rw none refl

pub unit_wrong : (room : ℕ) (words : Words) → begins opens_cond words ≡ true → room ≡ 0 → unit_at room words ≡ Err (length words)
unfolding unit_at
unit_wrong zero words some none = rw some refl
unit_wrong (suc room) words some none = absurd (omega arith)

pub unit_opened : (room : ℕ) (words : Words) → begins opens_cond words ≡ true → (room ≡ 0 → ⊥) → unit_at room words ≡ enclosed_by (unit_at (room - 1)) words
unfolding unit_at
unit_opened zero words some room_left = absurd (room_left refl)
unit_opened (suc room) words some room_left =
    let back : suc room - 1 ≡ room = omega arith in
    rw some (ap (λ n. enclosed_by (unit_at n) words) (sym back))
