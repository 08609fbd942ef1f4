-- loops that make one item after another
use Rattle.std.proofs.Common.{◌≡◌, ◌∙◌, sym, ap, subst, refl, ℕ, ◌+◌, ◌<◌, ◌≤◌, ℤ, List, [], ◌∷◌, ◌++◌, length, get_or, drop, All, Ok, Err, append_assoc, append-nil}
use Rattle.std.proofs.lemmas.List.{drop_more, drop_all}
use Rattle.std.proofs.lemmas.List.Elements.{All-nil, All-cons, All-append}
use Rattle.prov_fold.specs.Graphs.{Graph, Keeps}
use Rattle.prov_fold.specs.Meanings.{IsLater, Means, values_in}
use Rattle.prov_fold.proofs.StandLemmas.{keeps_same, keeps_on}
use Rattle.prov_fold.proofs.PlaceLemmas.{later_of, means_by, told_by}
use Rattle.sym_rows.specs.declared.fault.WalkFault.{WalkFault}
use Rattle.sym_rows.specs.Walks.{Walked, Walk, gives, ◌>>=◌, each, Makes}

module _ {X A : Type 0} (f : ℕ → X → Walk A) (xs : List X) where
  -- what is left of a list, behind what was made
  pub each_left : ℕ → List A → Walk (List A)
  each_left i made g = each f i (drop i xs) g >>= λ more g. gives (made ++ more) g

  all_left : (g : Graph) (r : Walked (List A)) → r ≡ (r >>= λ more g. gives ([] ++ more) g)
  all_left g (Ok made) = refl
  all_left g (Err e) = refl

  put : (a : A) (made more : List A) (r : Walked (List A)) → more ≡ made ++ a ∷ [] → (r >>= λ rest g. gives (more ++ rest) g) ≡ ((r >>= λ rest g. gives (a ∷ rest) g) >>= λ rest g. gives (made ++ rest) g)
  put a made more (Ok rest) is = ap (λ (l : List A). Ok (l, rest.1)) (ap (λ (l : List A). l ++ rest.0) is ∙ append_assoc made (a ∷ []) rest.0)
  put a made more (Err e) is = refl

  left_all : (g : Graph) → each_left 0 [] g ≡ each f 0 xs g
  unfolding each_left
  left_all g = sym (all_left g (each f 0 xs g))

  left_step : (i : ℕ) (x : X) (a : A) (made more : List A) (g next : Graph) (r : Walked (List A)) → i < length xs → x ≡ get_or xs i x → f i x g ≡ Ok (a, next) → more ≡ made ++ a ∷ [] → each_left i made g ≡ r → each_left (i + 1) more next ≡ r
  unfolding each_left each
  left_step i x a made more g next r lt is e m h = put a made more (each f (i + 1) (drop (i + 1) xs) next) m ∙ sym (rw (drop_more xs i x lt, ← is, e) refl) ∙ h

  left_err : (i : ℕ) (x : X) (made : List A) (e : WalkFault × Graph) (g : Graph) (r : Walked (List A)) → i < length xs → x ≡ get_or xs i x → f i x g ≡ Err e → each_left i made g ≡ r → r ≡ Err e
  unfolding each_left each
  left_err i x made e g r lt is h left = sym left ∙ rw (drop_more xs i x lt, ← is, h) refl

  left_end : (i : ℕ) (made : List A) (g : Graph) (r : Walked (List A)) → length xs ≤ i → each_left i made g ≡ r → r ≡ Ok (made, g)
  unfolding each_left each
  left_end i made g r le left = sym left ∙ rw (drop_all i xs le) (ap (λ (l : List A). Ok (l, g)) (append-nil made))

  -- how far a loop has come
  pub record Going (Good : Graph → A → Type 0) (T : ℕ → List A → List ℤ → (ℕ → ℤ) → Type 0) (g0 : Graph) (i : ℕ) (made : List A) (g : Graph) : Type 0 where
    pub follows : each_left i made g ≡ each f 0 xs g0
    pub kept : Keeps g0 g
    pub good : All (Good g) made
    pub means : Means g (T i made)

  module _ (Good : Graph → A → Type 0) (T : ℕ → List A → List ℤ → (ℕ → ℤ) → Type 0) (g0 : Graph) where
    pub going_init : (made : List A) → made ≡ [] → ((h : Graph) (world : List ℤ) → IsLater g0 h world → T 0 [] world (values_in h world)) → Going Good T g0 0 made g0
    going_init made is tells =
        subst (λ (l : List A). Going Good T g0 0 l g0) (sym is)
        (record { follows = left_all g0; kept = keeps_same g0; good = All-nil (Good g0); means = means_by g0 (T 0 []) tells })

    pub going_step : (i : ℕ) (x : X) (a : A) (made more : List A) (g next : Graph) (TA : A → List ℤ → (ℕ → ℤ) → Type 0) → i < length xs → x ≡ get_or xs i x → more ≡ made ++ a ∷ []
        → ((c : A) → Keeps g next → Good g c → Good next c)
        → ((h : Graph) (world : List ℤ) → IsLater next h world → T i made world (values_in h world) → TA a world (values_in h world) → T (i + 1) (made ++ a ∷ []) world (values_in h world))
        → Makes (f i x g) Good TA g (Ok a) next → Going Good T g0 i made g → Going Good T g0 (i + 1) more next
    going_step i x a made more g next TA lt is m stay tells one going =
        record {
          follows = left_step i x a made more g next (each f 0 xs g0) lt is one.follows m going.follows;
          kept = keeps_on g0 g next going.kept one.kept;
          good = subst (All (Good next)) (sym m) (All-append (Good next) made (a ∷ []) (λ k d lt. stay (get_or made k d) one.kept (going.good k d lt)) (All-cons (Good next) a [] one.good (All-nil (Good next))));
          means = subst (λ (l : List A). Means next (T (i + 1) l)) (sym m) (means_by next (T (i + 1) (made ++ a ∷ [])) (λ h world later. tells h world later (told_by g (T i made) going.means h world (later_of g next h world one.kept later)) (told_by next (TA a) one.means h world later)));
        }

    pub going_err : (i : ℕ) (x : X) (made : List A) (g next : Graph) (TA : A → List ℤ → (ℕ → ℤ) → Type 0) (GL : Graph → List A → Type 0) (TL : List A → List ℤ → (ℕ → ℤ) → Type 0) (e : WalkFault) → i < length xs → x ≡ get_or xs i x
        → Makes (f i x g) Good TA g (Err e) next → Going Good T g0 i made g → Makes (each f 0 xs g0) GL TL g0 (Err e) next
    going_err i x made g next TA GL TL e lt is one going =
        record { follows = λ ne. left_err i x made (e, next) g (each f 0 xs g0) lt is (one.follows ne) going.follows; kept = keeps_on g0 g next going.kept one.kept; good = tt; means = tt }

    pub going_end : (i : ℕ) (made : List A) (g : Graph) (TL : List A → List ℤ → (ℕ → ℤ) → Type 0) → length xs ≤ i
        → ((h : Graph) (world : List ℤ) → IsLater g h world → T i made world (values_in h world) → TL made world (values_in h world))
        → Going Good T g0 i made g → Makes (each f 0 xs g0) (λ g made. All (Good g) made) TL g0 (Ok made) g
    going_end i made g TL le tells going =
        record { follows = left_end i made g (each f 0 xs g0) le going.follows; kept = going.kept; good = going.good; means = means_by g (TL made) (λ h world later. tells h world later (told_by g (T i made) going.means h world later)) }
