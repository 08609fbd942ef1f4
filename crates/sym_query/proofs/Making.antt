-- what code makes, step by step, and in loops
use Rattle.std.proofs.Common.{◌≡◌, ◌≢◌, ◌∙◌, sym, ap, subst, refl, ℕ, ◌+◌, ◌<◌, ◌≤◌, ℤ, List, drop, length, get_or, Result, Ok, Err}
use Rattle.std.proofs.lemmas.List.{drop_more, drop_all}
use Rattle.base_kit.proofs.Results.{same_Ok, same_Err, Ok-Err}
use Rattle.tiql_query.specs.declared.relation.Source.{Source}
use Rattle.prov_fold.specs.Graphs.{Graph, Keeps}
use Rattle.prov_fold.specs.Meanings.{IsLater, Means, values_in}
use Rattle.prov_fold.proofs.StandLemmas.{keeps_same, keeps_on}
use Rattle.prov_fold.proofs.PlaceLemmas.{later_of, means_by, told_by}
use Rattle.sym_rows.specs.declared.fault.WalkFault.{WalkFault}
use Rattle.sym_rows.specs.declared.fault.WalkFault.TheVariants as relation
use Rattle.sym_rows.specs.Walks as walks
use Rattle.sym_query.specs.declared.fault.QueryFault.{QueryFault}
use Rattle.sym_query.specs.declared.fault.QueryFault.TheVariants as fault
use Rattle.sym_query.specs.Walks.{Walked, Walk, gives, ◌>>=◌, through, of, told_of, fault_of, Makes}

-- ---- single steps

module _ {A : Type 0} (Good : Graph → A → Type 0) (Tells : A → List ℤ → (ℕ → ℤ) → Type 0) where
  -- something is given, and nothing is appended
  pub makes_gives : (a : A) (g : Graph) → Good g a → ((h : Graph) (world : List ℤ) → IsLater g h world → Tells a world (values_in h world)) → Makes (gives a g) Good Tells g (Ok a) g
  makes_gives a g good tells = record { follows = refl; kept = keeps_same g; good = good; means = means_by g (Tells a) tells }

  -- memory was wanting
  pub makes_memory : (walked : Walked A) (g after : Graph) → Keeps g after → Makes walked Good Tells g (Err fault.Memory) after
  makes_memory walked g after kept = record { follows = λ ne. absurd (ne refl); kept = kept; good = tt; means = tt }

module _ {A B : Type 0} (Good : Graph → A → Type 0) (Tells : A → List ℤ → (ℕ → ℤ) → Type 0) (Good' : Graph → B → Type 0) (Tells' : B → List ℤ → (ℕ → ℤ) → Type 0) (walked : Walked A) (next : A → Walk B) (g mid : Graph) where
  -- one step, and then another, of which more is told by what was told of the first
  pub makes_then : (a : A) (after : Graph) (r : Result B QueryFault) (Late : B → List ℤ → (ℕ → ℤ) → Type 0) → Makes walked Good Tells g (Ok a) mid → Makes (next a mid) Good' Late mid r after
      → ((b : B) (h : Graph) (world : List ℤ) → IsLater after h world → Tells a world (values_in h world) → Late b world (values_in h world) → Tells' b world (values_in h world)) → Makes (walked >>= next) Good' Tells' g r after
  makes_then a after (Ok b) Late h k so =
      record {
        follows = ap (λ (w : Walked A). w >>= next) h.follows ∙ k.follows;
        kept = keeps_on g mid after h.kept k.kept;
        good = k.good;
        means = means_by after (Tells' b) (λ l world later. so b l world later (told_by mid (Tells a) h.means l world (later_of mid after l world k.kept later)) (told_by after (Late b) k.means l world later));
      }
  makes_then a after (Err e) Late h k so =
      record { follows = λ ne. ap (λ (w : Walked A). w >>= next) h.follows ∙ k.follows ne; kept = keeps_on g mid after h.kept k.kept; good = tt; means = tt }

  -- a step that stops
  pub makes_stop : (e : QueryFault) → Makes walked Good Tells g (Err e) mid → Makes (walked >>= next) Good' Tells' g (Err e) mid
  makes_stop e h = record { follows = λ ne. ap (λ (w : Walked A). w >>= next) (h.follows ne); kept = h.kept; good = tt; means = tt }

-- ---- the walk of a relation, with its name

memory_is : (source : Source) (e : WalkFault) → e ≡ relation.Memory → fault_of source e ≡ fault.Memory
unfolding fault_of
memory_is source e same = ap (fault_of source) same

module _ {A : Type 0} (source : Source) (walked : walks.Walked A) (Good : Graph → A → Type 0) (Tells Tells' : A → List ℤ → (ℕ → ℤ) → Type 0) (g after : Graph) where
  pub makes_of : (r : Result A WalkFault) (result : Result A QueryFault) → result ≡ told_of source r → walks.Makes walked Good Tells g r after
      → ((a : A) (h : Graph) (world : List ℤ) → IsLater after h world → Tells a world (values_in h world) → Tells' a world (values_in h world)) → Makes (of source walked) Good Tells' g result after
  makes_of (Ok a) result is h so =
      subst (λ (r : Result A QueryFault). Makes (of source walked) Good Tells' g r after) (sym is)
      (record { follows = ap (of source) h.follows; kept = h.kept; good = h.good; means = means_by after (Tells' a) (λ l world later. so a l world later (told_by after (Tells a) h.means l world later)) })
  makes_of (Err e) result is h so =
      subst (λ (r : Result A QueryFault). Makes (of source walked) Good Tells' g r after) (sym is)
      (record { follows = λ ne. ap (of source) (h.follows (λ same. ne (memory_is source e same))); kept = h.kept; good = tt; means = tt })

-- what code gave, it gave without its name
told_ok : {A : Type 0} (source : Source) (r : Result A WalkFault) (a : A) → ◌≡◌ {A = Result A QueryFault} (Ok a) (told_of source r) → r ≡ Ok a
told_ok source (Ok b) a e = ap (λ (c : _). Ok c) (sym (same_Ok a b e))
told_ok source (Err w) a e = absurd (Ok-Err a (fault_of source w) e)

pub made_ok : {A : Type 0} (source : Source) (walked : walks.Walked A) (Good : Graph → A → Type 0) (Tells : A → List ℤ → (ℕ → ℤ) → Type 0) (g after : Graph) (r : Result A WalkFault) (a : A)
    → ◌≡◌ {A = Result A QueryFault} (Ok a) (told_of source r) → walks.Makes walked Good Tells g r after → walks.Makes walked Good Tells g (Ok a) after
made_ok {A} source walked Good Tells g after r a e h = subst (λ (r : Result A WalkFault). walks.Makes walked Good Tells g r after) (told_ok source r a e) h

-- where it stopped, with its name
pub made_err : {A : Type 0} (source : Source) (walked : walks.Walked A) (Good : Graph → A → Type 0) (Tells : A → List ℤ → (ℕ → ℤ) → Type 0) (g after : Graph) (r : Result A WalkFault) (e : QueryFault)
    → ◌≡◌ {A = Result A QueryFault} (Err e) (told_of source r) → walks.Makes walked Good Tells g r after → Keeps g after × (e ≢ fault.Memory → of source walked ≡ Err (e, after))
made_err source walked Good Tells g after (Ok a) e is h = absurd (Ok-Err a e (sym is))
made_err {A} source walked Good Tells g after (Err w) e is h =
    (h.kept, λ ne. ap (of source) (h.follows (λ same. ne (same_Err e (fault_of source w) is ∙ memory_is source w same))) ∙ ap (λ (f : QueryFault). Err (f, after)) (sym (same_Err e (fault_of source w) is)))

-- ---- loops

module _ {X S : Type 0} (f : X → S → Walk S) (xs : List X) (start : S) (Good : ℕ → Graph → S → Type 0) (T : ℕ → S → List ℤ → (ℕ → ℤ) → Type 0) (g0 : Graph) where
  -- how far a loop has come
  pub record Going (i : ℕ) (so_far : S) (g : Graph) : Type 0 where
    pub follows : through f (drop i xs) so_far g ≡ through f xs start g0
    pub kept : Keeps g0 g
    pub good : Good i g so_far
    pub means : Means g (T i so_far)

  pub going_init : Good 0 g0 start → ((h : Graph) (world : List ℤ) → IsLater g0 h world → T 0 start world (values_in h world)) → Going 0 start g0
  going_init good tells = record { follows = refl; kept = keeps_same g0; good = good; means = means_by g0 (T 0 start) tells }

  module _ (i : ℕ) (x : X) (so_far : S) (g after : Graph) (lt : i < length xs) (is : x ≡ get_or xs i x) (going : Going i so_far g) where
    first_of : through f (drop i xs) so_far g ≡ (f x so_far g >>= λ more g. through f (drop (i + 1) xs) more g)
    unfolding through
    first_of = rw (drop_more xs i x lt) (ap (λ (y : X). f y so_far g >>= λ more g. through f (drop (i + 1) xs) more g) (sym is))

    pub going_step : (next : S) (Here : List ℤ → (ℕ → ℤ) → Type 0) → f x so_far g ≡ Ok (next, after) → Keeps g after → (Good i g so_far → Good (i + 1) after next) → Means after Here
        → ((h : Graph) (world : List ℤ) → IsLater after h world → T i so_far world (values_in h world) → Here world (values_in h world) → T (i + 1) next world (values_in h world)) → Going (i + 1) next after
    going_step next Here step kept good means tells =
        record {
          follows = ap (λ (w : Walked S). w >>= λ more g. through f (drop (i + 1) xs) more g) (sym step) ∙ sym first_of ∙ going.follows;
          kept = keeps_on g0 g after going.kept kept;
          good = good going.good;
          means = means_by after (T (i + 1) next) (λ h world later. tells h world later (told_by g (T i so_far) going.means h world (later_of g after h world kept later)) (told_by after Here means h world later));
        }

    pub going_err : (e : QueryFault) (Good' : Graph → S → Type 0) (Tells : S → List ℤ → (ℕ → ℤ) → Type 0) → (e ≢ fault.Memory → f x so_far g ≡ Err (e, after)) → Keeps g after → Makes (through f xs start g0) Good' Tells g0 (Err e) after
    going_err e Good' Tells step kept =
        record {
          follows = λ ne. sym going.follows ∙ first_of ∙ ap (λ (w : Walked S). w >>= λ more g. through f (drop (i + 1) xs) more g) (step ne);
          kept = keeps_on g0 g after going.kept kept;
          good = tt;
          means = tt;
        }

  all_done : (i : ℕ) (so_far : S) (g : Graph) → length xs ≤ i → through f (drop i xs) so_far g ≡ Ok (so_far, g)
  unfolding through
  all_done i so_far g le = rw (drop_all i xs le) refl

  pub going_end : (i : ℕ) (so_far : S) (g : Graph) (Good' : Graph → S → Type 0) (Tells : S → List ℤ → (ℕ → ℤ) → Type 0) → length xs ≤ i → (Good i g so_far → Good' g so_far)
      → ((h : Graph) (world : List ℤ) → IsLater g h world → T i so_far world (values_in h world) → Tells so_far world (values_in h world)) → Going i so_far g → Makes (through f xs start g0) Good' Tells g0 (Ok so_far) g
  going_end i so_far g Good' Tells le good tells going =
      record {
        follows = sym going.follows ∙ all_done i so_far g le;
        kept = going.kept;
        good = good going.good;
        means = means_by g (Tells so_far) (λ h world later. tells h world later (told_by g (T i so_far) going.means h world later));
      }
