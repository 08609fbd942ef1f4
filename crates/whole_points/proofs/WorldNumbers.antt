-- A world whose numbers lie within the sides has a number for each choice of the list, in its range.
use Rattle.std.proofs.Common.{◌≡◌, ◌∙◌, sym, ap, subst, refl, ℕ, zero, suc, ◌<◌, inl, inr, ℤ, ◌≤ℤ◌, List, [], ◌∷◌, length, get_or, All, arith}
use Rattle.std.proofs.lemmas.Bool.{cases_lt}
use Rattle.ip_rows.specs.declared.Bounds.{Bounds}
use Rattle.ip_rows.specs.declared.program.Program.{Program}
use Rattle.ip_rows.specs.Programs.{number_at}
use Rattle.prov_arena.specs.Formulas.{Formula, FalseNode, TrueNode, PresNode, CellNode, PosNode, NotNode, AndNode, OrNode, LinNode, GuardNode, AbsNode, TotNode, MinNode}
use Rattle.prov_fold.specs.Graphs.{Graph, node, range, size}
use Rattle.prov_fold.specs.Values.{HasNumbers, HasColumn, IsThere as IsNumber}
use Rattle.bool_encode.specs.declared.stand.Stand.{Stand}
use Rattle.bool_encode.specs.declared.stand.Stand.TheVariants as stand
use Rattle.bool_encode.specs.Points.{IsThere}
use Rattle.bool_encode.specs.Stands.{stand_at}
use Rattle.whole_points.specs.Matched.{IsMatched, IsChoice, IsColumnOf, IsOwn, IsSelector, column_at, world_count}
use Rattle.whole_points.specs.Points.{IsWorldWithin}

-- an element that is there is the same whatever the default
pub at_any : {A : Type 0} (xs : List A) (k : ℕ) (a b : A) → k < length xs → get_or xs k b ≡ get_or xs k a
at_any [] k a b lt = absurd (omega (arith, lt))
at_any (x ∷ xs) zero a b lt = refl
at_any (x ∷ xs) (suc k) a b lt = at_any xs k a b (omega (arith, lt))

number_in : Stand → ℕ
number_in (stand.World number) = number
number_in (stand.Node z) = 0
number_in (stand.Selector z pair) = 0

world_same : (a b : ℕ) → stand.World a ≡ stand.World b → a ≡ b
unfolding number_in
world_same a b e = ap number_in e

module _ (program : Program) (g : Graph) (stands : List Stand) (world : List ℤ) (matched : IsMatched program g stands) where
  pub world_less : (number c : ℕ) → number < length stands → stand_at stands number ≡ stand.World c → number < world_count stands
  world_less number c lt is = elim (cases_lt number (world_count stands)) as (λ _. number < world_count stands) [ inl less ↦ less | inr past ↦ absurd (matched.begins.last number c past lt is) ]

  module _ (within : IsWorldWithin program stands world) where
    choice_there : (z : ℕ) → z < size g → (c : ℕ) → IsChoice c (node g z) → IsNumber world c (range g z)
    choice_there z lt c is =
        let less = matched.choices z c lt is in
        let all = matched.begins.within in
        let long = within.count in
        let own = subst (λ (s : Stand). IsColumnOf g stands s (column_at program.columns c)) (matched.begins.first c less) (matched.columns c (omega (arith, less, all))) in
        let sides = own.1 z lt is in
        record {
          there = omega (arith, less, long);
          low = subst (λ (s : Bounds). s.lo ≤ℤ number_at world c) sides (within.low c less);
          high = subst (λ (s : Bounds). number_at world c ≤ℤ s.hi) sides (within.high c less);
        }

    has_by : (z : ℕ) → z < size g → (m : Formula) → node g z ≡ m → HasColumn world (range g z) m
    has_by z lt (PresNode c) e = choice_there z lt c (subst (IsChoice c) (sym e) refl)
    has_by z lt (CellNode c) e = choice_there z lt c (subst (IsChoice c) (sym e) refl)
    has_by z lt FalseNode e = tt
    has_by z lt TrueNode e = tt
    has_by z lt (PosNode n) e = tt
    has_by z lt (NotNode t) e = tt
    has_by z lt (AndNode kids) e = tt
    has_by z lt (OrNode kids) e = tt
    has_by z lt (LinNode c terms) e = tt
    has_by z lt (GuardNode t n) e = tt
    has_by z lt (AbsNode n) e = tt
    has_by z lt (TotNode n) e = tt
    has_by z lt (MinNode pairs) e = tt

    pub has_numbers : HasNumbers g world
    has_numbers = record { columns = λ z lt. has_by z lt (node g z) refl }

    there_by : (number : ℕ) → number < length stands → (s : Stand) → stand_at stands number ≡ s → IsThere g world s
    there_by number lt (stand.World c) is =
        let less = world_less number c lt is in
        let same = world_same number c (sym (matched.begins.first number less) ∙ is) in
        let long = within.count in
        omega (arith, less, same, long)
    there_by number lt (stand.Node z) is =
        let own : IsOwn g z (column_at program.columns number) = subst (λ (s : Stand). IsColumnOf g stands s (column_at program.columns number)) is (matched.columns number lt) in
        own.there
    there_by number lt (stand.Selector z pair) is =
        let own : IsSelector g stands z pair (column_at program.columns number) = subst (λ (s : Stand). IsColumnOf g stands s (column_at program.columns number)) is (matched.columns number lt) in
        (own.there, own.has)

    -- what each column stands for is there
    pub all_there : All (IsThere g world) stands
    all_there = λ k a lt. there_by k lt (get_or stands k a) (at_any stands k a (stand.World 0) lt)
