-- Guards, and least numbers.
use Rattle.std.proofs.Common.{◌≡◌, sym, subst, refl, ℕ, ◌<◌, ◌≤◌, ℤ, pos, ◌≤ℤ◌, ◌<ℤ◌, unsigned_abs, [], ◌∷◌, arith}
use Rattle.std.proofs.lemmas.Int.{ints}
use Rattle.prov_arena.specs.Formulas.{Formula, FalseNode, TrueNode, PresNode, CellNode, PosNode, NotNode, AndNode, OrNode, LinNode, GuardNode, AbsNode, TotNode, MinNode}
use Rattle.prov_fold.specs.declared.span.Span.{Span}
use Rattle.prov_fold.specs.Spans.{lesser, greater, widened}
use Rattle.prov_fold.specs.Kinds.{HasTerms}
use Rattle.prov_fold.specs.Graphs.{Graph, node, range, size, Fits, HasTruth, HasNumber}
use Rattle.prov_fold.specs.Folds.{IsFold}
use Rattle.prov_fold.proofs.SameLemmas.{All_cons}
use Rattle.prov_fold.proofs.NumberLemmas.{number_wide}

pub has_width : (g : Graph) (s : Span) (f : Formula) → IsFold g → Fits g s f → HasTerms f → s.lo <ℤ s.hi
has_width g s FalseNode fold fits h = absurd h
has_width g s TrueNode fold fits h = absurd h
has_width g s (PresNode column) fold fits h = absurd h
has_width g s (CellNode column) fold fits h = absurd h
has_width g s (PosNode number) fold fits h = absurd h
has_width g s (NotNode truth) fold fits h = absurd h
has_width g s (AndNode kids) fold fits h = absurd h
has_width g s (OrNode kids) fold fits h = absurd h
has_width g s (LinNode constant terms) fold fits h = number_wide g s constant terms fold fits h
has_width g s (GuardNode truth number) fold fits h = absurd h
has_width g s (AbsNode number) fold fits h = absurd h
has_width g s (TotNode number) fold fits h = absurd h
has_width g s (MinNode pairs) fold fits h = absurd h

widened_less : (lo hi : ℤ) → lo <ℤ hi → lesser lo (pos 0) <ℤ greater hi (pos 0)
widened_less lo hi h = grind (arith, ints)

pub widened_low : (lo : ℤ) → unsigned_abs lo ≤ 100000000000000000 → unsigned_abs (lesser lo (pos 0)) ≤ 100000000000000000
widened_low lo h = grind (arith, ints)

pub widened_high : (hi : ℤ) → unsigned_abs hi ≤ 100000000000000000 → unsigned_abs (greater hi (pos 0)) ≤ 100000000000000000
widened_high hi h = grind (arith, ints)

le_by : (a b : ℤ) → a <ℤ b → a ≤ℤ b
le_by a b h = omega (arith, ints, h)

pub guard_fits : (g : Graph) (s : Span) (truth number : ℕ) → IsFold g → HasTruth g truth → HasNumber g number → HasTerms (node g number) → Fits g (range g number) (node g number) → s ≡ widened (range g number) → Fits g s (GuardNode truth number)
guard_fits g s truth number fold t n terms fits is =
    let less = widened_less (range g number).lo (range g number).hi (has_width g (range g number) (node g number) fold fits terms) in
    subst (λ (s : Span). Fits g s (GuardNode truth number)) (sym is) (record {
      kids = All_cons (λ kid. kid < size g) truth (number ∷ []) t.below (All_cons (λ kid. kid < size g) number [] n.below (λ k d none. absurd (omega arith)));
      typed = (t.kind, n.kind);
      ranged = refl;
      order = le_by (lesser (range g number).lo (pos 0)) (greater (range g number).hi (pos 0)) less;
      wide = λ _. less;
      small_lo = widened_low (range g number).lo fits.small_lo;
      small_hi = widened_high (range g number).hi fits.small_hi;
    })
