-- What a part says, apart from where its slices lie.
use Rattle.std.specs.Prelude.{ℕ, ℤ, List, [], ◌∷◌, map, flat_map}
use Rattle.prov_arena.specs.declared.part.Term.{Term}
use Rattle.prov_arena.specs.declared.part.Pair.{Pair}
use Rattle.prov_arena.specs.declared.part.Part.{Part}
use Rattle.prov_arena.specs.declared.part.Part.TheVariants as part

pub data Formula : Type 0 where
  FalseNode : Formula
  TrueNode : Formula
  PresNode : ℕ → Formula
  CellNode : ℕ → Formula
  PosNode : ℕ → Formula
  NotNode : ℕ → Formula
  AndNode : List ℕ → Formula
  OrNode : List ℕ → Formula
  LinNode : ℤ → List Term → Formula
  GuardNode : ℕ → ℕ → Formula
  AbsNode : ℕ → Formula
  TotNode : ℕ → Formula
  MinNode : List Pair → Formula

-- the formula that a part is
abbrev pub formula : Part → Formula
formula part.False = FalseNode
formula part.True = TrueNode
formula (part.Pres column) = PresNode column
formula (part.Cell column) = CellNode column
formula (part.Pos number) = PosNode number
formula (part.Not truth) = NotNode truth
formula (part.And kids) = AndNode kids.now
formula (part.Or kids) = OrNode kids.now
formula (part.Lin constant terms) = LinNode constant terms.now
formula (part.Guard truth number) = GuardNode truth number
formula (part.Abs number) = AbsNode number
formula (part.Tot number) = TotNode number
formula (part.Min pairs) = MinNode pairs.now

-- the places that a formula names
abbrev pub kids_of : Formula → List ℕ
kids_of (PosNode number) = number ∷ []
kids_of (NotNode truth) = truth ∷ []
kids_of (AndNode kids) = kids
kids_of (OrNode kids) = kids
kids_of (LinNode constant terms) = map (λ t. t.node) terms
kids_of (GuardNode truth number) = truth ∷ number ∷ []
kids_of (AbsNode number) = number ∷ []
kids_of (TotNode number) = number ∷ []
kids_of (MinNode pairs) = flat_map (λ p. p.truth ∷ p.number ∷ []) pairs
kids_of _ = []
