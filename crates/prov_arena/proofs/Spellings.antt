-- One spelling has one formula.
use Rattle.std.proofs.Common.{◌≡◌, ◌∙◌, sym, ap, refl, [], ◌∷◌, get_or}
use Rattle.prov_arena.specs.Formulas.{Formula, FalseNode, TrueNode, PresNode, CellNode, PosNode, NotNode, AndNode, OrNode, LinNode, GuardNode, AbsNode, TotNode, MinNode}
use Rattle.prov_arena.specs.Words.{Spelling, words_of, HasSameHead, HasSameLists}

-- the formula of a spelling
abbrev unspelled : Spelling → Formula
unspelled w =
    get_or (FalseNode ∷ TrueNode ∷ PresNode w.left ∷ CellNode w.left ∷ PosNode w.left ∷ NotNode w.left ∷ AndNode w.kids ∷ OrNode w.kids ∷ LinNode w.number w.terms ∷ GuardNode w.left w.right ∷ AbsNode w.left ∷ TotNode w.left ∷ MinNode w.pairs ∷ []) w.kind FalseNode

unspelled-words_of : (f : Formula) → unspelled (words_of f) ≡ f
unspelled-words_of FalseNode = refl
unspelled-words_of TrueNode = refl
unspelled-words_of (PresNode column) = refl
unspelled-words_of (CellNode column) = refl
unspelled-words_of (PosNode number) = refl
unspelled-words_of (NotNode truth) = refl
unspelled-words_of (AndNode kids) = refl
unspelled-words_of (OrNode kids) = refl
unspelled-words_of (LinNode constant terms) = refl
unspelled-words_of (GuardNode truth number) = refl
unspelled-words_of (AbsNode number) = refl
unspelled-words_of (TotNode number) = refl
unspelled-words_of (MinNode pairs) = refl

pub formula_by_words : (f g : Formula) → words_of f ≡ words_of g → f ≡ g
formula_by_words f g e = sym (unspelled-words_of f) ∙ ap unspelled e ∙ unspelled-words_of g

same_spelling : (a b : Spelling) → HasSameHead a b → HasSameLists a b → a ≡ b
same_spelling a b h l = λ i. record { kind = h.0 i; number = h.1 i; left = h.2 i; right = h.3 i; kids = l.0 i; terms = l.1 i; pairs = l.2 i }

pub same_formula : (f g : Formula) → HasSameHead (words_of f) (words_of g) → HasSameLists (words_of f) (words_of g) → f ≡ g
same_formula f g h l = formula_by_words f g (same_spelling (words_of f) (words_of g) h l)
