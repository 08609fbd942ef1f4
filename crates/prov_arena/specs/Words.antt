-- A formula as words: what is compared and hashed.
use Rattle.std.specs.Prelude.{◌≡◌, ℕ, ℤ, pos, List, [], Bool, ◌&&◌, ◌==◌, nat_eq}
use Rattle.std.specs.Ordering.{int_eq}
use Rattle.std.specs.Cmp.Lexicographic.{pointwise}
use Rattle.prov_arena.specs.declared.part.Term.{Term}
use Rattle.prov_arena.specs.declared.part.Pair.{Pair}
use Rattle.prov_arena.specs.declared.words.Words.{Words}
use Rattle.prov_arena.specs.Formulas.{Formula, FalseNode, TrueNode, PresNode, CellNode, PosNode, NotNode, AndNode, OrNode, LinNode, GuardNode, AbsNode, TotNode, MinNode}

pub record Spelling : Type 0 where
  pub kind : ℕ
  pub number : ℤ
  pub left : ℕ
  pub right : ℕ
  pub kids : List ℕ
  pub terms : List Term
  pub pairs : List Pair

abbrev pub short_of : ℕ → ℕ → ℕ → Spelling
short_of kind left right = record { kind = kind; number = pos 0; left = left; right = right; kids = []; terms = []; pairs = [] }

-- a kind's number and its fields; what a kind lacks is 0 or empty
abbrev pub words_of : Formula → Spelling
words_of FalseNode = short_of 0 0 0
words_of TrueNode = short_of 1 0 0
words_of (PresNode column) = short_of 2 column 0
words_of (CellNode column) = short_of 3 column 0
words_of (PosNode number) = short_of 4 number 0
words_of (NotNode truth) = short_of 5 truth 0
words_of (AndNode kids) = record (short_of 6 0 0) { kids = kids }
words_of (OrNode kids) = record (short_of 7 0 0) { kids = kids }
words_of (LinNode constant terms) = record (short_of 8 0 0) { number = constant; terms = terms }
words_of (GuardNode truth number) = short_of 9 truth number
words_of (AbsNode number) = short_of 10 number 0
words_of (TotNode number) = short_of 11 number 0
words_of (MinNode pairs) = record (short_of 12 0 0) { pairs = pairs }

-- the same of the words in the code
abbrev pub spelled : Words → Spelling
spelled w = record { kind = w.kind; number = w.number; left = w.left; right = w.right; kids = w.kids.now; terms = w.terms.now; pairs = w.pairs.now }

abbrev pub HasSameHead : Spelling → Spelling → Type 0
HasSameHead a b = (a.kind ≡ b.kind) × (a.number ≡ b.number) × (a.left ≡ b.left) × (a.right ≡ b.right)

abbrev pub HasSameLists : Spelling → Spelling → Type 0
HasSameLists a b = (a.kids ≡ b.kids) × (a.terms ≡ b.terms) × (a.pairs ≡ b.pairs)

abbrev pub is_same_term : Term → Term → Bool
is_same_term s t = int_eq s.factor t.factor && (s.node == t.node)

abbrev pub is_same_pair : Pair → Pair → Bool
is_same_pair p q = (p.truth == q.truth) && (p.number == q.number)

-- whether two formulas are the same
unfoldable pub is_same : Formula → Formula → Bool
is_same f g =
    let a = words_of f in
    let b = words_of g in
    (a.kind == b.kind) && (int_eq a.number b.number && ((a.left == b.left) && ((a.right == b.right) && (pointwise nat_eq a.kids b.kids && (pointwise is_same_term a.terms b.terms && pointwise is_same_pair a.pairs b.pairs)))))
