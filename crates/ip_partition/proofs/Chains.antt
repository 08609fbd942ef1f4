-- Being linked is the least equivalence that holds of columns that share a row.
use Rattle.std.proofs.Common.{◌≡◌, ◌<◌, ℕ, List, [], ◌∷◌, refl, sym, ◌∙◌, subst, arith}
use Rattle.cross_links.specs.Layout.{Layout}
use Rattle.ip_partition.specs.Linked.{SharesRow, IsChain, IsLinked}

module _ (grid : Layout) where
  pub linked_same : (a b : ℕ) → a ≡ b → IsLinked grid a b
  linked_same a b e = ([], e)

  pub linked_row : (a b : ℕ) → SharesRow grid a b → IsLinked grid a b
  linked_row a b s = (b ∷ [], (s, refl))

  pub linked_trans_along : (a b c : ℕ) (chain : List ℕ) → IsChain grid a chain b → IsLinked grid b c → IsLinked grid a c
  linked_trans_along a b c [] e l = subst (λ x. IsLinked grid x c) (sym e) l
  linked_trans_along a b c (next ∷ chain) h l = let rest = linked_trans_along next b c chain h.1 l in (next ∷ rest.0, (h.0, rest.1))

  pub linked_trans : (a b c : ℕ) → IsLinked grid a b → IsLinked grid b c → IsLinked grid a c
  linked_trans a b c h l = linked_trans_along a b c h.0 h.1 l

  linked_sym_along : (a b : ℕ) (chain : List ℕ) → IsChain grid a chain b → IsLinked grid b a
  linked_sym_along a b [] e = ([], sym e)
  linked_sym_along a b (next ∷ chain) h = linked_trans b next a (linked_sym_along next b chain h.1) (linked_row next a (h.0.0, h.0.2, h.0.1))

  pub linked_sym : (a b : ℕ) → IsLinked grid a b → IsLinked grid b a
  linked_sym a b h = linked_sym_along a b h.0 h.1

  -- labels that columns of one row have in common are common to linked columns
  module _ (label : ℕ → ℕ) (closed : (a b : ℕ) → SharesRow grid a b → 0 < label a → label b ≡ label a) where
    along : (a b : ℕ) (chain : List ℕ) → IsChain grid a chain b → 0 < label a → label b ≡ label a
    along a b [] e some = subst (λ x. label x ≡ label a) e refl
    along a b (next ∷ chain) h some =
        let one : label next ≡ label a = closed a next h.0 some in
        let above : 0 < label next = omega (arith, one) in
        along next b chain h.1 above ∙ one

    pub linked_label : (a b : ℕ) → IsLinked grid a b → 0 < label a → label b ≡ label a
    linked_label a b h some = along a b h.0 h.1 some
