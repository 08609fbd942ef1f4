-- What is read at a place, in a list of nodes and in the lists made of it.
use Rattle.std.proofs.Common.{◌≡◌, ◌∙◌, sym, ap, subst, ℕ, ◌+◌, ◌%◌, ◌<◌, List, [], ◌∷◌, ◌++◌, length, slice_index, slice_set, get_or, arith, length-append, refl}
use Rattle.std.proofs.lemmas.List.{length-map, map-append, map-set}
use Rattle.std.proofs.Math.Seq.{map-set_same}
use Rattle.std.proofs.Math.ListN.{get_or-map}
use Rattle.prov_arena.specs.Formulas.{formula}
use Rattle.prov_arena.specs.declared.part.Part.TheVariants as part
use Rattle.prov_arena.specs.declared.chains.Node.{Node}
use Rattle.prov_arena.specs.Graphs.{at}
use Rattle.prov_arena.specs.Chains.{formulas, hashes, nexts, Linked}
use Rattle.prov_arena.proofs.ChainLemmas.{linked_push, linked_next}

-- what is read outside
abbrev pub blank : Node
blank = record { part = part.False; hash = 0; next = 0 }

pub formula_at : (nodes : List Node) (i : ℕ) → at (formulas nodes) i ≡ formula (get_or nodes i blank).part
formula_at nodes i = get_or-map (λ (n : Node). formula n.part) nodes i blank

pub hash_at : (nodes : List Node) (i : ℕ) → slice_index (hashes nodes) i ≡ (get_or nodes i blank).hash
hash_at nodes i = get_or-map (λ (n : Node). n.hash) nodes i blank

pub next_at : (nodes : List Node) (i : ℕ) → slice_index (nexts nodes) i ≡ (get_or nodes i blank).next
next_at nodes i = get_or-map (λ (n : Node). n.next) nodes i blank

pub linked_append : (nodes more : List Node) (node : Node) (heads : List ℕ) (chain count : ℕ) → Linked (length nodes) (hashes nodes) (nexts nodes) heads → more ≡ nodes ++ node ∷ [] → chain ≡ node.hash % length heads → chain < length heads → node.next ≡ slice_index heads chain → count ≡ length nodes → Linked (length more) (hashes more) (nexts more) (slice_set heads chain (count + 1))
linked_append nodes more node heads chain count l more_is chain_is lt next_is count_is =
    let pushed : Linked (length nodes + 1) (hashes nodes ++ node.hash ∷ []) (nexts nodes ++ node.next ∷ []) (slice_set heads (node.hash % length heads) (length nodes + 1)) =
    linked_push (length nodes) (hashes nodes) (nexts nodes) heads node.hash node.next l (length-map nodes (λ (n : Node). n.hash)) (length-map nodes (λ (n : Node). n.next)) (subst (λ (n : ℕ). n < length heads) chain_is lt) (next_is ∙ ap (slice_index heads) chain_is) in
    rw (more_is, count_is, chain_is, length-append, map-append, map-append) pushed

-- the node at a place, with another link
abbrev pub relinked : List Node → ℕ → ℕ → List Node
relinked nodes i next = slice_set nodes i (record { part = (get_or nodes i blank).part; hash = (get_or nodes i blank).hash; next = next })

pub formulas_relinked : (nodes : List Node) (i next : ℕ) → formulas (relinked nodes i next) ≡ formulas nodes
formulas_relinked nodes i next = map-set_same (λ (n : Node). formula n.part) nodes i _ blank refl

pub hashes_relinked : (nodes : List Node) (i next : ℕ) → hashes (relinked nodes i next) ≡ hashes nodes
hashes_relinked nodes i next = map-set_same (λ (n : Node). n.hash) nodes i _ blank refl

pub linked_relinked : (nodes : List Node) (heads : List ℕ) (i : ℕ) → Linked i (hashes nodes) (nexts nodes) heads → i < length nodes → (get_or nodes i blank).hash % length heads < length heads → Linked (i + 1) (hashes (relinked nodes i (slice_index heads ((get_or nodes i blank).hash % length heads)))) (nexts (relinked nodes i (slice_index heads ((get_or nodes i blank).hash % length heads)))) (slice_set heads ((get_or nodes i blank).hash % length heads) (i + 1))
linked_relinked nodes heads i l below lt =
    let chain = (get_or nodes i blank).hash % length heads in
    let len : length (nexts nodes) ≡ length nodes = length-map nodes (λ (n : Node). n.next) in
    let next : Linked (i + 1) (hashes nodes) (slice_set (nexts nodes) i (slice_index heads chain)) (slice_set heads chain (i + 1)) =
    linked_next i (hashes nodes) (nexts nodes) heads chain l (omega arith) (ap (λ h. h % length heads) (sym (hash_at nodes i))) lt in
    subst (λ (hs : List ℕ). Linked (i + 1) hs (nexts (relinked nodes i (slice_index heads chain))) (slice_set heads chain (i + 1))) (sym (hashes_relinked nodes i (slice_index heads chain)))
    (subst (λ (ns : List ℕ). Linked (i + 1) (hashes nodes) ns (slice_set heads chain (i + 1))) (sym (map-set (λ (n : Node). n.next) nodes i _)) next)
