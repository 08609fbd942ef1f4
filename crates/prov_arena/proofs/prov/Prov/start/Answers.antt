use Rattle.std.proofs.Common.{◌≡◌, ◌∙◌, sym, subst, ap, arith, replicate, List, ℕ, [], ◌∷◌, ◌++◌}
use Rattle.std.proofs.lemmas.List.{length-map}
use Rattle.prov_arena.specs.Formulas.{Formula, FalseNode, TrueNode, formula}
use Rattle.prov_arena.specs.declared.chains.Node.{Node}
use Rattle.prov_arena.specs.Chains.{formulas, hashes, nexts, Linked}
use Rattle.prov_arena.proofs.ChainLemmas.{linked_none}
use Rattle.prov_arena.proofs.StartLemmas.{kept_first}
use Rattle.prov_arena.proofs.prov.Prov.start.Goals as goal

pub append-requires-clause-linked : goal.append-requires-clause-linked
append-requires-clause-linked c =
    let empty : c.in_ok-heads.heads.items ≡ replicate 1024 0 = c.in_ok-heads.ensures.items_if_clones_equal (λ y e. e) in
    rw (c.new-nodes.ensures.items, empty) (linked_none [] [] 1024 (omega arith) (omega arith))

pub invariant_of-result : goal.invariant_of-result
invariant_of-result c =
    let first = c.in_ok-append.ensures in
    let second = c.in_ok-append-2.ensures in
    kept_first _ _ _ _ _ _ (second.formulas ∙ ap (λ (ps : List Formula). ps ++ TrueNode ∷ []) (first.formulas ∙ ap (λ (ns : List Node). formulas ns ++ FalseNode ∷ []) c.new-nodes.ensures.items))
    (second.hashes ∙ ap (λ (hs : List ℕ). hs ++ c.hash-2.result ∷ []) (first.hashes ∙ ap (λ (ns : List Node). hashes ns ++ c.hash.result ∷ []) c.new-nodes.ensures.items))
    c.hash.ensures c.hash-2.ensures
    (subst (λ (n : ℕ). Linked n (hashes c.append-2.new.nodes.items) (nexts c.append-2.new.nodes.items) c.append-2.new.heads.items) (sym (length-map c.append-2.new.nodes.items (λ (n : Node). formula n.part))) second.linked)
