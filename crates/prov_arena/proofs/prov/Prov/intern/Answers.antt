use Rattle.std.proofs.Common.{◌≡◌, ◌∙◌, sym, ap, subst, arith, refl, ℕ, List, [], ◌∷◌, ◌++◌, All, ◌<◌, length, ◌-◌}
use Rattle.std.proofs.lemmas.List.{length-map}
use Rattle.prov_arena.specs.declared.chains.Node.{Node}
use Rattle.prov_arena.specs.Formulas.{Formula, formula, kids_of}
use Rattle.prov_arena.specs.Graphs.{IsGraph}
use Rattle.prov_arena.specs.Chains.{formulas, hashes, nexts, Linked}
use Rattle.prov_arena.proofs.GraphLemmas.{interned_known, interned_new, sought_in, kept_more}
use Rattle.prov_arena.proofs.prov.Prov.intern.Goals as goal

pub returns-then-link-ne0-clause-interned : goal.returns-then-link-ne0-clause-interned
returns-then-link-ne0-clause-interned c =
    let s = sought_in _ _ _ (formula c.args.part) c.seek-link.result c.as_slice.ensures.value c.self.view_is c.seek-link.ensures in
    let graph = subst IsGraph c.self.view_is c.self.invariant.graph in
    sym (interned_known c.args.self.now (formula c.args.part) (c.seek-link.result - 1) graph (omega (arith, s.within)) (s.found (omega arith)))

pub invariant_of-self-2 : goal.invariant_of-self-2
invariant_of-self-2 c =
    let old = c.self.inside.nodes.items in
    let f = formula c.args.part in
    let s = sought_in _ old (formulas old) f c.seek-link.result c.as_slice.ensures.value refl c.seek-link.ensures in
    let made : formulas c.append.new.nodes.items ≡ formulas c.self.inside.nodes.items ++ formula c.in_ok-kept.kept ∷ [] = c.in_ok-id.ensures.formulas in
    let stored : formula c.in_ok-kept.kept ≡ formula c.args.part = c.in_ok-kept.ensures in
    let wide_formulas : formulas c.widen.new.nodes.items ≡ formulas c.append.new.nodes.items = c.widen.ensures.formulas in
    let wide_hashes : hashes c.widen.new.nodes.items ≡ hashes c.append.new.nodes.items = c.widen.ensures.hashes in
    let more_hashes : hashes c.append.new.nodes.items ≡ hashes c.self.inside.nodes.items ++ c.hash-hash.result ∷ [] = c.in_ok-id.ensures.hashes in
    let linked : Linked (length c.widen.new.nodes.items) (hashes c.widen.new.nodes.items) (nexts c.widen.new.nodes.items) c.widen.new.heads.items = c.widen.ensures.linked in
    let room : length c.args.self.now < 20000001 = c.requires.room in
    kept_more (formulas old) (hashes old) (nexts old) c.self.inside.heads.items f c.hash-hash.result _ _ _ _ c.self.invariant
    (subst (λ (ps : List Formula). All (λ kid. kid < length ps) (kids_of f)) (sym c.self.view_is) c.requires.kids)
    (s.absent (omega arith))
    (omega (arith, room, ap length c.self.view_is))
    (length-map old (λ (n : Node). n.hash) ∙ sym (length-map old (λ (n : Node). formula n.part)))
    c.hash-hash.ensures
    (wide_formulas ∙ made ∙ ap (λ (g : Formula). formulas c.self.inside.nodes.items ++ g ∷ []) stored)
    (wide_hashes ∙ more_hashes)
    (subst (λ (n : ℕ). Linked n (hashes c.widen.new.nodes.items) (nexts c.widen.new.nodes.items) c.widen.new.heads.items) (sym (length-map c.widen.new.nodes.items (λ (n : Node). formula n.part))) linked)

pub returns-clause-interned : goal.returns-clause-interned
returns-clause-interned c =
    let old = c.self.inside.nodes.items in
    let f = formula c.args.part in
    let s = sought_in _ old c.args.self.now f c.seek-link.result c.as_slice.ensures.value c.self.view_is c.seek-link.ensures in
    let made : formulas c.append.new.nodes.items ≡ formulas c.self.inside.nodes.items ++ formula c.in_ok-kept.kept ∷ [] = c.in_ok-id.ensures.formulas in
    let stored : formula c.in_ok-kept.kept ≡ formula c.args.part = c.in_ok-kept.ensures in
    let wide_formulas : formulas c.widen.new.nodes.items ≡ formulas c.append.new.nodes.items = c.widen.ensures.formulas in
    let place : c.in_ok-id.id ≡ length c.self.inside.nodes.items = c.in_ok-id.ensures.place in
    let view : formulas c.self.inside.nodes.items ≡ c.args.self.now = c.self.view_is in
    let id : c.in_ok-id.id ≡ length c.args.self.now = place ∙ sym (length-map c.self.inside.nodes.items (λ (n : Node). formula n.part)) ∙ ap length view in
    let list : formulas c.widen.new.nodes.items ≡ c.args.self.now ++ formula c.args.part ∷ [] =
    wide_formulas ∙ made ∙ (λ i. view i ++ stored i ∷ []) in
    (λ i. (id i, list i)) ∙ sym (interned_new c.args.self.now (formula c.args.part) (s.absent (omega arith)))
