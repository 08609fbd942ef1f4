use Rattle.std.proofs.Common.{◌++◌, ◌∷◌, ◌∙◌, inl, inr, List, [], refl, sym, ap, subst}
use Rattle.std.proofs.lemmas.Bool.{false≢true}
use Rattle.std.specs.List.{Contains}
use Rattle.ip_rows.specs.declared.rows.IpRow.{IpRow}
use Rattle.ip_reduce.specs.Chains.{AreLinked}
use Rattle.ip_reduce.proofs.sieve.take_row.Goals as goal

pub returns-then-not-asks-clause-takes : goal.returns-then-not-asks-clause-takes
returns-then-not-asks-clause-takes c = (refl, refl, inl ((λ asks. false≢true (c.if-not-asks.ensures.1 asks)), refl))

pub returns-then-is_empty-clause-takes : goal.returns-then-is_empty-clause-takes
returns-then-is_empty-clause-takes c = (refl, refl, inr (inl (c.if-is_empty.ensures.0 refl, c.if-not-asks.ensures.0 refl, c.first_false-sieve.ensures)))

pub returns-then-has-clause-takes : goal.returns-then-has-clause-takes
returns-then-has-clause-takes c = (refl, refl, inr (inr (subst (λ (rs : List IpRow). Contains rs c.args.row) c.as_slice.ensures.value (c.if-has.ensures.0 refl), refl)))

pub has-requires : goal.has-requires
has-requires c = subst (λ (rs : List IpRow). AreLinked rs c.args.sieve.now.chains.hashes.items c.args.sieve.now.chains.links.items c.args.sieve.now.chains.heads.items) (sym c.as_slice.ensures.value) c.requires.ready

pub add-requires-clause-linked : goal.add-requires-clause-linked
add-requires-clause-linked c = subst (λ (rs : List IpRow). AreLinked rs c.args.sieve.now.chains.hashes.items c.args.sieve.now.chains.links.items c.args.sieve.now.chains.heads.items) (sym c.as_slice-2.ensures.value) c.requires.ready

pub returns-clause-ready : goal.returns-clause-ready
returns-clause-ready c =
    subst (λ (rs : List IpRow). AreLinked rs c.add.new.self.hashes.items c.add.new.self.links.items c.add.new.self.heads.items)
    (ap (λ (rs : List IpRow). rs ++ c.args.row ∷ []) c.as_slice-2.ensures.value ∙ sym c.in_ok-push.ensures.items) c.in_ok-add.ensures

pub returns-clause-takes : goal.returns-clause-takes
returns-clause-takes c = (
  c.if-not-asks.ensures.0 refl,
  (λ none. false≢true (c.if-is_empty.ensures.1 none)),
  (λ among. false≢true (c.if-has.ensures.1 (subst (λ (rs : List IpRow). Contains rs c.args.row) (sym c.as_slice.ensures.value) among))),
  c.in_ok-push.ensures.items,
  c.in_ok-push-2.ensures.items,
  refl,
)
