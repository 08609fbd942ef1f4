use Rattle.std.proofs.Common.{◌≡◌, ◌+◌, ◌-ℤ◌, ◌∙◌, pos, FitsSigned, w64, List, [], ◌∷◌, length, refl, sym, ap, subst, arith}
use Rattle.std.proofs.lemmas.List.{get_or_read}
use Rattle.cross_links.specs.Layout.{Layout}
use Rattle.ip_rows.specs.declared.rows.IpRow.{IpRow}
use Rattle.ip_rows.specs.Programs.{sides_of, fixed_sum, row_at}
use Rattle.ip_reduce.specs.Rows.{IsLight, put_in}
use Rattle.ip_reduce.specs.Sieves.{Takes, IsSieved}
use Rattle.ip_reduce.specs.Unlinking.{IsUnlinked}
use Rattle.ip_reduce.proofs.SumLemmas.{light_open}
use Rattle.ip_reduce.proofs.SieveLemmas.{sieve_begins, sieve_goes_on, sieve_few}
use Rattle.ip_reduce.proofs.UnlinkLemmas.{not_unlinked, unlinking_begins, unlinking_keeps, unlinking_drops, grid_kept}
use Rattle.ip_reduce.proofs.work.sift.Goals as goal
use Rattle.ip_reduce.proofs.work.sift.Goals.{then-not-kept, else-not-kept}

pub loop-number-init : goal.loop-number-init
loop-number-init c = record {
  ready = c.in_ok-sieve.ensures.ready;
  sieved = sieve_begins (sides_of c.args.columns.now) c.args.rows.now _ _ _ c.in_ok-sieve.ensures.rows c.in_ok-sieve.ensures.full c.in_ok-sieve.ensures.false_row;
  few = omega (arith, ap (λ (rs : List IpRow). length rs) c.in_ok-sieve.ensures.rows);
  linked = unlinking_begins _ _ c.requires.linked c.in_ok-sieve.ensures.full;
  grid = refl;
}

pub put_in-requires-clause-light : goal.put_in-requires-clause-light
put_in-requires-clause-light c = subst (λ (r : IpRow). IsLight (sides_of c.args.columns.now) r.terms) (sym c.index-rows-number.is) (c.requires.entered.light c.loop-number.number c.index-rows-number.result c.loop-number-test.true)

pub put_in-requires-clause-fits : goal.put_in-requires-clause-fits
put_in-requires-clause-fits c =
    subst (λ (r : IpRow). FitsSigned w64 (r.least -ℤ fixed_sum (sides_of c.args.columns.now) r.terms)) (sym c.index-rows-number.is) (c.requires.fits c.loop-number.number c.index-rows-number.result c.loop-number-test.true)

pub take_row-requires-clause-ready : goal.take_row-requires-clause-ready
take_row-requires-clause-ready c = c.loop-number.invariant.ready

pub take_row-requires-clause-few : goal.take_row-requires-clause-few
take_row-requires-clause-few c = omega (arith, c.loop-number.invariant.few, c.loop-number-test.true, c.requires.few)

pub take_row-requires-clause-light : goal.take_row-requires-clause-light
take_row-requires-clause-light c =
    let light : IsLight (sides_of c.args.columns.now) c.index-rows-number.result.terms = subst (λ (r : IpRow). IsLight (sides_of c.args.columns.now) r.terms) (sym c.index-rows-number.is) (c.requires.entered.light c.loop-number.number c.index-rows-number.result c.loop-number-test.true) in
    subst (λ (r : IpRow). IsLight (sides_of c.args.columns.now) r.terms) (sym c.in_ok-short.ensures) (light_open (sides_of c.args.columns.now) c.index-rows-number.result.terms light)

pub unlink_row-requires-clause-within : goal.unlink_row-requires-clause-within
unlink_row-requires-clause-within c = omega (arith, ap (λ (g : Layout). g.rows) c.loop-number.invariant.grid, c.requires.size, c.loop-number-test.true)

pub unlink_row-requires-clause-linked : goal.unlink_row-requires-clause-linked
unlink_row-requires-clause-linked c = not_unlinked c.loop-number.number c.loop-number.grid.unlinked c.loop-number.sieve.full.items c.loop-number.invariant.linked

pub loop-number-preserved : goal.loop-number-preserved
loop-number-preserved c =
    let before = c.loop-number.sieve in
    let after = c.take_row.new.sieve in
    let row = c.in_ok-short.short in
    let here : c.in_ok-short.short ≡ put_in (sides_of c.args.columns.now) (row_at c.args.rows.now c.loop-number.number) = c.in_ok-short.ensures ∙ ap (put_in (sides_of c.args.columns.now)) (get_or_read c.args.rows.now c.loop-number.number c.index-rows-number.result c.loop-number-test.true c.index-rows-number.is (record { terms = []; least = pos 0 })) in
    let sieved = sieve_goes_on (sides_of c.args.columns.now) c.args.rows.now c.loop-number.number row before after c.in_ok-kept.kept c.loop-number-test.true here c.loop-number.invariant.sieved c.in_ok-kept.ensures.takes in
    let few = sieve_few (sides_of c.args.columns.now) c.loop-number.number row before after c.in_ok-kept.kept c.in_ok-kept.ensures.takes c.loop-number.invariant.few in
    elim c.if-not-kept.branch [
      | then-not-kept w ↦
          let takes = subst (λ b. Takes (sides_of c.args.columns.now) c.loop-number.number row before after b) w.if-not-kept.true c.in_ok-kept.ensures.takes in
          let grid_is = w.grid-is ∙ w.unlink_row.ensures.pushed in
          record {
            ready = c.in_ok-kept.ensures.ready;
            sieved = sieved;
            few = few;
            linked = subst (λ (g : Layout). IsUnlinked (c.loop-number.number + 1) g.unlinked after.full.items) (sym grid_is) (unlinking_drops c.loop-number.number c.loop-number.grid.unlinked before.full.items c.loop-number.invariant.linked after.full.items takes.1);
            grid = grid_kept c.args.grid.now c.loop-number.grid c.if-not-kept.grid (c.loop-number.number ∷ c.loop-number.grid.unlinked) c.loop-number.invariant.grid grid_is;
          }
      | else-not-kept w ↦
          let takes = subst (λ b. Takes (sides_of c.args.columns.now) c.loop-number.number row before after b) w.if-not-kept.false c.in_ok-kept.ensures.takes in
          record {
            ready = c.in_ok-kept.ensures.ready;
            sieved = sieved;
            few = few;
            linked = subst (λ (g : Layout). IsUnlinked (c.loop-number.number + 1) g.unlinked after.full.items) (sym w.grid-is) (unlinking_keeps c.loop-number.number c.loop-number.grid.unlinked before.full.items c.loop-number.invariant.linked after.full.items takes.4);
            grid = grid_kept c.args.grid.now c.loop-number.grid c.if-not-kept.grid c.loop-number.grid.unlinked c.loop-number.invariant.grid w.grid-is;
          }
    ]

pub returns-clause-sieved : goal.returns-clause-sieved
returns-clause-sieved c =
    let all : c.loop-number.number ≡ length c.args.rows.now = omega (arith, c.loop-number-test.false, c.loop-number.auto.number-end) in
    subst (λ n. IsSieved (sides_of c.args.columns.now) c.args.rows.now n c.loop-number.sieve.rows.items c.loop-number.sieve.full.items c.loop-number.sieve.false_row) all c.loop-number.invariant.sieved

pub returns-clause-linked : goal.returns-clause-linked
returns-clause-linked c =
    let all : c.loop-number.number ≡ length c.args.rows.now = omega (arith, c.loop-number-test.false, c.loop-number.auto.number-end) in
    subst (λ n. IsUnlinked n c.loop-number.grid.unlinked c.loop-number.sieve.full.items) all c.loop-number.invariant.linked

pub returns-clause-grid : goal.returns-clause-grid
returns-clause-grid c = c.loop-number.invariant.grid
