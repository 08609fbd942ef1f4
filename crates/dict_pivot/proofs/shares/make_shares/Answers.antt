use Rattle.std.proofs.Common.{◌≡◌, ◌+◌, ◌<◌, pos, Some, length, take, set, arith, sym, ◌∙◌, ap, subst, to_z, to_z-of_z}
use Rattle.std.specs.Int.{w128}
use Rattle.dict_pivot.specs.Dictionaries.{number, inverse_of, share_of}
use Rattle.dict_pivot.specs.Steps.{AreShares, AreActive}
use Rattle.dict_pivot.proofs.RowLemmas.{number_is}
use Rattle.dict_pivot.proofs.ShareLemmas.{own_apart, shares_none, shares_more, active_none, active_kept, active_pushed}
use Rattle.dict_pivot.proofs.shares.make_shares.Goals as goal
use Rattle.dict_pivot.proofs.shares.make_shares.Goals.{then-num-ne0, else-num-ne0}

pub inverse-inverse-requires : goal.inverse-inverse-requires
inverse-inverse-requires c = λ z. c.requires.nonzero (ap (λ p. p.num) (sym (number_is c.args.row.now c.args.column _ c.requires.column c.index-row-column.is)) ∙ z)

pub share-requires-clause-inverse : goal.share-requires-clause-inverse
share-requires-clause-inverse c = ap inverse_of (sym (number_is c.args.row.now c.args.column _ c.requires.column c.index-row-column.is)) ∙ c.inverse-inverse.ensures

pub loop-j-init : goal.loop-j-init
loop-j-init c = record {
  count = omega arith;
  shares = shares_none c.args.row.now c.args.column c.args.least.now c.args.shares.now;
  active = active_none c.args.active.now c.args.column c.args.shares.now;
}

pub loop-j-preserved : goal.loop-j-preserved
loop-j-preserved c =
    let room : c.loop-j.j < length c.loop-j.shares = omega (arith, c.loop-j-test.true, c.loop-j.auto.shares, c.requires.room) in
    let list_room : c.loop-j.count < length c.loop-j.active = omega (arith, c.loop-j-test.true, c.loop-j.auto.active, c.requires.active_room, c.loop-j.invariant.count) in
    let is : share_of c.args.row.now c.args.column c.args.least.now c.loop-j.j ≡ Some c.in-Some.made = sym c.share.ensures ∙ c.in-Some.is in
    let inverse : inverse_of (number c.args.row.now c.args.column) ≡ Some c.inverse-inverse.result = ap inverse_of (sym (number_is c.args.row.now c.args.column _ c.requires.column c.index-row-column.is)) ∙ c.inverse-inverse.ensures in
    let shares = shares_more c.args.row.now c.args.column c.args.least.now c.loop-j.shares c.loop-j.j c.in-Some.made room is c.num.ensures.narrow c.loop-j.invariant.shares in
    elim c.if-num-ne0.branch [
      | then-num-ne0 w ↦ record {
        count = omega (arith, w.count-is, c.loop-j.invariant.count);
        shares = shares;
        active = subst (λ n. AreActive (take n c.if-num-ne0.active) c.args.column (c.loop-j.j + 1) (set c.loop-j.shares c.loop-j.j c.in-Some.made)) (sym w.count-is) (subst (λ l. AreActive (take (c.loop-j.count + 1) l) c.args.column (c.loop-j.j + 1) (set c.loop-j.shares c.loop-j.j c.in-Some.made)) (sym w.active-is) (active_pushed c.loop-j.active c.args.column c.loop-j.j c.loop-j.count c.loop-j.shares c.in-Some.made list_room c.loop-j.invariant.active));
      }
      | else-num-ne0 w ↦
          let z : c.in-Some.made.num ≡ pos 0 = sym c.num.ensures.value ∙ sym (to_z-of_z {w = w128} (record { sfits = c.num.type_inv })) ∙ ap (λ n. to_z w128 n) w.if-num-ne0.false in
          record {
            count = omega (arith, w.count-is, c.loop-j.invariant.count);
            shares = shares;
            active = subst (λ n. AreActive (take n c.if-num-ne0.active) c.args.column (c.loop-j.j + 1) (set c.loop-j.shares c.loop-j.j c.in-Some.made)) (sym w.count-is) (subst (λ l. AreActive (take c.loop-j.count l) c.args.column (c.loop-j.j + 1) (set c.loop-j.shares c.loop-j.j c.in-Some.made)) (sym w.active-is) (active_kept (take c.loop-j.count c.loop-j.active) c.args.column c.loop-j.j c.loop-j.shares c.in-Some.made room z (own_apart c.args.row.now c.args.column c.loop-j.j c.args.least.now c.inverse-inverse.result c.in-Some.made c.requires.narrow c.requires.nonzero inverse is z) c.loop-j.invariant.active));
          }
    ]

pub returns-in-None : goal.returns-in-None
returns-in-None c = record {
  «end» = omega (arith, c.loop-j-test.true);
  count = omega (arith, c.loop-j-test.true, c.loop-j.auto.active, c.requires.active_room, c.loop-j.invariant.count);
  wide = λ l. sym c.share.ensures ∙ c.in-None.is;
  shares = c.loop-j.invariant.shares;
  active = c.loop-j.invariant.active;
}

pub returns : goal.returns
returns c =
    let e : c.loop-j.j ≡ length c.args.row.now = omega (arith, c.loop-j-test.false, c.loop-j.auto.j-end) in
    record {
      «end» = omega arith;
      count = omega (arith, e, c.loop-j.auto.active, c.requires.active_room, c.loop-j.invariant.count);
      wide = λ l. absurd (omega (arith, l));
      shares = subst (λ n. AreShares c.args.row.now c.args.column c.args.least.now n c.loop-j.shares) e c.loop-j.invariant.shares;
      active = subst (λ n. AreActive (take c.loop-j.count c.loop-j.active) c.args.column n c.loop-j.shares) e c.loop-j.invariant.active;
    }
