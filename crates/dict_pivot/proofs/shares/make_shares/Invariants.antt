use Rattle.std.proofs.Common.{◌≤◌, take}
use Rattle.dict_pivot.specs.Steps.{AreShares, AreActive}
use Rattle.dict_pivot.proofs.shares.make_shares.Given as goal

abbrev pub invariant-loop-j : goal.invariant-loop-j
invariant-loop-j l = record {
  count : l.count ≤ l.j;
  shares : AreShares l.row l.column l.least l.j l.shares;
  active : AreActive (take l.count l.active) l.column l.j l.shares;
}
