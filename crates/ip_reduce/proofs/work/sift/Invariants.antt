use Rattle.std.proofs.Common.{◌≡◌, ◌≤◌, length}
use Rattle.ip_rows.specs.Programs.{sides_of}
use Rattle.ip_reduce.specs.Sieves.{IsReady, IsSieved}
use Rattle.ip_reduce.specs.Unlinking.{IsUnlinked}
use Rattle.ip_reduce.proofs.work.sift.Given as goal

abbrev pub invariant-loop-number : goal.invariant-loop-number
invariant-loop-number l = record {
  ready : IsReady l.sieve;
  sieved : IsSieved (sides_of l.columns) l.rows l.number l.sieve.rows.items l.sieve.full.items l.sieve.false_row;
  few : length l.sieve.rows.items ≤ l.number;
  linked : IsUnlinked l.number l.grid.unlinked l.sieve.full.items;
  grid : l.grid ≡ record l.fn.grid { unlinked = l.grid.unlinked };
}
