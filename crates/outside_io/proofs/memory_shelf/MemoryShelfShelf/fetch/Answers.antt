use Rattle.std.proofs.Common.{◌≡◌, false, rules}
use Rattle.outside_io.specs.MemoryShelves.{failures_of, is_due}
use Rattle.outside_io.proofs.Failing.{not_due_absent, not_due_found, told_found}
use Rattle.outside_io.proofs.memory_shelf.MemoryShelfShelf.fetch.Goals as goal

pub returns-in-Some-clause-due : goal.returns-in-Some-clause-due
returns-in-Some-clause-due c =
    let not_due : is_due c.args.self.now 0 ≡ false = search rules in
    not_due_found c.first.result (is_due c.args.self.now 0) not_due c.first.ensures.memory

pub returns-in-None-clause-due : goal.returns-in-None-clause-due
returns-in-None-clause-due c =
    let not_due : is_due c.args.self.now 0 ≡ false = search rules in
    not_due_absent (is_due c.args.self.now 0) not_due

pub returns-in-Some-clause-failed : goal.returns-in-Some-clause-failed
returns-in-Some-clause-failed c =
    let not_due : is_due c.args.self.now 0 ≡ false = search rules in
    told_found (failures_of c.args.self.now) c.first.result not_due c.first.ensures.memory
