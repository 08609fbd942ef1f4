use Rattle.std.proofs.Common.{arith}
use Rattle.job_intake.specs.Visits.{visit}
use Rattle.job_intake.specs.declared.refusal.FileFault.TheVariants as fault
use Rattle.job_intake.proofs.Fetched.{long_if_long, refused_comes}
use Rattle.job_intake.proofs.fetch.fetch_file.Goals as goal

pub returns-then-len-most-clause-comes : goal.returns-then-len-most-clause-comes
returns-then-len-most-clause-comes g c = refused_comes (visit g.S.Shelf.held g.S.Shelf.fails g.S.Shelf.misses g.S.Shelf.faults c.args.shelf.now c.fetch.new.self) c.args.most c.args.name.now fault.TooLong c.refuse.result (c.in-Ok.ensures.failed, long_if_long _ _ c.in-Ok.bytes.items _ c.in-Ok.ensures.found (omega arith)) c.refuse.ensures
