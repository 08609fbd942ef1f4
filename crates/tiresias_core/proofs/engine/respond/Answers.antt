use Rattle.std.proofs.KnownBytes.{Appends-nil}
use Rattle.std.proofs.Common.{refl, arith}
use Rattle.job_intake.specs.declared.refusal.Refusal.TheVariants as refusal
use Rattle.tiresias_core.specs.Sights.{saw}
use Rattle.tiresias_core.specs.declared.reply.Reply.TheVariants as reply
use Rattle.tiresias_core.proofs.Leaving.{leaves_of, reads_of}
use Rattle.tiresias_core.proofs.engine.respond.Goals as goal

pub returns-in-Ok-clause-leaves : goal.returns-in-Ok-clause-leaves
returns-in-Ok-clause-leaves g c = leaves_of (saw c.args.words.now g.S.Shelf.held g.S.Shelf.fails g.S.Shelf.misses g.S.Shelf.faults c.args.shelf.now c.decide.new.shelf g.K.Sink.written g.K.Sink.faults c.args.out.now c.tell.new.out) c.tell.result c.in-Ok.reply c.in-Ok.ensures.cause c.tell.ensures

pub returns-in-Ok-clause-reads : goal.returns-in-Ok-clause-reads
returns-in-Ok-clause-reads g c = reads_of (saw c.args.words.now g.S.Shelf.held g.S.Shelf.fails g.S.Shelf.misses g.S.Shelf.faults c.args.shelf.now c.decide.new.shelf g.K.Sink.written g.K.Sink.faults c.args.out.now c.tell.new.out) c.tell.result c.in-Ok.reply c.in-Ok.ensures.cause c.in-Ok.ensures.kept c.tell.ensures

pub returns-in-Err-clause-leaves : goal.returns-in-Err-clause-leaves
returns-in-Err-clause-leaves g c = record { none_failed = refl; reply = reply.Refused refusal.Words; pieces = 0; cause = λ some. absurd (omega (arith, some)); text = Appends-nil (g.K.Sink.written c.args.out.now) }

pub returns-in-Err-clause-reads : goal.returns-in-Err-clause-reads
returns-in-Err-clause-reads g c = λ whole rose. absurd (whole.1 refl)
