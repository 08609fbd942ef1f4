use Rattle.tiresias_core.specs.Sights.{saw}
use Rattle.tiresias_core.proofs.Calling as calling
use Rattle.tiresias_core.proofs.Saying.{left_says}
use Rattle.tiresias_core.proofs.engine.run.Goals as goal

pub returns-clause-says : goal.returns-clause-says
returns-clause-says g c = left_says (saw c.args.words.now g.S.Shelf.held g.S.Shelf.fails g.S.Shelf.misses g.S.Shelf.faults c.args.shelf.now c.respond.new.shelf g.K.Sink.written g.K.Sink.faults c.args.out.now c.respond.new.out) c.respond.result c.respond.ensures.leaves

pub returns-clause-only_words : goal.returns-clause-only_words
returns-clause-only_words g c = calling.words_told (saw c.args.words.now g.S.Shelf.held g.S.Shelf.fails g.S.Shelf.misses g.S.Shelf.faults c.args.shelf.now c.respond.new.shelf g.K.Sink.written g.K.Sink.faults c.args.out.now c.respond.new.out) c.respond.result c.respond.ensures.leaves

pub returns-clause-writes : goal.returns-clause-writes
returns-clause-writes g c = calling.writes_told (saw c.args.words.now g.S.Shelf.held g.S.Shelf.fails g.S.Shelf.misses g.S.Shelf.faults c.args.shelf.now c.respond.new.shelf g.K.Sink.written g.K.Sink.faults c.args.out.now c.respond.new.out) c.respond.result c.respond.ensures.leaves

pub returns-clause-refused : goal.returns-clause-refused
returns-clause-refused g c = calling.refused_told (saw c.args.words.now g.S.Shelf.held g.S.Shelf.fails g.S.Shelf.misses g.S.Shelf.faults c.args.shelf.now c.respond.new.shelf g.K.Sink.written g.K.Sink.faults c.args.out.now c.respond.new.out) c.respond.result c.respond.ensures.leaves

pub returns-clause-passes : goal.returns-clause-passes
returns-clause-passes g c = calling.passes_told (saw c.args.words.now g.S.Shelf.held g.S.Shelf.fails g.S.Shelf.misses g.S.Shelf.faults c.args.shelf.now c.respond.new.shelf g.K.Sink.written g.K.Sink.faults c.args.out.now c.respond.new.out) c.respond.result c.respond.ensures.leaves

pub returns-clause-answered : goal.returns-clause-answered
returns-clause-answered g c = calling.answered_told (saw c.args.words.now g.S.Shelf.held g.S.Shelf.fails g.S.Shelf.misses g.S.Shelf.faults c.args.shelf.now c.respond.new.shelf g.K.Sink.written g.K.Sink.faults c.args.out.now c.respond.new.out) c.respond.result c.respond.ensures.leaves

pub returns-clause-none : goal.returns-clause-none
returns-clause-none g c = calling.none_told (saw c.args.words.now g.S.Shelf.held g.S.Shelf.fails g.S.Shelf.misses g.S.Shelf.faults c.args.shelf.now c.respond.new.shelf g.K.Sink.written g.K.Sink.faults c.args.out.now c.respond.new.out) c.respond.result c.respond.ensures.leaves

pub returns-clause-enough : goal.returns-clause-enough
returns-clause-enough g c = calling.enough_told (saw c.args.words.now g.S.Shelf.held g.S.Shelf.fails g.S.Shelf.misses g.S.Shelf.faults c.args.shelf.now c.respond.new.shelf g.K.Sink.written g.K.Sink.faults c.args.out.now c.respond.new.out) c.respond.result c.respond.ensures.leaves

pub returns-clause-checked : goal.returns-clause-checked
returns-clause-checked g c = calling.checked_told (saw c.args.words.now g.S.Shelf.held g.S.Shelf.fails g.S.Shelf.misses g.S.Shelf.faults c.args.shelf.now c.respond.new.shelf g.K.Sink.written g.K.Sink.faults c.args.out.now c.respond.new.out) c.respond.result c.respond.ensures.leaves

pub returns-clause-accepts : goal.returns-clause-accepts
returns-clause-accepts g c = calling.accepted_told (saw c.args.words.now g.S.Shelf.held g.S.Shelf.fails g.S.Shelf.misses g.S.Shelf.faults c.args.shelf.now c.respond.new.shelf g.K.Sink.written g.K.Sink.faults c.args.out.now c.respond.new.out) c.respond.result c.respond.ensures.leaves

pub returns-clause-evaluated : goal.returns-clause-evaluated
returns-clause-evaluated g c = calling.evaluated_told (saw c.args.words.now g.S.Shelf.held g.S.Shelf.fails g.S.Shelf.misses g.S.Shelf.faults c.args.shelf.now c.respond.new.shelf g.K.Sink.written g.K.Sink.faults c.args.out.now c.respond.new.out) c.respond.result c.respond.ensures.leaves

pub returns-clause-reads : goal.returns-clause-reads
returns-clause-reads g c = c.respond.ensures.reads
