use Rattle.std.proofs.Common.{◌≡◌, ℕ, ◌+◌, ◌-◌, ◌∙◌, subst, take, drop, arith}
use Rattle.std.specs.Io.KnownBytes.{Appends}
use Rattle.tiresias_core.proofs.Pieces.{more_written, more_pieces, cut_short}
use Rattle.tiresias_core.proofs.write.write_text.Goals as goal

pub returns-in-Err-clause-written : goal.returns-in-Err-clause-written
returns-in-Err-clause-written g c = cut_short (Unit {0}) _ _ _ c.args.text.now c.loop-done.done _ c.loop-done.invariant.whole.0 c.in-Err.fault c.loop-done.invariant.written c.in-Err.ensures.written c.loop-done.invariant.whole.1

pub loop-done-preserved : goal.loop-done-preserved
loop-done-preserved g c =
    let same : (c.loop-done.done + c.min-size.result) - c.loop-done.done ≡ c.min-size.result = omega arith in
    record {
      within = omega arith;
      written = more_written _ _ _ c.args.text.now c.loop-done.done c.min-size.result c.loop-done.invariant.written
          (subst (λ (n : ℕ). Appends (g.K.Sink.written c.loop-done.out) (g.K.Sink.written c.put.new.self) (take n (drop c.loop-done.done c.args.text.now))) same c.in_default.ensures.written);
      same = c.in_default.ensures.counts.failed ∙ c.loop-done.invariant.same;
      whole = (c.loop-done.invariant.whole.0 + 1, more_pieces c.args.text.now c.loop-done.done c.min-size.result c.loop-done.invariant.whole.0 (omega arith) c.min-size.ensures c.loop-done.invariant.whole.1);
    }
