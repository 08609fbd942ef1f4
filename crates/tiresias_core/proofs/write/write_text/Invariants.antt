use Rattle.std.proofs.Common.{◌≡◌, ℕ, ◌-◌, ◌*◌, ◌≤◌, length, take}
use Rattle.std.specs.Io.KnownBytes.{Appends}
use Rattle.tiresias_core.proofs.write.write_text.Given as goal

abbrev pub invariant-loop-done : goal.invariant-loop-done
invariant-loop-done g l = record {
  within : l.done ≤ length l.text;
  written : Appends (g.K.Sink.written l.initial.out) (g.K.Sink.written l.out) (take l.done l.text);
  same : g.K.Sink.faults l.out ≡ g.K.Sink.faults l.initial.out;
  whole : (pieces : ℕ) × (take l.done l.text ≡ take (65536 * pieces) l.text);
}

abbrev pub decreases-loop-done : goal.decreases-loop-done
decreases-loop-done g l = length l.text - l.done
