-- a sink in memory
use Rattle.std.specs.Prelude.{◌≡◌, ℕ, ◌+◌, ◌-◌, ◌^◌, min, Bool, true, ◌&&◌, not, ◌==◌, List, [], ◌∷◌, ◌++◌, take, Option, Some, None, if◌then◌else◌}
use Rattle.std.specs.List.{list_any}
use Rattle.outside_io.specs.declared.memory_sink.FailPut.{FailPut}
use Rattle.outside_io.specs.declared.memory_sink.MemorySink.{MemorySink}

-- the text that was written
abbrev pub written_to : MemorySink → Option (List ℕ)
written_to sink = Some sink.written.items

-- no two entries are for one call
abbrev pub are_distinct : List FailPut → Bool
are_distinct [] = true
are_distinct (one ∷ rest) = not (list_any (λ other. other.call == one.call) rest) && are_distinct rest

-- how much this call takes, where it is to fail
abbrev pub taken_at : List FailPut → ℕ → Option ℕ
taken_at [] call = None
taken_at (one ∷ rest) call = if one.call == call then Some one.taken else taken_at rest call

-- how much the next call takes, where it is to fail
abbrev pub due : MemorySink → Option ℕ
due sink = taken_at sink.failing sink.calls

-- a sink before its first call, which fails at these calls
pub record IsFresh (failing : List FailPut) (sink : MemorySink) : Type 0 where
  pub written : sink.written.items ≡ []
  pub failing_calls : sink.failing ≡ failing
  pub calls : sink.calls ≡ 0
  pub faults : sink.faults ≡ 0

-- one call more was made, and the same calls are to fail
pub record Called (old new : MemorySink) : Type 0 where
  pub calls : new.calls ≡ min (old.calls + 1) (2 ^ 64 - 1)
  pub failing : new.failing ≡ old.failing

-- the call was to fail, and appended as much as it was to take
abbrev pub Cut : Option ℕ → MemorySink → MemorySink → List ℕ → Type 0
Cut None old new piece = ⊥
Cut (Some taken) old new piece = new.written.items ≡ old.written.items ++ take taken piece
