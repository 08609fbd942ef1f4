-- a shelf in memory
use Rattle.std.specs.Prelude.{ℕ, ◌+◌, ◌-◌, ◌^◌, min, Bool, ◌==◌, List, Some}
use Rattle.std.specs.List.{list_any}
use Rattle.outside_io.specs.HeldFiles.{held_under}
use Rattle.outside_io.specs.Shelves.{Contents, Failures}
use Rattle.outside_io.specs.declared.held.Held.{Held}
use Rattle.outside_io.specs.declared.memory_shelf.MemoryShelf.{MemoryShelf}

-- what stands under each name
abbrev pub contents_of : MemoryShelf → Contents
contents_of shelf = Some (held_under shelf.held)

-- the shelf of these files before its first call, which fails at these calls
abbrev pub fresh_shelf : List Held → List ℕ → MemoryShelf
fresh_shelf held failing = record { held = held; failing = failing; calls = 0; misses = 0; faults = 0 }

-- whether the fetch so many calls from now is to fail
abbrev pub is_due : MemoryShelf → ℕ → Bool
is_due shelf calls = list_any (λ call. call == min (shelf.calls + calls) (2 ^ 64 - 1)) shelf.failing

-- which of the coming fetches fail
abbrev pub failures_of : MemoryShelf → Failures
failures_of shelf = Some (is_due shelf)
