-- the exit statuses of a run
use Rattle.std.specs.Prelude.{ℕ}
use Rattle.base_kit.specs.declared.status.Status.{Status}
use Rattle.base_kit.specs.declared.status.Status.TheVariants.{Done, Impossible, Words, Query, Tables, Size, Unfinished, Read, Write, Memory, Rejected, Unreadable}

-- the exit status: the status's place among the statuses, from 0
abbrev pub code_of : Status → ℕ
code_of Done = 0
code_of Impossible = 1
code_of Words = 2
code_of Query = 3
code_of Tables = 4
code_of Size = 5
code_of Unfinished = 6
code_of Read = 7
code_of Write = 8
code_of Memory = 9
code_of Rejected = 10
code_of Unreadable = 11
