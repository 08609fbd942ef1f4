-- refusals: their statuses and lines
use Rattle.std.specs.Prelude.{ℕ, ℤ, List, [], ◌∷◌, ◌++◌, codes, decimal}
use Rattle.std.specs.Fmt.{signed_decimal}
use Rattle.base_kit.specs.declared.place.Place.{Place}
use Rattle.base_kit.specs.declared.status.Status.{Status}
use Rattle.base_kit.specs.declared.status.Status.TheVariants as status
use Rattle.job_intake.specs.declared.refusal.Refusal.{Refusal}
use Rattle.job_intake.specs.declared.refusal.Refusal.TheVariants as refusal
use Rattle.job_intake.specs.declared.refusal.FileFault.{FileFault}
use Rattle.job_intake.specs.declared.refusal.FileFault.TheVariants as fault
use Rattle.tables_csv.specs.declared.fault.TableFault.{TableFault}
use Rattle.tables_csv.specs.declared.fault.TableFault.TheVariants as table
use Rattle.tiql_check.specs.declared.fault.SoundFault.{SoundFault}
use Rattle.tiql_check.specs.declared.fault.SoundFault.TheVariants as rule
use Rattle.tiresias_core.specs.declared.excess.Excess.{Excess}
use Rattle.tiresias_core.specs.declared.excess.Excess.TheVariants as excess

-- the status of a refusal
abbrev pub refusal_status : Refusal → Status
refusal_status refusal.Words = status.Words
refusal_status (refusal.File name why) = status.Read
refusal_status (refusal.Syntax place) = status.Query
refusal_status (refusal.Unsound fault) = status.Query
refusal_status (refusal.Table name why) = status.Tables
refusal_status (refusal.EmptyBounds hypo row) = status.Tables
refusal_status (refusal.TooWide hypo number) = status.Size
refusal_status refusal.TooManyWorldColumns = status.Size
refusal_status (refusal.TooManyColumns count) = status.Size
refusal_status (refusal.PartTooLarge columns) = status.Size
refusal_status (refusal.Unreadable line) = status.Unreadable

-- the line of a file that is refused
abbrev pub file_line : List ℕ → FileFault → List ℕ
file_line name fault.Absent = codes "refused: absent " ++ name ++ codes "" ++ 10 ∷ []
file_line name fault.ReadFailed = codes "refused: read failed " ++ name ++ codes "" ++ 10 ∷ []
file_line name fault.TooLong = codes "refused: too long " ++ name ++ codes "" ++ 10 ∷ []

-- the line of a query that is refused at this place
abbrev pub line_at : List ℕ → Place → List ℕ
line_at words place = (codes "refused: " ++ words ++ codes " " ++ decimal place.line ++ codes ":" ++ decimal place.column) ++ 10 ∷ []

-- the words of a rule of soundness
abbrev pub rule_words : SoundFault → List ℕ
rule_words (rule.UnknownName place) = codes "unknown name"
rule_words (rule.SameName place) = codes "same name"
rule_words (rule.NoSuchKeyColumn place) = codes "no such key column"
rule_words (rule.KeyUnknown place) = codes "key unknown"
rule_words (rule.KeyMissing place) = codes "key missing"
rule_words (rule.WrongType place) = codes "wrong type"
rule_words (rule.NotFixed place) = codes "not fixed"
rule_words (rule.NotLinear place) = codes "not linear"
rule_words (rule.NotGrouped place) = codes "not grouped"
rule_words rule.Memory = []

-- where it is broken
abbrev pub rule_place : SoundFault → Place
rule_place (rule.UnknownName place) = place
rule_place (rule.SameName place) = place
rule_place (rule.NoSuchKeyColumn place) = place
rule_place (rule.KeyUnknown place) = place
rule_place (rule.KeyMissing place) = place
rule_place (rule.WrongType place) = place
rule_place (rule.NotFixed place) = place
rule_place (rule.NotLinear place) = place
rule_place (rule.NotGrouped place) = place
rule_place rule.Memory = record { line = 0; column = 0 }

-- the line of a query that breaks this rule first, with the place where it does
abbrev pub rule_line : SoundFault → List ℕ
rule_line fault = line_at (rule_words fault) (rule_place fault)

-- the line of two numbers behind the name of a table
abbrev pub cell_line : List ℕ → List ℕ → ℕ → ℕ → List ℕ
cell_line words name one other = words ++ name ++ (codes " " ++ decimal one ++ codes " " ++ decimal other) ++ 10 ∷ []

-- the line of a file that is not a valid table: its first fault
abbrev pub table_line : List ℕ → TableFault → List ℕ
table_line name table.Header = codes "refused: header " ++ name ++ codes "" ++ 10 ∷ []
table_line name table.TooManyRows = codes "refused: too many rows " ++ name ++ codes "" ++ 10 ∷ []
table_line name (table.Ragged row) = codes "refused: ragged " ++ name ++ (codes " " ++ decimal row) ++ 10 ∷ []
table_line name (table.NotUtf8 row column) = cell_line (codes "refused: not utf8 ") name row column
table_line name (table.TooLongText row column) = cell_line (codes "refused: too long text ") name row column
table_line name (table.BadNumber row column) = cell_line (codes "refused: bad number ") name row column
table_line name (table.SameKey row earlier) = cell_line (codes "refused: same key ") name row earlier
table_line name table.Memory = []

-- the line of a value or bound that is too large, over the relation of this name
abbrev pub wide_line : List ℕ → ℤ → List ℕ
wide_line name number = codes "refused: range too wide " ++ name ++ (codes " " ++ signed_decimal number) ++ 10 ∷ []

-- the line of a limit of rows that is passed, of the view of this name
abbrev pub rows_line : List ℕ → ℕ → List ℕ
rows_line name limit = codes "refused: too many view rows " ++ name ++ (codes " " ++ decimal limit) ++ 10 ∷ []

-- the line of what passes in a world that was looked at
abbrev pub excess_line : Excess → List ℕ
excess_line (excess.Value name number) = wide_line name number
excess_line (excess.Rows name limit) = rows_line name limit

-- the line of a refusal
abbrev pub refusal_line : Refusal → List ℕ
refusal_line refusal.Words = codes "refused: words" ++ 10 ∷ []
refusal_line (refusal.File name why) = file_line name why
refusal_line (refusal.Syntax place) = line_at (codes "syntax") place
refusal_line (refusal.Unsound fault) = rule_line fault
refusal_line (refusal.Table name why) = table_line name why
refusal_line (refusal.EmptyBounds hypo row) = codes "refused: empty bounds " ++ hypo ++ (codes " " ++ decimal row) ++ 10 ∷ []
refusal_line (refusal.TooWide hypo number) = wide_line hypo number
refusal_line refusal.TooManyWorldColumns = codes "refused: too many world columns 20000000" ++ 10 ∷ []
refusal_line (refusal.TooManyColumns count) = (codes "refused: too many columns " ++ decimal count) ++ 10 ∷ []
refusal_line (refusal.PartTooLarge columns) = (codes "refused: part too large 1 " ++ decimal columns ++ codes " 0") ++ 10 ∷ []
refusal_line (refusal.Unreadable line) = (codes "refused: unreadable answer " ++ decimal line) ++ 10 ∷ []
