-- Why there is no program, by why there are no columns.
use Rattle.used_columns.specs.declared.fault.ColumnsFault.{ColumnsFault}
use Rattle.used_columns.specs.declared.fault.ColumnsFault.TheVariants as columns_fault
use Rattle.program_rows.specs.declared.fault.ProgramFault.{ProgramFault}
use Rattle.program_rows.specs.declared.fault.ProgramFault.TheVariants as fault

abbrev pub fault_of : ColumnsFault → ProgramFault
fault_of (columns_fault.TooManyColumns count) = fault.TooManyColumns count
fault_of columns_fault.Memory = fault.Memory
