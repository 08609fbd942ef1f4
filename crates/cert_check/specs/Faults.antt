-- How a check tells the fault of a world.
use Rattle.std.specs.Prelude.{Result, Ok, Err}
use Rattle.world_def.specs.declared.fault.EvalFault.{EvalFault}
use Rattle.world_def.specs.declared.fault.EvalFault.TheVariants as eval
use Rattle.cert_check.specs.declared.fault.CheckFault.{CheckFault}
use Rattle.cert_check.specs.declared.fault.CheckFault.TheVariants as fault

-- with the relation that asked for the value that is too large, or the view that has too many rows
abbrev pub as_told : EvalFault → CheckFault
as_told (eval.Wide source number) = fault.Wide source number
as_told (eval.TooManyRows view limit) = fault.TooManyRows view limit
as_told eval.Memory = fault.Memory

-- what is asked, with its fault as a check tells it
abbrev pub asking : {A : Type 0} → Result A EvalFault → Result A CheckFault
asking (Ok a) = Ok a
asking (Err cause) = Err (as_told cause)
