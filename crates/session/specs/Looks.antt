use Rattle.std.specs.Prelude.{ℕ, Some, None, Ok, Err, Option, Result}
use Rattle.refusal.specs.declared.Cause.TheVariants.{NoSuchRegister}
use Rattle.processor.specs.Views.{Fault, look}
use Rattle.processor.specs.Rules.{Rules, State}
use Rattle.session.specs.declared.looks.Spot.{Spot}
use Rattle.session.specs.declared.looks.Spot.TheVariants.{Register, Cell}
use Rattle.session.specs.Snapshots.{Reason, rule, fault}

abbrev pub register_or : Option ℕ → Result ℕ Reason
register_or (Some w) = Ok w
register_or None = Err (rule NoSuchRegister)

abbrev pub cell_or : Result ℕ Fault → Result ℕ Reason
cell_or (Ok w) = Ok w
cell_or (Err f) = Err (fault f)

-- what a look shows: a register, or a cell of the memory or the screen
abbrev pub looked : {P : Type 0} → Rules P → Spot → State P → Result ℕ Reason
looked r (Register n) s = register_or (r.register s.processor n)
looked r (Cell side a) s = cell_or (look s.view side a)
