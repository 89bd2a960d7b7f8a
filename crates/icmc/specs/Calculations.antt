use Rattle.std.specs.Prelude.{ℕ, ◌%◌, false}
use Rattle.icmc_words.specs.declared.instruction.Instruction.{Instruction}
use Rattle.icmc_words.specs.declared.instruction.Instruction.TheVariants.{Nop, Rts, Breakp, Halt, Clearc, Setc, Jump, Call, Push, PushFr, Pop, PopFr, Shift, And, Or, Xor, Not, Cmp, Add, Addc, Sub, Subc, Mul, Mulc, Div, Divc, Mod, Inc, Dec, Load, Store, Loadn, Loadi, Storei, Mov, MovFromSp, MovToSp, Outchar, Inchar}
use Rattle.icmc_alu.specs.declared.arithmetic.Arithmetic.TheVariants as arithmetic
use Rattle.icmc_alu.specs.declared.arithmetic.Executed.{Executed}
use Rattle.icmc_alu.specs.declared.flags.Flag.TheVariants.{Carry}
use Rattle.icmc_alu.specs.declared.logic.Logic.TheVariants as logic
use Rattle.icmc_alu.specs.Compared.{compared}
use Rattle.icmc_alu.specs.Flags.{has_flag, with_zero}
use Rattle.icmc_alu.specs.Logic.{logic_word}
use Rattle.icmc_alu.specs.Shifts.{shifted}
use Rattle.icmc_alu.specs.Whole.{executed}
use Rattle.icmc.specs.declared.machine.Machine.{Machine}
use Rattle.icmc.specs.Machines.{reg, with_reg, with_fr}

-- an arithmetic result in x, and the flags that go with it
abbrev pub with_arithmetic : Machine → ℕ → Executed → Machine
with_arithmetic m x a = with_fr (with_reg m x a.word) a.fr

-- a result of logic, a shift or a rotation in x, and the zero flag
abbrev pub with_logic : Machine → ℕ → ℕ → ℕ → Machine
with_logic m x word fr = with_fr (with_reg m x word) (with_zero word fr)

-- what each calculation makes of the machine: m is the machine before the instruction, n the same with its mark and PC moved on;
-- the other instructions calculate nothing
abbrev pub calculated : Instruction → Machine → Machine → Machine
calculated Nop m n = n
calculated Rts m n = n
calculated Breakp m n = n
calculated Halt m n = n
calculated Clearc m n = n
calculated Setc m n = n
calculated (Jump k) m n = n
calculated (Call k) m n = n
calculated (Push x) m n = n
calculated PushFr m n = n
calculated (Pop x) m n = n
calculated PopFr m n = n
calculated (Shift s x c) m n = with_logic n x (shifted s (reg m x) (c % 16)) m.fr
calculated (And x y z) m n = with_logic n x (logic_word logic.And (reg m y) (reg m z)) m.fr
calculated (Or x y z) m n = with_logic n x (logic_word logic.Or (reg m y) (reg m z)) m.fr
calculated (Xor x y z) m n = with_logic n x (logic_word logic.Xor (reg m y) (reg m z)) m.fr
calculated (Not x y) m n = with_logic n x (logic_word logic.Not (reg m y) 0) m.fr
calculated (Cmp x y) m n = with_fr n (compared (reg m x) (reg m y) m.fr)
calculated (Add x y z) m n = with_arithmetic n x (executed arithmetic.Add (reg m y) (reg m z) false m.fr)
calculated (Addc x y z) m n = with_arithmetic n x (executed arithmetic.Add (reg m y) (reg m z) (has_flag Carry m.fr) m.fr)
calculated (Sub x y z) m n = with_arithmetic n x (executed arithmetic.Sub (reg m y) (reg m z) false m.fr)
calculated (Subc x y z) m n = with_arithmetic n x (executed arithmetic.Sub (reg m y) (reg m z) (has_flag Carry m.fr) m.fr)
calculated (Mul x y z) m n = with_arithmetic n x (executed arithmetic.Mul (reg m y) (reg m z) false m.fr)
calculated (Mulc x y z) m n = with_arithmetic n x (executed arithmetic.Mul (reg m y) (reg m z) (has_flag Carry m.fr) m.fr)
calculated (Div x y z) m n = with_arithmetic n x (executed arithmetic.Div (reg m y) (reg m z) false m.fr)
calculated (Divc x y z) m n = with_arithmetic n x (executed arithmetic.Div (reg m y) (reg m z) (has_flag Carry m.fr) m.fr)
calculated (Mod x y z) m n = with_arithmetic n x (executed arithmetic.Mod (reg m y) (reg m z) false m.fr)
calculated (Inc x) m n = with_arithmetic n x (executed arithmetic.Add (reg m x) 1 false m.fr)
calculated (Dec x) m n = with_arithmetic n x (executed arithmetic.Sub (reg m x) 1 false m.fr)
calculated (Load x) m n = n
calculated (Store x) m n = n
calculated (Loadn x) m n = n
calculated (Loadi x y) m n = n
calculated (Storei x y) m n = n
calculated (Mov x y) m n = n
calculated (MovFromSp x) m n = n
calculated (MovToSp x) m n = n
calculated (Outchar x y) m n = n
calculated (Inchar x) m n = n

-- the same, shut to proofs that need not look inside
unfoldable pub calculation : Instruction → Machine → Machine → Machine
calculation i m n = calculated i m n
