use Rattle.std.specs.Prelude.{ℕ, Option, Some, None}
use Rattle.icmc_words.specs.declared.instruction.Instruction.{Instruction}
use Rattle.icmc_words.specs.declared.instruction.Instruction.TheVariants as instruction
use Rattle.page_text.specs.declared.form.NoRegisters.{NoRegisters}
use Rattle.page_text.specs.declared.form.NoRegisters.TheVariants as none
use Rattle.page_text.specs.declared.form.OneRegister.{OneRegister}
use Rattle.page_text.specs.declared.form.OneRegister.TheVariants as one
use Rattle.page_text.specs.declared.form.TwoRegisters.{TwoRegisters}
use Rattle.page_text.specs.declared.form.TwoRegisters.TheVariants as two
use Rattle.page_text.specs.declared.form.ThreeRegisters.{ThreeRegisters}
use Rattle.page_text.specs.declared.form.ThreeRegisters.TheVariants as three
use Rattle.page_text.specs.declared.form.OnStack.{OnStack}
use Rattle.page_text.specs.declared.form.OnStack.TheVariants as stack
use Rattle.page_text.specs.declared.form.Loads.{Loads}
use Rattle.page_text.specs.declared.form.Loads.TheVariants as load

-- the instruction of a statement with no operand, or one, two or three registers
abbrev pub on_none : NoRegisters → Instruction
on_none none.Nop = instruction.Nop
on_none none.Rts = instruction.Rts
on_none none.Breakp = instruction.Breakp
on_none none.Halt = instruction.Halt
on_none none.Clearc = instruction.Clearc
on_none none.Setc = instruction.Setc

abbrev pub on_one : OneRegister → ℕ → Instruction
on_one one.Inc x = instruction.Inc x
on_one one.Dec x = instruction.Dec x
on_one one.Inchar x = instruction.Inchar x

abbrev pub on_two : TwoRegisters → ℕ → ℕ → Instruction
on_two two.Not x y = instruction.Not x y
on_two two.Cmp x y = instruction.Cmp x y
on_two two.Loadi x y = instruction.Loadi x y
on_two two.Storei x y = instruction.Storei x y
on_two two.Outchar x y = instruction.Outchar x y

abbrev pub on_three : ThreeRegisters → ℕ → ℕ → ℕ → Instruction
on_three three.And x y z = instruction.And x y z
on_three three.Or x y z = instruction.Or x y z
on_three three.Xor x y z = instruction.Xor x y z
on_three three.Add x y z = instruction.Add x y z
on_three three.Addc x y z = instruction.Addc x y z
on_three three.Sub x y z = instruction.Sub x y z
on_three three.Subc x y z = instruction.Subc x y z
on_three three.Mul x y z = instruction.Mul x y z
on_three three.Mulc x y z = instruction.Mulc x y z
on_three three.Div x y z = instruction.Div x y z
on_three three.Divc x y z = instruction.Divc x y z
on_three three.Mod x y z = instruction.Mod x y z

-- push and pop: of a register, or of fr
abbrev pub on_stack : OnStack → Option ℕ → Instruction
on_stack stack.Push None = instruction.PushFr
on_stack stack.Push (Some x) = instruction.Push x
on_stack stack.Pop None = instruction.PopFr
on_stack stack.Pop (Some x) = instruction.Pop x

abbrev pub on_load : Loads → ℕ → Instruction
on_load load.Load x = instruction.Load x
on_load load.Loadn x = instruction.Loadn x
