use Rattle.std.specs.Prelude.{ℕ, ◌+◌, ◌%◌, replicate, slice_index, slice_set}
use Rattle.processor.specs.declared.Mark.{Mark}
use Rattle.processor.specs.declared.Mark.TheVariants.{Ready, AtBreak, Halted}
use Rattle.icmc_words.specs.declared.instruction.Instruction.{Instruction}
use Rattle.icmc_words.specs.declared.instruction.Instruction.TheVariants.{Nop, Rts, Breakp, Halt, Clearc, Setc, Jump, Call, Push, PushFr, Pop, PopFr, Shift, And, Or, Xor, Not, Cmp, Add, Addc, Sub, Subc, Mul, Mulc, Div, Divc, Mod, Inc, Dec, Load, Store, Loadn, Loadi, Storei, Mov, MovFromSp, MovToSp, Outchar, Inchar}
use Rattle.icmc.specs.declared.machine.Machine.{Machine}

-- one up and one down, modulo 65,536
abbrev pub up : ℕ → ℕ
up a = (a + 1) % 65536

abbrev pub down : ℕ → ℕ
down a = (a + 65535) % 65536

-- a machine at its start
abbrev pub started : ℕ → Machine
started stack = record { registers = replicate 8 0; pc = 0; fr = 0; sp = stack; keys = 0; mark = Ready }

-- what a register holds; a register's number has three bits
abbrev pub reg : Machine → ℕ → ℕ
reg m x = slice_index m.registers (x % 8)

-- a machine with one of its parts written
abbrev pub with_reg : Machine → ℕ → ℕ → Machine
with_reg m x v = record { registers = slice_set m.registers (x % 8) v; pc = m.pc; fr = m.fr; sp = m.sp; keys = m.keys; mark = m.mark }

abbrev pub with_pc : Machine → ℕ → Machine
with_pc m v = record { registers = m.registers; pc = v; fr = m.fr; sp = m.sp; keys = m.keys; mark = m.mark }

abbrev pub with_fr : Machine → ℕ → Machine
with_fr m v = record { registers = m.registers; pc = m.pc; fr = v; sp = m.sp; keys = m.keys; mark = m.mark }

abbrev pub with_sp : Machine → ℕ → Machine
with_sp m v = record { registers = m.registers; pc = m.pc; fr = m.fr; sp = v; keys = m.keys; mark = m.mark }

abbrev pub with_keys : Machine → ℕ → Machine
with_keys m v = record { registers = m.registers; pc = m.pc; fr = m.fr; sp = m.sp; keys = v; mark = m.mark }

abbrev pub with_mark : Machine → Mark → Machine
with_mark m v = record { registers = m.registers; pc = m.pc; fr = m.fr; sp = m.sp; keys = m.keys; mark = v }

-- the mark that each instruction leaves
abbrev pub mark_after : Instruction → Mark
mark_after Nop = Ready
mark_after Rts = Ready
mark_after Breakp = AtBreak
mark_after Halt = Halted
mark_after Clearc = Ready
mark_after Setc = Ready
mark_after (Jump k) = Ready
mark_after (Call k) = Ready
mark_after (Push x) = Ready
mark_after PushFr = Ready
mark_after (Pop x) = Ready
mark_after PopFr = Ready
mark_after (Shift s x c) = Ready
mark_after (And x y z) = Ready
mark_after (Or x y z) = Ready
mark_after (Xor x y z) = Ready
mark_after (Not x y) = Ready
mark_after (Cmp x y) = Ready
mark_after (Add x y z) = Ready
mark_after (Addc x y z) = Ready
mark_after (Sub x y z) = Ready
mark_after (Subc x y z) = Ready
mark_after (Mul x y z) = Ready
mark_after (Mulc x y z) = Ready
mark_after (Div x y z) = Ready
mark_after (Divc x y z) = Ready
mark_after (Mod x y z) = Ready
mark_after (Inc x) = Ready
mark_after (Dec x) = Ready
mark_after (Load x) = Ready
mark_after (Store x) = Ready
mark_after (Loadn x) = Ready
mark_after (Loadi x y) = Ready
mark_after (Storei x y) = Ready
mark_after (Mov x y) = Ready
mark_after (MovFromSp x) = Ready
mark_after (MovToSp x) = Ready
mark_after (Outchar x y) = Ready
mark_after (Inchar x) = Ready
