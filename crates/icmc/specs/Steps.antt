use Rattle.std.specs.Prelude.{ℕ, ◌+◌, ◌%◌, true, false, cond, Some, None, Ok, Err, Option, Result, ◌==◌, nat_lt}
use Rattle.refusal.specs.declared.Refusal.{Refusal}
use Rattle.processor.specs.declared.Mark.{Mark}
use Rattle.processor.specs.declared.Mark.TheVariants.{Ready, AtBreak, Halted}
use Rattle.processor.specs.declared.Next.{Next}
use Rattle.processor.specs.declared.Side.{Side}
use Rattle.processor.specs.declared.Side.TheVariants.{Memory, Screen}
use Rattle.processor.specs.Views.{View, Fault, unassigned, look}
use Rattle.processor.specs.Rules.{Rules}
use Rattle.icmc_words.specs.declared.instruction.Instruction.{Instruction}
use Rattle.icmc_words.specs.declared.instruction.Instruction.TheVariants.{Nop, Rts, Breakp, Halt, Clearc, Setc, Jump, Call, Push, PushFr, Pop, PopFr, Shift, And, Or, Xor, Not, Cmp, Add, Addc, Sub, Subc, Mul, Mulc, Div, Divc, Mod, Inc, Dec, Load, Store, Loadn, Loadi, Storei, Mov, MovFromSp, MovToSp, Outchar, Inchar}
use Rattle.icmc_words.specs.Decoded.{decoded}
use Rattle.icmc_words.specs.Sizes.{size}
use Rattle.icmc_alu.specs.declared.flags.Flag.TheVariants.{Carry}
use Rattle.icmc_alu.specs.Conditions.{holds}
use Rattle.icmc_alu.specs.Flags.{with_flag}
use Rattle.icmc.specs.declared.machine.Machine.{Machine}
use Rattle.icmc.specs.Machines.{up, down, started, reg, with_reg, with_pc, with_fr, with_sp, with_keys, with_mark, mark_after}
use Rattle.icmc.specs.Calculations.{calculation}

-- go on with what was read, or keep the fault
abbrev pub then : {X Y : Type 0} → Result X Fault → (X → Result Y Fault) → Result Y Fault
then (Ok x) f = f x
then (Err e) f = Err e

-- the machine after the instruction, and no cell written
abbrev pub quiet : Machine → Result (Next Machine) Fault
quiet n = Ok (record { after = n; write = None })

-- the same, with a word for a cell
abbrev pub into_cell : Side → ℕ → ℕ → Machine → Result (Next Machine) Fault
into_cell s a w n = Ok (record { after = n; write = Some (record { side = s; at = a; word = w }) })

abbrev pub into_memory : ℕ → ℕ → Machine → Result (Next Machine) Fault
into_memory a w n = into_cell Memory a w n

abbrev pub into_screen : ℕ → ℕ → Machine → Result (Next Machine) Fault
into_screen a w n = into_cell Screen a w n

-- a machine that goes by a word of the memory
abbrev pub from_memory : View → ℕ → (ℕ → Machine) → Result (Next Machine) Fault
from_memory v a f = then (look v Memory a) (λ w. quiet (f w))

-- the next key modulo 256 in x, and one more counted; with no key 255 in x, and the count stays
abbrev pub with_key : Option ℕ → Machine → ℕ → Machine
with_key (Some key) m x = with_keys (with_reg m x (key % 256)) (m.keys + 1)
with_key None m x = with_reg m x 255

-- what each instruction does: e is its second word, m the machine before it, n the same with its mark and PC moved on, v what can be seen
abbrev pub performed : Instruction → ℕ → Machine → Machine → View → Result (Next Machine) Fault
performed Nop e m n v = quiet n
performed Rts e m n v = from_memory v (up m.sp) (λ w. with_sp (with_pc n (up w)) (up m.sp))
performed Breakp e m n v = quiet n
performed Halt e m n v = quiet n
performed Clearc e m n v = quiet (with_fr n (with_flag Carry false m.fr))
performed Setc e m n v = quiet (with_fr n (with_flag Carry true m.fr))
performed (Jump k) e m n v = quiet (cond (holds k m.fr) (with_pc n e) n)
performed (Call k) e m n v = cond (holds k m.fr) (into_memory m.sp (up m.pc) (with_sp (with_pc n e) (down m.sp))) (quiet n)
performed (Push x) e m n v = into_memory m.sp (reg m x) (with_sp n (down m.sp))
performed PushFr e m n v = into_memory m.sp m.fr (with_sp n (down m.sp))
performed (Pop x) e m n v = from_memory v (up m.sp) (λ w. with_sp (with_reg n x w) (up m.sp))
performed PopFr e m n v = from_memory v (up m.sp) (λ w. with_sp (with_fr n w) (up m.sp))
performed (Shift s x c) e m n v = quiet (calculation (Shift s x c) m n)
performed (And x y z) e m n v = quiet (calculation (And x y z) m n)
performed (Or x y z) e m n v = quiet (calculation (Or x y z) m n)
performed (Xor x y z) e m n v = quiet (calculation (Xor x y z) m n)
performed (Not x y) e m n v = quiet (calculation (Not x y) m n)
performed (Cmp x y) e m n v = quiet (calculation (Cmp x y) m n)
performed (Add x y z) e m n v = quiet (calculation (Add x y z) m n)
performed (Addc x y z) e m n v = quiet (calculation (Addc x y z) m n)
performed (Sub x y z) e m n v = quiet (calculation (Sub x y z) m n)
performed (Subc x y z) e m n v = quiet (calculation (Subc x y z) m n)
performed (Mul x y z) e m n v = quiet (calculation (Mul x y z) m n)
performed (Mulc x y z) e m n v = quiet (calculation (Mulc x y z) m n)
performed (Div x y z) e m n v = quiet (calculation (Div x y z) m n)
performed (Divc x y z) e m n v = quiet (calculation (Divc x y z) m n)
performed (Mod x y z) e m n v = quiet (calculation (Mod x y z) m n)
performed (Inc x) e m n v = quiet (calculation (Inc x) m n)
performed (Dec x) e m n v = quiet (calculation (Dec x) m n)
performed (Load x) e m n v = from_memory v e (λ w. with_reg n x w)
performed (Store x) e m n v = into_memory e (reg m x) n
performed (Loadn x) e m n v = quiet (with_reg n x e)
performed (Loadi x y) e m n v = from_memory v (reg m y) (λ w. with_reg n x w)
performed (Storei x y) e m n v = into_memory (reg m x) (reg m y) n
performed (Mov x y) e m n v = quiet (with_reg n x (reg m y))
performed (MovFromSp x) e m n v = quiet (with_reg n x m.sp)
performed (MovToSp x) e m n v = quiet (with_sp n (reg m x))
performed (Outchar x y) e m n v = into_screen (reg m y) (reg m x) n
performed (Inchar x) e m n v = quiet (with_key (v.keys n.keys) n x)

-- an instruction with its second word, if it has one
abbrev pub moved_on : Instruction → ℕ → Machine → View → Result (Next Machine) Fault
moved_on i e m v = performed i e m (with_mark (with_pc m ((m.pc + size i) % 65536)) (mark_after i)) v

-- the same, shut to proofs that need not look inside
unfoldable pub carried_out : Instruction → ℕ → Machine → View → Result (Next Machine) Fault
carried_out i e m v = moved_on i e m v

-- the second word is fetched only where there is one
abbrev pub with_operand : Instruction → Machine → View → Result (Next Machine) Fault
with_operand i m v =
    cond (size i == 2) (then (look v Memory (up m.pc)) (λ e. carried_out i e m v)) (carried_out i 0 m v)

-- what a word means, shut to proofs that need not look inside
unfoldable pub meaning : ℕ → Result Instruction Refusal
meaning w = decoded w

-- the word at PC, decoded; one that is no instruction is refused with its address
abbrev pub by_word : Result Instruction Refusal → Machine → View → Result (Next Machine) Fault
by_word (Ok i) m v = with_operand i m v
by_word (Err e) m v = Err (unassigned m.pc)

abbrev pub fetched : Machine → View → Result (Next Machine) Fault
fetched m v = then (look v Memory m.pc) (λ w. by_word (meaning w) m v)

-- a halted machine does no instruction
abbrev pub by_mark : Mark → Machine → View → Result (Next Machine) Fault
by_mark Ready m v = fetched m v
by_mark AtBreak m v = fetched m v
by_mark Halted m v = quiet m

-- one instruction, shut to proofs that need not look inside
unfoldable pub next_of : Machine → View → Result (Next Machine) Fault
next_of m v = by_mark m.mark m v

-- registers by number: R0 to R7, then PC, FR and SP
abbrev pub shown_register : Machine → ℕ → Option ℕ
shown_register m n =
    cond (nat_lt n 8) (Some (reg m n)) (cond (n == 8) (Some m.pc) (cond (n == 9) (Some m.fr) (cond (n == 10) (Some m.sp) None)))

abbrev pub machine_rules : Rules Machine
machine_rules = record { start = started; next = next_of; mark = λ m. m.mark; register = shown_register }
