use Rattle.std.specs.Prelude.{ℕ}
use Rattle.icmc_words.specs.declared.instruction.Instruction.{Instruction}
use Rattle.icmc_words.specs.declared.instruction.Instruction.TheVariants.{Nop, Rts, Breakp, Halt, Clearc, Setc, Jump, Call, Push, PushFr, Pop, PopFr, Shift, And, Or, Xor, Not, Cmp, Add, Addc, Sub, Subc, Mul, Mulc, Div, Divc, Mod, Inc, Dec, Load, Store, Loadn, Loadi, Storei, Mov, MovFromSp, MovToSp, Outchar, Inchar}

-- how many words each instruction takes: two where an address or a number follows the first
abbrev pub size : Instruction → ℕ
size (Jump k) = 2
size (Call k) = 2
size (Load x) = 2
size (Store x) = 2
size (Loadn x) = 2
size Nop = 1
size Rts = 1
size Breakp = 1
size Halt = 1
size Clearc = 1
size Setc = 1
size (Push x) = 1
size PushFr = 1
size (Pop x) = 1
size PopFr = 1
size (Shift s x n) = 1
size (And x y z) = 1
size (Or x y z) = 1
size (Xor x y z) = 1
size (Not x y) = 1
size (Cmp x y) = 1
size (Add x y z) = 1
size (Addc x y z) = 1
size (Sub x y z) = 1
size (Subc x y z) = 1
size (Mul x y z) = 1
size (Mulc x y z) = 1
size (Div x y z) = 1
size (Divc x y z) = 1
size (Mod x y z) = 1
size (Inc x) = 1
size (Dec x) = 1
size (Loadi x y) = 1
size (Storei x y) = 1
size (Mov x y) = 1
size (MovFromSp x) = 1
size (MovToSp x) = 1
size (Outchar x y) = 1
size (Inchar x) = 1
