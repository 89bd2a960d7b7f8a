use Rattle.std.specs.Prelude.{ℕ, ◌+◌, ◌*◌, ◌^◌, ◌<◌, Bool, true, cond, ◌&&◌, List, [], ◌∷◌, Ok, Err, Result, nat_lt}
use Rattle.std.specs.List.{AllByRecursion}
use Rattle.refusal.specs.declared.Refusal.{Refusal}
use Rattle.refusal.specs.declared.Cause.TheVariants.{OutOfRange}
use Rattle.refusal.specs.Numbers.{refused}
use Rattle.icmc_words.specs.declared.instruction.ShiftKind.{ShiftKind}
use Rattle.icmc_words.specs.declared.instruction.ShiftKind.TheVariants.{LeftZeros, LeftOnes, RightZeros, RightOnes, RotateLeft, RotateRight}
use Rattle.icmc_words.specs.declared.instruction.Instruction.{Instruction}
use Rattle.icmc_words.specs.declared.instruction.Instruction.TheVariants.{Nop, Rts, Breakp, Halt, Clearc, Setc, Jump, Call, Push, PushFr, Pop, PopFr, Shift, And, Or, Xor, Not, Cmp, Add, Addc, Sub, Subc, Mul, Mulc, Div, Divc, Mod, Inc, Dec, Load, Store, Loadn, Loadi, Storei, Mov, MovFromSp, MovToSp, Outchar, Inchar}
use Rattle.icmc_words.specs.Conditions.{number}

-- an operand in a word: its value, the bound that it has to stay below, and what its lowest bit is worth
pub record Field : Type 0 where
  pub value : ℕ
  pub bound : ℕ
  pub unit : ℕ

-- registers in bits 9 to 7, 6 to 4 and 3 to 1; a shift's count in bits 3 to 0
abbrev pub in_x : ℕ → Field
in_x x = record { value = x; bound = 8; unit = 2 ^ 7 }

abbrev pub in_y : ℕ → Field
in_y y = record { value = y; bound = 8; unit = 2 ^ 4 }

abbrev pub in_z : ℕ → Field
in_z z = record { value = z; bound = 8; unit = 2 ^ 1 }

abbrev pub in_n : ℕ → Field
in_n n = record { value = n; bound = 16; unit = 1 }

-- an instruction in a word: its op code, what its extension bits are worth, its operands
pub record Layout : Type 0 where
  pub op : ℕ
  pub extension : ℕ
  pub fields : List Field

abbrev pub plain : ℕ → ℕ → Layout
plain o e = record { op = o; extension = e; fields = [] }

abbrev pub on_x : ℕ → ℕ → ℕ → Layout
on_x o e x = record { op = o; extension = e; fields = in_x x ∷ [] }

abbrev pub on_xy : ℕ → ℕ → ℕ → ℕ → Layout
on_xy o e x y = record { op = o; extension = e; fields = in_x x ∷ in_y y ∷ [] }

abbrev pub on_xyz : ℕ → ℕ → ℕ → ℕ → ℕ → Layout
on_xyz o e x y z = record { op = o; extension = e; fields = in_x x ∷ in_y y ∷ in_z z ∷ [] }

abbrev pub on_xn : ℕ → ℕ → ℕ → ℕ → Layout
on_xn o e x n = record { op = o; extension = e; fields = in_x x ∷ in_n n ∷ [] }

-- a shift's kind as bits 6 to 4; of two codes for a rotation, the lower
abbrev pub kind_bits : ShiftKind → ℕ
kind_bits LeftZeros = 0
kind_bits LeftOnes = 1
kind_bits RightZeros = 2
kind_bits RightOnes = 3
kind_bits RotateLeft = 4
kind_bits RotateRight = 6

-- op code, extension bits and operands of each instruction
abbrev pub layout : Instruction → Layout
layout Nop = plain 0x00 0
layout (Jump k) = plain 0x02 (number k * 2 ^ 6)
layout (Call k) = plain 0x03 (number k * 2 ^ 6)
layout Rts = plain 0x04 0
layout (Push x) = on_x 0x05 0 x
layout PushFr = plain 0x05 (2 ^ 6)
layout (Pop x) = on_x 0x06 0 x
layout PopFr = plain 0x06 (2 ^ 6)
layout Clearc = plain 0x08 0
layout Setc = plain 0x08 (2 ^ 9)
layout Breakp = plain 0x0e 0
layout Halt = plain 0x0f 0
layout (Shift s x n) = on_xn 0x10 (kind_bits s * 2 ^ 4) x n
layout (And x y z) = on_xyz 0x12 0 x y z
layout (Or x y z) = on_xyz 0x13 0 x y z
layout (Xor x y z) = on_xyz 0x14 0 x y z
layout (Not x y) = on_xy 0x15 0 x y
layout (Cmp x y) = on_xy 0x16 0 x y
layout (Add x y z) = on_xyz 0x20 0 x y z
layout (Addc x y z) = on_xyz 0x20 1 x y z
layout (Sub x y z) = on_xyz 0x21 0 x y z
layout (Subc x y z) = on_xyz 0x21 1 x y z
layout (Mul x y z) = on_xyz 0x22 0 x y z
layout (Mulc x y z) = on_xyz 0x22 1 x y z
layout (Div x y z) = on_xyz 0x23 0 x y z
layout (Divc x y z) = on_xyz 0x23 1 x y z
layout (Inc x) = on_x 0x24 0 x
layout (Dec x) = on_x 0x24 (2 ^ 6) x
layout (Mod x y z) = on_xyz 0x25 0 x y z
layout (Load x) = on_x 0x30 0 x
layout (Store x) = on_x 0x31 0 x
layout (Outchar x y) = on_xy 0x32 0 x y
layout (Mov x y) = on_xy 0x33 0 x y
layout (MovFromSp x) = on_x 0x33 1 x
layout (MovToSp x) = on_x 0x33 3 x
layout (Inchar x) = on_x 0x35 0 x
layout (Loadn x) = on_x 0x38 0 x
layout (Loadi x y) = on_xy 0x3c 0 x y
layout (Storei x y) = on_xy 0x3d 0 x y

-- each operand is below its bound: as a test, and as a fact
abbrev pub in_bounds : List Field → Bool
in_bounds [] = true
in_bounds (f ∷ fs) = nat_lt f.value f.bound && in_bounds fs

abbrev pub encodable : Instruction → Bool
encodable i = in_bounds (layout i).fields

abbrev pub Within : Instruction → Type 0
Within i = AllByRecursion (λ f. f.value < f.bound) (layout i).fields

-- an instruction that is answered has its operands within their bounds
abbrev pub WithinIfOk : Result Instruction Refusal → Type 0
WithinIfOk (Ok i) = Within i
WithinIfOk (Err e) = Unit {0}

-- what the operands add to the word
abbrev pub worth : List Field → ℕ
worth [] = 0
worth (f ∷ fs) = f.value * f.unit + worth fs

-- the operands alone
abbrev pub joined : List Field → Result ℕ Refusal
joined fs = cond (in_bounds fs) (Ok (worth fs)) (Err (refused OutOfRange 0))

-- the word of an instruction
abbrev pub encoded : Instruction → Result ℕ Refusal
encoded i =
    cond (encodable i)
    (Ok ((layout i).op * 2 ^ 10 + (layout i).extension + worth (layout i).fields))
    (Err (refused OutOfRange 0))
