use Rattle.std.specs.Prelude.{ℕ, ◌/◌, ◌%◌, ◌^◌, Bool, cond, List, [], ◌∷◌, Ok, Err, Result, ◌==◌, nat_lt}
use Rattle.refusal.specs.declared.Refusal.{Refusal}
use Rattle.refusal.specs.declared.Cause.TheVariants.{Unassigned}
use Rattle.refusal.specs.Numbers.{refused}
use Rattle.icmc_words.specs.declared.instruction.ShiftKind.{ShiftKind}
use Rattle.icmc_words.specs.declared.instruction.ShiftKind.TheVariants.{LeftZeros, LeftOnes, RightZeros, RightOnes, RotateLeft, RotateRight}
use Rattle.icmc_words.specs.declared.instruction.Instruction.{Instruction}
use Rattle.icmc_words.specs.declared.instruction.Instruction.TheVariants.{Nop, Rts, Breakp, Halt, Clearc, Setc, Jump, Call, Push, PushFr, Pop, PopFr, Shift, And, Or, Xor, Not, Cmp, Add, Addc, Sub, Subc, Mul, Mulc, Div, Divc, Mod, Inc, Dec, Load, Store, Loadn, Loadi, Storei, Mov, MovFromSp, MovToSp, Outchar, Inchar}
use Rattle.icmc_words.specs.Tables.{row_at}
use Rattle.icmc_words.specs.Conditions.{condition_at}

-- bit i of a word, the lowest being bit 0
abbrev pub bit : ℕ → ℕ → Bool
bit i w = w / 2 ^ i % 2 == 1

-- bits 15 to 10: the op code
abbrev pub op_of : ℕ → ℕ
op_of w = w / 1024

-- bits 9 to 7, 6 to 4 and 3 to 1: three registers
abbrev pub x_of : ℕ → ℕ
x_of w = w / 128 % 8

abbrev pub y_of : ℕ → ℕ
y_of w = w / 16 % 8

abbrev pub z_of : ℕ → ℕ
z_of w = w / 2 % 8

-- bits 3 to 0: a shift's count
abbrev pub n_of : ℕ → ℕ
n_of w = w % 16

-- bits 9 to 6: a condition's number
abbrev pub k_of : ℕ → ℕ
k_of w = w / 64 % 16

-- a word that is no instruction
abbrev pub unassigned : Result Instruction Refusal
unassigned = Err (refused Unassigned 0)

-- a shift's kind, by bits 6 to 4
abbrev pub shift_at : ℕ → ShiftKind
shift_at =
    row_at RotateRight (
    (0, LeftZeros) ∷
    (1, LeftOnes) ∷
    (2, RightZeros) ∷
    (3, RightOnes) ∷
    (4, RotateLeft) ∷
    (5, RotateLeft) ∷
    (6, RotateRight) ∷
    (7, RotateRight) ∷
    [])

-- mov, by bits 1 and 0
abbrev pub mov_at : ℕ → ℕ → ℕ → Instruction
mov_at x y =
    row_at (MovToSp x) (
    (0, Mov x y) ∷
    (1, MovFromSp x) ∷
    (2, Mov x y) ∷
    (3, MovToSp x) ∷
    [])

-- The instruction of a word by its op code, in three tables, for the word's fields. Any other op code is unassigned.

-- control: jumps, calls, the stack, the carry
abbrev pub control_rows : (w x k : ℕ) → List (ℕ × Result Instruction Refusal)
control_rows w x k =
    (0x00, Ok Nop) ∷
    (0x02, cond (nat_lt k 15) (Ok (Jump (condition_at k))) unassigned) ∷
    (0x03, cond (nat_lt k 15) (Ok (Call (condition_at k))) unassigned) ∷
    (0x04, Ok Rts) ∷
    (0x05, Ok (cond (bit 6 w) PushFr (Push x))) ∷
    (0x06, Ok (cond (bit 6 w) PopFr (Pop x))) ∷
    (0x08, Ok (cond (bit 9 w) Setc Clearc)) ∷
    (0x0e, Ok Breakp) ∷
    (0x0f, Ok Halt) ∷
    []

-- calculation: shifts, logic, arithmetic
abbrev pub calculation_rows : (w x y z : ℕ) → List (ℕ × Result Instruction Refusal)
calculation_rows w x y z =
    (0x10, Ok (Shift (shift_at y) x (n_of w))) ∷
    (0x12, Ok (And x y z)) ∷
    (0x13, Ok (Or x y z)) ∷
    (0x14, Ok (Xor x y z)) ∷
    (0x15, Ok (Not x y)) ∷
    (0x16, Ok (Cmp x y)) ∷
    (0x20, Ok (cond (bit 0 w) (Addc x y z) (Add x y z))) ∷
    (0x21, Ok (cond (bit 0 w) (Subc x y z) (Sub x y z))) ∷
    (0x22, Ok (cond (bit 0 w) (Mulc x y z) (Mul x y z))) ∷
    (0x23, Ok (cond (bit 0 w) (Divc x y z) (Div x y z))) ∷
    (0x24, Ok (cond (bit 6 w) (Dec x) (Inc x))) ∷
    (0x25, Ok (Mod x y z)) ∷
    []

-- transfer: between registers, memory, screen and keys
abbrev pub transfer_rows : (w x y : ℕ) → List (ℕ × Result Instruction Refusal)
transfer_rows w x y =
    (0x30, Ok (Load x)) ∷
    (0x31, Ok (Store x)) ∷
    (0x32, Ok (Outchar x y)) ∷
    (0x33, Ok (mov_at x y (w % 4))) ∷
    (0x35, Ok (Inchar x)) ∷
    (0x38, cond (bit 0 w) unassigned (Ok (Loadn x))) ∷
    (0x3c, Ok (Loadi x y)) ∷
    (0x3d, Ok (Storei x y)) ∷
    []

abbrev pub transfer : ℕ → Result Instruction Refusal
transfer w = row_at unassigned (transfer_rows w (x_of w) (y_of w)) (op_of w)

abbrev pub calculation : ℕ → Result Instruction Refusal
calculation w = row_at (transfer w) (calculation_rows w (x_of w) (y_of w) (z_of w)) (op_of w)

-- what a word means
abbrev pub decoded : ℕ → Result Instruction Refusal
decoded w = row_at (calculation w) (control_rows w (x_of w) (k_of w)) (op_of w)
