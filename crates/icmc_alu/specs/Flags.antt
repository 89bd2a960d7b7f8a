use Rattle.std.specs.Prelude.{ℕ, ◌-◌, ◌^◌, Bool, cond, not, ◌==◌, bit_and, bit_or}
use Rattle.icmc_alu.specs.declared.flags.Flag.{Flag}
use Rattle.icmc_alu.specs.declared.flags.Flag.TheVariants.{Greater, Lesser, Equal, Zero, Carry, Overflow, DivisionByZero, StackOverflow, StackUnderflow, Negative}

-- the bit of each flag in FR
abbrev pub place : Flag → ℕ
place Greater = 0
place Lesser = 1
place Equal = 2
place Zero = 3
place Carry = 4
place Overflow = 5
place DivisionByZero = 6
place StackOverflow = 7
place StackUnderflow = 8
place Negative = 9

-- what that bit is worth
abbrev pub mask : Flag → ℕ
mask f = 2 ^ place f

-- FR with one flag on or off, and every other bit kept
abbrev pub with_flag : Flag → Bool → ℕ → ℕ
with_flag f on fr = cond on (bit_or fr (mask f)) (bit_and fr (65535 - mask f))

-- whether a flag is on
abbrev pub has_flag : Flag → ℕ → Bool
has_flag f fr = not (bit_and fr (mask f) == 0)

-- FR with the zero flag telling whether a word is 0
abbrev pub with_zero : ℕ → ℕ → ℕ
with_zero word fr = with_flag Zero (word == 0) fr
