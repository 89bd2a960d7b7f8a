use Rattle.std.specs.Prelude.{ℕ, ◌/◌, ◌%◌, Bool, false, cond, ◌||◌, Some, None, ℤ, pos, ◌+ℤ◌, ◌-ℤ◌, ◌*ℤ◌, ◌==◌, int_lt, unsigned_abs}
use Rattle.std.specs.Int.{int_rem_euclid}
use Rattle.std.specs.Option.{is_none, unwrap_or}
use Rattle.icmc_alu.specs.Flags.{with_flag}
use Rattle.icmc_alu.specs.declared.flags.Flag.TheVariants.{Zero, Carry, Overflow, DivisionByZero, Negative}
use Rattle.icmc_alu.specs.declared.arithmetic.Arithmetic.{Arithmetic}
use Rattle.icmc_alu.specs.declared.arithmetic.Arithmetic.TheVariants.{Add, Sub, Mul, Div, Mod}
use Rattle.icmc_alu.specs.declared.arithmetic.Outcome.{Outcome}
use Rattle.icmc_alu.specs.declared.arithmetic.Executed.{Executed}

-- a carry that is added
abbrev pub carried : Bool → ℤ
carried c = cond c (pos 1) (pos 0)

-- the whole number of each operation, with no bound on either side; a zero divisor makes it 0, carry or not, and mod adds no carry
abbrev pub whole : Arithmetic → ℕ → ℕ → Bool → ℤ
whole Add y z c = pos y +ℤ pos z +ℤ carried c
whole Sub y z c = pos y -ℤ pos z +ℤ carried c
whole Mul y z c = pos y *ℤ pos z +ℤ carried c
whole Div y z c = cond (z == 0) (pos 0) (pos (y / z) +ℤ carried c)
whole Mod y z c = cond (z == 0) (pos 0) (pos (y % z))

-- a division, or a remainder, by zero
abbrev pub divides_by_zero : Arithmetic → ℕ → Bool
divides_by_zero Add z = false
divides_by_zero Sub z = false
divides_by_zero Mul z = false
divides_by_zero Div z = z == 0
divides_by_zero Mod z = z == 0

-- a whole number modulo 65,536, which is never negative
abbrev pub modulo_word : ℤ → ℕ
modulo_word e = unsigned_abs (int_rem_euclid e (pos 65536))

-- what each operation makes: its whole number, but none where it divides by zero
abbrev pub arithmetic : Arithmetic → ℕ → ℕ → Bool → Outcome
arithmetic o y z c = record { whole = cond (divides_by_zero o z) None (Some (whole o y z c)) }

-- where none was made, 0 stands for it
abbrev pub number_of : Outcome → ℤ
number_of a = unwrap_or a.whole (pos 0)

abbrev pub word_of : Outcome → ℕ
word_of a = modulo_word (number_of a)

-- on which side of the words it lies
abbrev pub is_above : Outcome → Bool
is_above a = int_lt (pos 65535) (number_of a)

abbrev pub is_below : Outcome → Bool
is_below a = int_lt (number_of a) (pos 0)

-- FR with five flags written for a word, above or below the words, by a division by zero or not
abbrev pub arithmetic_flags : ℕ → Bool → Bool → Bool → ℕ → ℕ
arithmetic_flags w above below by_zero fr =
    with_flag Zero (w == 0)
    (with_flag Carry above
    (with_flag Overflow (above || below)
    (with_flag Negative below
    (with_flag DivisionByZero by_zero fr))))

-- FR after arithmetic: five flags are written
abbrev pub five_flags : Outcome → ℕ → ℕ
five_flags a fr =
    with_flag Zero (word_of a == 0)
    (with_flag Carry (is_above a)
    (with_flag Overflow (is_above a || is_below a)
    (with_flag Negative (is_below a)
    (with_flag DivisionByZero (is_none a.whole) fr))))

-- the word of an operation, and FR after it
abbrev pub performed : Arithmetic → ℕ → ℕ → Bool → ℕ → Executed
performed o y z c before = record { word = word_of (arithmetic o y z c); fr = five_flags (arithmetic o y z c) before }

-- the same, shut for those that need not look inside
unfoldable pub executed : Arithmetic → ℕ → ℕ → Bool → ℕ → Executed
executed o y z c before = performed o y z c before
