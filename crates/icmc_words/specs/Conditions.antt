use Rattle.std.specs.Prelude.{ℕ, cond, [], ◌∷◌, Ok, Err, Result, nat_lt}
use Rattle.refusal.specs.declared.Refusal.{Refusal}
use Rattle.refusal.specs.declared.Cause.TheVariants.{OutOfRange}
use Rattle.refusal.specs.Numbers.{refused}
use Rattle.icmc_words.specs.declared.instruction.Condition.{Condition}
use Rattle.icmc_words.specs.declared.instruction.Condition.TheVariants.{Always, Equal, NotEqual, Zero, NotZero, Carry, NotCarry, Greater, Lesser, EqualOrGreater, EqualOrLesser, Overflow, NotOverflow, Negative, DivisionByZero}
use Rattle.icmc_words.specs.Tables.{row_at}

-- the number of each condition
abbrev pub number : Condition → ℕ
number Always = 0
number Equal = 1
number NotEqual = 2
number Zero = 3
number NotZero = 4
number Carry = 5
number NotCarry = 6
number Greater = 7
number Lesser = 8
number EqualOrGreater = 9
number EqualOrLesser = 10
number Overflow = 11
number NotOverflow = 12
number Negative = 13
number DivisionByZero = 14

-- the condition of each number below 15; no other is asked for
abbrev pub condition_at : ℕ → Condition
condition_at =
    row_at DivisionByZero (
    (0, Always) ∷
    (1, Equal) ∷
    (2, NotEqual) ∷
    (3, Zero) ∷
    (4, NotZero) ∷
    (5, Carry) ∷
    (6, NotCarry) ∷
    (7, Greater) ∷
    (8, Lesser) ∷
    (9, EqualOrGreater) ∷
    (10, EqualOrLesser) ∷
    (11, Overflow) ∷
    (12, NotOverflow) ∷
    (13, Negative) ∷
    (14, DivisionByZero) ∷
    [])

-- a number that is asked for as a condition
abbrev pub numbered : ℕ → Result Condition Refusal
numbered k = cond (nat_lt k 15) (Ok (condition_at k)) (Err (refused OutOfRange 0))
