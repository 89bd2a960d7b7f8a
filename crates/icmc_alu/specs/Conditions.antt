use Rattle.std.specs.Prelude.{ℕ, Bool, true, not, ◌||◌}
use Rattle.icmc_words.specs.declared.instruction.Condition.{Condition}
use Rattle.icmc_words.specs.declared.instruction.Condition.TheVariants.{Always, Equal, NotEqual, Zero, NotZero, Carry, NotCarry, Greater, Lesser, EqualOrGreater, EqualOrLesser, Overflow, NotOverflow, Negative, DivisionByZero}
use Rattle.icmc_alu.specs.declared.flags.Flag.TheVariants as flag
use Rattle.icmc_alu.specs.Flags.{has_flag}

-- whether each condition holds, by the flags
abbrev pub holds : Condition → ℕ → Bool
holds Always fr = true
holds Equal fr = has_flag flag.Equal fr
holds NotEqual fr = not (has_flag flag.Equal fr)
holds Zero fr = has_flag flag.Zero fr
holds NotZero fr = not (has_flag flag.Zero fr)
holds Carry fr = has_flag flag.Carry fr
holds NotCarry fr = not (has_flag flag.Carry fr)
holds Greater fr = has_flag flag.Greater fr
holds Lesser fr = has_flag flag.Lesser fr
holds EqualOrGreater fr = has_flag flag.Equal fr || has_flag flag.Greater fr
holds EqualOrLesser fr = has_flag flag.Equal fr || has_flag flag.Lesser fr
holds Overflow fr = has_flag flag.Overflow fr
holds NotOverflow fr = not (has_flag flag.Overflow fr)
holds Negative fr = has_flag flag.Negative fr
holds DivisionByZero fr = has_flag flag.DivisionByZero fr
