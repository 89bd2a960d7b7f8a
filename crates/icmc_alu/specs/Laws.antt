use Rattle.std.specs.Prelude.{◌≡◌, ℕ, ◌+◌, ◌*◌, ◌/◌, ◌%◌, ◌^◌, ◌<◌, Bool, true, false, cond, ◌||◌, List, [], ◌∷◌, ◌==◌, nat_lt}
use Rattle.std.specs.Option.{is_none}
use Rattle.icmc_words.specs.Tables.{among}
use Rattle.icmc_alu.specs.Flags.{has_flag}
use Rattle.icmc_alu.specs.Whole.{arithmetic, word_of, is_above, is_below}
use Rattle.icmc_alu.specs.declared.flags.Flag.TheVariants.{Greater, Lesser, Equal, Zero, Carry, Overflow, DivisionByZero, Negative}
use Rattle.icmc_alu.specs.declared.arithmetic.Arithmetic.{Arithmetic}
use Rattle.icmc_alu.specs.declared.arithmetic.Arithmetic.TheVariants.{Sub, Mul}
use Rattle.icmc_alu.specs.declared.arithmetic.Outcome.{Outcome}

-- bit i of a word
abbrev pub bit : ℕ → ℕ → ℕ
bit i w = w / 2 ^ i % 2

-- FR before and after have the same bits, but for those at the places listed
abbrev pub KeptButAt : List ℕ → ℕ → ℕ → Type 0
KeptButAt places before after = (i : ℕ) → i < 16 → among places i ≡ false → bit i after ≡ bit i before

-- each of the five flags of arithmetic tells what its name says, and every other bit is kept
pub record FiveFlags (a : Outcome) (before after : ℕ) : Type 0 where
  pub zero : has_flag Zero after ≡ (word_of a == 0)
  pub carry : has_flag Carry after ≡ is_above a
  pub overflow : has_flag Overflow after ≡ (is_above a || is_below a)
  pub by_zero : has_flag DivisionByZero after ≡ is_none a.whole
  pub negative : has_flag Negative after ≡ is_below a
  pub others : KeptButAt (3 ∷ 4 ∷ 5 ∷ 6 ∷ 9 ∷ []) before after

-- a product above 65,535 sets overflow and carry
abbrev pub LargeProduct : Arithmetic → ℕ → ℕ → ℕ → Type 0
LargeProduct o y z after = o ≡ Mul → 65535 < y * z → (has_flag Overflow after ≡ true) × (has_flag Carry after ≡ true)

-- a difference below zero, the carry added, sets negative and overflow and clears carry
abbrev pub NegativeDifference : Arithmetic → ℕ → ℕ → Bool → ℕ → Type 0
NegativeDifference o y z c after =
    o ≡ Sub → y + cond c 1 0 < z
    → (has_flag Negative after ≡ true) × (has_flag Overflow after ≡ true) × (has_flag Carry after ≡ false)

-- FR after arithmetic, whatever it was before
unfoldable pub ArithmeticLaws : Arithmetic → ℕ → ℕ → Bool → ℕ → ℕ → Type 0
ArithmeticLaws o y z c before after =
    FiveFlags (arithmetic o y z c) before after × LargeProduct o y z after × NegativeDifference o y z c after

-- of the flags of a comparison exactly the one that holds is on, and every other bit is kept
pub record ThreeFlags (x y before after : ℕ) : Type 0 where
  pub greater : has_flag Greater after ≡ nat_lt y x
  pub lesser : has_flag Lesser after ≡ nat_lt x y
  pub equal : has_flag Equal after ≡ (x == y)
  pub others : KeptButAt (0 ∷ 1 ∷ 2 ∷ []) before after

unfoldable pub ComparisonLaws : ℕ → ℕ → ℕ → ℕ → Type 0
ComparisonLaws x y before after = ThreeFlags x y before after
