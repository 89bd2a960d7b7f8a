-- The flags after arithmetic and after a comparison.
use Rattle.std.proofs.Common.{◌≡◌, ℕ, ◌+◌, ◌*◌, ◌<◌, Bool, true, false, cond, [], ◌∷◌, pos, refl, ◌∙◌, subst, arith}
use lib.Signed.{lt_z}
use Rattle.std.proofs.lemmas.Int.{ints}
use Rattle.std.proofs.lemmas.Bool.Decides.{nat_tests}
use Rattle.std.proofs.lemmas.Bool.{or_left, or_right, lt-ltb}
use Rattle.icmc_alu.specs.declared.flags.Flag.TheVariants.{Greater, Lesser, Equal, Zero, Carry, Overflow, DivisionByZero, Negative}
use Rattle.icmc_alu.specs.declared.arithmetic.Arithmetic.{Arithmetic}
use Rattle.icmc_alu.specs.declared.arithmetic.Arithmetic.TheVariants.{Sub, Mul}
use Rattle.icmc_alu.specs.declared.arithmetic.Outcome.{Outcome}
use Rattle.icmc_alu.specs.Whole.{whole, arithmetic, is_above, is_below, five_flags}
use Rattle.icmc_alu.specs.Compared.{three_flags}
use Rattle.icmc_alu.specs.Laws.{FiveFlags, LargeProduct, NegativeDifference, ArithmeticLaws, ComparisonLaws}
use Rattle.icmc_alu.proofs.FlagBits.{has_with, kept_but_at}

five_told : (a : Outcome) (fr : ℕ) → FiveFlags a fr (five_flags a fr)
five_told a fr =
    record {
      zero = simp has_with;
      carry = simp has_with;
      overflow = simp has_with;
      by_zero = simp has_with;
      negative = simp has_with;
      others = λ i h t.
          let k = kept_but_at (3 ∷ 4 ∷ 5 ∷ 6 ∷ 9 ∷ []) i h t in
          k Zero _ _ refl ∙ (k Carry _ _ refl ∙ (k Overflow _ _ refl ∙ (k Negative _ _ refl ∙ k DivisionByZero _ _ refl)));
    }

above_product : (y z : ℕ) (c : Bool) → 65535 < y * z → is_above (arithmetic Mul y z c) ≡ true
above_product y z true h = lt-ltb 65535 (y * z + 1) (omega arith)
above_product y z false h = lt-ltb 65535 (y * z + 0) (omega arith)

large_product : (o : Arithmetic) (y z : ℕ) (c : Bool) (fr after : ℕ) → FiveFlags (arithmetic o y z c) fr after → LargeProduct o y z after
large_product o y z c fr after t m h =
    let f = subst (λ (o : Arithmetic). FiveFlags (arithmetic o y z c) fr after) m t in
    let a = above_product y z c h in
    (f.overflow ∙ or_left (is_above (arithmetic Mul y z c)) (is_below (arithmetic Mul y z c)) a, f.carry ∙ a)

below_zero : (y z : ℕ) (c : Bool) → y + cond c 1 0 < z
    → (lt_z (whole Sub y z c) (pos 0) ≡ true) × (lt_z (pos 65535) (whole Sub y z c) ≡ false)
below_zero y z true h = (grind (arith, ints, nat_tests), grind (arith, ints, nat_tests))
below_zero y z false h = (grind (arith, ints, nat_tests), grind (arith, ints, nat_tests))

negative_difference : (o : Arithmetic) (y z : ℕ) (c : Bool) (fr after : ℕ)
    → FiveFlags (arithmetic o y z c) fr after → NegativeDifference o y z c after
negative_difference o y z c fr after t m h =
    let f = subst (λ (o : Arithmetic). FiveFlags (arithmetic o y z c) fr after) m t in
    let b = below_zero y z c h in
    (f.negative ∙ b.0, f.overflow ∙ or_right (is_above (arithmetic Sub y z c)) (is_below (arithmetic Sub y z c)) b.0, f.carry ∙ b.1)

pub arithmetic_laws : (o : Arithmetic) (y z : ℕ) (c : Bool) (fr : ℕ) → ArithmeticLaws o y z c fr (five_flags (arithmetic o y z c) fr)
unfolding ArithmeticLaws
arithmetic_laws o y z c fr =
    let t = five_told (arithmetic o y z c) fr in
    (t, large_product o y z c fr (five_flags (arithmetic o y z c) fr) t, negative_difference o y z c fr (five_flags (arithmetic o y z c) fr) t)

pub comparison_laws : (x y fr : ℕ) → ComparisonLaws x y fr (three_flags x y fr)
unfolding ComparisonLaws
comparison_laws x y fr =
    record {
      greater = simp has_with;
      lesser = simp has_with;
      equal = simp has_with;
      others = λ i h t.
          let k = kept_but_at (0 ∷ 1 ∷ 2 ∷ []) i h t in
          k Greater _ _ refl ∙ (k Lesser _ _ refl ∙ k Equal _ _ refl);
    }
