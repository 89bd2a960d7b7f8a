-- Flags as bits: writing one flag changes its own bit and no other.
use Rattle.std.proofs.Common.{◌≡◌, ℕ, ◌+◌, ◌-◌, ◌*◌, ◌/◌, ◌^◌, ◌<◌, min, max, Bool, true, false, cond, not, ◌&&◌, eqb, List, sym, refl, ap, ◌∙◌, inl, inr, one-mul, zero-mul, arith}
use lib.Bits.{bit_and, bit_or, and_shr, or_shr, and_step, or_step, and_high}
use Rattle.std.proofs.lemmas.Nat.{pow_pos, pow-add}
use Rattle.std.proofs.lemmas.Bool.{and_parts, cases_eq, cond-false, eqb-true, ne_eqb, not_from_false, false≢true}
use Rattle.std.proofs.lemmas.Bool.Decides.{nat_tests}
use Rattle.icmc_words.specs.Tables.{among}
use Rattle.icmc_words.proofs.Below.{upto, upto_at}
use Rattle.icmc_alu.specs.declared.flags.Flag.{Flag}
use Rattle.icmc_alu.specs.declared.flags.Flag.TheVariants.{Greater, Lesser, Equal, Zero, Carry, Overflow, DivisionByZero, StackOverflow, StackUnderflow, Negative}
use Rattle.icmc_alu.specs.Flags.{place, mask, with_flag, has_flag}
use Rattle.icmc_alu.specs.Laws.{bit}

bit_of_or : (i a b : ℕ) → bit i (bit_or a b) ≡ max (bit i a) (bit i b)
bit_of_or i a b = rw (or_shr a b i) (omega (arith, or_step (a / 2 ^ i) (b / 2 ^ i)))

bit_of_and : (i a b : ℕ) → bit i (bit_and a b) ≡ min (bit i a) (bit i b)
bit_of_and i a b = rw (and_shr a b i) (omega (arith, and_step (a / 2 ^ i) (b / 2 ^ i)))

-- the bits of one flag's word, and of all the others together
abbrev masked : ℕ → ℕ → Bool
masked k i = eqb (bit i (2 ^ k)) (cond (eqb i k) 1 0) && eqb (bit i (65535 - 2 ^ k)) (cond (eqb i k) 0 1)

all_masked : upto 16 (λ k. upto 16 (λ i. masked k i)) ≡ true
all_masked = refl

mask_bits : (k i : ℕ) → k < 16 → i < 16 → (bit i (2 ^ k) ≡ cond (eqb i k) 1 0) × (bit i (65535 - 2 ^ k) ≡ cond (eqb i k) 0 1)
mask_bits k i hk hi =
    let t = upto_at 16 (λ j. masked k j) (upto_at 16 (λ l. upto 16 (λ j. masked l j)) all_masked k hk) i hi in
    let p = and_parts (eqb (bit i (2 ^ k)) (cond (eqb i k) 1 0)) (eqb (bit i (65535 - 2 ^ k)) (cond (eqb i k) 0 1)) t in
    (eqb-true (bit i (2 ^ k)) (cond (eqb i k) 1 0) p.0, eqb-true (bit i (65535 - 2 ^ k)) (cond (eqb i k) 0 1) p.1)

place_lt : (f : Flag) → place f < 16
place_lt Greater = omega arith
place_lt Lesser = omega arith
place_lt Equal = omega arith
place_lt Zero = omega arith
place_lt Carry = omega arith
place_lt Overflow = omega arith
place_lt DivisionByZero = omega arith
place_lt StackOverflow = omega arith
place_lt StackUnderflow = omega arith
place_lt Negative = omega arith

-- the bits after one flag was written
pub bit_with : (f : Flag) (on : Bool) (fr i : ℕ) → i < 16 → bit i (with_flag f on fr) ≡ cond (eqb i (place f)) (cond on 1 0) (bit i fr)
bit_with f true fr i h =
    let m = (mask_bits (place f) i (place_lt f) h).0 in
    bit_of_or i fr (mask f) ∙ rw m (grind (arith, nat_tests))
bit_with f false fr i h =
    let m = (mask_bits (place f) i (place_lt f) h).1 in
    bit_of_and i fr (65535 - mask f) ∙ rw m (grind (arith, nat_tests))

-- a flag is on where its bit is 1
bit_on : (b p : ℕ) → b < 2 → 0 < p → not (eqb (b * p) 0) ≡ eqb b 1
bit_on b p hb hp =
    elim (cases_eq b 0) [
      | inl e ↦ rw e (rw (zero-mul p) refl)
      | inr ne ↦ let o : b ≡ 1 = omega arith in rw o (rw (one-mul p) (not_from_false (eqb p 0) (ne_eqb p 0 (λ e. omega arith))))
    ]

has_bit : (f : Flag) (fr : ℕ) → has_flag f fr ≡ eqb (bit (place f) fr) 1
has_bit f fr =
    let p = pow-add 2 1 (place f) in
    let d : 2 ^ (1 + place f) - 2 ^ place f ≡ 2 ^ place f = omega arith in
    let a = rw d at (and_high fr 1 (place f)) in
    rw a (bit_on (bit (place f) fr) (2 ^ place f) (omega arith) (pow_pos (place f)))

-- what a flag tells after one was written
pub has_with : (g f : Flag) (on : Bool) (fr : ℕ) → has_flag g (with_flag f on fr) ≡ cond (eqb (place g) (place f)) on (has_flag g fr)
has_with g f on fr =
    let told : (t b : Bool) → eqb (cond t (cond b 1 0) (bit (place g) fr)) 1 ≡ cond t b (has_flag g fr) =
    λ t b. elim t as (λ v. eqb (cond v (cond b 1 0) (bit (place g) fr)) 1 ≡ cond v b (has_flag g fr))
    [ true ↦ elim b as (λ v. eqb (cond v 1 0) 1 ≡ v) [ true ↦ refl | false ↦ refl ] | false ↦ sym (has_bit g fr) ] in
    has_bit g (with_flag f on fr)
    ∙ (ap (λ (b : ℕ). eqb b 1) (bit_with f on fr (place g) (place_lt g)) ∙ told (eqb (place g) (place f)) on)

-- writing a flag whose place is listed keeps the bits at the places that are not
pub kept_but_at : (places : List ℕ) (i : ℕ) → i < 16 → among places i ≡ false
    → (f : Flag) (on : Bool) (fr : ℕ) → among places (place f) ≡ true → bit i (with_flag f on fr) ≡ bit i fr
kept_but_at places i h t f on fr l =
    let ne : i ≡ place f → ⊥ = λ e. false≢true (sym t ∙ rw e l) in
    bit_with f on fr i h ∙ cond-false (eqb i (place f)) (cond on 1 0) (bit i fr) (ne_eqb i (place f) ne)
