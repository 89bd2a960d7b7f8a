-- Shifts and rotations: the parts do not meet, so the bits together are the parts' sum.
use Rattle.std.proofs.Common.{◌≡◌, ℕ, ◌+◌, ◌-◌, ◌*◌, ◌/◌, ◌%◌, ◌^◌, ◌<◌, ◌≤◌, sym, ap, ◌∙◌, inl, inr, mul_comm, add-mul, arith}
use native.Mathlib.Nat.{mul-mod_left}
use lib.Arith.{mod-mul}
use lib.Bits.{bit_or, or_shifted, or_comm, or_self}
use Rattle.std.proofs.lemmas.Nat.{div-add-mod', div-mul-add, pow_pos, pow-add, shr_below, one_shl}
use Rattle.std.proofs.lemmas.Bool.{cases_eq}
use Rattle.icmc_words.specs.declared.instruction.ShiftKind.TheVariants.{LeftOnes, RightOnes, RotateLeft, RotateRight}
use Rattle.icmc_alu.specs.Shifts.{shifted}

or_sum : (k x y : ℕ) → x % 2 ^ k ≡ 0 → y < 2 ^ k → bit_or x y ≡ x + y
or_sum k x y hx hy =
    let e : x / 2 ^ k * 2 ^ k ≡ x = omega (arith, div-add-mod' x (2 ^ k)) in
    rw e at (or_shifted (x / 2 ^ k) k y hy)

-- a word's two parts
whole_word : (n : ℕ) → n ≤ 16 → 2 ^ (16 - n) * 2 ^ n ≡ 65536
whole_word n h =
    let s : 16 - n + n ≡ 16 = omega arith in
    sym (pow-add 2 (16 - n) n) ∙ ap (λ (k : ℕ). 2 ^ k) s

-- what is shifted up by n has n zeros below
zeros : (x n : ℕ) → n ≤ 16 → x * 2 ^ n % 65536 % 2 ^ n ≡ 0
zeros x n h =
    let m = rw (whole_word n h) at (mod-mul (x * 2 ^ n) {m = 2 ^ (16 - n)} {c = 2 ^ n} (pow_pos (16 - n)) (pow_pos n)) in
    let z = mul-mod_left x (2 ^ n) in
    let e : x * 2 ^ n % 65536 ≡ (x * 2 ^ n / 2 ^ n % 2 ^ (16 - n)) * 2 ^ n = omega arith in
    rw e (mul-mod_left (x * 2 ^ n / 2 ^ n % 2 ^ (16 - n)) (2 ^ n))

top : (x n : ℕ) → n ≤ 16 → x < 65536 → x / 2 ^ (16 - n) < 2 ^ n
top x n h hx =
    let s : n + (16 - n) ≡ 16 = omega arith in
    shr_below x n (16 - n) (rw s hx)

turned : (x n : ℕ) → n ≤ 16 → x < 65536 → bit_or (x * 2 ^ n % 65536) (x / 2 ^ (16 - n)) ≡ x * 2 ^ n % 65536 + x / 2 ^ (16 - n)
turned x n h hx = or_sum n (x * 2 ^ n % 65536) (x / 2 ^ (16 - n)) (zeros x n h) (top x n h hx)

pub rotates_left : (x n : ℕ) → n < 16 → x < 65536 → bit_or (x * 2 ^ (n % 16) % 2 ^ 16) (x / 2 ^ ((16 - n % 16) % 16)) ≡ shifted RotateLeft x n
rotates_left x n h hx =
    elim (cases_eq n 0) [
      | inl z ↦ let e : x * 1 % 65536 ≡ x = omega arith in let f : x / 1 ≡ x = omega arith in rw z (rw (e, f) (or_self x ∙ omega arith))
      | inr nz ↦ let m : n % 16 ≡ n = omega arith in let k : (16 - n) % 16 ≡ 16 - n = omega arith in rw (m, k) (turned x n (omega arith) hx)
    ]

pub rotates_right : (x n : ℕ) → n < 16 → x < 65536 → bit_or (x / 2 ^ (n % 16)) (x * 2 ^ ((16 - n % 16) % 16) % 2 ^ 16) ≡ shifted RotateRight x n
rotates_right x n h hx =
    elim (cases_eq n 0) [
      | inl z ↦ let e : x * 1 % 65536 ≡ x = omega arith in let f : x / 1 ≡ x = omega arith in rw z (rw (e, f) (or_self x ∙ omega arith))
      | inr nz ↦
          let m : n % 16 ≡ n = omega arith in
          let k : (16 - n) % 16 ≡ 16 - n = omega arith in
          let b : 16 - (16 - n) ≡ n = omega arith in
          let t = rw b at (turned x (16 - n) (omega arith) hx) in
          rw (m, k) (or_comm (x / 2 ^ n) (x * 2 ^ (16 - n) % 65536) ∙ (t ∙ omega arith))
    ]

pub shifts_left : (x n : ℕ) → n < 16 → x < 65536 → bit_or (x * 2 ^ n % 65536) ((1 * 2 ^ n) % 65536 - 1) ≡ shifted LeftOnes x n
shifts_left x n h hx =
    let o : (1 * 2 ^ n) % 65536 ≡ 2 ^ n = one_shl n 16 h in
    rw o (or_sum n (x * 2 ^ n % 65536) (2 ^ n - 1) (zeros x n (omega arith)) (omega (arith, pow_pos n)))

-- n ones at the top
ones : (n : ℕ) → n < 16 → (65535 - 65535 / 2 ^ n ≡ 65536 - 2 ^ (16 - n)) × ((65536 - 2 ^ (16 - n)) % 2 ^ (16 - n) ≡ 0)
ones n h =
    let w = whole_word n (omega arith) in
    let p = pow_pos n in
    let q = pow_pos (16 - n) in
    let d : 2 ^ (16 - n) - 1 + 1 ≡ 2 ^ (16 - n) = omega arith in
    let a = rw d at (add-mul (2 ^ (16 - n) - 1) 1 (2 ^ n)) in
    let e : (2 ^ (16 - n) - 1) * 2 ^ n + (2 ^ n - 1) ≡ 65535 = omega arith in
    let f = rw e at (div-mul-add (2 ^ (16 - n) - 1) (2 ^ n) (2 ^ n - 1) (omega arith)) in
    let g : 2 ^ n - 1 + 1 ≡ 2 ^ n = omega arith in
    let b = rw g at (add-mul (2 ^ n - 1) 1 (2 ^ (16 - n))) in
    let t : 65536 - 2 ^ (16 - n) ≡ (2 ^ n - 1) * 2 ^ (16 - n) = omega (arith, mul_comm (2 ^ n) (2 ^ (16 - n))) in
    (omega arith, rw t (mul-mod_left (2 ^ n - 1) (2 ^ (16 - n))))

pub shifts_right : (x n : ℕ) → n < 16 → x < 65536 → bit_or (x / 2 ^ n) (65535 - 65535 / 2 ^ n) ≡ shifted RightOnes x n
shifts_right x n h hx =
    let o = ones n h in
    let s : 16 - n + n ≡ 16 = omega arith in
    let b : x / 2 ^ n < 2 ^ (16 - n) = shr_below x (16 - n) n (rw s hx) in
    rw o.0 (or_comm (x / 2 ^ n) (65536 - 2 ^ (16 - n)) ∙ (or_sum (16 - n) (65536 - 2 ^ (16 - n)) (x / 2 ^ n) o.1 b ∙ omega arith))
