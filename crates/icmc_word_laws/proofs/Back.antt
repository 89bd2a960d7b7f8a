use Rattle.std.proofs.Common.{◌≡◌, ℕ, ◌+◌, ◌*◌, ◌/◌, ◌%◌, ◌^◌, ◌<◌, true, cond, ◌&&◌, ltb, List, [], ◌∷◌, Ok, Err, Result, sym, refl, ap, ◌∙◌, inl, inr, arith}
use Rattle.std.proofs.lemmas.Bool.{ltb-true, and_parts, cases_Bool, cond-true, cond-false}
use Rattle.refusal.specs.declared.Refusal.{Refusal}
use Rattle.refusal.specs.declared.Cause.TheVariants.{OutOfRange}
use Rattle.refusal.specs.Numbers.{refused}
use Rattle.icmc_words.specs.declared.instruction.Condition.{Condition}
use Rattle.icmc_words.specs.declared.instruction.Condition.TheVariants.{Always, Equal, NotEqual, Zero, NotZero, Carry, NotCarry, Greater, Lesser, EqualOrGreater, EqualOrLesser, Overflow, NotOverflow, Negative, DivisionByZero}
use Rattle.icmc_words.specs.declared.instruction.ShiftKind.{ShiftKind}
use Rattle.icmc_words.specs.declared.instruction.ShiftKind.TheVariants.{LeftZeros, LeftOnes, RightZeros, RightOnes, RotateLeft, RotateRight}
use Rattle.icmc_words.specs.declared.instruction.Instruction.{Instruction}
use Rattle.icmc_words.specs.declared.instruction.Instruction.TheVariants.{Nop, Rts, Breakp, Halt, Clearc, Setc, Jump, Call, Push, PushFr, Pop, PopFr, Shift, And, Or, Xor, Not, Cmp, Add, Addc, Sub, Subc, Mul, Mulc, Div, Divc, Mod, Inc, Dec, Load, Store, Loadn, Loadi, Storei, Mov, MovFromSp, MovToSp, Outchar, Inchar}
use Rattle.icmc_words.specs.Conditions.{number, condition_at}
use Rattle.icmc_words.specs.Decoded.{shift_at}
use Rattle.icmc_words.specs.Encoded.{Field, in_x, in_y, in_z, in_n, in_bounds, worth, kind_bits, layout, encodable, encoded}
use Rattle.icmc_word_laws.specs.Laws.{EncodedComesBack, then_decoded, returned}

-- a word that a refusal could have stood for
abbrev placed : ℕ → List Field → Result ℕ Refusal
placed code fs = cond (in_bounds fs) (Ok (code + worth fs)) (Err (refused OutOfRange 0))

placed_ok : (code : ℕ) (fs : List Field) (w : ℕ) → placed code fs ≡ Ok w → (in_bounds fs ≡ true) × (w ≡ code + worth fs)
placed_ok code fs w e =
    elim (cases_Bool (in_bounds fs)) [
      | inl t ↦ let v : ◌≡◌ {A = Result ℕ Refusal} (Ok (code + worth fs)) (Ok w) = sym (cond-true (in_bounds fs) (Ok (code + worth fs)) (Err (refused OutOfRange 0)) t) ∙ e in
          (t, (cc))
      | inr f ↦ let v : ◌≡◌ {A = Result ℕ Refusal} (Err (refused OutOfRange 0)) (Ok w) = sym (cond-false (in_bounds fs) (Ok (code + worth fs)) (Err (refused OutOfRange 0)) f) ∙ e in
          let z : ◌≡◌ {A = ℕ} 0 1 = cc in absurd (omega arith)
    ]

-- the fields of a word, by its layout
x_fields : (code x w : ℕ) → code % 1024 < 128 → placed code (in_x x ∷ []) ≡ Ok w
    → (w / 1024 ≡ code / 1024) × (w / 128 % 8 ≡ x) × (w / 64 % 2 ≡ code / 64 % 2) × (w % 4 ≡ code % 4) × (w / 1 % 2 ≡ code % 2)
x_fields code x w h e =
    let g = placed_ok code (in_x x ∷ []) w e in
    let hx = ltb-true x 8 (and_parts (ltb x 8) true g.0).0 in
    (omega arith, omega arith, omega arith, omega arith, omega arith)

xy_fields : (code x y w : ℕ) → code % 1024 ≡ 0 → placed code (in_x x ∷ in_y y ∷ []) ≡ Ok w
    → (w / 1024 ≡ code / 1024) × (w / 128 % 8 ≡ x) × (w / 16 % 8 ≡ y) × (w % 4 ≡ 0)
xy_fields code x y w h e =
    let g = placed_ok code (in_x x ∷ in_y y ∷ []) w e in
    let p = and_parts (ltb x 8) (ltb y 8 && true) g.0 in
    let hx = ltb-true x 8 p.0 in
    let hy = ltb-true y 8 (and_parts (ltb y 8) true p.1).0 in
    (omega arith, omega arith, omega arith, omega arith)

xyz_fields : (code x y z w : ℕ) → code % 1024 < 2 → placed code (in_x x ∷ in_y y ∷ in_z z ∷ []) ≡ Ok w
    → (w / 1024 ≡ code / 1024) × (w / 128 % 8 ≡ x) × (w / 16 % 8 ≡ y) × (w / 2 % 8 ≡ z) × (w / 1 % 2 ≡ code % 2)
xyz_fields code x y z w h e =
    let g = placed_ok code (in_x x ∷ in_y y ∷ in_z z ∷ []) w e in
    let p = and_parts (ltb x 8) (ltb y 8 && (ltb z 8 && true)) g.0 in
    let q = and_parts (ltb y 8) (ltb z 8 && true) p.1 in
    let hx = ltb-true x 8 p.0 in
    let hy = ltb-true y 8 q.0 in
    let hz = ltb-true z 8 (and_parts (ltb z 8) true q.1).0 in
    (omega arith, omega arith, omega arith, omega arith, omega arith)

xn_fields : (b x n w : ℕ) → b < 8 → placed (0x4000 + b * 16) (in_x x ∷ in_n n ∷ []) ≡ Ok w
    → (w / 1024 ≡ 16) × (w / 128 % 8 ≡ x) × (w / 16 % 8 ≡ b) × (w % 16 ≡ n)
xn_fields b x n w h e =
    let g = placed_ok (0x4000 + b * 16) (in_x x ∷ in_n n ∷ []) w e in
    let p = and_parts (ltb x 8) (ltb n 16 && true) g.0 in
    let hx = ltb-true x 8 p.0 in
    let hn = ltb-true n 16 (and_parts (ltb n 16) true p.1).0 in
    (omega arith, omega arith, omega arith, omega arith)

k_fields : (code k w : ℕ) → code % 1024 ≡ 0 → k < 15 → w ≡ code + k * 64 + 0 → (w / 1024 ≡ code / 1024) × (w / 64 % 16 ≡ k)
k_fields code k w h hk e = (omega arith, omega arith)

-- kinds of shifts and conditions come back from their bits
kind_back : (s : ShiftKind) → (kind_bits s < 8) × (shift_at (kind_bits s) ≡ s)
kind_back LeftZeros = (omega arith, refl)
kind_back LeftOnes = (omega arith, refl)
kind_back RightZeros = (omega arith, refl)
kind_back RightOnes = (omega arith, refl)
kind_back RotateLeft = (omega arith, refl)
kind_back RotateRight = (omega arith, refl)

number_back : (k : Condition) → (number k < 15) × (ltb (number k) 15 ≡ true) × (condition_at (number k) ≡ k)
number_back Always = (omega arith, refl, refl)
number_back Equal = (omega arith, refl, refl)
number_back NotEqual = (omega arith, refl, refl)
number_back Zero = (omega arith, refl, refl)
number_back NotZero = (omega arith, refl, refl)
number_back Carry = (omega arith, refl, refl)
number_back NotCarry = (omega arith, refl, refl)
number_back Greater = (omega arith, refl, refl)
number_back Lesser = (omega arith, refl, refl)
number_back EqualOrGreater = (omega arith, refl, refl)
number_back EqualOrLesser = (omega arith, refl, refl)
number_back Overflow = (omega arith, refl, refl)
number_back NotOverflow = (omega arith, refl, refl)
number_back Negative = (omega arith, refl, refl)
number_back DivisionByZero = (omega arith, refl, refl)

pub encoded_comes_back : EncodedComesBack
encoded_comes_back Nop w e = let v : w ≡ 0x0000 = cc in rw v
encoded_comes_back Rts w e = let v : w ≡ 0x1000 = cc in rw v
encoded_comes_back PushFr w e = let v : w ≡ 0x1440 = cc in rw v
encoded_comes_back PopFr w e = let v : w ≡ 0x1840 = cc in rw v
encoded_comes_back Clearc w e = let v : w ≡ 0x2000 = cc in rw v
encoded_comes_back Setc w e = let v : w ≡ 0x2200 = cc in rw v
encoded_comes_back Breakp w e = let v : w ≡ 0x3800 = cc in rw v
encoded_comes_back Halt w e = let v : w ≡ 0x3c00 = cc in rw v
encoded_comes_back (Jump k) w e =
    let b = number_back k in
    let v : w ≡ 0x0800 + number k * 64 + 0 = cc in
    let f = k_fields 0x0800 (number k) w refl b.0 v in
    simp (f.0, f.1, b.1, b.2)
encoded_comes_back (Call k) w e =
    let b = number_back k in
    let v : w ≡ 0x0c00 + number k * 64 + 0 = cc in
    let f = k_fields 0x0c00 (number k) w refl b.0 v in
    simp (f.0, f.1, b.1, b.2)
encoded_comes_back (Shift s x n) w e =
    let b = kind_back s in
    let f = xn_fields (kind_bits s) x n w b.0 e in
    simp (f.0, f.1, f.2, f.3, b.1)
encoded_comes_back (Push x) w e = let f = x_fields 0x1400 x w (omega arith) e in simp (f.0, f.1, f.2)
encoded_comes_back (Pop x) w e = let f = x_fields 0x1800 x w (omega arith) e in simp (f.0, f.1, f.2)
encoded_comes_back (Inc x) w e = let f = x_fields 0x9000 x w (omega arith) e in simp (f.0, f.1, f.2)
encoded_comes_back (Dec x) w e = let f = x_fields 0x9040 x w (omega arith) e in simp (f.0, f.1, f.2)
encoded_comes_back (Load x) w e = let f = x_fields 0xc000 x w (omega arith) e in simp (f.0, f.1)
encoded_comes_back (Store x) w e = let f = x_fields 0xc400 x w (omega arith) e in simp (f.0, f.1)
encoded_comes_back (Inchar x) w e = let f = x_fields 0xd400 x w (omega arith) e in simp (f.0, f.1)
encoded_comes_back (MovFromSp x) w e = let f = x_fields 0xcc01 x w (omega arith) e in simp (f.0, f.1, f.3)
encoded_comes_back (MovToSp x) w e = let f = x_fields 0xcc03 x w (omega arith) e in simp (f.0, f.1, f.3)
encoded_comes_back (Loadn x) w e = let f = x_fields 0xe000 x w (omega arith) e in simp (f.0, f.1, f.4)
encoded_comes_back (Not x y) w e = let f = xy_fields 0x5400 x y w refl e in simp (f.0, f.1, f.2)
encoded_comes_back (Cmp x y) w e = let f = xy_fields 0x5800 x y w refl e in simp (f.0, f.1, f.2)
encoded_comes_back (Outchar x y) w e = let f = xy_fields 0xc800 x y w refl e in simp (f.0, f.1, f.2)
encoded_comes_back (Mov x y) w e = let f = xy_fields 0xcc00 x y w refl e in simp (f.0, f.1, f.2, f.3)
encoded_comes_back (Loadi x y) w e = let f = xy_fields 0xf000 x y w refl e in simp (f.0, f.1, f.2)
encoded_comes_back (Storei x y) w e = let f = xy_fields 0xf400 x y w refl e in simp (f.0, f.1, f.2)
encoded_comes_back (And x y z) w e = let f = xyz_fields 0x4800 x y z w (omega arith) e in simp (f.0, f.1, f.2, f.3)
encoded_comes_back (Or x y z) w e = let f = xyz_fields 0x4c00 x y z w (omega arith) e in simp (f.0, f.1, f.2, f.3)
encoded_comes_back (Xor x y z) w e = let f = xyz_fields 0x5000 x y z w (omega arith) e in simp (f.0, f.1, f.2, f.3)
encoded_comes_back (Mod x y z) w e = let f = xyz_fields 0x9400 x y z w (omega arith) e in simp (f.0, f.1, f.2, f.3)
encoded_comes_back (Add x y z) w e = let f = xyz_fields 0x8000 x y z w (omega arith) e in simp (f.0, f.1, f.2, f.3, f.4)
encoded_comes_back (Addc x y z) w e = let f = xyz_fields 0x8001 x y z w (omega arith) e in simp (f.0, f.1, f.2, f.3, f.4)
encoded_comes_back (Sub x y z) w e = let f = xyz_fields 0x8400 x y z w (omega arith) e in simp (f.0, f.1, f.2, f.3, f.4)
encoded_comes_back (Subc x y z) w e = let f = xyz_fields 0x8401 x y z w (omega arith) e in simp (f.0, f.1, f.2, f.3, f.4)
encoded_comes_back (Mul x y z) w e = let f = xyz_fields 0x8800 x y z w (omega arith) e in simp (f.0, f.1, f.2, f.3, f.4)
encoded_comes_back (Mulc x y z) w e = let f = xyz_fields 0x8801 x y z w (omega arith) e in simp (f.0, f.1, f.2, f.3, f.4)
encoded_comes_back (Div x y z) w e = let f = xyz_fields 0x8c00 x y z w (omega arith) e in simp (f.0, f.1, f.2, f.3, f.4)
encoded_comes_back (Divc x y z) w e = let f = xyz_fields 0x8c01 x y z w (omega arith) e in simp (f.0, f.1, f.2, f.3, f.4)

-- an instruction that is encoded and decoded again
abbrev word_of : Instruction → ℕ
word_of i = (layout i).op * 2 ^ 10 + (layout i).extension + worth (layout i).fields

pub returned_law : (i : Instruction) → then_decoded (encoded i) ≡ returned i
returned_law i =
    elim (cases_Bool (encodable i)) [
      | inl t ↦
          let o : encoded i ≡ Ok (word_of i) = cond-true (encodable i) (Ok (word_of i)) (Err (refused OutOfRange 0)) t in
          ap then_decoded o ∙ (encoded_comes_back i (word_of i) o ∙ sym (cond-true (encodable i) (Ok i) (Err (refused OutOfRange 0)) t))
      | inr f ↦
          ap then_decoded (cond-false (encodable i) (Ok (word_of i)) (Err (refused OutOfRange 0)) f)
          ∙ sym (cond-false (encodable i) (Ok i) (Err (refused OutOfRange 0)) f)
    ]
