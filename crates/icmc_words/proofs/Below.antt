-- Tests of all the numbers below one, which are computed.
use Rattle.std.proofs.Common.{◌≡◌, ℕ, zero, suc, ◌<◌, Bool, true, ◌&&◌, inl, inr, arith}
use Rattle.std.proofs.lemmas.Bool.{and_parts, cases_eq}

-- the test passes at each number below n
abbrev pub upto : ℕ → (ℕ → Bool) → Bool
upto zero f = true
upto (suc n) f = f n && upto n f

pub upto_at : (n : ℕ) (f : ℕ → Bool) → upto n f ≡ true → (k : ℕ) → k < n → f k ≡ true
upto_at zero f t k h = absurd (omega arith)
upto_at (suc n) f t k h =
    let p = and_parts (f n) (upto n f) t in
    elim (cases_eq k n) [ inl e ↦ rw e p.0 | inr ne ↦ upto_at n f p.1 k (omega arith) ]
