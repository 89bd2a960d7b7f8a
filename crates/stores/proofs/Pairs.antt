use Rattle.std.proofs.Common.{◌≡◌, ℕ, suc, zero, ◌+◌, ◌*◌, ◌/◌, ◌<◌, ◌≤◌, cond, List, [], ◌∷◌, length, get_or, take, drop, Some, None, nat_lt, inl, inr, slice_get, slice_index, refl, ap, ◌∙◌, arith}
use Rattle.std.specs.Simd.{first_chunks}
use Rattle.std.proofs.lemmas.Bool.{cases_lt, cond_below, cond_above}
use Rattle.std.proofs.lemmas.List.{drop-drop, drop_more}

-- the pair at an index, of k pairs
pair_within : (k : ℕ) (bs : List ℕ) (a : ℕ) → a < k → slice_get (first_chunks 2 k bs) a ≡ Some (take 2 (drop (a * 2) bs))
pair_within zero bs a h = absurd (omega arith)
pair_within (suc k) bs zero h = refl
pair_within (suc k) bs (suc a) h =
    let n : 2 + a * 2 ≡ suc a * 2 = omega arith in
    pair_within k (drop 2 bs) a (omega arith) ∙ ap (λ xs. Some (take 2 xs)) (drop-drop (a * 2) 2 bs ∙ ap (λ (m : ℕ). drop m bs) n)

pair_past : (k : ℕ) (bs : List ℕ) (a : ℕ) → k ≤ a → slice_get (first_chunks 2 k bs) a ≡ None
pair_past zero bs a h = refl
pair_past (suc k) bs zero h = absurd (omega arith)
pair_past (suc k) bs (suc a) h = pair_past k (drop 2 bs) a (omega arith)

two_from : (bs : List ℕ) (i : ℕ) → i + 1 < length bs → take 2 (drop i bs) ≡ slice_index bs i ∷ slice_index bs (i + 1) ∷ []
two_from bs i h =
    ap (take 2) (drop_more bs i 0 (omega arith) ∙ ap (λ xs. get_or bs i 0 ∷ xs) (drop_more bs (i + 1) 0 h))

-- the pairs of a list of bytes, by their bytes
pub pair_at : (bs : List ℕ) (a : ℕ) → slice_get (first_chunks 2 (length bs / 2) bs) a
    ≡ cond (nat_lt (a * 2 + 1) (length bs)) (Some (slice_index bs (a * 2) ∷ slice_index bs (a * 2 + 1) ∷ [])) None
pair_at bs a = elim (cases_lt (a * 2 + 1) (length bs)) [
  | inl h ↦ pair_within (length bs / 2) bs a (omega arith) ∙ ap (λ xs. Some xs) (two_from bs (a * 2) h) ∙ cond_below _ _ _ _ h
  | inr h ↦ pair_past (length bs / 2) bs a (omega arith) ∙ cond_above _ _ _ _ _ h refl
]
