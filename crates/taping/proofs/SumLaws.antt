use Rattle.std.proofs.Common.{◌≡◌, ℕ, ◌+◌, ◌%◌, ◌<◌, List, [], ◌∷◌, sum, arith, ap, ◌∙◌}
use Rattle.std.specs.List.{fold}
use Rattle.std.proofs.lemmas.List.Sums.{sum_by-cons}
use Rattle.taping.specs.Tapes.{checksum}

-- adding up modulo 65,536 is the sum modulo 65,536
pub fold_wraps : (ws : List ℕ) (a : ℕ) → a < 65536 → fold (λ (s w : ℕ). (s + w) % 65536) a ws ≡ (a + sum ws) % 65536
fold_wraps [] a h = omega arith
fold_wraps (w ∷ ws) a h =
    let more : sum (w ∷ ws) ≡ w + sum ws = sum_by-cons (λ (x : ℕ). x) w ws in
    let rest : fold (λ (s w : ℕ). (s + w) % 65536) ((a + w) % 65536) ws ≡ ((a + w) % 65536 + sum ws) % 65536 = fold_wraps ws ((a + w) % 65536) (omega arith) in
    rest ∙ omega arith

pub fold_is_checksum : (ws : List ℕ) → fold (λ (s w : ℕ). (s + w) % 65536) 0 ws ≡ checksum ws
fold_is_checksum ws = fold_wraps ws 0 (omega arith) ∙ ap (λ (n : ℕ). n % 65536) (omega arith)
