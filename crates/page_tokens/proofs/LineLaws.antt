use Rattle.std.proofs.Common.{◌≡◌, ℕ, ◌+◌, ◌<◌, true, false, cond, not, eqb, List, [], ◌∷◌, length, take, drop, refl, ap, ◌∙◌, one-add, arith}
use Rattle.std.specs.List.{prefix_len}
use Rattle.page_tokens.specs.declared.class.Class.TheVariants.{InLine}
use Rattle.page_tokens.specs.Classes.{of_class}
use Rattle.page_tokens.specs.Lines.{lines, in_first}

abbrev inside : List ℕ → ℕ
inside bs = prefix_len (of_class InLine) bs

cut : (b : ℕ) (bs : List ℕ) → lines (b ∷ bs) ≡ take (inside (b ∷ bs)) (b ∷ bs) ∷ lines (drop 1 (drop (inside (b ∷ bs)) (b ∷ bs)))
cut b [] =
    elim (eqb b 10)
    as (λ t. cond t ([] ∷ []) ((b ∷ []) ∷ []) ≡ take (cond (not t) (1 + 0) 0) (b ∷ []) ∷ lines (drop 1 (drop (cond (not t) (1 + 0) 0) (b ∷ []))))
    [ true ↦ refl | false ↦ refl ]
cut b (c ∷ cs) =
    let more = cut c cs in
    elim (eqb b 10)
    as (λ t. cond t ([] ∷ lines (c ∷ cs)) (in_first b (lines (c ∷ cs)))
    ≡ take (cond (not t) (1 + inside (c ∷ cs)) 0) (b ∷ (c ∷ cs)) ∷ lines (drop 1 (drop (cond (not t) (1 + inside (c ∷ cs)) 0) (b ∷ (c ∷ cs)))))
    [ true ↦ refl | false ↦ ap (in_first b) more ∙ simp (one-add) ]

-- the first line of a text goes up to the first byte 10, and the other lines are those of what follows it
pub lines_first : (bs : List ℕ) → 0 < length bs → lines bs ≡ take (inside bs) bs ∷ lines (drop 1 (drop (inside bs) bs))
lines_first [] some = absurd (omega arith)
lines_first (b ∷ bs) some = cut b bs
