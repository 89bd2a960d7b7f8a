use Rattle.std.specs.Prelude.{ℕ, cond, List, [], ◌∷◌, drop, ◌==◌}
use Rattle.std.specs.List.{prefix_len}
use Rattle.page_tokens.specs.declared.class.Class.TheVariants.{InLine}
use Rattle.page_tokens.specs.Classes.{of_class}

-- a byte more at the front of the first line
abbrev pub in_first : ℕ → List (List ℕ) → List (List ℕ)
in_first b [] = (b ∷ []) ∷ []
in_first b (l ∷ ls) = (b ∷ l) ∷ ls

-- the lines of a text: byte 10 ends a line, and as the last byte it starts no further one
abbrev pub lines : List ℕ → List (List ℕ)
lines [] = []
lines (b ∷ bs) = cond (b == 10) ([] ∷ lines bs) (in_first b (lines bs))

-- what follows the first line and its end
abbrev pub after_line : List ℕ → List ℕ
after_line bs = drop 1 (drop (prefix_len (of_class InLine) bs) bs)
