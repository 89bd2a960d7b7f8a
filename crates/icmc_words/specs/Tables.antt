use Rattle.std.specs.Prelude.{ℕ, Bool, false, cond, ◌||◌, List, [], ◌∷◌, ◌==◌}

-- a table from numbers: what its first row for the number n says; where it has none, what stands before the table
abbrev pub row_at : {A : Type 0} → A → List (ℕ × A) → ℕ → A
row_at other [] n = other
row_at other (r ∷ rs) n = cond (n == r.0) r.1 (row_at other rs n)

-- one of the numbers of a list
abbrev pub among : List ℕ → ℕ → Bool
among [] n = false
among (m ∷ ms) n = n == m || among ms n
