use Rattle.std.specs.Prelude.{◌≡◌, ℕ, ◌+◌, List, length, Ok, Err, Result}
use Rattle.shelf.specs.SliceVecs.{items, NowHolds}
use Rattle.shelf.specs.declared.slice_vec.SliceVec.{SliceVec}

-- what is put into a program: it comes to what it should and is longer by so many words, or it is refused
abbrev pub Puts : {A E : Type 0} → SliceVec ℕ → SliceVec ℕ → ℕ → Result (List ℕ) E → Result A E → Type 0
Puts old new more should (Ok a) = (should ≡ Ok (items new)) × NowHolds old new (items new) × (length (items new) ≡ length (items old) + more)
Puts old new more should (Err c) = should ≡ Err c
