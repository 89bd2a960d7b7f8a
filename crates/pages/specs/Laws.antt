use Rattle.std.specs.Prelude.{◌≡◌, ℕ, ◌+◌, ◌%◌, ◌<◌, ◌≤◌, List, [], ◌∷◌, ◌++◌, length, take, Some, None, Ok, Err, sum_by, Result, slice_index, slice_index_or}
use Rattle.refusal.specs.declared.Cause.{Cause}
use Rattle.refusal.specs.declared.Refusal.{Refusal}
use Rattle.icmc_words.specs.Decoded.{decoded}
use Rattle.icmc_words.specs.Sizes.{size}
use Rattle.page_tokens.specs.declared.name.Name.{Name}
use Rattle.page_text.specs.Sayings.{Saying, nothing, one, two, room, text, fixed, Reading}
use Rattle.pages.specs.declared.label.Label.{Label}
use Rattle.pages.specs.Labels.{find_label}
use Rattle.pages.specs.Page.{Gathering, page}
use Rattle.pages.specs.Program.{second_word, line_size}

-- the address of a line, the first being line 0: the sum of the sizes of the lines before it
abbrev pub address : List Reading → ℕ → ℕ
address lines j = sum_by line_size (take j lines)

-- a line of a page, and a line past its end
abbrev pub line : List Reading → ℕ → Reading
line lines j = slice_index_or lines j (record { name = None; saying = Ok nothing })

-- each name of a page is a label's, and stands for the address of its line, modulo 65,536
abbrev pub NamesStand : List Reading → List Label → Type 0
NamesStand lines ls =
    (j : ℕ) (n : Name) → j < length lines → (line lines j).name ≡ Some n
    → (l : Label) × (find_label ls n ≡ Some l) × (l.address ≡ address lines j % 65536)

-- what stands at the address a: an instruction's words decode to it, with its number or the address of its name behind it; a text's are its letters and 0
abbrev pub Stands : List Label → List ℕ → ℕ → Result Saying Cause → Type 0
Stands ls ws a (Ok nothing) = Unit {0}
Stands ls ws a (Ok (one i)) = (decoded (slice_index ws a) ≡ Ok i) × (size i ≡ 1)
Stands ls ws a (Ok (two i o)) = (decoded (slice_index ws a) ≡ Ok i) × (size i ≡ 2) × (second_word ls o ≡ Ok (slice_index ws (a + 1)))
Stands ls ws a (Ok (room q)) = Unit {0}
Stands ls ws a (Ok (text q)) = (i : ℕ) → i < length q + 1 → slice_index ws (a + i) ≡ slice_index (q ++ 0 ∷ []) i
Stands ls ws a (Ok (fixed n p v)) = Unit {0}
Stands ls ws a (Err c) = Unit {0}

-- the words of a page: as many as its lines take, at most 65,536, and each line's stand at its address
pub record ProgramStands (lines : List Reading) (ls : List Label) (ws : List ℕ) : Type 0 where
  pub size : length ws ≡ sum_by line_size lines
  pub few : length ws ≤ 65536
  pub stands : (j : ℕ) → j < length lines → Stands ls ws (address lines j) (line lines j).saying

-- of a gathering that was accepted, and of a placing
abbrev pub NamesIfOk : List ℕ → Result Gathering Refusal → Type 0
NamesIfOk bytes (Ok g) = NamesStand (page bytes) g.labels
NamesIfOk bytes (Err e) = Unit {0}

abbrev pub ProgramIfOk : List ℕ → List Label → Result (List ℕ) Refusal → Type 0
ProgramIfOk bytes slots (Ok ws) = (n : ℕ) × ProgramStands (page bytes) (take n slots) ws × NamesStand (page bytes) (take n slots)
ProgramIfOk bytes slots (Err e) = Unit {0}
