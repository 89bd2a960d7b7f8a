use Rattle.std.specs.Prelude.{◌≡◌, ℕ, ◌+◌, cond, List, ◌++◌, length, drop, replicate, Ok, Err, Result, nat_le}
use Rattle.refusal.specs.declared.Cause.TheVariants.{TapeTooShort}
use Rattle.refusal.specs.declared.Refusal.{Refusal}
use Rattle.refusal.specs.Numbers.{refused}
use Rattle.pages.specs.declared.label.Label.{Label}
use Rattle.pages.specs.Labels.{no_label}
use Rattle.pages.specs.Page.{Gathering, page, gathering, slots_after}
use Rattle.pages.specs.Program.{placing_in, words_after}
use Rattle.pages.specs.Laws.{NamesStand, ProgramStands}
use Rattle.taping.specs.Tapes.{tape_of, HoldsProgram}

-- the program of a page whose names were gathered, where so many words are lent
abbrev pub placed_from : List ℕ → ℕ → Result Gathering Refusal → Result (List ℕ) Refusal
placed_from bytes words (Ok g) = placing_in bytes words g
placed_from bytes words (Err e) = Err e

-- the program of a page, where so many label slots and words are lent
abbrev pub program_of : List ℕ → ℕ → ℕ → Result (List ℕ) Refusal
program_of bytes slots words = placed_from bytes words (gathering bytes slots)

-- its tape, where so many places are lent
abbrev pub taped : ℕ → Result (List ℕ) Refusal → Result (List ℕ) Refusal
taped places (Ok ws) = cond (nat_le (length ws + 2) places) (Ok (tape_of ws)) (Err (refused TapeTooShort 0))
taped places (Err e) = Err e

abbrev pub assembled : List ℕ → ℕ → ℕ → ℕ → Result (List ℕ) Refusal
assembled bytes slots words places = taped places (program_of bytes slots words)

-- how many places a tape takes
abbrev pub size_answer : Result (List ℕ) Refusal → Result ℕ Refusal
size_answer (Ok t) = Ok (length t)
size_answer (Err e) = Err e

-- the places afterwards: the tape in the first ones, the others as they were
abbrev pub tape_then : Result (List ℕ) Refusal → List ℕ → List ℕ
tape_then (Ok t) tape = t ++ drop (length t) tape
tape_then (Err e) tape = tape

-- the label slots afterwards: the page's labels in the first ones; a page that has no program empties all
abbrev pub labels_then : Result Gathering Refusal → Result (List ℕ) Refusal → List Label → List Label
labels_then g (Ok ws) slots = slots_after g slots
labels_then g (Err e) slots = replicate (length slots) no_label

-- the words afterwards: the program in the first ones; a page whose names cannot be gathered leaves all as they were
abbrev pub words_then : Result Gathering Refusal → Result (List ℕ) Refusal → List ℕ → List ℕ
words_then (Ok g) p words = words_after p words
words_then (Err e) p words = words

-- what assembling a page leaves of the label slots and the words
pub record Translated (bytes : List ℕ) (slots slots' : List Label) (ws ws' : List ℕ) : Type 0 where
  pub labels : slots' ≡ labels_then (gathering bytes (length slots)) (program_of bytes (length slots) (length ws)) slots
  pub words : ws' ≡ words_then (gathering bytes (length slots)) (program_of bytes (length slots) (length ws)) ws

-- words are a page's program: each line's stand at its address, and each name of the page stands for its line
pub record PagePlaced (bytes program : List ℕ) : Type 0 where
  pub labels : List Label
  pub names : NamesStand (page bytes) labels
  pub stands : ProgramStands (page bytes) labels program

-- a tape is a page's: it holds the page's program
pub record PageTaped (bytes tape : List ℕ) : Type 0 where
  pub program : List ℕ
  pub placed : PagePlaced bytes program
  pub holds : HoldsProgram program tape
