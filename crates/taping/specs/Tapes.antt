use Rattle.std.specs.Prelude.{◌≡◌, ℕ, suc, ◌+◌, ◌%◌, ◌<◌, ◌≤◌, cond, List, [], ◌∷◌, ◌++◌, length, drop, Some, None, Ok, Err, sum, Option, Result, nat_le, slice_index}
use Rattle.refusal.specs.declared.Cause.{Cause}
use Rattle.refusal.specs.declared.Cause.TheVariants.{TooManyWords, TapeTooShort}
use Rattle.refusal.specs.Numbers.{refused}
use Rattle.tape.specs.declared.item.Item.TheVariants.{Put, Move, End}
use Rattle.tape.specs.declared.cursor.CellWord.{CellWord}
use Rattle.tape.specs.Items.{item}
use Rattle.tape.specs.Puts.{puts}
use Rattle.tape.specs.Checks.{checked}
use Rattle.pages.specs.declared.placing.Placed.{Placed}
use Rattle.taping.specs.declared.Untaped.{Untaped}

-- the sum of a program's words
abbrev pub checksum : List ℕ → ℕ
checksum ws = sum ws % 65536

-- a program as a tape: kind 1 with 0, the words as kind 0, and kind 3 with their sum
abbrev pub tape_of : List ℕ → List ℕ
tape_of ws = 0x4000_0000 ∷ (ws ++ (0xc000_0000 + checksum ws) ∷ [])

-- why a program of n words is not taped, where so many words and tape places are lent
abbrev pub tape_fault : ℕ → ℕ → ℕ → Option Cause
tape_fault n words places = cond (nat_le n words) (cond (nat_le (n + 2) places) None (Some TapeTooShort)) (Some TooManyWords)

abbrev pub tape_answer : Placed → Option Cause → Result ℕ Untaped
tape_answer p None = Ok (p.size + 2)
tape_answer p (Some c) = Err (record { placed = p; refusal = refused c 0 })

-- the tape afterwards: the program in the first places, the others as they were
abbrev pub tape_after : Option Cause → List ℕ → List ℕ → List ℕ
tape_after None ws tape = tape_of ws ++ drop (length ws + 2) tape
tape_after (Some c) ws tape = tape

-- words for the addresses from a on
abbrev pub cell_words : ℕ → List ℕ → List CellWord
cell_words a [] = []
cell_words a (w ∷ ws) = record { at = a; word = w } ∷ cell_words (a + 1) ws

-- a tape holds a program: its words in order, from the place 0 on, and their sum
pub record HoldsProgram (ws tape : List ℕ) : Type 0 where
  pub size : length tape ≡ length ws + 2
  pub start : item (slice_index tape 0) ≡ Some (Move 0)
  pub words : (i : ℕ) → i < length ws → item (slice_index tape (suc i)) ≡ Some (Put (slice_index ws i))
  pub end : item (slice_index tape (suc (length ws))) ≡ Some (End (sum ws % 65536))
  -- a session takes it, and puts exactly the program's words, each at its own address
  pub accepted : length ws ≤ 65536 → checked tape ≡ Ok tt
  pub puts : length ws ≤ 65536 → puts tape ≡ cell_words 0 ws
