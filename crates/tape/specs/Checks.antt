use Rattle.std.specs.Prelude.{ℕ, ◌+◌, ◌%◌, cond, List, [], ◌∷◌, length, Some, None, Ok, Err, Option, Result, ◌==◌, nat_lt}
use Rattle.refusal.specs.declared.Refusal.{Refusal}
use Rattle.refusal.specs.declared.Cause.TheVariants.{MalformedTapeWord, MisplacedTapeEnd, WrongTapeSum, PlacePastEnd}
use Rattle.refusal.specs.Numbers.{refused}
use Rattle.tape.specs.declared.item.Item.{Item}
use Rattle.tape.specs.declared.item.Item.TheVariants.{Put, Move, End}
use Rattle.tape.specs.Items.{item}
use Rattle.tape.specs.Puts.{place_after}

-- the end word at index i: words that follow it, its own sum, and the sum of what was put
abbrev pub end_verdict : ℕ → ℕ → ℕ → ℕ → Result Unit Refusal
end_verdict after i own sum =
    cond (after == 0) (cond (own == sum) (Ok tt) (Err (refused WrongTapeSum i))) (Err (refused MisplacedTapeEnd (i + 1)))

-- what the word at index i decides, if it decides: a malformed word, a word put past the last address, or the end
abbrev pub verdict : Option Item → ℕ → ℕ → ℕ → ℕ → Option (Result Unit Refusal)
verdict None after i place sum = Some (Err (refused MalformedTapeWord i))
verdict (Some (Put n)) after i place sum = cond (nat_lt 65535 place) (Some (Err (refused PlacePastEnd i))) None
verdict (Some (Move a)) after i place sum = None
verdict (Some (End own)) after i place sum = Some (end_verdict after i own sum)

-- the sum of the words put, modulo 65,536
abbrev pub sum_after : Option Item → ℕ → ℕ
sum_after None sum = sum
sum_after (Some (Put n)) sum = (sum + n) % 65536
sum_after (Some (Move a)) sum = sum
sum_after (Some (End own)) sum = sum

-- the words from index i on: the first that decides does; where none does, the end is missing
abbrev pub checks : List ℕ → ℕ → ℕ → ℕ → Result Unit Refusal
checks [] i place sum = Err (refused MisplacedTapeEnd i)
checks (w ∷ ws) i place sum =
    elim (verdict (item w) (length ws) i place sum) [
      | Some answer ↦ answer
      | None ↦ checks ws (i + 1) (place_after (item w) place) (sum_after (item w) sum)
    ]

-- a whole tape
abbrev pub checked : List ℕ → Result Unit Refusal
checked tape = checks tape 0 0 0
