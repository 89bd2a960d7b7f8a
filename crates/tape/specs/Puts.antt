use Rattle.std.specs.Prelude.{ℕ, ◌+◌, cond, List, [], ◌∷◌, Some, None, Option, nat_lt}
use Rattle.tape.specs.declared.item.Item.{Item}
use Rattle.tape.specs.declared.item.Item.TheVariants.{Put, Move, End}
use Rattle.tape.specs.declared.cursor.CellWord.{CellWord}
use Rattle.tape.specs.Items.{item}

-- the place of the next word after an item
abbrev pub place_after : Option Item → ℕ → ℕ
place_after None place = place
place_after (Some (Put n)) place = cond (nat_lt 65535 place) place (place + 1)
place_after (Some (Move a)) place = a
place_after (Some (End s)) place = place

-- the word that an item puts at the place; none past the last address, where no tape that is accepted puts one
abbrev pub put_by : Option Item → ℕ → Option CellWord
put_by None place = None
put_by (Some (Put n)) place = cond (nat_lt 65535 place) None (Some (record { at = place; word = n }))
put_by (Some (Move a)) place = None
put_by (Some (End s)) place = None

abbrev pub with_put : Option CellWord → List CellWord → List CellWord
with_put None ps = ps
with_put (Some p) ps = p ∷ ps

-- the words that a tape puts, in order, with their addresses
abbrev pub puts_from : ℕ → List ℕ → List CellWord
puts_from place [] = []
puts_from place (w ∷ ws) = with_put (put_by (item w) place) (puts_from (place_after (item w) place) ws)

abbrev pub puts : List ℕ → List CellWord
puts tape = puts_from 0 tape
