use Rattle.std.specs.Prelude.{ℕ, ◌/◌, ◌%◌, cond, Some, None, Option, ◌==◌}
use Rattle.tape.specs.declared.item.Item.{Item}
use Rattle.tape.specs.declared.item.Item.TheVariants.{Put, Move, End}

-- bits 31 and 30
abbrev pub kind : ℕ → ℕ
kind w = w / 1073741824

-- bits 29 to 16, which are zero in every well-formed word
abbrev pub filler : ℕ → ℕ
filler w = w / 65536 % 16384

-- bits 15 to 0
abbrev pub value : ℕ → ℕ
value w = w % 65536

-- the item of a kind; kind 2 is none
abbrev pub item_of : ℕ → ℕ → Option Item
item_of k n = cond (k == 0) (Some (Put n)) (cond (k == 1) (Some (Move n)) (cond (k == 3) (Some (End n)) None))

-- what a tape word says, if it is well formed
abbrev pub item : ℕ → Option Item
item w = cond (filler w == 0) (item_of (kind w) (value w)) None
