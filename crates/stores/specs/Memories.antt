use Rattle.std.specs.Prelude.{ℕ, ◌+◌, ◌*◌, ◌/◌, ◌%◌, true, cond, List, length, Some, None, nat_lt, slice_index, slice_set}
use Rattle.stores.specs.Cells.{Cells, Locks, Places}

-- every address is open
abbrev pub all_open : Locks
all_open a = true

-- a refusal tells the address itself
abbrev pub itself : Places
itself a = a

-- a list from address 0: of words, or of the bytes of a text
abbrev pub listed : List ℕ → Cells
listed ws a = cond (nat_lt a (length ws)) (Some (slice_index ws a)) None

-- words from address 0, two bytes each, the high byte first
abbrev pub paired : List ℕ → Cells
paired bs a = cond (nat_lt (a * 2 + 1) (length bs)) (Some (slice_index bs (a * 2) * 256 + slice_index bs (a * 2 + 1))) None

-- the bytes lent after a write: both bytes of the word, or none
abbrev pub bytes_after : List ℕ → ℕ → ℕ → List ℕ
bytes_after bs a w = cond (nat_lt (a * 2 + 1) (length bs)) (slice_set (slice_set bs (a * 2) (w / 256)) (a * 2 + 1) (w % 256)) bs
