use Rattle.std.specs.Prelude.{ℕ, ◌+◌, ◌-◌, Bool, cond, ◌&&◌, List, [], ◌∷◌, ◌++◌, length, take, None, Ok, Err, Option, Result, nat_le, nat_lt, slice_set}
use Rattle.std.specs.List.{slice_get}
use Rattle.shelf.specs.declared.Full.{Full}

-- the records on a shelf: those in the first slots, as many as are in use
abbrev pub records : {X : Type 0} → ℕ → List X → List X
records used slots = take used slots

-- a slot is free
abbrev pub has_room : {X : Type 0} → ℕ → List X → Bool
has_room used slots = nat_lt used (length slots)

-- a push: done, or refused where no slot is free
abbrev pub push_answer : {X : Type 0} → ℕ → List X → Result Unit Full
push_answer used slots = cond (has_room used slots) (Ok tt) (Err (record {}))

-- one record more, in the first free slot
abbrev pub slots_pushed : {X : Type 0} → ℕ → List X → X → List X
slots_pushed used slots x = cond (has_room used slots) (slice_set slots used x) slots

abbrev pub used_pushed : {X : Type 0} → ℕ → List X → ℕ
used_pushed used slots = cond (has_room used slots) (used + 1) used

-- the records then: one more, behind the others
abbrev pub records_pushed : {X : Type 0} → ℕ → List X → X → List X
records_pushed used slots x = cond (has_room used slots) (records used slots ++ x ∷ []) (records used slots)

-- a slot is in use, and the last one in use is among those lent
abbrev pub has_last : {X : Type 0} → ℕ → List X → Bool
has_last used slots = nat_lt 0 used && nat_le used (length slots)

abbrev pub last_record : {X : Type 0} → ℕ → List X → Option X
last_record used slots = cond (has_last used slots) (slice_get slots (used - 1)) None

abbrev pub used_popped : {X : Type 0} → ℕ → List X → ℕ
used_popped used slots = cond (has_last used slots) (used - 1) used
