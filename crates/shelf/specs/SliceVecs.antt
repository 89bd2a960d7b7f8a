use Rattle.std.specs.Prelude.{◌≡◌, List, length, drop}
use Rattle.shelf.specs.Slots.{records}
use Rattle.shelf.specs.declared.slice_vec.SliceVec.{SliceVec}

-- the records
abbrev pub items : {T : Type 0} → SliceVec T → List T
items v = records v.shelf.used v.slots.now

-- the slots that are free
abbrev pub free : {T : Type 0} → SliceVec T → List T
free v = drop v.shelf.used v.slots.now

-- the same slots, which hold these records now; the slots after them stay as they were
pub record NowHolds {T : Type 0} (old new : SliceVec T) (xs : List T) : Type 0 where
  pub same_slots : new.slots.ghost_name ≡ old.slots.ghost_name
  pub items : items new ≡ xs
  pub used : new.shelf.used ≡ length xs
  pub others : drop (length xs) new.slots.now ≡ drop (length xs) old.slots.now
  pub slots : length new.slots.now ≡ length old.slots.now
