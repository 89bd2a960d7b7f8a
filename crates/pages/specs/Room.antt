use Rattle.std.specs.Prelude.{ℕ, ◌+◌, ◌≤◌, length}
use Rattle.shelf.specs.SliceVecs.{items}
use Rattle.shelf.specs.declared.slice_vec.SliceVec.{SliceVec}

-- so many slots more are free
abbrev pub HasRoom : {T : Type 0} → ℕ → SliceVec T → Type 0
HasRoom n v = length (items v) + n ≤ length v.slots.now
