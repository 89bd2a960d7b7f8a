use Rattle.std.specs.Prelude.{ℕ, ◌+◌, ◌-◌, Bool, false, cond, ◌&&◌, Some, None, Option, nat_le, nat_lt}
use Rattle.stores.specs.Cells.{Cells, Locks, Places}

-- an address that lies in a window, and the address below that it means
abbrev pub framed : ℕ → ℕ → ℕ → Bool
framed base size a = nat_lt a size && nat_le (base + a) 65535

abbrev pub meant : ℕ → ℕ → ℕ → Option ℕ
meant base size a = cond (framed base size a) (Some (base + a)) None

-- what a window of a base and a size shows of the cells below
abbrev pub window_cells : ℕ → ℕ → Cells → Cells
window_cells base size m a = cond (framed base size a) (m (base + a)) None

abbrev pub window_locks : ℕ → ℕ → Locks → Locks
window_locks base size o a = cond (framed base size a) (o (base + a)) false

-- past the window the window itself refuses; within it the store below tells its own place
abbrev pub window_places : ℕ → ℕ → Places → Places
window_places base size p a = cond (framed base size a) (p (base + a)) a

-- the addresses from low to below high
abbrev pub fenced : ℕ → ℕ → ℕ → Bool
fenced low high a = nat_le low a && nat_lt a high

-- a fence closes its addresses, and tells the address itself there
abbrev pub fence_locks : ℕ → ℕ → Locks → Locks
fence_locks low high o a = cond (fenced low high a) false (o a)

abbrev pub fence_places : ℕ → ℕ → Places → Places
fence_places low high p a = cond (fenced low high a) a (p a)

-- the second store's address that an address means; none below the border
abbrev pub past : ℕ → ℕ → Option ℕ
past border a = cond (nat_lt a border) None (Some (a - border))

-- below the border the first, from it on the second
abbrev pub split_at : {X : Type 0} → ℕ → (ℕ → X) → (ℕ → X) → ℕ → X
split_at border first second a = cond (nat_lt a border) (first a) (second (a - border))
