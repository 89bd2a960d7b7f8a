use Rattle.std.specs.Prelude.{false, None}
use Rattle.stores.specs.Cells.{Cells, Locks, Places}

-- every address absent
abbrev pub no_cells : Cells
no_cells a = None

abbrev pub no_locks : Locks
no_locks a = false

abbrev pub own_places : Places
own_places a = a
