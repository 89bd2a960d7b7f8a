use Rattle.std.specs.Prelude.{Result}
use Rattle.processor.specs.Views.{Fault}
use Rattle.processor.specs.Rules.{Rules, State, Moved, moved, stepped}
use Rattle.session.specs.declared.entry.Entry.{Entry}

-- Both are shut to proofs that need not look inside.

-- the next instruction tried
unfoldable pub tried : {P : Type 0} → Rules P → State P → Result (Moved P) Fault
tried r s = stepped r s

-- what an entry puts back: the processor, and the word of the cell that was written
unfoldable pub restored : {P : Type 0} → State P → Entry P → Result (Moved P) Fault
restored s e = moved s.view e.before e.undo
