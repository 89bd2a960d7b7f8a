use Rattle.std.specs.Prelude.{◌≡◌, ℕ, ◌≤◌, List, [], ◌∷◌, length, Ok}
use Rattle.processor.specs.Rules.{Rules, State, instruction, state_of}
use Rattle.session.specs.declared.entry.Entry.{Entry}
use Rattle.session.specs.Snapshots.{Snapshot}
use Rattle.session.specs.Backs.{newest}
use Rattle.session.specs.Trials.{restored}
use Rattle.session_log.specs.Plain.{Plain, count}

-- the entries, the newest first, lead back from a state to those before it
abbrev pub Undo : {P : Type 0} → List (Entry P) → State P → List (State P) → Type 0
Undo [] s past = Unit {0}
Undo (e ∷ es) s [] = ⊥
Undo (e ∷ es) s (v ∷ past) = (state_of (restored s e) ≡ Ok v) × Undo es v past

-- each state comes from the one before it by one instruction, and the first is w
abbrev pub Follow : {P : Type 0} → Rules P → State P → State P → List (State P) → Type 0
Follow r w s [] = w ≡ s
Follow r w s (v ∷ past) = (instruction r v ≡ Ok s) × Follow r w v past

-- a session, with what it is handed, stands as a plain session that was opened at the state w, over a journal of j slots
pub record Stands {P : Type 0} (r : Rules P) (w : State P) (j : ℕ) (d : Snapshot P) (s : Plain P) : Type 0 where
  pub last : d.state ≡ s.last
  pub kept : d.count ≡ count s
  pub depth : d.used ≡ s.depth
  pub lent : length d.slots ≡ j
  pub within : d.used ≤ j
  pub undo : Undo (newest d.used d.slots) s.last s.past
  pub follow : Follow r w s.last s.past
