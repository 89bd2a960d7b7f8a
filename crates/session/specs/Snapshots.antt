use Rattle.std.specs.Prelude.{ℕ, List, Some, None, Ok, Err, Option, Result}
use Rattle.refusal.specs.declared.Refusal.{Refusal}
use Rattle.refusal.specs.declared.Cause.{Cause}
use Rattle.refusal.specs.Numbers.{refused}
use Rattle.processor.specs.Views.{View, Fault, Places, told}
use Rattle.processor.specs.Rules.{State, state}
use Rattle.session.specs.declared.entry.Entry.{Entry}
use Rattle.session.specs.declared.state.Session.{Session}

-- a session with all that a call is handed: its state, the instructions done (K), the journal slots in use, the slots
pub record Snapshot (P : Type 0) : Type 0 where
  pub state : State P
  pub count : ℕ
  pub used : ℕ
  pub slots : List (Entry P)

abbrev pub snapshot : {P : Type 0} → Session P → View → List (Entry P) → Snapshot P
snapshot s v j = record { state = state s.processor v; count = s.count; used = s.journal.used; slots = j }

-- why a call is refused: by its own rule, with place 0, or by a store or an instruction
pub data Reason : Type 0 where
  rule : Cause → Reason
  fault : Fault → Reason

abbrev pub told_reason : Places → Reason → Refusal
told_reason p (rule c) = refused c 0
told_reason p (fault f) = told p f

-- an answer with its reason told as a refusal
abbrev pub told_answer : {X : Type 0} → Places → Result X Reason → Result X Refusal
told_answer p (Ok x) = Ok x
told_answer p (Err e) = Err (told_reason p e)

abbrev pub told_fault : Places → Option Fault → Option Refusal
told_fault p None = None
told_fault p (Some f) = Some (told p f)
