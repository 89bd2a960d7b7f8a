use Rattle.std.specs.Prelude.{ℕ, ◌+◌, ◌-◌, cond, ◌&&◌, ◌||◌, List, [], ◌∷◌, reverse, length, take, Some, None, Ok, Err, Option, Result, nat_lt}
use Rattle.refusal.specs.declared.Refusal.{Refusal}
use Rattle.refusal.specs.declared.Cause.TheVariants.{BackTooFar}
use Rattle.processor.specs.Views.{Fault, Places}
use Rattle.processor.specs.Rules.{Moved}
use Rattle.session.specs.declared.answers.Taken.{Taken}
use Rattle.session.specs.declared.entry.Entry.{Entry}
use Rattle.session.specs.Snapshots.{Snapshot, Reason, rule, told_reason, told_fault}
use Rattle.session.specs.Trials.{restored}

-- the entries in use, the newest first
abbrev pub newest : {P : Type 0} → ℕ → List (Entry P) → List (Entry P)
newest used slots = reverse (take used slots)

-- an instruction that was taken back
abbrev pub undone : {P : Type 0} → Result (Moved P) Fault → Snapshot P → Snapshot P
undone (Ok m) d = record { state = m.state; count = d.count - 1; used = d.used - 1; slots = d.slots }
undone (Err f) d = d

-- a back's end: how it left the session, how many instructions it took back, and the fault that stopped it short
pub record Gone (P : Type 0) : Type 0 where
  pub after : Snapshot P
  pub done : ℕ
  pub fault : Option Fault

abbrev pub gone : {P : Type 0} → Snapshot P → ℕ → Option Fault → Gone P
gone d k f = record { after = d; done = k; fault = f }

-- the entries' instructions taken back one after another, k being taken back before
abbrev pub takes : {P : Type 0} → List (Entry P) → ℕ → Snapshot P → Gone P
takes [] k d = gone d k None
takes (e ∷ es) k d =
    elim (restored d.state e) [ Ok m ↦ takes es (k + 1) (undone (Ok m) d) | Err f ↦ gone d k (Some f) ]

abbrev pub backs_on : {P : Type 0} → ℕ → ℕ → Snapshot P → Gone P
backs_on n k d = takes (take n (newest d.used d.slots)) k d

-- a back of n, or why it is refused: it goes past the slots in use, or needs slots that are not lent
abbrev pub back : {P : Type 0} → ℕ → Snapshot P → Result (Gone P) Reason
back n d =
    cond (nat_lt d.used n || (nat_lt 0 n && nat_lt (length d.slots) d.used)) (Err (rule BackTooFar)) (Ok (backs_on n 0 d))

abbrev pub told_taken : {P : Type 0} → Places → Gone P → Taken
told_taken p x = record { done = x.done; refusal = told_fault p x.fault }

abbrev pub back_answer : {P : Type 0} → Places → Result (Gone P) Reason → Result Taken Refusal
back_answer p (Ok x) = Ok (told_taken p x)
back_answer p (Err e) = Err (told_reason p e)

abbrev pub back_after : {P : Type 0} → Result (Gone P) Reason → Snapshot P → Snapshot P
back_after (Ok x) d = x.after
back_after (Err e) d = d

-- forgetting frees all slots and alters none
abbrev pub forgotten : {P : Type 0} → Snapshot P → Snapshot P
forgotten d = record { state = d.state; count = d.count; used = 0; slots = d.slots }
