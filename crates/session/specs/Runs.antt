use Rattle.std.specs.Prelude.{ℕ, zero, suc, ◌+◌, Bool, true, false, cond, length, Some, None, Ok, Err, Option, Result, nat_lt, slice_set}
use Rattle.refusal.specs.declared.Refusal.{Refusal}
use Rattle.refusal.specs.declared.Cause.TheVariants.{RunTooLong, CountTooHigh}
use Rattle.processor.specs.declared.Mark.{Mark}
use Rattle.processor.specs.declared.Mark.TheVariants as mark
use Rattle.processor.specs.Views.{Fault, Places, told}
use Rattle.processor.specs.Rules.{Rules, Moved}
use Rattle.session.specs.declared.answers.Ran.{Ran}
use Rattle.session.specs.declared.answers.Stop.{Stop}
use Rattle.session.specs.declared.answers.Stop.TheVariants as stop
use Rattle.session.specs.Snapshots.{Snapshot, Reason, rule, told_reason}
use Rattle.session.specs.Trials.{tried}

-- the number of each stop
abbrev pub stop_number : Stop → ℕ
stop_number stop.CountReached = 0
stop_number stop.Halted = 1
stop_number stop.AtBreak = 2
stop_number stop.JournalFull = 3
stop_number (stop.Refused e) = 4

-- why a run stops
pub data Ending : Type 0 where
  counted : Ending
  halted : Ending
  at_break : Ending
  full : Ending
  refused : Fault → Ending

abbrev pub told_stop : Places → Ending → Stop
told_stop p counted = stop.CountReached
told_stop p halted = stop.Halted
told_stop p at_break = stop.AtBreak
told_stop p full = stop.JournalFull
told_stop p (refused f) = stop.Refused (told p f)

abbrev pub is_halted : Mark → Bool
is_halted mark.Ready = false
is_halted mark.AtBreak = false
is_halted mark.Halted = true

-- what a turn of a run comes to: an instruction that goes on, the last one, or none
pub data Course : Type 0 where
  goes_on : Course
  last : Ending → Course
  none : Ending → Course

-- the same as a turn tells it: where no instruction was done, the stop is an error
abbrev pub told_turn : Places → Course → Result (Option Stop) Stop
told_turn p goes_on = Ok None
told_turn p (last e) = Ok (Some (told_stop p e))
told_turn p (none e) = Err (told_stop p e)

-- by the mark that an instruction leaves: a halted machine and a break stop the run
abbrev pub by_mark : Mark → Course
by_mark mark.Ready = goes_on
by_mark mark.AtBreak = last at_break
by_mark mark.Halted = last halted

abbrev pub by_step : {P : Type 0} → Rules P → Result (Moved P) Fault → Course
by_step r (Ok m) = by_mark (r.mark m.state.processor)
by_step r (Err f) = none (refused f)

-- one turn: a halted machine first, then a full journal, then the instruction
abbrev pub course : {P : Type 0} → Rules P → Snapshot P → Course
course r d =
    cond (is_halted (r.mark d.state.processor)) (none halted)
    (cond (nat_lt d.used (length d.slots)) (by_step r (tried r d.state)) (none full))

-- an instruction that was done, with its entry in the next slot
abbrev pub noted : {P : Type 0} → Result (Moved P) Fault → Snapshot P → Snapshot P
noted (Ok m) d =
    record {
      state = m.state;
      count = d.count + 1;
      used = d.used + 1;
      slots = slice_set d.slots d.used (record { before = d.state.processor; undo = m.undo });
    }
noted (Err f) d = d

abbrev pub noted_answer : {P : Type 0} → Places → Result (Moved P) Fault → Result Unit Refusal
noted_answer p (Ok m) = Ok tt
noted_answer p (Err f) = Err (told p f)

abbrev pub turned : {P : Type 0} → Rules P → Snapshot P → Snapshot P
turned r d =
    cond (is_halted (r.mark d.state.processor)) d
    (cond (nat_lt d.used (length d.slots)) (noted (tried r d.state) d) d)

-- a run's end: how it left the session, how many instructions it did, and why it stopped
pub record Ended (P : Type 0) : Type 0 where
  pub after : Snapshot P
  pub done : ℕ
  pub ending : Ending

abbrev pub ended : {P : Type 0} → Snapshot P → ℕ → Ending → Ended P
ended d k e = record { after = d; done = k; ending = e }

-- at most n instructions more, k being done
abbrev pub runs_on : {P : Type 0} → Rules P → ℕ → ℕ → Snapshot P → Ended P
runs_on r zero k d = ended d k counted
runs_on r (suc n) k d =
    elim (course r d) [
      | goes_on ↦ runs_on r n (k + 1) (turned r d)
      | last e ↦ ended (turned r d) (k + 1) e
      | none e ↦ ended (turned r d) k e
    ]

-- a run of n, or why it is refused
abbrev pub run : {P : Type 0} → Rules P → ℕ → Snapshot P → Result (Ended P) Reason
run r n d =
    cond (nat_lt 1000000 n) (Err (rule RunTooLong))
    (cond (nat_lt 4000000000 (d.count + n)) (Err (rule CountTooHigh)) (Ok (runs_on r n 0 d)))

abbrev pub told_ran : {P : Type 0} → Places → Ended P → Ran
told_ran p x = record { done = x.done; stop = told_stop p x.ending }

abbrev pub run_answer : {P : Type 0} → Places → Result (Ended P) Reason → Result Ran Refusal
run_answer p (Ok x) = Ok (told_ran p x)
run_answer p (Err e) = Err (told_reason p e)

abbrev pub run_after : {P : Type 0} → Result (Ended P) Reason → Snapshot P → Snapshot P
run_after (Ok x) d = x.after
run_after (Err e) d = d
