use Rattle.std.specs.Prelude.{◌≡◌, ℕ, cond, Ok, Err, Result, nat_lt}
use Rattle.refusal.specs.declared.Refusal.{Refusal}
use Rattle.processor.specs.Views.{View, Places}
use Rattle.processor.specs.Rules.{Rules, State, state}
use Rattle.session.specs.Runs.{Ending, told_stop}
use Rattle.session_log.specs.Plain.{fresh, PlainRan, plain_run, after}
use Rattle.session_log.specs.Kept.{Ends}
use Rattle.icmc.specs.declared.machine.Machine.{Machine}
use Rattle.icmc.specs.Steps.{machine_rules}
use Rattle.long_run.specs.declared.report.Report.{Report}

-- how many instructions a journal of j slots has room for, emptied after each 1,000: a shorter one is full before that
abbrev pub room : ℕ → ℕ
room j = cond (nat_lt j 1000) j 1000000

-- a page run to its end: the plain session's one run of 1,000,000; shut, since that is large
unfoldable pub long_run : {P : Type 0} → Rules P → ℕ → State P → PlainRan P
long_run r j w = plain_run r (room j) 1000000 0 (fresh w)

abbrev pub reported : Places → PlainRan Machine → Report
reported p x = record { count = x.done; stop = told_stop p x.ending; machine = x.plain.last.processor }

-- a report, where the page was opened
abbrev pub report_answer : Places → PlainRan Machine → Result Unit Refusal → Result Report Refusal
report_answer p x (Ok u) = Ok (reported p x)
report_answer p x (Err e) = Err e

-- the cells afterwards
abbrev pub view_then : PlainRan Machine → Result Unit Refusal → View → View
view_then x (Ok u) v = x.plain.last.view
view_then x (Err e) v = v

-- a report, and the cells v afterwards, are those of the page w after as many instructions as the report says, and the page had to stop there and no earlier
pub record RanOut (p : Places) (j : ℕ) (w : State Machine) (x : Report) (v : View) : Type 0 where
  pub page : after machine_rules x.count w ≡ Ok (state x.machine v)
  pub ends : (e : Ending) × (x.stop ≡ told_stop p e) × Ends machine_rules (room j) w 0 0 1000000 x.count e
