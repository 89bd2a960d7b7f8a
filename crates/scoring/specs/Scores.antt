use Rattle.std.specs.Prelude.{ℕ, true, cond, List, length, Some, Ok, Err, Result, nat_lt, slice_index}
use Rattle.refusal.specs.declared.Refusal.{Refusal}
use Rattle.processor.specs.Views.{Cells, View, view, Places}
use Rattle.processor.specs.Rules.{State, state}
use Rattle.session.specs.Opens.{loaded, load_answer}
use Rattle.session_log.specs.Logs.{opening}
use Rattle.icmc.specs.declared.machine.Machine.{Machine}
use Rattle.icmc.specs.Steps.{machine_rules}
use Rattle.long_run.specs.declared.report.Report.{Report}
use Rattle.long_run.specs.LongRuns.{long_run, report_answer, view_then, RanOut}
use Rattle.scoring.specs.Assembly.{PagePlaced}

-- a page's tape opened and run to its end, or why there is none
abbrev pub score_answer : Places → ℕ → ℕ → View → Result (List ℕ) Refusal → Result Report Refusal
score_answer p j stack v (Ok t) = report_answer p (long_run machine_rules j (opening machine_rules stack v t)) (load_answer (loaded p v t))
score_answer p j stack v (Err e) = Err e

-- the cells afterwards
abbrev pub view_scored : Places → ℕ → ℕ → View → Result (List ℕ) Refusal → View
view_scored p j stack v (Ok t) = view_then (long_run machine_rules j (opening machine_rules stack v t)) (load_answer (loaded p v t)) v
view_scored p j stack v (Err e) = v

-- the cells with a program in them: its words at the addresses from 0 on, every other cell as it was
abbrev pub with_words : List ℕ → Cells → Cells
with_words ws m a = cond (nat_lt a (length ws)) (Some (record { word = slice_index ws a; unlocked = true })) (m a)

abbrev pub with_program : List ℕ → View → View
with_program ws v = view (with_words ws v.memory) v.screen v.keys

-- the machine at its start, with a program in the memory
abbrev pub start_with : ℕ → List ℕ → View → State Machine
start_with stack ws v = state (machine_rules.start stack) (with_program ws v)

-- a report, and the cells w afterwards, are a page's: those of its program, put into the cells v and run to its end
pub record PageScored (p : Places) (j stack : ℕ) (bytes : List ℕ) (v : View) (x : Report) (w : View) : Type 0 where
  pub program : List ℕ
  pub placed : PagePlaced bytes program
  pub ran : RanOut p j (start_with stack program v) x w
