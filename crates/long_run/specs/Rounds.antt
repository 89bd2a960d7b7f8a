use Rattle.std.specs.Prelude.{ℕ, zero, suc, Bool, true, false, cond, Ok, Err, Result}
use Rattle.refusal.specs.declared.Refusal.{Refusal}
use Rattle.processor.specs.Views.{Places}
use Rattle.processor.specs.Rules.{Rules}
use Rattle.session.specs.declared.answers.Stop.{Stop}
use Rattle.session.specs.declared.answers.Stop.TheVariants as stop
use Rattle.session.specs.Snapshots.{Snapshot}
use Rattle.session_log.specs.declared.line.Answer.{Answer}
use Rattle.session_log.specs.declared.line.Answer.TheVariants as answer
use Rattle.session_log.specs.declared.line.Call.TheVariants.{Run, Forget}
use Rattle.session_log.specs.Replies.{told_line}
use Rattle.session_log.specs.Serving.{serves}

-- the stop on a line that a run is asked for on
abbrev pub stop_of : Result Answer Refusal → Stop
stop_of (Ok (answer.Ran x)) = x.stop
stop_of (Ok (answer.Taken x)) = stop.CountReached
stop_of (Ok answer.Forgotten) = stop.CountReached
stop_of (Ok (answer.Word w)) = stop.CountReached
stop_of (Err e) = stop.Refused e

-- how a round, or several, left a session, and the last stop
pub record Turned (P : Type 0) : Type 0 where
  pub after : Snapshot P
  pub stop : Stop

-- one round: a run of m, then a forget
abbrev pub one_round : {P : Type 0} → Rules P → Places → ℕ → Snapshot P → Turned P
one_round r p m d =
    record {
      after = (serves r Forget (serves r (Run m) d).after).after;
      stop = stop_of (told_line p (serves r (Run m) d).reply);
    }

-- whether another round follows
abbrev pub goes_on : Stop → Bool
goes_on stop.CountReached = true
goes_on stop.Halted = false
goes_on stop.AtBreak = false
goes_on stop.JournalFull = false
goes_on (stop.Refused e) = false

-- at most n rounds of m, as long as each does its m; shut, since n is large
unfoldable pub rounds : {P : Type 0} → Rules P → Places → ℕ → ℕ → Snapshot P → Turned P
rounds r p m zero d = record { after = d; stop = stop.CountReached }
rounds r p m (suc n) d = cond (goes_on (one_round r p m d).stop) (rounds r p m n (one_round r p m d).after) (one_round r p m d)
