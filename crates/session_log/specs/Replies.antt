use Rattle.std.specs.Prelude.{ℕ, Ok, Err, Option, Result}
use Rattle.refusal.specs.declared.Refusal.{Refusal}
use Rattle.processor.specs.Views.{Fault, Places}
use Rattle.session.specs.Snapshots.{Reason, told_reason, told_fault}
use Rattle.session.specs.Runs.{Ending, told_stop}
use Rattle.session_log.specs.declared.line.Answer.{Answer}
use Rattle.session_log.specs.declared.line.Answer.TheVariants as answer

-- what a call that is done replies
pub data Reply : Type 0 where
  ran : ℕ → Ending → Reply
  taken : ℕ → Option Fault → Reply
  forgotten : Reply
  word : ℕ → Reply

-- the same as it is told: faults as refusals with the places that the stores tell
abbrev pub told_reply : Places → Reply → Answer
told_reply p (ran k e) = answer.Ran (record { done = k; stop = told_stop p e })
told_reply p (taken k f) = answer.Taken (record { done = k; refusal = told_fault p f })
told_reply p forgotten = answer.Forgotten
told_reply p (word w) = answer.Word w

-- a line's mark and answer: done with its reply, or refused
abbrev pub told_line : Places → Result Reply Reason → Result Answer Refusal
told_line p (Ok x) = Ok (told_reply p x)
told_line p (Err e) = Err (told_reason p e)
