use Rattle.std.proofs.Common.{ℕ, ◌+◌, Bool, cond, Result}
use Rattle.processor.specs.declared.Mark.{Mark}
use Rattle.processor.specs.declared.Mark.TheVariants as mark
use Rattle.processor.specs.Views.{Fault}
use Rattle.processor.specs.Rules.{Rules, State}
use Rattle.session.specs.Runs.{halted, at_break, full}
use Rattle.session_log.specs.Plain.{Plain, push, Move, onto, held, by_instruction, PlainRan, plain_ran, plain_run}

-- a turn of a plain run, by what is known of it
module _ {P : Type 0} (r : Rules P) (j : ℕ) where
  -- the mark that its instruction leaves
  abbrev pub marked : ℕ → ℕ → State P → Plain P → Mark → PlainRan P
  marked n k v s m =
      elim m [
        | mark.Ready ↦ plain_run r j n (k + 1) (push v s)
        | mark.AtBreak ↦ plain_ran (push v s) (k + 1) at_break
        | mark.Halted ↦ plain_ran (push v s) (k + 1) halted
      ]

  -- what comes before that instruction
  abbrev pub moved : ℕ → ℕ → Plain P → Move P → PlainRan P
  moved n k s m = elim m [ held e ↦ plain_ran s k e | onto v ↦ marked n k v s (r.mark v.processor) ]

-- what comes before it, by the tests: halted, room in the journal, the instruction
abbrev pub tested : {P : Type 0} → Bool → Bool → Result (State P) Fault → Move P
tested h b o = cond h (held halted) (cond b (by_instruction o) (held full))
