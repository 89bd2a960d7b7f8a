use Rattle.std.specs.Prelude.{ℕ, zero, suc, ◌+◌, ◌-◌, cond, List, [], ◌∷◌, length, None, Ok, Err, Result, nat_lt}
use Rattle.refusal.specs.declared.Cause.TheVariants.{RunTooLong, CountTooHigh, BackTooFar}
use Rattle.processor.specs.declared.Mark.TheVariants as mark
use Rattle.processor.specs.Views.{Fault, Places}
use Rattle.processor.specs.Rules.{Rules, State, instruction}
use Rattle.session.specs.Snapshots.{Reason, rule}
use Rattle.session.specs.Runs.{Ending, counted, halted, at_break, full, refused, is_halted}
use Rattle.session.specs.Looks.{looked}
use Rattle.session_log.specs.declared.line.Call.{Call}
use Rattle.session_log.specs.declared.line.Call.TheVariants.{Run, Back, Forget, Look}
use Rattle.session_log.specs.declared.line.Line.{Line}
use Rattle.session_log.specs.Replies.{Reply, ran, taken, forgotten, told_line}
use Rattle.session_log.specs.Serving.{word_reply}

-- The plain session keeps every state: the last one and those before it, the newest first. D, the depth, is how many can be taken back.
pub record Plain (P : Type 0) : Type 0 where
  pub last : State P
  pub past : List (State P)
  pub depth : ℕ

-- K: the states after the first
abbrev pub count : {P : Type 0} → Plain P → ℕ
count s = length s.past

abbrev pub fresh : {P : Type 0} → State P → Plain P
fresh w = record { last = w; past = []; depth = 0 }

-- a state more
abbrev pub push : {P : Type 0} → State P → Plain P → Plain P
push v s = record { last = v; past = s.last ∷ s.past; depth = s.depth + 1 }

-- the last n states dropped
abbrev pub drops : {P : Type 0} → ℕ → Plain P → Plain P
drops zero s = s
drops (suc n) s = elim s.past [ [] ↦ s | v ∷ vs ↦ drops n (record { last = v; past = vs; depth = s.depth - 1 }) ]

-- before an instruction: the state after it, or what holds the run up
pub data Move (P : Type 0) : Type 0 where
  onto : State P → Move P
  held : Ending → Move P

abbrev pub by_instruction : {P : Type 0} → Result (State P) Fault → Move P
by_instruction (Ok v) = onto v
by_instruction (Err f) = held (refused f)

-- a halted machine first, then a journal of j slots that is full, then a refused instruction
abbrev pub move : {P : Type 0} → Rules P → ℕ → Plain P → Move P
move r j s =
    cond (is_halted (r.mark s.last.processor)) (held halted)
    (cond (nat_lt s.depth j) (by_instruction (instruction r s.last)) (held full))

-- a run's end
pub record PlainRan (P : Type 0) : Type 0 where
  pub plain : Plain P
  pub done : ℕ
  pub ending : Ending

abbrev pub plain_ran : {P : Type 0} → Plain P → ℕ → Ending → PlainRan P
plain_ran s k e = record { plain = s; done = k; ending = e }

-- at most n instructions more, k being done: after an instruction a break and a halt come first, before one the count
abbrev pub plain_run : {P : Type 0} → Rules P → ℕ → ℕ → ℕ → Plain P → PlainRan P
plain_run r j zero k s = plain_ran s k counted
plain_run r j (suc n) k s =
    elim (move r j s) [
      | held e ↦ plain_ran s k e
      | onto v ↦ elim (r.mark v.processor) [
        | mark.Ready ↦ plain_run r j n (k + 1) (push v s)
        | mark.AtBreak ↦ plain_ran (push v s) (k + 1) at_break
        | mark.Halted ↦ plain_ran (push v s) (k + 1) halted
      ]
    ]

-- a call: how it leaves the plain session, and what it replies
pub record PlainServed (P : Type 0) : Type 0 where
  pub plain : Plain P
  pub reply : Result Reply Reason

abbrev pub replied : {P : Type 0} → Plain P → Result Reply Reason → PlainServed P
replied s x = record { plain = s; reply = x }

abbrev pub plain_call : {P : Type 0} → Rules P → ℕ → Call → Plain P → PlainServed P
plain_call r j (Run n) s =
    cond (nat_lt 1000000 n) (replied s (Err (rule RunTooLong)))
    (cond (nat_lt 4000000000 (count s + n)) (replied s (Err (rule CountTooHigh)))
    (let x = plain_run r j n 0 s in replied x.plain (Ok (ran x.done x.ending))))
plain_call r j (Back n) s =
    cond (nat_lt s.depth n) (replied s (Err (rule BackTooFar))) (replied (drops n s) (Ok (taken n None)))
plain_call r j Forget s = replied (record { last = s.last; past = s.past; depth = 0 }) (Ok forgotten)
plain_call r j (Look x) s = replied s (word_reply (looked r x s.last))

-- the plain session after the calls of a log
abbrev pub plain_after : {P : Type 0} → Rules P → ℕ → List (Line P) → Plain P → Plain P
plain_after r j [] s = s
plain_after r j (l ∷ ls) s = plain_after r j ls (plain_call r j l.call s).plain

-- a line of the log, filled in: mark and answer, K and the processor after it
abbrev pub filled : {P : Type 0} → Places → Line P → PlainServed P → Line P
filled p l x =
    record {
      call = l.call;
      answer = told_line p x.reply;
      count = count x.plain;
      processor = x.plain.last.processor;
    }

-- the lines of a log, filled in
abbrev pub plain_lines : {P : Type 0} → Rules P → Places → ℕ → List (Line P) → Plain P → List (Line P)
plain_lines r p j [] s = []
plain_lines r p j (l ∷ ls) s =
    filled p l (plain_call r j l.call s) ∷ plain_lines r p j ls (plain_call r j l.call s).plain

-- the page after exactly k instructions from a state on, if none of them is refused
abbrev pub then_instruction : {P : Type 0} → Rules P → Result (State P) Fault → Result (State P) Fault
then_instruction r (Ok s) = instruction r s
then_instruction r (Err f) = Err f

abbrev pub after : {P : Type 0} → Rules P → ℕ → State P → Result (State P) Fault
after r zero w = Ok w
after r (suc k) w = then_instruction r (after r k w)
