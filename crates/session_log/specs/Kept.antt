use Rattle.std.specs.Prelude.{◌≡◌, ℕ, ◌+◌, ◌-◌, ◌<◌, ◌≤◌, Bool, true, false, cond, ◌&&◌, List, [], ◌∷◌, Some, None, Ok, Err, Option, Result, ◌==◌, nat_lt}
use Rattle.refusal.specs.declared.Refusal.{Refusal}
use Rattle.refusal.specs.declared.Cause.TheVariants.{RunTooLong, CountTooHigh, BackTooFar}
use Rattle.refusal.specs.Numbers as refusal
use Rattle.processor.specs.declared.Mark.{Mark}
use Rattle.processor.specs.declared.Mark.TheVariants as mark
use Rattle.processor.specs.Views.{View, Fault, Places}
use Rattle.processor.specs.Rules.{Rules, State, state, instruction}
use Rattle.session.specs.declared.looks.Spot.{Spot}
use Rattle.session.specs.Runs.{Ending, counted, halted, at_break, full, refused, is_halted, told_stop}
use Rattle.session.specs.Looks.{looked}
use Rattle.session_log.specs.declared.line.Answer.{Answer}
use Rattle.session_log.specs.declared.line.Answer.TheVariants as answer
use Rattle.session_log.specs.declared.line.Call.{Call}
use Rattle.session_log.specs.declared.line.Call.TheVariants.{Run, Back, Forget, Look}
use Rattle.session_log.specs.declared.line.Line.{Line}
use Rattle.session_log.specs.Replies.{told_line}
use Rattle.session_log.specs.Serving.{word_reply}
use Rattle.session_log.specs.Plain.{after}

-- What a log keeps to, said of its lines and of the page alone: w is the page as it was opened, `after r k w` the page after k instructions.

abbrev pub is_break : Mark → Bool
is_break mark.Ready = false
is_break mark.AtBreak = true
is_break mark.Halted = false

-- what the next instruction would end a run by
abbrev pub by_next : {P : Type 0} → Result (State P) Fault → Option Ending
by_next (Ok v) = None
by_next (Err f) = Some (refused f)

-- what ends a run of n at the state u, which it reached by i instructions, where d could be taken back before it and the journal has j slots:
-- after an instruction of its own a halt and a break come first; then the count, a halted machine, a full journal, a refused instruction
abbrev pub ending : {P : Type 0} → Rules P → ℕ → ℕ → ℕ → ℕ → State P → Option Ending
ending r j d n i u =
    cond (nat_lt 0 i && is_halted (r.mark u.processor)) (Some halted)
    (cond (nat_lt 0 i && is_break (r.mark u.processor)) (Some at_break)
    (cond (i == n) (Some counted)
    (cond (is_halted (r.mark u.processor)) (Some halted)
    (cond (nat_lt (d + i) j) (by_next (instruction r u)) (Some full)))))

-- what can hold a run up before its count: a break that it has itself just done, a halted machine, a refused next instruction, a full journal
pub data Met {P : Type 0} (r : Rules P) (j d i : ℕ) (u : State P) : Type 0 where
  own_break : 0 < i → r.mark u.processor ≡ mark.AtBreak → Met r j d i u
  halted_machine : r.mark u.processor ≡ mark.Halted → Met r j d i u
  refused_next : (f : Fault) → instruction r u ≡ Err f → Met r j d i u
  full_journal : j ≤ d + i → Met r j d i u

-- a run of n that began at the page after c instructions did k and ended by e, no earlier than it had to
pub record Ends {P : Type 0} (r : Rules P) (j : ℕ) (w : State P) (c d n k : ℕ) (e : Ending) : Type 0 where
  pub most : k ≤ n
  pub here : (u : State P) × (after r (c + k) w ≡ Ok u) × (ending r j d n k u ≡ Some e) × (k < n → Met r j d k u)
  pub before : (i : ℕ) → i < k → (u : State P) → after r (c + i) w ≡ Ok u → (ending r j d n i u ≡ None) × (Met r j d i u → ⊥)

-- the answer and the new count of a run, c instructions being done and d to be taken back before it
pub data RunKept {P : Type 0} (r : Rules P) (p : Places) (j : ℕ) (w : State P) (c d n : ℕ) : Result Answer Refusal → ℕ → Type 0 where
  too_long : 1000000 < n → RunKept r p j w c d n (Err (refusal.refused RunTooLong 0)) c
  too_high : n ≤ 1000000 → 4000000000 < c + n → RunKept r p j w c d n (Err (refusal.refused CountTooHigh 0)) c
  done : (k : ℕ) (e : Ending) → n ≤ 1000000 → c + n ≤ 4000000000 → Ends r j w c d n k e
      → RunKept r p j w c d n (Ok (answer.Ran (record { done = k; stop = told_stop p e }))) (c + k)

-- of a back: it is refused exactly when it names more than can be taken back
pub data BackKept (c d n : ℕ) : Result Answer Refusal → ℕ → Type 0 where
  too_far : d < n → BackKept c d n (Err (refusal.refused BackTooFar 0)) c
  done : n ≤ d → BackKept c d n (Ok (answer.Taken (record { done = n; refusal = None }))) (c - n)

pub data ForgetKept (c : ℕ) : Result Answer Refusal → ℕ → Type 0 where
  done : ForgetKept c (Ok answer.Forgotten) c

-- a look shows the page as it stands
pub data LookKept {P : Type 0} (r : Rules P) (p : Places) (w : State P) (c : ℕ) (x : Spot) : Result Answer Refusal → ℕ → Type 0 where
  shown : (u : State P) → after r c w ≡ Ok u → LookKept r p w c x (told_line p (word_reply (looked r x u))) c

abbrev pub CallKept : {P : Type 0} → Rules P → Places → ℕ → State P → ℕ → ℕ → Call → Result Answer Refusal → ℕ → Type 0
CallKept r p j w c d (Run n) x k = RunKept r p j w c d n x k
CallKept r p j w c d (Back n) x k = BackKept c d n x k
CallKept r p j w c d Forget x k = ForgetKept c x k
CallKept r p j w c d (Look s) x k = LookKept r p w c s x k

-- D over the lines: what runs did less what backs took, from the opening or the last forget on
abbrev pub depth_after : ℕ → Result Answer Refusal → ℕ
depth_after d (Ok (answer.Ran x)) = d + x.done
depth_after d (Ok (answer.Taken x)) = d - x.done
depth_after d (Ok answer.Forgotten) = 0
depth_after d (Ok (answer.Word x)) = d
depth_after d (Err e) = d

-- a line's processor is that of the page after exactly as many instructions as the line says
abbrev pub PageLine : {P : Type 0} → Rules P → State P → Line P → Type 0
PageLine r w l = (v : View) × (after r l.count w ≡ Ok (state l.processor v))

-- every line of a log, c instructions being done and d to be taken back before its first
abbrev pub LogKept : {P : Type 0} → Rules P → Places → ℕ → State P → ℕ → ℕ → List (Line P) → Type 0
LogKept r p j w c d [] = Unit {0}
LogKept r p j w c d (l ∷ ls) =
    CallKept r p j w c d l.call l.answer l.count × PageLine r w l × LogKept r p j w l.count (depth_after d l.answer) ls
