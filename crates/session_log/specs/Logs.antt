use Rattle.std.specs.Prelude.{◌≡◌, ℕ, List, length, Ok, Err, Result}
use Rattle.refusal.specs.declared.Refusal.{Refusal}
use Rattle.processor.specs.Views.{View, Places}
use Rattle.processor.specs.Rules.{Rules, State, state}
use Rattle.tape.specs.Puts.{puts}
use Rattle.session.specs.declared.entry.Entry.{Entry}
use Rattle.session.specs.declared.state.Session.{Session}
use Rattle.session.specs.Snapshots.{Snapshot}
use Rattle.session.specs.Opens.{put_all}
use Rattle.session_log.specs.declared.line.Answer.{Answer}
use Rattle.session_log.specs.declared.line.Call.{Call}
use Rattle.session_log.specs.declared.line.Line.{Line}
use Rattle.session_log.specs.Replies.{told_line}
use Rattle.session_log.specs.Plain.{Plain, count, plain_call, plain_after, plain_lines, after}
use Rattle.session_log.specs.Stands.{Stands}
use Rattle.session_log.specs.Kept.{LogKept}

-- one call on a session that stands as the plain session s: its answer is the plain session's, and it stands as the plain session after the call
pub record Answered {P : Type 0} (r : Rules P) (p : Places) (w : State P) (j : ℕ) (c : Call) (x : Result Answer Refusal) (d : Snapshot P) (s : Plain P) : Type 0 where
  pub answer : x ≡ told_line p (plain_call r j c s).reply
  pub stands : Stands r w j d (plain_call r j c s).plain

-- a call c on a session d, which answers x and leaves b: whatever plain session d stands as, the call goes as there
pub record CallStands {P : Type 0} (r : Rules P) (p : Places) (c : Call) (d : Snapshot P) (x : Result Answer Refusal) (b : Snapshot P) : Type 0 where
  pub stands : (w : State P) (s : Plain P) → Stands r w (length d.slots) d s → Answered r p w (length d.slots) c x b s

-- a piece of log on a session that stands as the plain session s: ls are the lines before, ms the lines after, d the session after
pub record Logged {P : Type 0} (r : Rules P) (p : Places) (w : State P) (j : ℕ) (ls ms : List (Line P)) (d : Snapshot P) (s : Plain P) : Type 0 where
  -- each line is filled in as the plain session fills it in
  pub lines : ms ≡ plain_lines r p j ls s
  -- the session stands as the plain session after the calls
  pub stands : Stands r w j d (plain_after r j ls s)
  -- each line keeps to the page as it was opened
  pub kept : LogKept r p j w (count s) s.depth ms
  -- the session's state, all cells included, is the page after exactly as many instructions as it has done
  pub page : after r d.count w ≡ Ok d.state

-- a piece of log ls on a session d, which fills it in as ms and leaves b: whatever plain session d stands as, the piece goes as there
pub record LogStands {P : Type 0} (r : Rules P) (p : Places) (ls : List (Line P)) (d : Snapshot P) (ms : List (Line P)) (b : Snapshot P) : Type 0 where
  pub stands : (w : State P) (s : Plain P) → Stands r w (length d.slots) d s → Logged r p w (length d.slots) ls ms b s

-- the page as a session opens it: the processor at its start, over the cells with the tape's words put in order
abbrev pub opening : {P : Type 0} → Rules P → ℕ → View → List ℕ → State P
opening r stack v tape = state (r.start stack) (put_all v (puts tape))

abbrev pub opened : {P : Type 0} → Rules P → ℕ → View → List ℕ → List (Entry P) → Snapshot P
opened r stack v tape slots = record { state = opening r stack v tape; count = 0; used = 0; slots = slots }

-- whether a log's opening was accepted
abbrev pub opening_answer : {P : Type 0} → Result (Session P) Refusal → Result Unit Refusal
opening_answer (Ok s) = Ok tt
opening_answer (Err e) = Err e
