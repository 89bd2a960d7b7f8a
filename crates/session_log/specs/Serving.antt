use Rattle.std.specs.Prelude.{ℕ, List, [], ◌∷◌, Ok, Err, Result}
use Rattle.processor.specs.Views.{Places}
use Rattle.processor.specs.Rules.{Rules}
use Rattle.session.specs.Snapshots.{Snapshot, Reason}
use Rattle.session.specs.Runs.{Ended, run}
use Rattle.session.specs.Backs.{Gone, back, forgotten as freed}
use Rattle.session.specs.Looks.{looked}
use Rattle.session_log.specs.declared.line.Call.{Call}
use Rattle.session_log.specs.declared.line.Call.TheVariants.{Run, Back, Forget, Look}
use Rattle.session_log.specs.declared.line.Line.{Line}
use Rattle.session_log.specs.Replies.{Reply, ran, taken, forgotten, word, told_line}

-- a call on a session: how it leaves the session, and what it replies
pub record Served (P : Type 0) : Type 0 where
  pub after : Snapshot P
  pub reply : Result Reply Reason

abbrev pub served : {P : Type 0} → Snapshot P → Result Reply Reason → Served P
served d x = record { after = d; reply = x }

abbrev pub served_run : {P : Type 0} → Result (Ended P) Reason → Snapshot P → Served P
served_run (Ok x) d = served x.after (Ok (ran x.done x.ending))
served_run (Err e) d = served d (Err e)

abbrev pub served_back : {P : Type 0} → Result (Gone P) Reason → Snapshot P → Served P
served_back (Ok x) d = served x.after (Ok (taken x.done x.fault))
served_back (Err e) d = served d (Err e)

abbrev pub word_reply : Result ℕ Reason → Result Reply Reason
word_reply (Ok w) = Ok (word w)
word_reply (Err e) = Err e

-- a run and a back, shut to proofs that need not look inside
unfoldable pub by_run : {P : Type 0} → Rules P → ℕ → Snapshot P → Served P
by_run r n d = served_run (run r n d) d

unfoldable pub by_back : {P : Type 0} → ℕ → Snapshot P → Served P
by_back n d = served_back (back n d) d

abbrev pub serves : {P : Type 0} → Rules P → Call → Snapshot P → Served P
serves r (Run n) d = by_run r n d
serves r (Back n) d = by_back n d
serves r Forget d = served (freed d) (Ok forgotten)
serves r (Look s) d = served d (word_reply (looked r s d.state))

-- a line, filled in by what the call came to
abbrev pub line_by : {P : Type 0} → Places → Line P → Served P → Line P
line_by p l x =
    record {
      call = l.call;
      answer = told_line p x.reply;
      count = x.after.count;
      processor = x.after.state.processor;
    }

-- a session after the calls of a log, over what it is handed
abbrev pub log_after : {P : Type 0} → Rules P → List (Line P) → Snapshot P → Snapshot P
log_after r [] d = d
log_after r (l ∷ ls) d = log_after r ls (serves r l.call d).after

-- the log's lines, filled in
abbrev pub log_lines : {P : Type 0} → Rules P → Places → List (Line P) → Snapshot P → List (Line P)
log_lines r p [] d = []
log_lines r p (l ∷ ls) d = line_by p l (serves r l.call d) ∷ log_lines r p ls (serves r l.call d).after
