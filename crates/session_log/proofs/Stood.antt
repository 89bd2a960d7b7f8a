use Rattle.std.proofs.Common.{◌≡◌, ℕ, ◌≤◌, List, [], ◌∷◌, length, take, Ok, Err, Result, sym, refl, ap, ◌∙◌, arith, MatchResult}
use Rattle.std.proofs.lemmas.List.{length-reverse, length-take-le}
use Rattle.refusal.specs.declared.Refusal.{Refusal}
use Rattle.processor.specs.Views.{View, Fault, Places}
use Rattle.processor.specs.Rules.{Rules, State, state}
use Rattle.session.specs.declared.entry.Entry.{Entry}
use Rattle.session.specs.declared.state.Session.{Session}
use Rattle.session.specs.Snapshots.{Snapshot, snapshot}
use Rattle.session.specs.Backs.{newest}
use Rattle.tape.specs.declared.cursor.CellWord.{CellWord}
use Rattle.tape.specs.Checks.{checked}
use Rattle.tape.specs.Puts.{puts}
use Rattle.session.specs.Opens.{Own, own, own_answer, fresh as fresh_own, probe_all, probes_told, tape_told, loaded, load_answer, opened as opened_own, view_after, put_all}
use Rattle.session_log.specs.declared.line.Answer.{Answer}
use Rattle.session_log.specs.declared.line.Call.{Call}
use Rattle.session_log.specs.declared.line.Line.{Line}
use Rattle.session_log.specs.Replies.{told_line}
use Rattle.session_log.specs.Serving.{serves, log_after, log_lines}
use Rattle.session_log.specs.Plain.{Plain, fresh, PlainServed, plain_call, plain_after, plain_lines, after}
use Rattle.session_log.specs.Stands.{Stands, Undo}
use Rattle.session_log.specs.Logs.{Answered, Logged, opened, opening_answer}
use Rattle.session_log.proofs.Simulates.{plain_of}
use Rattle.session_log.proofs.Logs.{sim_call, sim_log, stands_is, stands_tied, tied_stands}
use Rattle.session_log.proofs.Keeps.{follow_after}
use Rattle.session_log.proofs.KeptLogs.{Sound, kept_log}

undo_length : {P : Type 0} (es : List (Entry P)) (s : State P) (past : List (State P)) → Undo es s past → length es ≤ length past
undo_length [] s past u = omega arith
undo_length (e ∷ es) s [] u = absurd u
undo_length (e ∷ es) s (v ∷ past) u = let h = undo_length es v past u.1 in omega arith

module _ {P : Type 0} (r : Rules P) (p : Places) (w : State P) (j : ℕ) where
  sound : (d : Snapshot P) (s : Plain P) → Stands r w j d s → Sound r p j w s
  sound d s i =
      let n : length (newest d.used d.slots) ≡ d.used = length-reverse (take d.used d.slots) ∙ length-take-le d.used d.slots (omega (arith, i.lent, i.within)) in
      let h = undo_length (newest d.used d.slots) s.last s.past i.undo in
      record { follow = i.follow; within = omega (arith, i.depth) }

  page_stands : (d : Snapshot P) (s : Plain P) → Stands r w j d s → after r d.count w ≡ Ok d.state
  page_stands d s i =
      rw (i.kept, i.last) (follow_after r w s.last s.past i.follow)

  -- a call on a session that stands as a plain session
  pub answered : (c : Call) (d b : Snapshot P) (s : Plain P) (x : Result Answer Refusal) → Stands r w j d s → x ≡ told_line p (serves r c d).reply → b ≡ (serves r c d).after → Answered r p w j c x b s
  answered c d b s x i e f =
      let q = stands_is r w j d s i in
      let a = sim_call r w j c d s.past (stands_tied r w j d s i) in
      let y : plain_call r j c s ≡ record { plain = plain_of (serves r c d).after a.0; reply = (serves r c d).reply } = ap (plain_call r j c) q ∙ a.1 in
      let g : (plain_call r j c s).plain ≡ plain_of b a.0 = ap (λ (z : PlainServed P). z.plain) y ∙ ap (λ (z : Snapshot P). plain_of z a.0) (sym f) in
      record {
        answer = e ∙ ap (told_line p) (sym (ap (λ (z : PlainServed P). z.reply) y));
        stands = tied_stands r w j b (plain_call r j c s).plain a.0 g (rw f a.2);
      }

  -- a piece of log on a session that stands as a plain session
  pub logged : (ls ms : List (Line P)) (d b : Snapshot P) (s : Plain P) → Stands r w j d s → b ≡ log_after r ls d → ms ≡ log_lines r p ls d → Logged r p w j ls ms b s
  logged ls ms d b s i e f =
      let q = stands_is r w j d s i in
      let a = sim_log r w j p ls d s.past (stands_tied r w j d s i) in
      let g : plain_after r j ls s ≡ plain_of b a.0 = ap (plain_after r j ls) q ∙ (a.1 ∙ ap (λ (z : Snapshot P). plain_of z a.0) (sym e)) in
      let l : ms ≡ plain_lines r p j ls s = f ∙ (sym a.2 ∙ ap (plain_lines r p j ls) (sym q)) in
      let t : Stands r w j b (plain_after r j ls s) = tied_stands r w j b (plain_after r j ls s) a.0 g (rw e a.3) in
      record {
        lines = l;
        stands = t;
        kept = rw l (kept_log r p j w ls s (sound d s i));
        page = page_stands b (plain_after r j ls s) t;
      }

-- a session as it is opened
pub stands_fresh : {P : Type 0} (r : Rules P) (w : State P) (slots : List (Entry P)) → Stands r w (length slots) (record { state = w; count = 0; used = 0; slots = slots }) (fresh w)
stands_fresh r w slots = record { last = refl; kept = refl; depth = refl; lent = refl; within = omega arith; undo = tt; follow = refl }

probes_is : (p : Places) (v : View) (ps : List CellWord) (o : Result Unit Fault) (x : View) → probes_told p v ps o ≡ Ok x → x ≡ put_all v ps
probes_is p v ps (Ok u) x e = cc
probes_is p v ps (Err f) x e = cc

tape_is : (p : Places) (v : View) (tape : List ℕ) (o : Result Unit Refusal) (x : View) → tape_told p v tape o ≡ Ok x → x ≡ put_all v (puts tape)
tape_is p v tape (Ok u) x e = probes_is p v (puts tape) (probe_all v (puts tape)) x e
tape_is p v tape (Err f) x e = cc

module _ {P : Type 0} (r : Rules P) (stack : ℕ) (v : View) (tape : List ℕ) where
  -- what an opening that was accepted leaves
  abbrev pub Opened : Own P → View → Result View Refusal → Type 0
  Opened o v' x = (Ok tt ≡ load_answer x) × (o ≡ fresh_own r stack) × (v' ≡ put_all v (puts tape))

  opened_case : (o : Own P) (v' : View) (x : Result View Refusal) → ((y : View) → x ≡ Ok y → y ≡ put_all v (puts tape)) → Ok o ≡ opened_own r stack x → v' ≡ view_after x v → Opened o v' x
  opened_case o v' (Ok y) is e f = (refl, cc, f ∙ is y refl)
  opened_case o v' (Err y) is e f = cc

  pub opened_is : (p : Places) (o : Own P) (v' : View) → Ok o ≡ opened_own r stack (loaded p v tape) → v' ≡ view_after (loaded p v tape) v → Opened o v' (loaded p v tape)
  opened_is p o v' e f = opened_case o v' (loaded p v tape) (tape_is p v tape (checked tape)) e f

  pub opened_snapshot : (s : Session P) (v' : View) (slots : List (Entry P)) → own s ≡ fresh_own r stack → v' ≡ put_all v (puts tape) → snapshot s v' slots ≡ opened r stack v tape slots
  opened_snapshot s v' slots e f =
      let F : Own P → Snapshot P = λ o. record { state = state o.processor v'; count = o.count; used = o.used; slots = slots } in
      ap F e ∙ rw f refl

  -- what an opening answers, and what it leaves
  abbrev pub Opens : Result (Session P) Refusal → View → List (Entry P) → Result View Refusal → Type 0
  Opens x v' slots y = (opening_answer x ≡ load_answer y) × MatchResult x (λ s. snapshot s v' slots ≡ opened r stack v tape slots) (λ e. v' ≡ v)

  opens_by : (x : Result (Session P) Refusal) (v' : View) (slots : List (Entry P)) (y : Result View Refusal) → ((z : View) → y ≡ Ok z → z ≡ put_all v (puts tape)) → own_answer x ≡ opened_own r stack y → v' ≡ view_after y v → Opens x v' slots y
  opens_by (Ok s) v' slots (Ok z) is e f = let o : own s ≡ fresh_own r stack = cc in (refl, opened_snapshot s v' slots o (f ∙ is z refl))
  opens_by (Ok s) v' slots (Err z) is e f = cc
  opens_by (Err s) v' slots (Ok z) is e f = cc
  opens_by (Err s) v' slots (Err z) is e f = (cc, f)

  pub opens : (p : Places) (x : Result (Session P) Refusal) (v' : View) (slots : List (Entry P)) → own_answer x ≡ opened_own r stack (loaded p v tape) → v' ≡ view_after (loaded p v tape) v → Opens x v' slots (loaded p v tape)
  opens p x v' slots e f = opens_by x v' slots (loaded p v tape) (tape_is p v tape (checked tape)) e f
