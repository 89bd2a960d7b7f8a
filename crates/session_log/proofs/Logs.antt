use Rattle.std.proofs.Common.{◌≡◌, ℕ, ◌+◌, Bool, true, false, cond, ◌&&◌, ◌||◌, ltb, List, [], ◌∷◌, length, None, Ok, Err, refl, ap, ◌∙◌, arith}
use Rattle.std.proofs.lemmas.Bool.{ltb-false, le-ltb, and_right}
use Rattle.refusal.specs.declared.Cause.{Cause}
use Rattle.refusal.specs.declared.Cause.TheVariants.{RunTooLong, CountTooHigh, BackTooFar}
use Rattle.processor.specs.Views.{Places}
use Rattle.processor.specs.Rules.{Rules, State}
use Rattle.session.specs.Snapshots.{Snapshot, rule}
use Rattle.session.specs.Runs.{Ended, runs_on}
use Rattle.session.specs.Backs.{Gone, backs_on}
use Rattle.session_log.specs.declared.line.Call.{Call}
use Rattle.session_log.specs.declared.line.Call.TheVariants.{Run, Back, Forget, Look}
use Rattle.session_log.specs.declared.line.Line.{Line}
use Rattle.session_log.specs.Replies.{ran, taken}
use Rattle.session_log.specs.Serving.{Served, served, served_run, served_back, by_run, by_back, serves, line_by, log_after, log_lines}
use Rattle.session_log.specs.Plain.{Plain, PlainRan, plain_run, drops, PlainServed, replied, plain_call, plain_after, plain_lines, filled}
use Rattle.session_log.specs.Stands.{Stands}
use Rattle.session_log.proofs.Simulates.{Tied, plain_of, RunSim, BackSim, sim_run, sim_back}

module _ {P : Type 0} (r : Rules P) (w : State P) (j : ℕ) where
  -- a call on a session goes as on the plain session
  abbrev pub CallSim : Served P → PlainServed P → Type 0
  CallSim x y = (past : List (State P)) × (y ≡ replied (plain_of x.after past) x.reply) × Tied r w j x.after past

  from_run : (x : Ended P) (y : PlainRan P) → RunSim r w j x y → CallSim (served x.after (Ok (ran x.done x.ending))) (replied y.plain (Ok (ran y.done y.ending)))
  from_run x y (past, e, i) = (past, rw e refl, i)

  from_back : (n : ℕ) (x : Gone P) (s : Plain P) → BackSim r w j x n s → CallSim (served x.after (Ok (taken x.done x.fault))) (replied s (Ok (taken n None)))
  from_back n x s (past, e, k, f, i) = (past, rw (e, k, f) refl, i)

  by_tests : (d : Snapshot P) (past : List (State P)) → Tied r w j d past → (a b : Bool) (f g : Cause) (x : Ended P) (y : PlainServed P) → CallSim (served_run (Ok x) d) y
      → CallSim (served_run (cond a (Err (rule f)) (cond b (Err (rule g)) (Ok x))) d) (cond a (replied (plain_of d past) (Err (rule f))) (cond b (replied (plain_of d past) (Err (rule g))) y))
  by_tests d past i true b f g x y o = (past, refl, i)
  by_tests d past i false true f g x y o = (past, refl, i)
  by_tests d past i false false f g x y o = o

  by_test : (d : Snapshot P) (past : List (State P)) → Tied r w j d past → (a b : Bool) (f : Cause) (x : Gone P) (y : PlainServed P) → b ≡ false → (a ≡ false → CallSim (served_back (Ok x) d) y)
      → CallSim (served_back (cond (a || b) (Err (rule f)) (Ok x)) d) (cond a (replied (plain_of d past) (Err (rule f))) y)
  by_test d past i true b f x y h o = (past, refl, i)
  by_test d past i false true f x y h o = cc
  by_test d past i false false f x y h o = o refl

  pub sim_call : (c : Call) (d : Snapshot P) (past : List (State P)) → Tied r w j d past → CallSim (serves r c d) (plain_call r j c (plain_of d past))
  unfolding by_run by_back
  sim_call (Run n) d past i =
      let x = runs_on r n 0 d in
      let y = plain_run r j n 0 (plain_of d past) in
      rw (← i.kept) (by_tests d past i (ltb 1000000 n) (ltb 4000000000 (d.count + n)) RunTooLong CountTooHigh x (replied y.plain (Ok (ran y.done y.ending))) (from_run x y (sim_run r w j n 0 d past i)))
  sim_call (Back n) d past i =
      let x = backs_on n 0 d in
      let g : ltb (length d.slots) d.used ≡ false = le-ltb (length d.slots) d.used (omega (arith, i.lent, i.within)) in
      let b : (ltb 0 n && ltb (length d.slots) d.used) ≡ false = and_right (ltb 0 n) (ltb (length d.slots) d.used) g in
      by_test d past i (ltb d.used n) (ltb 0 n && ltb (length d.slots) d.used) BackTooFar x (replied (drops n (plain_of d past)) (Ok (taken n None))) b (λ e. from_back n x (drops n (plain_of d past)) (sim_back r w j n d past (ltb-false d.used n e) i))
  sim_call Forget d past i = (past, refl, record { last = refl; kept = i.kept; depth = refl; lent = i.lent; within = omega arith; undo = tt; follow = i.follow })
  sim_call (Look s) d past i = (past, refl, i)

  -- the lines of a session's log are those of the plain session
  abbrev LogSim : Places → List (Line P) → Snapshot P → Plain P → Type 0
  LogSim p ls d s = (past : List (State P)) × (plain_after r j ls s ≡ plain_of (log_after r ls d) past) × (plain_lines r p j ls s ≡ log_lines r p ls d) × Tied r w j (log_after r ls d) past

  filled_same : (p : Places) (l : Line P) (x : Served P) (y : PlainServed P) → CallSim x y → filled p l y ≡ line_by p l x
  filled_same p l x y (past, e, i) = rw (e, i.kept) refl

  pub sim_log : (p : Places) (ls : List (Line P)) (d : Snapshot P) (past : List (State P)) → Tied r w j d past → LogSim p ls d (plain_of d past)
  sim_log p [] d past i = (past, refl, refl, i)
  sim_log p (l ∷ ls) d past i =
      let x = serves r l.call d in
      let y = plain_call r j l.call (plain_of d past) in
      let a = sim_call l.call d past i in
      let b = sim_log p ls x.after a.0 a.2 in
      let e : y.plain ≡ plain_of x.after a.0 = ap (λ (z : PlainServed P). z.plain) a.1 in (
        b.0,
        ap (plain_after r j ls) e ∙ b.1,
        rw (filled_same p l x y a, e, b.2) refl,
        b.3,
      )

  -- standing as a plain session, in both forms
  pub stands_is : (d : Snapshot P) (s : Plain P) → Stands r w j d s → s ≡ plain_of d s.past
  stands_is d s i = rw (i.last, i.depth) refl

  pub stands_tied : (d : Snapshot P) (s : Plain P) → Stands r w j d s → Tied r w j d s.past
  stands_tied d s i = rw (← stands_is d s i) i

  pub tied_stands : (d : Snapshot P) (s : Plain P) (past : List (State P)) → s ≡ plain_of d past → Tied r w j d past → Stands r w j d s
  tied_stands d s past e i = rw e i
