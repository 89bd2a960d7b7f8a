use Rattle.std.proofs.Common.{◌≡◌, ℕ, Bool, true, false, cond, ltb, Ok, refl, arith}
use Rattle.std.proofs.lemmas.Bool.{ltb-true, ltb-false}
use Rattle.processor.specs.Views.{Places}
use Rattle.processor.specs.Rules.{Rules, State}
use Rattle.session.specs.Snapshots.{Snapshot}
use Rattle.session_log.specs.Plain.{count, fresh, PlainRan, plain_run, after}
use Rattle.session_log.specs.Stands.{Stands}
use Rattle.session_log.specs.Kept.{Ends}
use Rattle.session_log.proofs.Keeps.{follow_after, far, follow_run, ends}
use Rattle.icmc.specs.declared.machine.Machine.{Machine}
use Rattle.icmc.specs.Steps.{machine_rules}
use Rattle.long_run.specs.Rounds.{rounds}
use Rattle.long_run.specs.LongRuns.{room, long_run, reported, RanOut}
use Rattle.long_run.proofs.OneRun.{Whole, rounds_run, short_run}

module _ {P : Type 0} (r : Rules P) (p : Places) (w : State P) (j : ℕ) (d : Snapshot P) (i : Stands r w j d (fresh w)) where
  by_room : (b : Bool) → ltb j 1000 ≡ b → Whole r p w j 1000 (omega arith) (rounds r p 1000 1000 d) (plain_run r (cond b j 1000000) 1000000 0 (fresh w))
  by_room true e = short_run r p w j 1000 (omega arith) (ltb-true j 1000 e) 1000 1000000 d i (omega arith) (omega arith)
  by_room false e = rounds_run r p w j 1000 (omega arith) 1000000 (ltb-false j 1000 e) (omega arith) 1000 1000000 0 d (fresh w) i refl refl refl (omega arith)

  -- the rounds come to one run
  pub one_run : Whole r p w j 1000 (omega arith) (rounds r p 1000 1000 d) (long_run r j w)
  unfolding long_run
  one_run = by_room (ltb j 1000) refl

-- a plain run from the page as it was opened: where it stands, and why it stopped
module _ {P : Type 0} (r : Rules P) (j : ℕ) (w : State P) where
  abbrev Stops : ℕ → PlainRan P → Type 0
  Stops n x = (after r x.done w ≡ Ok x.plain.last) × Ends r j w 0 0 n x.done x.ending

  stops : (n : ℕ) → Stops n (plain_run r j n 0 (fresh w))
  stops n =
      let x = plain_run r j n 0 (fresh w) in
      let f = far r j n 0 (fresh w) in
      let a : f.0 ≡ x.done = omega (arith, f.1) in
      let c : count x.plain ≡ x.done = omega (arith, f.1, f.2) in
      let b : after r (count x.plain) w ≡ Ok x.plain.last = follow_after r w x.plain.last x.plain.past (follow_run r j w n 0 (fresh w) refl) in
      let e = ends r j w w 0 0 n f.0 x.ending refl f.4 in
      (rw (← c) b, rw (← a) e)

pub ran_out : (p : Places) (j : ℕ) (w : State Machine) → RanOut p j w (reported p (long_run machine_rules j w)) (long_run machine_rules j w).plain.last.view
unfolding long_run
ran_out p j w =
    let x = stops machine_rules (room j) w 1000000 in
    record { page = x.0; ends = ((long_run machine_rules j w).ending, refl, x.1) }
