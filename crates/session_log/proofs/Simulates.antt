use Rattle.std.proofs.Common.{◌≡◌, ℕ, zero, suc, ◌+◌, ◌-◌, ◌<◌, ◌≤◌, Bool, true, false, cond, ltb, List, [], ◌∷◌, length, get_or, take, Some, None, Ok, Err, Result, sym, refl, ap, ◌∙◌, subst, add-zero, zero-add, add-one, arith, length-set}
use Rattle.std.proofs.lemmas.List.{length-reverse, length-take-le}
use Rattle.std.proofs.lemmas.Bool.{ltb-true}
use Rattle.processor.specs.declared.Mark.{Mark}
use Rattle.processor.specs.declared.Mark.TheVariants as mark
use Rattle.processor.specs.Views.{Fault}
use Rattle.processor.specs.Rules.{Rules, State, Moved, state_of}
use Rattle.session.specs.declared.entry.Entry.{Entry}
use Rattle.session.specs.Snapshots.{Snapshot}
use Rattle.session.specs.Trials.{tried, restored}
use Rattle.session.specs.Runs.{halted, full, is_halted, Course, goes_on, last, none, by_mark, by_step, noted, Ended, ended, runs_on}
use Rattle.session.specs.Backs.{newest, undone, Gone, gone, takes}
use Rattle.session.proofs.BackLaws.{newest_next, newest_set}
use Rattle.session_log.specs.Plain.{Plain, drops, PlainRan, plain_ran, plain_run}
use Rattle.session_log.specs.Stands.{Stands, Undo}
use Rattle.session_log.proofs.Turns.{marked, moved, tested}
use Rattle.session_log.proofs.Undoing.{entry_undoes}

abbrev pub plain_of : {P : Type 0} → Snapshot P → List (State P) → Plain P
plain_of d past = record { last = d.state; past = past; depth = d.used }

-- a session stands as the plain session of its own state and the states before it
abbrev pub Tied : {P : Type 0} → Rules P → State P → ℕ → Snapshot P → List (State P) → Type 0
Tied r w j d past = Stands r w j d (plain_of d past)

module _ {P : Type 0} (r : Rules P) (w : State P) (j : ℕ) where
  -- an instruction done and noted
  tied_noted : (d : Snapshot P) (past : List (State P)) (m : Moved P) → Tied r w j d past → d.used < j → tried r d.state ≡ Ok m → Tied r w j (noted (Ok m) d) (d.state ∷ past)
  unfolding tried
  tied_noted d past m i h e =
      let x : Entry P = record { before = d.state.processor; undo = m.undo } in
      let s : d.used < length d.slots = omega (arith, i.lent) in
      record {
        last = refl;
        kept = omega (arith, i.kept);
        depth = refl;
        lent = length-set d.slots d.used x ∙ i.lent;
        within = omega arith;
        undo = rw (add-one d.used, newest_set d.used d.slots x s) (entry_undoes r d.state m e, i.undo);
        follow = (ap state_of e, i.follow);
      }

  -- a session's run goes as the plain session's
  abbrev pub RunSim : Ended P → PlainRan P → Type 0
  RunSim x y = (past : List (State P)) × (y ≡ plain_ran (plain_of x.after past) x.done x.ending) × Tied r w j x.after past

  abbrev run_by : ℕ → ℕ → Course → Snapshot P → Ended P
  run_by n k u b = elim u [ goes_on ↦ runs_on r n (k + 1) b | last e ↦ ended b (k + 1) e | none e ↦ ended b k e ]

  sim_mark : (n k : ℕ) (d : Snapshot P) (past : List (State P)) (m : Moved P) → Tied r w j (noted (Ok m) d) (d.state ∷ past) → ((b : Snapshot P) (vs : List (State P)) → Tied r w j b vs → RunSim (runs_on r n (k + 1) b) (plain_run r j n (k + 1) (plain_of b vs))) → (x : Mark) → RunSim (run_by n k (by_mark x) (noted (Ok m) d)) (marked r j n k m.state (plain_of d past) x)
  sim_mark n k d past m i more mark.Ready = more (noted (Ok m) d) (d.state ∷ past) i
  sim_mark n k d past m i more mark.AtBreak = (d.state ∷ past, refl, i)
  sim_mark n k d past m i more mark.Halted = (d.state ∷ past, refl, i)

  sim_turn : (n k : ℕ) (d : Snapshot P) (past : List (State P)) → Tied r w j d past → ((b : Snapshot P) (vs : List (State P)) → Tied r w j b vs → RunSim (runs_on r n (k + 1) b) (plain_run r j n (k + 1) (plain_of b vs))) → (h b : Bool) → ltb d.used j ≡ b → (x : Result (Moved P) Fault) → tried r d.state ≡ x
      → RunSim (run_by n k (cond h (none halted) (cond b (by_step r x) (none full))) (cond h d (cond b (noted x d) d))) (moved r j n k (plain_of d past) (tested h b (state_of x)))
  sim_turn n k d past i more true b e x o = (past, refl, i)
  sim_turn n k d past i more false false e x o = (past, refl, i)
  sim_turn n k d past i more false true e (Err f) o = (past, refl, i)
  sim_turn n k d past i more false true e (Ok m) o = sim_mark n k d past m (tied_noted d past m i (ltb-true d.used j e) o) more (r.mark m.state.processor)

  pub sim_run : (n k : ℕ) (d : Snapshot P) (past : List (State P)) → Tied r w j d past → RunSim (runs_on r n k d) (plain_run r j n k (plain_of d past))
  unfolding tried
  sim_run zero k d past i = (past, refl, i)
  sim_run (suc n) k d past i =
      let h = is_halted (r.mark d.state.processor) in
      let x = tried r d.state in
      let F : ℕ → Type 0 = λ m. RunSim (run_by n k (cond h (none halted) (cond (ltb d.used m) (by_step r x) (none full))) (cond h d (cond (ltb d.used m) (noted x d) d))) (moved r j n k (plain_of d past) (tested h (ltb d.used j) (state_of x))) in
      subst F (sym i.lent) (sim_turn n k d past i (λ b vs o. sim_run n (k + 1) b vs o) h (ltb d.used j) refl x refl)

  -- a back goes as the plain session's
  abbrev pub BackSim : Gone P → ℕ → Plain P → Type 0
  BackSim x n s = (past : List (State P)) × (s ≡ plain_of x.after past) × (x.done ≡ n) × (x.fault ≡ None) × Tied r w j x.after past

  newest_length : (u : ℕ) (slots : List (Entry P)) → u ≤ length slots → length (newest u slots) ≡ u
  newest_length u slots h = length-reverse (take u slots) ∙ length-take-le u slots h

  abbrev took : List (Entry P) → ℕ → Snapshot P → Result (Moved P) Fault → Gone P
  took es k d x = elim x [ Ok m ↦ takes es (k + 1) (undone (Ok m) d) | Err f ↦ gone d k (Some f) ]

  tied_undone : (d : Snapshot P) (e : Entry P) (es : List (Entry P)) (m : Moved P) (v : State P) (past : List (State P)) → e ∷ es ≡ newest d.used d.slots → 0 < d.used → m.state ≡ v → Tied r w j d (v ∷ past) → Undo es v past → (es ≡ newest (d.used - 1) d.slots) × Tied r w j (undone (Ok m) d) past
  tied_undone d e es m v past q h z i o =
      let s : d.used ≡ suc (d.used - 1) = omega arith in
      let l : d.used - 1 < length d.slots = omega (arith, i.lent, i.within) in
      let a : newest d.used d.slots ≡ get_or d.slots (d.used - 1) e ∷ newest (d.used - 1) d.slots = ap (λ (u : ℕ). newest u d.slots) s ∙ newest_next (d.used - 1) d.slots e l in
      let b : es ≡ newest (d.used - 1) d.slots = cc in (
        b,
        record {
          last = refl;
          kept = omega (arith, i.kept);
          depth = refl;
          lent = i.lent;
          within = omega (arith, i.within);
          undo = rw (← b, z) o;
          follow = rw z i.follow.1;
        },
      )

  sim_took : (n : ℕ) (e : Entry P) (es : List (Entry P)) (k : ℕ) (d : Snapshot P) (v : State P) (past : List (State P)) → e ∷ es ≡ newest d.used d.slots → suc n ≤ d.used → Tied r w j d (v ∷ past) → Undo es v past → ((b : Snapshot P) → es ≡ newest b.used b.slots → n ≤ b.used → Tied r w j b past → Undo es b.state past → BackSim (takes (take n es) (k + 1) b) (k + 1 + n) (drops n (plain_of b past))) → (x : Result (Moved P) Fault) → state_of x ≡ Ok v → BackSim (took (take n es) k d x) (k + suc n) (drops n (record { last = v; past = past; depth = d.used - 1 }))
  sim_took n e es k d v past q h i o more (Err f) z = cc
  sim_took n e es k d v past q h i o more (Ok m) z =
      let f : m.state ≡ v = cc in
      let a = tied_undone d e es m v past q (omega arith) f i o in
      let c : k + 1 + n ≡ k + suc n = omega arith in
      rw (← f, ← c) (more (undone (Ok m) d) a.0 (omega arith) a.1 (rw f o))

  sim_takes : (n : ℕ) (es : List (Entry P)) (k : ℕ) (d : Snapshot P) (past : List (State P)) → es ≡ newest d.used d.slots → n ≤ d.used → Tied r w j d past → Undo es d.state past → BackSim (takes (take n es) k d) (k + n) (drops n (plain_of d past))
  sim_takes zero es k d past q h i o = (past, refl, sym (add-zero k), refl, i)
  sim_takes (suc n) [] k d past q h i o = absurd (omega (arith, ap length q, newest_length d.used d.slots (omega (arith, i.lent, i.within))))
  sim_takes (suc n) (e ∷ es) k d [] q h i o = absurd o
  sim_takes (suc n) (e ∷ es) k d (v ∷ past) q h i o =
      sim_took n e es k d v past q h i o.1 (λ b q' h' i' o'. sim_takes n es (k + 1) b past q' h' i' o') (restored d.state e) o.0

  pub sim_back : (n : ℕ) (d : Snapshot P) (past : List (State P)) → n ≤ d.used → Tied r w j d past → BackSim (takes (take n (newest d.used d.slots)) 0 d) n (drops n (plain_of d past))
  sim_back n d past h i =
      rw (zero-add n) at (sim_takes n (newest d.used d.slots) 0 d past refl h i i.undo)
