use Rattle.std.proofs.Common.{◌≡◌, ℕ, suc, ◌+◌, ◌-◌, ◌<◌, ◌≤◌, Bool, true, false, cond, ltb, length, Some, None, Ok, Err, Result, sym, refl, ap, ◌∙◌, arith}
use Rattle.processor.specs.Views.{Fault, Places}
use Rattle.processor.specs.Rules.{Rules, Moved}
use Rattle.session.specs.Trials.{tried}
use Rattle.session.specs.declared.answers.Stop.{Stop}
use Rattle.session.specs.Snapshots.{Snapshot}
use Rattle.session.specs.Runs.{Course, goes_on, last, none, Ending, told_turn, told_stop, told_ran, course, turned, noted, runs_on, Ended, ended, is_halted}

noted_count : {P : Type 0} (x : Result (Moved P) Fault) (d : Snapshot P) → (noted x d).count ≤ d.count + 1
noted_count (Ok m) d = omega arith
noted_count (Err f) d = omega arith

cond_count : {P : Type 0} (b : Bool) (x y : Snapshot P) (n : ℕ) → x.count ≤ n → y.count ≤ n → (cond b x y).count ≤ n
cond_count true x y n h k = h
cond_count false x y n h k = k

-- a turn counts at most one instruction
turned_count : {P : Type 0} (r : Rules P) (d : Snapshot P) → (turned r d).count ≤ d.count + 1
turned_count r d =
    cond_count (is_halted (r.mark d.state.processor)) d _ _ (omega arith)
    (cond_count (ltb d.used (length d.slots)) (noted (tried r d.state) d) d _ (noted_count (tried r d.state) d) (omega arith))

-- what a turn told, taken back to the course that it told
told_goes_on : (p : Places) (x : Course) → Ok None ≡ told_turn p x → x ≡ goes_on
told_goes_on p goes_on h = refl
told_goes_on p (last e) h = cc
told_goes_on p (none e) h = cc

told_last : (p : Places) (x : Course) (s : Stop) → Ok (Some s) ≡ told_turn p x → (e : Ending) × (x ≡ last e) × (s ≡ told_stop p e)
told_last p goes_on s h = cc
told_last p (last e) s h = (e, refl, cc)
told_last p (none e) s h = cc

told_none : (p : Places) (x : Course) (s : Stop) → Err s ≡ told_turn p x → (e : Ending) × (x ≡ none e) × (s ≡ told_stop p e)
told_none p goes_on s h = cc
told_none p (last e) s h = cc
told_none p (none e) s h = (e, refl, cc)

module _ {P : Type 0} (r : Rules P) (d : Snapshot P) where
  run_case : ℕ → ℕ → Course → Ended P
  run_case n k goes_on = runs_on r n (k + 1) (turned r d)
  run_case n k (last e) = ended (turned r d) (k + 1) e
  run_case n k (none e) = ended (turned r d) k e

  run_suc : (n k : ℕ) → runs_on r (suc n) k d ≡ run_case n k (course r d)
  unfolding run_case
  run_suc n k = refl

  -- the turn's course decides the rest
  run_turn : (n k : ℕ) (x : Course) → k < n → course r d ≡ x → runs_on r (n - k) k d ≡ run_case (n - (k + 1)) k x
  run_turn n k x h e =
      let s : n - k ≡ suc (n - (k + 1)) = omega arith in
      ap (λ (m : ℕ). runs_on r m k d) s ∙ (run_suc (n - (k + 1)) k ∙ ap (run_case (n - (k + 1)) k) e)

-- as the loop of a run meets it: d before the turn, e after it
module _ {P : Type 0} (r : Rules P) (p q : Places) (d e : Snapshot P) (n k : ℕ) (x : Ended P) (told : q ≡ p) (h : k < n) (whole : runs_on r (n - k) k d ≡ x) (after : e ≡ turned r d) where
  pub more : Ok None ≡ told_turn q (course r d) → runs_on r (n - (k + 1)) (k + 1) e ≡ x
  unfolding run_case
  more a = rw after (sym (run_turn r d n k goes_on h (told_goes_on q (course r d) a)) ∙ whole)

  pub stops_after : (s : Stop) → Ok (Some s) ≡ told_turn q (course r d) → ((record { done = k + 1; stop = s }) ≡ told_ran p x) × (e ≡ x.after)
  unfolding run_case
  stops_after s a =
      let y = told_last q (course r d) s a in
      let w : ended (turned r d) (k + 1) y.0 ≡ x = sym (run_turn r d n k (last y.0) h y.1) ∙ whole in
      (ap (λ (z : Stop). record { done = k + 1; stop = z }) (y.2 ∙ ap (λ (z : Places). told_stop z y.0) told) ∙ ap (told_ran p) w, rw (← w) after)

  pub stops_before : (s : Stop) → Err s ≡ told_turn q (course r d) → ((record { done = k; stop = s }) ≡ told_ran p x) × (e ≡ x.after)
  unfolding run_case
  stops_before s a =
      let y = told_none q (course r d) s a in
      let w : ended (turned r d) k y.0 ≡ x = sym (run_turn r d n k (none y.0) h y.1) ∙ whole in
      (ap (λ (z : Stop). record { done = k; stop = z }) (y.2 ∙ ap (λ (z : Places). told_stop z y.0) told) ∙ ap (told_ran p) w, rw (← w) after)

  pub one_more : (m : ℕ) → d.count + (n - k) ≤ m → e.count + (n - (k + 1)) ≤ m
  one_more m b = rw after (omega (arith, turned_count r d))
