use Rattle.std.proofs.Common.{◌≡◌, ℕ, suc, ◌+◌, ◌-◌, ◌<◌, ◌≤◌, Bool, true, false, cond, sym, refl, ap, ◌∙◌, arith}
use Rattle.processor.specs.Views.{Places}
use Rattle.processor.specs.Rules.{Rules}
use Rattle.session.specs.declared.answers.Stop.{Stop}
use Rattle.session.specs.declared.answers.Stop.TheVariants as stop
use Rattle.session.specs.Snapshots.{Snapshot}
use Rattle.long_run.specs.Rounds.{Turned, one_round, goes_on, rounds}

module _ {P : Type 0} (r : Rules P) (p : Places) (m : ℕ) where
  rounds_next : (n : ℕ) (d : Snapshot P) → rounds r p m (suc n) d ≡ cond (goes_on (one_round r p m d).stop) (rounds r p m n (one_round r p m d).after) (one_round r p m d)
  unfolding rounds
  rounds_next n d = refl

  pub rounds_none : (d : Snapshot P) → rounds r p m 0 d ≡ record { after = d; stop = stop.CountReached }
  unfolding rounds
  rounds_none d = refl

  -- no round left
  pub all : (n : ℕ) (d : Snapshot P) (x : Turned P) → n ≤ 0 → rounds r p m n d ≡ x → (stop.CountReached ≡ x.stop) × (d ≡ x.after)
  all n d x h e =
      let z : n ≡ 0 = omega arith in
      let y : record { after = d; stop = stop.CountReached } ≡ x = rw (z, rounds_none d) at e in
      (rw (← y) refl, rw (← y) refl)

  pub by_round : (n : ℕ) (d : Snapshot P) (b : Bool) → 0 < n → goes_on (one_round r p m d).stop ≡ b → rounds r p m n d ≡ cond b (rounds r p m (n - 1) (one_round r p m d).after) (one_round r p m d)
  by_round n d b h e =
      let s : n ≡ suc (n - 1) = omega arith in
      ap (λ (i : ℕ). rounds r p m i d) s ∙ (rounds_next (n - 1) d ∙ ap (λ (x : Bool). cond x (rounds r p m (n - 1) (one_round r p m d).after) (one_round r p m d)) e)

  -- as the loop meets them, k rounds of n being done: d before the round, e after it, which ends by s
  module _ (q : Places) (same : q ≡ p) (n k : ℕ) (d e : Snapshot P) (x : Turned P) (s : Stop) (left : k < n) (whole : rounds r p m (n - k) d ≡ x) (stops : s ≡ (one_round r q m d).stop) (after : e ≡ (one_round r q m d).after) where
    stop_is : s ≡ (one_round r p m d).stop
    stop_is = rw (← same) stops

    -- a round that did its 1,000
    pub goes : goes_on s ≡ true → rounds r p m (n - (k + 1)) e ≡ x
    goes h =
        let b = by_round (n - k) d true (omega arith) (ap goes_on (sym stop_is) ∙ h) in
        let f : n - (k + 1) ≡ n - k - 1 = omega arith in
        rw (f, after) (sym b ∙ whole)

    -- a round that did not
    pub stands : goes_on s ≡ false → (s ≡ x.stop) × (e ≡ x.after)
    stands h =
        let b : one_round r p m d ≡ x = sym (by_round (n - k) d false (omega arith) (ap goes_on (sym stop_is) ∙ h)) ∙ whole in
        (rw (← b) stop_is, rw (← b) after)
