use Rattle.std.proofs.Common.{◌≡◌, ℕ, zero, suc, ◌+◌, ◌-◌, ◌*◌, ◌<◌, ◌≤◌, true, false, ltb, Ok, sym, refl, ap, ◌∙◌, add-zero, suc-mul, zero-mul, arith}
use Rattle.std.proofs.lemmas.Bool.{le-ltb}
use Rattle.processor.specs.Views.{Places}
use Rattle.processor.specs.Rules.{Rules, State}
use Rattle.session.specs.declared.answers.Stop.TheVariants as stop
use Rattle.session.specs.Snapshots.{Snapshot}
use Rattle.session.specs.Runs.{Ending, counted, halted, at_break, full, refused, told_stop}
use Rattle.session_log.specs.declared.line.Call.TheVariants.{Run, Forget}
use Rattle.session_log.specs.Replies.{ran, told_line}
use Rattle.session_log.specs.Serving.{serves}
use Rattle.session_log.specs.Plain.{Plain, count, fresh, PlainRan, plain_run, PlainServed, replied, plain_call}
use Rattle.session_log.specs.Stands.{Stands}
use Rattle.session_log.proofs.Stood.{answered}
use Rattle.long_run.specs.Rounds.{stop_of, Turned, one_round, goes_on, rounds}
use Rattle.long_run.proofs.PlainRuns.{then_on, more, tally, deeper, deeper_ran, deep}
use Rattle.long_run.proofs.RoundLaws.{rounds_none, by_round}

module _ {P : Type 0} (r : Rules P) (p : Places) (w : State P) (j m : ℕ) (small : m ≤ 1000000) where
  -- a plain session with nothing to be taken back
  abbrev emptied : Plain P → Plain P
  emptied s = record { last = s.last; past = s.past; depth = 0 }

  run_accepted : (s : Plain P) → count s + m ≤ 4000000000 → let x = plain_run r j m 0 s in plain_call r j (Run m) s ≡ replied x.plain (Ok (ran x.done x.ending))
  run_accepted s h =
      let x = plain_run r j m 0 s in
      let a : ltb 1000000 m ≡ false = le-ltb 1000000 m small in
      let b : ltb 4000000000 (count s + m) ≡ false = le-ltb 4000000000 (count s + m) h in
      rw (a, b) refl

  -- one round on a session that stands as a plain session
  abbrev RoundStands : Snapshot P → Plain P → Type 0
  RoundStands d s = let x = plain_run r j m 0 s in ((one_round r p m d).stop ≡ told_stop p x.ending) × Stands r w j (one_round r p m d).after (emptied x.plain)

  round_stands : (d : Snapshot P) (s : Plain P) → Stands r w j d s → count s + m ≤ 4000000000 → RoundStands d s
  round_stands d s i h =
      let x = plain_run r j m 0 s in
      let c = run_accepted s h in
      let a = answered r p w j (Run m) d _ s _ i refl refl in
      let b = (serves r (Run m) d).after in
      let t : Stands r w j b x.plain = rw c at a.stands in
      let f = answered r p w j Forget b _ x.plain _ t refl refl in
      (ap stop_of a.answer ∙ ap (λ (z : PlainServed P). stop_of (told_line p z.reply)) c, f.stands)

  -- rounds, or some of them, come to what a plain run comes to
  abbrev pub Whole : Turned P → PlainRan P → Type 0
  Whole y x = (y.stop ≡ told_stop p x.ending) × (y.after.count ≡ x.done) × (y.after.state ≡ x.plain.last)

  module _ (l : ℕ) where
    -- a run of t, the first m of which are a round
    abbrev Split : ℕ → ℕ → Plain P → Type 0
    Split t c s = plain_run r l t c (deeper r c s) ≡ then_on r l (t - m) (deeper_ran r c (plain_run r j m 0 s))

    split : (t c : ℕ) (s : Plain P) → m ≤ j → s.depth ≡ 0 → m ≤ t → c + t ≤ l → Split t c s
    split t c s h z u v =
        let a : plain_run r l m c (deeper r c s) ≡ plain_run r l m (0 + c) (deeper r c s) = ap (λ (k : ℕ). plain_run r l m k (deeper r c s)) (omega arith) in
        let b = deep r c j l m 0 s (omega arith) (omega arith) in
        more r l m (t - m) t c (deeper r c s) (omega arith) ∙ ap (then_on r l (t - m)) (a ∙ b)

    abbrev by_ending : ℕ → PlainRan P → Ending → PlainRan P
    by_ending n x e = elim e [ counted ↦ plain_run r l n x.done x.plain | halted ↦ x | at_break ↦ x | full ↦ x | refused f ↦ x ]

    -- a round that ends the rounds
    last_round : (n t c : ℕ) (d : Snapshot P) (s : Plain P) → Stands r w j d s → count s ≡ c → count s + m ≤ 4000000000 → 0 < n → (e : Ending) → (plain_run r j m 0 s).ending ≡ e → goes_on (told_stop p e) ≡ false
        → plain_run r l t c (deeper r c s) ≡ deeper_ran r c (plain_run r j m 0 s) → Whole (rounds r p m n d) (plain_run r l t c (deeper r c s))
    last_round n t c d s i k h left e q g stays =
        let x = plain_run r j m 0 s in
        let o = round_stands d s i h in
        let y = one_round r p m d in
        let a : rounds r p m n d ≡ y = by_round r p m n d false left (ap goes_on (o.0 ∙ ap (told_stop p) q) ∙ g) in
        let t' = tally r j m 0 s in
        let n' : y.after.count ≡ x.done + c = o.1.kept ∙ omega (arith, t'.states) in
        let z : Whole y (deeper_ran r c x) = (o.0, n', o.1.last) in
        rw (stays, a) z

    -- a round that goes on
    next_round : (n t c : ℕ) (d : Snapshot P) (s : Plain P) → Stands r w j d s → s.depth ≡ 0 → count s ≡ c → count s + m ≤ 4000000000 → (plain_run r j m 0 s).ending ≡ counted → Split t c s
        → (let x = plain_run r j m 0 s in Whole (rounds r p m n (one_round r p m d).after) (plain_run r l (t - m) (x.done + c) (deeper r (x.done + c) (emptied x.plain)))) → Whole (rounds r p m (suc n) d) (plain_run r l t c (deeper r c s))
    next_round n t c d s i z k h q e rest =
        let x = plain_run r j m 0 s in
        let o = round_stands d s i h in
        let a : rounds r p m (suc n) d ≡ rounds r p m n (one_round r p m d).after = by_round r p m (suc n) d true (omega arith) (ap goes_on (o.0 ∙ ap (told_stop p) q)) ∙ ap (λ (u : ℕ). rounds r p m u (one_round r p m d).after) (omega arith) in
        let t' = tally r j m 0 s in
        let f : 0 + (x.done + c) ≡ x.plain.depth + c = omega (arith, t'.depth) in
        let g = plain_run r l (t - m) (x.done + c) (deeper r (x.done + c) (emptied x.plain)) in
        let b : g ≡ plain_run r l t c (deeper r c s) = rw f (sym (e ∙ ap (by_ending (t - m) (deeper_ran r c x)) q)) in
        rw (← b, a) rest

    module _ (enough : m ≤ j) (bound : l ≤ 1000000) where
      abbrev Rounds : ℕ → Type 0
      Rounds n = (t c : ℕ) (d : Snapshot P) (s : Plain P) → Stands r w j d s → s.depth ≡ 0 → count s ≡ c → t ≡ n * m → c + t ≤ l → Whole (rounds r p m n d) (plain_run r l t c (deeper r c s))

      -- where the first round ends the rounds
      ended_first : (n t c : ℕ) (d : Snapshot P) (s : Plain P) → Stands r w j d s → s.depth ≡ 0 → count s ≡ c → t ≡ suc n * m → c + t ≤ l → (e : Ending) → (plain_run r j m 0 s).ending ≡ e → goes_on (told_stop p e) ≡ false
          → by_ending (t - m) (deeper_ran r c (plain_run r j m 0 s)) e ≡ deeper_ran r c (plain_run r j m 0 s) → Whole (rounds r p m (suc n) d) (plain_run r l t c (deeper r c s))
      ended_first n t c d s i z k q v e a g b =
          let f : suc n * m ≡ n * m + m = suc-mul n m in
          let u = split t c s enough z (omega (arith, q, f)) v in
          last_round (suc n) t c d s i k (omega (arith, q, f)) (omega arith) e a g (u ∙ (ap (by_ending (t - m) (deeper_ran r c (plain_run r j m 0 s))) a ∙ b))

      by_first : (n t c : ℕ) (d : Snapshot P) (s : Plain P) → Stands r w j d s → s.depth ≡ 0 → count s ≡ c → t ≡ suc n * m → c + t ≤ l → Rounds n → (e : Ending) → (plain_run r j m 0 s).ending ≡ e → Whole (rounds r p m (suc n) d) (plain_run r l t c (deeper r c s))
      by_first n t c d s i z k q v rest counted e =
          let x = plain_run r j m 0 s in
          let t' = tally r j m 0 s in
          let f : suc n * m ≡ n * m + m = suc-mul n m in
          let u = split t c s enough z (omega (arith, q, f)) v in
          let o = round_stands d s i (omega (arith, q, f)) in
          next_round n t c d s i z k (omega (arith, q, f)) e u (rest (t - m) (x.done + c) (one_round r p m d).after (emptied x.plain) o.1 refl (omega (arith, t'.states)) (omega (arith, q, f)) (omega (arith, q, f, t'.all e)))
      by_first n t c d s i z k q v rest halted e = ended_first n t c d s i z k q v halted e refl refl
      by_first n t c d s i z k q v rest at_break e = ended_first n t c d s i z k q v at_break e refl refl
      by_first n t c d s i z k q v rest full e = ended_first n t c d s i z k q v full e refl refl
      by_first n t c d s i z k q v rest (refused g) e = ended_first n t c d s i z k q v (refused g) e refl refl

      pub rounds_run : (n : ℕ) → Rounds n
      rounds_run zero t c d s i z k q v =
          let f : t ≡ 0 = q ∙ zero-mul m in
          let x : Whole (record { after = d; stop = stop.CountReached }) (plain_run r l 0 c (deeper r c s)) = (refl, i.kept ∙ k, i.last) in
          rw (f, rounds_none r p m d) x
      rounds_run (suc n) t c d s i z k q v = by_first n t c d s i z k q v (rounds_run n) (plain_run r j m 0 s).ending refl

  -- a journal that is too short for a round
  module _ (short : j < m) where
    deeper_none : (x : PlainRan P) → deeper_ran r 0 x ≡ x
    deeper_none x = rw (add-zero x.plain.depth, add-zero x.done) refl

    by_short : (n t : ℕ) (d : Snapshot P) → Stands r w j d (fresh w) → 0 < n → m ≤ t → (e : Ending) → (plain_run r j m 0 (fresh w)).ending ≡ e → (plain_run r j t 0 (fresh w) ≡ by_ending j (t - m) (plain_run r j m 0 (fresh w)) e) → Whole (rounds r p m n d) (plain_run r j t 0 (fresh w))
    by_short n t d i h u counted q v =
        let y = tally r j m 0 (fresh w) in
        absurd (omega (arith, y.all q, y.depth, y.within (omega arith)))
    by_short n t d i h u halted q v = last_round j n t 0 d (fresh w) i refl (omega arith) h halted q refl (v ∙ sym (deeper_none (plain_run r j m 0 (fresh w))))
    by_short n t d i h u at_break q v = last_round j n t 0 d (fresh w) i refl (omega arith) h at_break q refl (v ∙ sym (deeper_none (plain_run r j m 0 (fresh w))))
    by_short n t d i h u full q v = last_round j n t 0 d (fresh w) i refl (omega arith) h full q refl (v ∙ sym (deeper_none (plain_run r j m 0 (fresh w))))
    by_short n t d i h u (refused g) q v = last_round j n t 0 d (fresh w) i refl (omega arith) h (refused g) q refl (v ∙ sym (deeper_none (plain_run r j m 0 (fresh w))))

    pub short_run : (n t : ℕ) (d : Snapshot P) → Stands r w j d (fresh w) → 0 < n → m ≤ t → Whole (rounds r p m n d) (plain_run r j t 0 (fresh w))
    short_run n t d i h u = by_short n t d i h u (plain_run r j m 0 (fresh w)).ending refl (more r j m (t - m) t 0 (fresh w) (omega arith))
