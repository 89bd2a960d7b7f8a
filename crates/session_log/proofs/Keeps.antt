use Rattle.std.proofs.Common.{◌≡◌, ℕ, zero, suc, ◌+◌, ◌<◌, ◌≤◌, Bool, true, false, cond, eqb, ltb, List, [], ◌∷◌, length, Some, None, Ok, Err, Result, sym, refl, ap, ◌∙◌, subst, add-zero, add-suc, arith}
use Rattle.std.proofs.lemmas.Bool.{ne_eqb}
use Rattle.processor.specs.declared.Mark.{Mark}
use Rattle.processor.specs.declared.Mark.TheVariants as mark
use Rattle.processor.specs.Views.{Fault}
use Rattle.processor.specs.Rules.{Rules, State, instruction}
use Rattle.session.specs.Runs.{Ending, counted, halted, at_break, full, refused, is_halted}
use Rattle.session_log.specs.Plain.{Plain, count, push, PlainRan, plain_ran, plain_run, after, then_instruction}
use Rattle.session_log.specs.Stands.{Follow}
use Rattle.session_log.specs.Kept.{by_next, ending, Met, Ends, RunKept, BackKept, ForgetKept, LookKept, CallKept, depth_after, PageLine, LogKept}
use Rattle.session_log.specs.Kept as kept
use Rattle.session_log.proofs.Turns.{marked, moved, tested}
use Rattle.session_log.proofs.Endings.{choose, none_met, some_met, shift_own, shift_ready}

module _ {P : Type 0} (r : Rules P) where
  -- states that follow each other are the page after as many instructions
  pub follow_after : (w u : State P) (past : List (State P)) → Follow r w u past → after r (length past) w ≡ Ok u
  follow_after w u [] f = ap (λ (x : State P). Ok x) f
  follow_after w u (v ∷ past) f = ap (then_instruction r) (follow_after w v past f.1) ∙ f.0

  -- some instructions, then more
  after_add : (c : ℕ) (w u : State P) → after r c w ≡ Ok u → (i : ℕ) → after r (c + i) w ≡ after r i u
  after_add c w u e zero = ap (λ (n : ℕ). after r n w) (add-zero c) ∙ e
  after_add c w u e (suc i) = ap (λ (n : ℕ). after r n w) (add-suc c i) ∙ ap (then_instruction r) (after_add c w u e i)

  after_first : (k : ℕ) (w v : State P) → instruction r w ≡ Ok v → after r (suc k) w ≡ after r k v
  after_first zero w v e = e
  after_first (suc k) w v e = ap (then_instruction r) (after_first k w v e)

  module _ (j : ℕ) where
    -- a run of n from the state u does k and ends by e
    pub record Goes (u : State P) (d n k : ℕ) (e : Ending) : Type 0 where
      pub most : k ≤ n
      pub here : (v : State P) × (after r k u ≡ Ok v) × (ending r j d n k v ≡ Some e)
      pub before : (i : ℕ) → i < k → (v : State P) → after r i u ≡ Ok v → ending r j d n i v ≡ None

    goes_none : (u : State P) (d n : ℕ) (e : Ending) → ending r j d n 0 u ≡ Some e → Goes u d n 0 e
    goes_none u d n e q = record { most = omega arith; here = (u, refl, q); before = λ i h v p. absurd (omega arith) }

    module _ (u v : State P) (d n : ℕ) (go : ending r j d (suc n) 0 u ≡ None) (step : instruction r u ≡ Ok v) where
      not_first : (x : State P) → after r 0 u ≡ Ok x → ending r j d (suc n) 0 x ≡ None
      not_first x q = let f : u ≡ x = cc in subst (λ (y : State P). ending r j d (suc n) 0 y ≡ None) f go

      goes_one : (e : Ending) → ending r j d (suc n) 1 v ≡ Some e → Goes u d (suc n) 1 e
      goes_one e q =
          record { most = omega arith; here = (v, step, q); before = only }
        where
          only : (i : ℕ) → i < 1 → (x : State P) → after r i u ≡ Ok x → ending r j d (suc n) i x ≡ None
          only zero h x p = not_first x p
          only (suc i) h x p = absurd (omega arith)

      same_later : r.mark v.processor ≡ mark.Ready → (i : ℕ) (x : State P) → after r i v ≡ Ok x → ending r j d (suc n) (suc i) x ≡ ending r j (d + 1) n i x
      same_later m zero x q =
          let f : v ≡ x = cc in
          shift_ready r j d n 0 x (ap (λ (y : State P). r.mark y.processor) (sym f) ∙ m)
      same_later m (suc i) x q = shift_own r j d n (suc i) x (omega arith)

      goes_more : (k : ℕ) (e : Ending) → r.mark v.processor ≡ mark.Ready → Goes v (d + 1) n k e → Goes u d (suc n) (suc k) e
      goes_more k e m g =
          let t = g.here in
          record {
            most = omega (arith, g.most);
            here = (t.0, after_first k u v step ∙ t.1, same_later m k t.0 t.1 ∙ t.2);
            before = early;
          }
        where
          early : (i : ℕ) → i < suc k → (x : State P) → after r i u ≡ Ok x → ending r j d (suc n) i x ≡ None
          early zero h x p = not_first x p
          early (suc i) h x p =
              let p' : after r i v ≡ Ok x = sym (after_first i u v step) ∙ p in
              same_later m i x p' ∙ g.before i (omega arith) x p'

    -- how far a plain run goes
    abbrev pub Far : ℕ → ℕ → Plain P → PlainRan P → Type 0
    Far n k s x = (m : ℕ) × (x.done ≡ k + m) × (count x.plain ≡ count s + m) × (x.plain.depth ≡ s.depth + m) × Goes s.last s.depth n m x.ending

    far_none : (n k : ℕ) (s : Plain P) (e : Ending) → ending r j s.depth n 0 s.last ≡ Some e → Far n k s (plain_ran s k e)
    far_none n k s e q = (0, sym (add-zero k), sym (add-zero (count s)), sym (add-zero s.depth), goes_none s.last s.depth n e q)

    one_ending : (d n : ℕ) (v : State P) (m : Mark) → r.mark v.processor ≡ m → ending r j d (suc n) 1 v ≡ choose true (is_halted m) (kept.is_break m) (eqb 1 (suc n)) (ltb (d + 1) j) (by_next (instruction r v))
    one_ending d n v m e = rw e refl

    far_mark : (n k : ℕ) (s : Plain P) (v : State P) → ending r j s.depth (suc n) 0 s.last ≡ None → instruction r s.last ≡ Ok v → Far n (k + 1) (push v s) (plain_run r j n (k + 1) (push v s)) → (m : Mark) → r.mark v.processor ≡ m → Far (suc n) k s (marked r j n k v s m)
    far_mark n k s v go step more mark.Ready m =
        (suc more.0, more.1 ∙ omega arith, more.2 ∙ omega arith, more.3 ∙ omega arith, goes_more s.last v s.depth n go step more.0 _ m more.4)
    far_mark n k s v go step more mark.AtBreak m =
        (1, refl, omega arith, refl, goes_one s.last v s.depth n go step at_break (one_ending s.depth n v mark.AtBreak m))
    far_mark n k s v go step more mark.Halted m =
        (1, refl, omega arith, refl, goes_one s.last v s.depth n go step halted (one_ending s.depth n v mark.Halted m))

    first_ending : (n : ℕ) (s : Plain P) (h b : Bool) (o : Result (State P) Fault) → is_halted (r.mark s.last.processor) ≡ h → ltb s.depth j ≡ b → instruction r s.last ≡ o → ending r j s.depth (suc n) 0 s.last ≡ cond h (Some halted) (cond b (by_next o) (Some full))
    first_ending n s h b o e f q =
        let n0 : eqb 0 (suc n) ≡ false = ne_eqb 0 (suc n) (λ x. omega arith) in
        rw (n0, e, add-zero s.depth, f, q) refl

    far_move : (n k : ℕ) (s : Plain P) → ((v : State P) → Far n (k + 1) (push v s) (plain_run r j n (k + 1) (push v s))) → (h b : Bool) (o : Result (State P) Fault) → ending r j s.depth (suc n) 0 s.last ≡ cond h (Some halted) (cond b (by_next o) (Some full)) → instruction r s.last ≡ o → Far (suc n) k s (moved r j n k s (tested h b o))
    far_move n k s more true b o q e = far_none (suc n) k s halted q
    far_move n k s more false false o q e = far_none (suc n) k s full q
    far_move n k s more false true (Err f) q e = far_none (suc n) k s (refused f) q
    far_move n k s more false true (Ok v) q e = far_mark n k s v q e (more v) (r.mark v.processor) refl

    pub far : (n k : ℕ) (s : Plain P) → Far n k s (plain_run r j n k s)
    far zero k s = far_none 0 k s counted refl
    far (suc n) k s =
        let h = is_halted (r.mark s.last.processor) in
        let b = ltb s.depth j in
        let o = instruction r s.last in
        far_move n k s (λ v. far n (k + 1) (push v s)) h b o (first_ending n s h b o refl refl refl) refl

    -- a run keeps the states in order
    follow_mark : (w : State P) (n k : ℕ) (v : State P) (s : Plain P) → ((s : Plain P) → Follow r w s.last s.past → let x = plain_run r j n (k + 1) s in Follow r w x.plain.last x.plain.past) → Follow r w v (s.last ∷ s.past) → (m : Mark) → Follow r w (marked r j n k v s m).plain.last (marked r j n k v s m).plain.past
    follow_mark w n k v s more f mark.Ready = more (push v s) f
    follow_mark w n k v s more f mark.AtBreak = f
    follow_mark w n k v s more f mark.Halted = f

    follow_move : (w : State P) (n k : ℕ) (s : Plain P) → Follow r w s.last s.past → ((s : Plain P) → Follow r w s.last s.past → let x = plain_run r j n (k + 1) s in Follow r w x.plain.last x.plain.past) → (h b : Bool) (o : Result (State P) Fault) → instruction r s.last ≡ o → let x = moved r j n k s (tested h b o) in Follow r w x.plain.last x.plain.past
    follow_move w n k s f more true b o e = f
    follow_move w n k s f more false false o e = f
    follow_move w n k s f more false true (Err x) e = f
    follow_move w n k s f more false true (Ok v) e = follow_mark w n k v s more (e, f) (r.mark v.processor)

    pub follow_run : (w : State P) (n k : ℕ) (s : Plain P) → Follow r w s.last s.past → let x = plain_run r j n k s in Follow r w x.plain.last x.plain.past
    follow_run w zero k s f = f
    follow_run w (suc n) k s f = follow_move w n k s f (λ x g. follow_run w n (k + 1) x g) (is_halted (r.mark s.last.processor)) (ltb s.depth j) (instruction r s.last) refl

    -- the same, from the page as it was opened
    pub ends : (w u : State P) (c d n k : ℕ) (e : Ending) → after r c w ≡ Ok u → Goes u d n k e → Ends r j w c d n k e
    ends w u c d n k e a g =
        let t = g.here in
        record {
          most = g.most;
          here = (t.0, after_add c w u a k ∙ t.1, t.2, λ h. some_met r j d n k t.0 e h t.2);
          before = λ i h v q. let z = g.before i h v (sym (after_add c w u a i) ∙ q) in (z, none_met r j d n i v z);
        }
