use Rattle.std.proofs.Common.{◌≡◌, ℕ, zero, suc, ◌+◌, ◌<◌, ◌≤◌, Bool, true, false, ltb, Ok, Err, Result, sym, refl, ap, ◌∙◌, arith}
use Rattle.std.proofs.lemmas.Bool.{lt-ltb, ltb-true}
use Rattle.processor.specs.declared.Mark.{Mark}
use Rattle.processor.specs.declared.Mark.TheVariants as mark
use Rattle.processor.specs.Views.{Fault}
use Rattle.processor.specs.Rules.{Rules, State, instruction}
use Rattle.session.specs.Runs.{Ending, counted, halted, at_break, full, refused, is_halted}
use Rattle.session_log.specs.Plain.{Plain, count, push, PlainRan, plain_ran, plain_run}
use Rattle.session_log.proofs.Turns.{marked, moved, tested}

module _ {P : Type 0} (r : Rules P) where
  -- a run that did its count goes on, any other has ended
  abbrev pub then_on : ℕ → ℕ → PlainRan P → PlainRan P
  then_on j n x =
      elim x.ending [ counted ↦ plain_run r j n x.done x.plain | halted ↦ x | at_break ↦ x | full ↦ x | refused f ↦ x ]

  module _ (j : ℕ) where
    more_mark : (a n m k : ℕ) (v : State P) (s : Plain P) → plain_run r j m (k + 1) (push v s) ≡ then_on j n (plain_run r j a (k + 1) (push v s)) → (x : Mark) → marked r j m k v s x ≡ then_on j n (marked r j a k v s x)
    more_mark a n m k v s more mark.Ready = more
    more_mark a n m k v s more mark.AtBreak = refl
    more_mark a n m k v s more mark.Halted = refl

    more_move : (a n m k : ℕ) (s : Plain P) → ((v : State P) → plain_run r j m (k + 1) (push v s) ≡ then_on j n (plain_run r j a (k + 1) (push v s))) → (h b : Bool) (o : Result (State P) Fault) → moved r j m k s (tested h b o) ≡ then_on j n (moved r j a k s (tested h b o))
    more_move a n m k s more true b o = refl
    more_move a n m k s more false false o = refl
    more_move a n m k s more false true (Err f) = refl
    more_move a n m k s more false true (Ok v) = more_mark a n m k v s (more v) (r.mark v.processor)

    -- a run of a + n is a run of a, and then one of n
    pub more : (a n m k : ℕ) (s : Plain P) → m ≡ a + n → plain_run r j m k s ≡ then_on j n (plain_run r j a k s)
    more zero n m k s e = let f : m ≡ n = omega arith in rw f refl
    more (suc a) n zero k s e = absurd (omega arith)
    more (suc a) n (suc m) k s e =
        more_move a n m k s (λ v. more a n m (k + 1) (push v s) (omega arith)) (is_halted (r.mark s.last.processor)) (ltb s.depth j) (instruction r s.last)

    -- what a run adds to the counts
    pub record Tally (n k : ℕ) (s : Plain P) (x : PlainRan P) : Type 0 where
      pub states : count x.plain + k ≡ count s + x.done
      pub depth : x.plain.depth + k ≡ s.depth + x.done
      pub within : s.depth ≤ j → x.plain.depth ≤ j
      pub all : x.ending ≡ counted → x.done ≡ k + n

    tally_more : (n k : ℕ) (v : State P) (s : Plain P) (x : PlainRan P) → s.depth < j → Tally n (k + 1) (push v s) x → Tally (suc n) k s x
    tally_more n k v s x h t =
        record {
          states = omega (arith, t.states);
          depth = omega (arith, t.depth);
          within = λ g. t.within (omega arith);
          all = λ e. let y = t.all e in omega arith;
        }

    tally_mark : (n k : ℕ) (v : State P) (s : Plain P) → s.depth < j → Tally n (k + 1) (push v s) (plain_run r j n (k + 1) (push v s)) → (m : Mark) → Tally (suc n) k s (marked r j n k v s m)
    tally_mark n k v s h t mark.Ready = tally_more n k v s _ h t
    tally_mark n k v s h t mark.AtBreak =
        record { states = omega arith; depth = omega arith; within = λ g. omega arith; all = λ e. cc }
    tally_mark n k v s h t mark.Halted =
        record { states = omega arith; depth = omega arith; within = λ g. omega arith; all = λ e. cc }

    tally_held : (n k : ℕ) (s : Plain P) (e : Ending) → (e ≡ counted → ⊥) → Tally n k s (plain_ran s k e)
    tally_held n k s e h = record { states = refl; depth = refl; within = λ g. g; all = λ q. absurd (h q) }

    tally_move : (n k : ℕ) (s : Plain P) → ((v : State P) → Tally n (k + 1) (push v s) (plain_run r j n (k + 1) (push v s))) → (h b : Bool) → ltb s.depth j ≡ b → (o : Result (State P) Fault) → Tally (suc n) k s (moved r j n k s (tested h b o))
    tally_move n k s more true b e o = tally_held (suc n) k s halted (λ q. cc)
    tally_move n k s more false false e o = tally_held (suc n) k s full (λ q. cc)
    tally_move n k s more false true e (Err f) = tally_held (suc n) k s (refused f) (λ q. cc)
    tally_move n k s more false true e (Ok v) = tally_mark n k v s (ltb-true s.depth j e) (more v) (r.mark v.processor)

    pub tally : (n k : ℕ) (s : Plain P) → Tally n k s (plain_run r j n k s)
    tally zero k s = record { states = refl; depth = refl; within = λ g. g; all = λ e. omega arith }
    tally (suc n) k s =
        tally_move n k s (λ v. tally n (k + 1) (push v s)) (is_halted (r.mark s.last.processor)) (ltb s.depth j) refl (instruction r s.last)

  -- the same with c more done before, none of them forgotten
  abbrev pub deeper : ℕ → Plain P → Plain P
  deeper c s = record { last = s.last; past = s.past; depth = s.depth + c }

  abbrev pub deeper_ran : ℕ → PlainRan P → PlainRan P
  deeper_ran c x = plain_ran (deeper c x.plain) (x.done + c) x.ending

  module _ (c j l : ℕ) where
    abbrev Deep : ℕ → ℕ → Plain P → Type 0
    Deep n k s = plain_run r l n (k + c) (deeper c s) ≡ deeper_ran c (plain_run r j n k s)

    push_deeper : (k : ℕ) (v : State P) (s : Plain P) (e : Ending) → plain_ran (push v (deeper c s)) (k + c + 1) e ≡ plain_ran (deeper c (push v s)) (k + 1 + c) e
    push_deeper k v s e =
        let a : s.depth + c + 1 ≡ s.depth + 1 + c = omega arith in
        let b : k + c + 1 ≡ k + 1 + c = omega arith in
        rw (a, b) refl

    deep_mark : (n k : ℕ) (v : State P) (s : Plain P) → Deep n (k + 1) (push v s) → (m : Mark) → marked r l n (k + c) v (deeper c s) m ≡ deeper_ran c (marked r j n k v s m)
    deep_mark n k v s more mark.Ready =
        let a : s.depth + c + 1 ≡ s.depth + 1 + c = omega arith in
        let b : k + c + 1 ≡ k + 1 + c = omega arith in
        rw (a, b) more
    deep_mark n k v s more mark.AtBreak = push_deeper k v s at_break
    deep_mark n k v s more mark.Halted = push_deeper k v s halted

    deep_move : (n k : ℕ) (s : Plain P) → ((v : State P) → Deep n (k + 1) (push v s)) → (h : Bool) (o : Result (State P) Fault) → moved r l n (k + c) (deeper c s) (tested h true o) ≡ deeper_ran c (moved r j n k s (tested h true o))
    deep_move n k s more true o = refl
    deep_move n k s more false (Err f) = refl
    deep_move n k s more false (Ok v) = deep_mark n k v s (more v) (r.mark v.processor)

    pub deep : (n k : ℕ) (s : Plain P) → s.depth + n ≤ j → s.depth + c + n ≤ l → Deep n k s
    deep zero k s f g = refl
    deep (suc n) k s f g =
        let h = is_halted (r.mark s.last.processor) in
        let o = instruction r s.last in
        let a : ltb s.depth j ≡ true = lt-ltb s.depth j (omega arith) in
        let b : ltb (s.depth + c) l ≡ true = lt-ltb (s.depth + c) l (omega arith) in
        let F : Bool → PlainRan P = λ x. moved r l n (k + c) (deeper c s) (tested h x o) in
        let G : Bool → PlainRan P = λ x. deeper_ran c (moved r j n k s (tested h x o)) in
        ap F b ∙ (deep_move n k s (λ v. deep n (k + 1) (push v s) (omega arith) (omega arith)) h o ∙ ap G (sym a))
