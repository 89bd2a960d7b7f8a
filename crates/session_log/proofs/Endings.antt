use Rattle.std.proofs.Common.{◌≡◌, ℕ, suc, ◌+◌, ◌<◌, Bool, true, false, cond, ◌&&◌, eqb, ltb, Some, None, Ok, Err, Option, Result, sym, refl, ap, ◌∙◌, subst, inl, inr, arith}
use Rattle.std.proofs.lemmas.Bool.{ltb-true, ltb-false, lt-ltb, ne_eqb, eq-eqb, cases_eq, and_from}
use Rattle.processor.specs.declared.Mark.{Mark}
use Rattle.processor.specs.declared.Mark.TheVariants as mark
use Rattle.processor.specs.Views.{Fault}
use Rattle.processor.specs.Rules.{Rules, State, instruction}
use Rattle.session.specs.Runs.{Ending, counted, halted, at_break, full, refused, is_halted}
use Rattle.session_log.specs.Kept.{is_break, by_next, ending, Met, own_break, halted_machine, refused_next, full_journal}

-- an ending by its tests: own instruction done, halted, at a break, count reached, room in the journal
abbrev pub choose : Bool → Bool → Bool → Bool → Bool → Option Ending → Option Ending
choose own h b done room next =
    cond (own && h) (Some halted) (cond (own && b) (Some at_break) (cond done (Some counted) (cond h (Some halted) (cond room next (Some full)))))

abbrev Open : Bool → Bool → Bool → Bool → Bool → Option Ending → Type 0
Open own h b done room next = ((own && b) ≡ false) × (h ≡ false) × (done ≡ false) × (room ≡ true) × (next ≡ None)

choose_none : (own h b done room : Bool) (next : Option Ending) → choose own h b done room next ≡ None → Open own h b done room next
choose_none true true b done room next e = cc
choose_none true false true done room next e = cc
choose_none true false false true room next e = cc
choose_none true false false false true next e = (refl, refl, refl, refl, e)
choose_none true false false false false next e = cc
choose_none false true b true room next e = cc
choose_none false true b false room next e = cc
choose_none false false b true room next e = cc
choose_none false false b false true next e = (refl, refl, refl, refl, e)
choose_none false false b false false next e = cc

-- what holds a run up where its count is not reached
data Held (own h b room : Bool) (next : Option Ending) (e : Ending) : Type 0 where
  by_halt : h ≡ true → Held own h b room next e
  by_break : own ≡ true → b ≡ true → Held own h b room next e
  by_room : room ≡ false → Held own h b room next e
  by_fault : next ≡ Some e → Held own h b room next e

choose_some : (own h b room : Bool) (next : Option Ending) (e : Ending) → choose own h b false room next ≡ Some e → Held own h b room next e
choose_some own true b room next e q = by_halt refl
choose_some true false true room next e q = by_break refl refl
choose_some true false false true next e q = by_fault q
choose_some true false false false next e q = by_room refl
choose_some false false b true next e q = by_fault q
choose_some false false b false next e q = by_room refl

mark_halted : (m : Mark) → is_halted m ≡ true → m ≡ mark.Halted
mark_halted mark.Ready h = cc
mark_halted mark.AtBreak h = cc
mark_halted mark.Halted h = refl

mark_break : (m : Mark) → is_break m ≡ true → m ≡ mark.AtBreak
mark_break mark.Ready h = cc
mark_break mark.AtBreak h = refl
mark_break mark.Halted h = cc

next_fault : {P : Type 0} (o : Result (State P) Fault) (e : Ending) → by_next o ≡ Some e → (f : Fault) × (o ≡ Err f)
next_fault (Ok v) e h = cc
next_fault (Err f) e h = (f, refl)

module _ {P : Type 0} (r : Rules P) (j d n i : ℕ) (u : State P) where
  abbrev h : Bool
  h = is_halted (r.mark u.processor)

  abbrev b : Bool
  b = is_break (r.mark u.processor)

  open_at : ending r j d n i u ≡ None → Open (ltb 0 i) h b (eqb i n) (ltb (d + i) j) (by_next (instruction r u))
  open_at e = choose_none (ltb 0 i) h b (eqb i n) (ltb (d + i) j) (by_next (instruction r u)) e

  -- where nothing ends a run, nothing holds it up
  pub none_met : ending r j d n i u ≡ None → Met r j d i u → ⊥
  none_met e (own_break l m) =
      let q = open_at e in
      let t : (ltb 0 i && b) ≡ true = and_from (ltb 0 i) b (lt-ltb 0 i l) (ap is_break m) in
      cc (sym q.0 ∙ t)
  none_met e (halted_machine m) =
      let q = open_at e in
      let t : h ≡ true = ap is_halted m in
      cc (sym q.1 ∙ t)
  none_met e (refused_next f m) =
      let q = open_at e in
      let t : by_next (instruction r u) ≡ Some (refused f) = ap by_next m in
      cc (sym q.4 ∙ t)
  none_met e (full_journal l) = omega (arith, ltb-true (d + i) j (open_at e).3)

  -- what ends a run before its count is something that holds it up
  pub some_met : (e : Ending) → i < n → ending r j d n i u ≡ Some e → Met r j d i u
  some_met e l q =
      let f : eqb i n ≡ false = ne_eqb i n (λ x. omega arith) in
      let k : choose (ltb 0 i) h b false (ltb (d + i) j) (by_next (instruction r u)) ≡ Some e = rw f at q in
      met_by (choose_some (ltb 0 i) h b (ltb (d + i) j) (by_next (instruction r u)) e k)
    where
      met_by : Held (ltb 0 i) h b (ltb (d + i) j) (by_next (instruction r u)) e → Met r j d i u
      met_by (by_halt t) = halted_machine (mark_halted (r.mark u.processor) t)
      met_by (by_break t s) = own_break (ltb-true 0 i t) (mark_break (r.mark u.processor) s)
      met_by (by_room t) = full_journal (ltb-false (d + i) j t)
      met_by (by_fault t) = let x = next_fault (instruction r u) e t in refused_next x.0 x.1

eqb_suc : (m n : ℕ) → eqb (suc m) (suc n) ≡ eqb m n
eqb_suc m n = elim (cases_eq m n) [ inl e ↦ eq-eqb (suc m) (suc n) (ap suc e) ∙ sym (eq-eqb m n e) | inr ne ↦ ne_eqb (suc m) (suc n) (λ e. ne (omega arith)) ∙ sym (ne_eqb m n ne) ]

quiet : (own own' done room : Bool) (next : Option Ending) → choose own false false done room next ≡ choose own' false false done room next
quiet true true done room next = refl
quiet true false done room next = refl
quiet false true done room next = refl
quiet false false done room next = refl

module _ {P : Type 0} (r : Rules P) (j d n i : ℕ) (u : State P) where
  abbrev H : Bool
  H = is_halted (r.mark u.processor)

  abbrev B : Bool
  B = is_break (r.mark u.processor)

  shift_tests : (own : Bool) → choose own H B (eqb (suc i) (suc n)) (ltb (d + suc i) j) (by_next (instruction r u)) ≡ choose own H B (eqb i n) (ltb (d + 1 + i) j) (by_next (instruction r u))
  shift_tests own =
      let s : d + suc i ≡ d + 1 + i = omega arith in
      ap (λ (x : Bool). choose own H B x (ltb (d + suc i) j) (by_next (instruction r u))) (eqb_suc i n)
      ∙ ap (λ (x : ℕ). choose own H B (eqb i n) (ltb x j) (by_next (instruction r u))) s

  -- the same point of a run, counted from its second instruction on
  pub shift_own : 0 < i → ending r j d (suc n) (suc i) u ≡ ending r j (d + 1) n i u
  shift_own l =
      let t : ltb 0 (suc i) ≡ ltb 0 i = lt-ltb 0 (suc i) (omega arith) ∙ sym (lt-ltb 0 i l) in
      ap (λ (x : Bool). choose x H B (eqb (suc i) (suc n)) (ltb (d + suc i) j) (by_next (instruction r u))) t ∙ shift_tests (ltb 0 i)

  pub shift_ready : r.mark u.processor ≡ mark.Ready → ending r j d (suc n) (suc i) u ≡ ending r j (d + 1) n i u
  shift_ready m =
      let F : Mark → Type 0 = λ x. choose (ltb 0 (suc i)) (is_halted x) (is_break x) (eqb i n) (ltb (d + 1 + i) j) (by_next (instruction r u)) ≡ choose (ltb 0 i) (is_halted x) (is_break x) (eqb i n) (ltb (d + 1 + i) j) (by_next (instruction r u)) in
      shift_tests (ltb 0 (suc i)) ∙ subst F (sym m) (quiet (ltb 0 (suc i)) (ltb 0 i) (eqb i n) (ltb (d + 1 + i) j) (by_next (instruction r u)))
