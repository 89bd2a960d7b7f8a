use Rattle.std.proofs.Common.{◌≡◌, ℕ, zero, suc, ◌+◌, ◌-◌, ◌≤◌, Bool, true, false, cond, ltb, List, [], ◌∷◌, length, None, Ok, Err, Result, sym, refl, ◌∙◌, zero-add, arith}
use Rattle.std.proofs.lemmas.Bool.{ltb-true, ltb-false}
use Rattle.refusal.specs.declared.Cause.TheVariants.{RunTooLong, CountTooHigh, BackTooFar}
use Rattle.processor.specs.Views.{Places}
use Rattle.processor.specs.Rules.{Rules, State}
use Rattle.session.specs.Snapshots.{Reason, rule}
use Rattle.session_log.specs.declared.line.Call.{Call}
use Rattle.session_log.specs.declared.line.Call.TheVariants.{Run, Back, Forget, Look}
use Rattle.session_log.specs.declared.line.Line.{Line}
use Rattle.session_log.specs.Replies.{ran, taken, told_line}
use Rattle.session_log.specs.Serving.{word_reply}
use Rattle.session_log.specs.Plain.{Plain, count, drops, plain_run, PlainServed, replied, plain_call, plain_lines}
use Rattle.session_log.specs.Stands.{Follow}
use Rattle.session_log.specs.Kept.{RunKept, too_long, too_high, BackKept, LookKept, CallKept, depth_after, LogKept}
use Rattle.session_log.specs.Kept as kept
use Rattle.session_log.proofs.Keeps.{follow_after, far, follow_run, ends}

module _ {P : Type 0} (r : Rules P) (p : Places) (j : ℕ) (w : State P) where
  -- a plain session that goes back to w: its states follow each other, and it keeps at least as many as can be taken back
  pub record Sound (s : Plain P) : Type 0 where
    pub follow : Follow r w s.last s.past
    pub within : s.depth ≤ count s

  -- dropping states that are there
  abbrev Dropped : ℕ → Plain P → Plain P → Type 0
  Dropped n s t = (count t ≡ count s - n) × (t.depth ≡ s.depth - n) × Follow r w t.last t.past

  dropped : (n : ℕ) (u : State P) (past : List (State P)) (d : ℕ) → n ≤ length past → Follow r w u past → Dropped n (record { last = u; past = past; depth = d }) (drops n (record { last = u; past = past; depth = d }))
  dropped zero u past d h f = (omega arith, omega arith, f)
  dropped (suc n) u [] d h f = absurd (omega arith)
  dropped (suc n) u (v ∷ past) d h f =
      let x = dropped n v past (d - 1) (omega arith) f.1 in
      (x.0 ∙ omega arith, x.1 ∙ omega arith, x.2)

  -- a call on a plain session, and what it leaves
  abbrev Kept : Call → Plain P → PlainServed P → Type 0
  Kept c s x = CallKept r p j w (count s) s.depth c (told_line p x.reply) (count x.plain) × (depth_after s.depth (told_line p x.reply) ≡ x.plain.depth) × Sound x.plain

  kept_ran : (n : ℕ) (s : Plain P) → Sound s → n ≤ 1000000 → count s + n ≤ 4000000000 → let x = plain_run r j n 0 s in Kept (Run n) s (replied x.plain (Ok (ran x.done x.ending)))
  kept_ran n s i h k =
      let x = plain_run r j n 0 s in
      let f = far r j n 0 s in
      let m = f.0 in
      let e : x.done ≡ m = f.1 ∙ zero-add m in
      let a = ends r j w s.last (count s) s.depth n m x.ending (follow_after r w s.last s.past i.follow) f.4 in (
        rw (f.2, e) (RunKept.done m x.ending h k a),
        omega (arith, e, f.3),
        record { follow = follow_run r j w n 0 s i.follow; within = omega (arith, f.2, f.3, i.within) },
      )

  kept_run : (n : ℕ) (s : Plain P) → Sound s → (a b : Bool) → ltb 1000000 n ≡ a → ltb 4000000000 (count s + n) ≡ b → let x = plain_run r j n 0 s in Kept (Run n) s (cond a (replied s (Err (rule RunTooLong))) (cond b (replied s (Err (rule CountTooHigh))) (replied x.plain (Ok (ran x.done x.ending)))))
  kept_run n s i true b e f = (too_long (ltb-true 1000000 n e), refl, i)
  kept_run n s i false true e f = (too_high (ltb-false 1000000 n e) (ltb-true 4000000000 (count s + n) f), refl, i)
  kept_run n s i false false e f = kept_ran n s i (ltb-false 1000000 n e) (ltb-false 4000000000 (count s + n) f)

  kept_back : (n : ℕ) (s : Plain P) → Sound s → (a : Bool) → ltb s.depth n ≡ a → Kept (Back n) s (cond a (replied s (Err (rule BackTooFar))) (replied (drops n s) (Ok (taken n None))))
  kept_back n s i true e = (BackKept.too_far (ltb-true s.depth n e), refl, i)
  kept_back n s i false e =
      let h = ltb-false s.depth n e in
      let x = dropped n s.last s.past s.depth (omega (arith, i.within)) i.follow in
      (rw x.0 (BackKept.done h), sym x.1, record { follow = x.2; within = omega (arith, x.0, x.1, i.within) })

  word_depth : (d : ℕ) (o : Result ℕ Reason) → depth_after d (told_line p (word_reply o)) ≡ d
  word_depth d (Ok x) = refl
  word_depth d (Err e) = refl

  pub kept_call : (c : Call) (s : Plain P) → Sound s → Kept c s (plain_call r j c s)
  kept_call (Run n) s i = kept_run n s i (ltb 1000000 n) (ltb 4000000000 (count s + n)) refl refl
  kept_call (Back n) s i = kept_back n s i (ltb s.depth n) refl
  kept_call Forget s i = (kept.ForgetKept.done, refl, record { follow = i.follow; within = omega arith })
  kept_call (Look x) s i = (kept.LookKept.shown s.last (follow_after r w s.last s.past i.follow), word_depth s.depth _, i)

  -- every line of a plain session's log keeps to the page
  pub kept_log : (ls : List (Line P)) (s : Plain P) → Sound s → LogKept r p j w (count s) s.depth (plain_lines r p j ls s)
  kept_log [] s i = tt
  kept_log (l ∷ ls) s i =
      let x = plain_call r j l.call s in
      let a = kept_call l.call s i in (
        a.0,
        (x.plain.last.view, follow_after r w x.plain.last x.plain.past a.2.follow),
        rw a.1 (kept_log ls x.plain a.2),
      )
