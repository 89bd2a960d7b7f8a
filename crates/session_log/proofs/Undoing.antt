use Rattle.std.proofs.Common.{◌≡◌, ℕ, Bool, true, false, cond, eqb, Some, None, Ok, Err, Option, Result, sym, refl, ap, ◌∙◌}
use mathlib.Core.Path.{fun_ext}
use Rattle.std.proofs.lemmas.Bool.{eq-eqb, eqb-true}
use Rattle.processor.specs.declared.Side.{Side}
use Rattle.processor.specs.declared.Side.TheVariants.{Memory, Screen}
use Rattle.processor.specs.declared.CellWrite.{CellWrite}
use Rattle.processor.specs.declared.Next.{Next}
use Rattle.processor.specs.Views.{Cell, Cells, View, Fault, side_of, exchange, yielded, granted, put, put_into}
use Rattle.processor.specs.Rules.{Rules, State, state, Moved, written, moved, moved_by, state_of}
use Rattle.session.specs.Trials.{tried, restored}

abbrev free : ℕ → Cell
free x = record { word = x; unlocked = true }

-- a word put back
put_back_at : (m : Cells) (a w x b : ℕ) (c : Bool) → m a ≡ Some (free x) → eqb b a ≡ c → cond c (Some (free x)) (cond c (Some (free w)) (m b)) ≡ m b
put_back_at m a w x b true h e = let f : b ≡ a = eqb-true b a e in sym h ∙ ap m (sym f)
put_back_at m a w x b false h e = refl

put_back : (m : Cells) (a w x : ℕ) → m a ≡ Some (free x) → put (put m a w) a x ≡ m
put_back m a w x h = fun_ext (λ b. put_back_at m a w x b (eqb b a) h refl)

put_same : (m : Cells) (a w : ℕ) → put m a w a ≡ Some (free w)
put_same m a w = rw (eq-eqb a a refl) refl

granted_ok : (b : Bool) (w : ℕ) (s : Side) (a x : ℕ) → granted b w s a ≡ Ok x → (b ≡ true) × (w ≡ x)
granted_ok true w s a x h = (refl, cc)
granted_ok false w s a x h = cc

yielded_ok : (o : Option Cell) (s : Side) (a x : ℕ) → yielded o s a ≡ Ok x → o ≡ Some (free x)
yielded_ok None s a x h = cc
yielded_ok (Some c) s a x h =
    let q = granted_ok c.unlocked c.word s a x h in
    rw (← q.0, ← q.1) refl

exchange_again : (v : View) (s : Side) (a w : ℕ) → exchange (put_into s v a w) s a ≡ Ok w
exchange_again v Memory a w = rw (put_same v.memory a w) refl
exchange_again v Screen a w = rw (put_same v.screen a w) refl

view_back : (v : View) (s : Side) (a w x : ℕ) → side_of s v a ≡ Some (free x) → put_into s (put_into s v a w) a x ≡ v
view_back v Memory a w x h = rw (put_back v.memory a w x h) refl
view_back v Screen a w x h = rw (put_back v.screen a w x h) refl

-- what was moved is undone by what it noted, with the processor q put back
abbrev pub Undone : {P : Type 0} → State P → Result (Moved P) Fault → Type 0
Undone s (Ok m) = state_of (moved m.state.view s.processor m.undo) ≡ Ok s
Undone s (Err f) = Unit {0}

module _ {P : Type 0} (s : State P) where
  undone_written : (p : P) (c : CellWrite) (o : Result ℕ Fault) → exchange s.view c.side c.at ≡ o → Undone s (written o c p s.view)
  undone_written p c (Err f) h = tt
  undone_written p c (Ok x) h =
      let q = yielded_ok (side_of c.side s.view c.at) c.side c.at x h in
      let v = put_into c.side s.view c.at c.word in
      let u : CellWrite = record { side = c.side; at = c.at; word = x } in
      let f : View → Result (State P) Fault = λ w. Ok (state s.processor w) in
      ap (λ (o : Result ℕ Fault). state_of (written o u s.processor v)) (exchange_again s.view c.side c.at c.word)
      ∙ ap f (view_back s.view c.side c.at c.word x q)

  undone_with : (p : P) (c : Option CellWrite) → Undone s (moved s.view p c)
  undone_with p None = refl
  undone_with p (Some c) = undone_written p c (exchange s.view c.side c.at) refl

  undone_next : (n : Result (Next P) Fault) → Undone s (moved_by s.view n)
  undone_next (Ok n) = undone_with n.after n.write
  undone_next (Err f) = tt

  undone_tried : (r : Rules P) → Undone s (tried r s)
  unfolding tried
  undone_tried r = undone_next (r.next s.processor s.view)

-- an instruction's entry leads back to the state before it
pub entry_undoes : {P : Type 0} (r : Rules P) (s : State P) (m : Moved P) → tried r s ≡ Ok m → state_of (restored m.state (record { before = s.processor; undo = m.undo })) ≡ Ok s
unfolding restored
entry_undoes {P} r s m e = rw e at (undone_tried s r)
