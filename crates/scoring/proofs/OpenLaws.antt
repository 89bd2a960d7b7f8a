use Rattle.std.proofs.Common.{◌≡◌, ℕ, zero, suc, ◌+◌, ◌-◌, ◌<◌, ◌≤◌, Bool, true, false, cond, eqb, ltb, ◌⊎◌, List, [], ◌∷◌, length, get_or, take, drop, IfOk, Some, Ok, Err, Option, Result, sym, refl, ap, ◌∙◌, subst, inl, inr, arith}
use mathlib.Core.Path.{fun_ext}
use native.Mathlib.Nat.{sub-zero}
use Rattle.std.proofs.lemmas.List.{take_at, length-append}
use Rattle.std.proofs.lemmas.Bool.{cases_Bool, cond-true, cond-false, eqb-true, eqb-false, ne_eqb, ltb-true, ltb-false}
use Rattle.refusal.specs.declared.Refusal.{Refusal}
use Rattle.processor.specs.declared.Side.TheVariants.{Memory}
use Rattle.processor.specs.Views.{Cell, View, view, Places, put_into}
use Rattle.processor.specs.Rules.{State, state}
use Rattle.session.specs.Opens.{put_all}
use Rattle.session_log.specs.Logs.{opening}
use Rattle.tape.specs.declared.cursor.CellWord.{CellWord}
use Rattle.taping.specs.Tapes.{cell_words}
use Rattle.icmc.specs.declared.machine.Machine.{Machine}
use Rattle.icmc.specs.Steps.{machine_rules}
use Rattle.long_run.specs.declared.report.Report.{Report}
use Rattle.long_run.specs.LongRuns.{RanOut}
use Rattle.scoring.specs.Assembly.{size_answer, tape_then, PageTaped}
use Rattle.scoring.specs.Scores.{with_words, with_program, start_with, PageScored}

abbrev holding : ℕ → Option Cell
holding w = Some (record { word = w; unlocked = true })

abbrev after : View → ℕ → List ℕ → View
after v a ws = put_all v (cell_words a ws)

-- a cell that no word is put into
other_cell : (ws : List ℕ) (a b : ℕ) (v : View) → (b < a) ⊎ (a + length ws ≤ b) → (after v a ws).memory b ≡ v.memory b
other_cell [] a b v h = refl
other_cell (w ∷ ws) a b v h =
    let away : (b < a + 1) ⊎ (a + 1 + length ws ≤ b) = elim h [ inl l ↦ inl (omega arith) | inr r ↦ inr (omega arith) ] in
    let apart : (b ≡ a) → ⊥ = λ e. elim h [ inl l ↦ omega arith | inr r ↦ omega arith ] in
    other_cell ws (a + 1) b (put_into Memory v a w) away ∙ cond-false (eqb b a) (holding w) (v.memory b) (ne_eqb b a apart)

-- a cell that a word is put into
own_cell : (ws : List ℕ) (a b : ℕ) (v : View) → a ≤ b → b < a + length ws → (after v a ws).memory b ≡ holding (get_or ws (b - a) 0)
own_cell [] a b v h k = absurd (omega arith)
own_cell (w ∷ ws) a b v h k =
    elim (cases_Bool (eqb b a)) [
      | inl e ↦ let same : b ≡ a = eqb-true b a e in
          let none : zero ≡ b - a = omega arith in
          other_cell ws (a + 1) b (put_into Memory v a w) (inl (omega arith))
          ∙ (cond-true (eqb b a) (holding w) (v.memory b) e ∙ ap (λ (i : ℕ). holding (get_or (w ∷ ws) i 0)) none)
      | inr e ↦ let apart = eqb-false b a e in
          let more : suc (b - (a + 1)) ≡ b - a = omega arith in
          own_cell ws (a + 1) b (put_into Memory v a w) (omega arith) (omega arith)
          ∙ ap (λ (i : ℕ). holding (get_or (w ∷ ws) i 0)) more
    ]

cells_by : (ws : List ℕ) (v : View) (b : ℕ) (t : Bool) → ltb b (length ws) ≡ t → (after v 0 ws).memory b ≡ cond t (holding (get_or ws b 0)) (v.memory b)
cells_by ws v b true e = let h = ltb-true b (length ws) e in own_cell ws 0 b v (omega arith) (omega arith) ∙ ap (λ (i : ℕ). holding (get_or ws i 0)) (sub-zero b)
cells_by ws v b false e = let h = ltb-false b (length ws) e in other_cell ws 0 b v (inr (omega arith))

same_screen : (ws : List ℕ) (a : ℕ) (v : View) → (after v a ws).screen ≡ v.screen
same_screen [] a v = refl
same_screen (w ∷ ws) a v = same_screen ws (a + 1) (put_into Memory v a w)

same_keys : (ws : List ℕ) (a : ℕ) (v : View) → (after v a ws).keys ≡ v.keys
same_keys [] a v = refl
same_keys (w ∷ ws) a v = same_keys ws (a + 1) (put_into Memory v a w)

-- a program's words, put one after another
pub program_put : (ws : List ℕ) (v : View) → put_all v (cell_words 0 ws) ≡ with_program ws v
program_put ws v =
    let m : (after v 0 ws).memory ≡ with_words ws v.memory = fun_ext (λ b. cells_by ws v b (ltb b (length ws)) refl) in
    λ k. view (m k) (same_screen ws 0 v k) (same_keys ws 0 v k)

-- a page's tape, opened: the machine at its start over the cells with the page's program in them
pub page_opened : (stack : ℕ) (v : View) (bytes tape : List ℕ) (t : PageTaped bytes tape) → opening machine_rules stack v tape ≡ start_with stack t.program v
page_opened stack v bytes tape t =
    ap (λ (ps : List CellWord). state (machine_rules.start stack) (put_all v ps)) (t.holds.puts t.placed.stands.few)
    ∙ ap (state (machine_rules.start stack)) (program_put t.program v)

pub page_ran : (p : Places) (j stack : ℕ) (v w : View) (bytes tape : List ℕ) (r : Result Report Refusal) → PageTaped bytes tape
    → IfOk r (λ x. RanOut p j (opening machine_rules stack v tape) x w) → IfOk r (λ x. PageScored p j stack bytes v x w)
page_ran p j stack v w bytes tape (Ok x) t h =
    record {
      program = t.program;
      placed = t.placed;
      ran = subst (λ (s : State Machine). RanOut p j s x w) (page_opened stack v bytes tape t) h;
    }
page_ran p j stack v w bytes tape (Err e) t h = tt

-- a tape that was made, read from the first places
pub tape_made : (a : Result (List ℕ) Refusal) (n : ℕ) (tape left : List ℕ) → Ok n ≡ size_answer a → left ≡ tape_then a tape → (a ≡ Ok (take n left)) × (n ≤ length left)
tape_made (Ok t) n tape left ok e =
    let size : n ≡ length t = cc in
    let long = ap length e ∙ length-append t (drop (length t) tape) in
    (ap Ok (sym (take_at t (drop (length t) tape) n (sym size)) ∙ ap (take n) (sym e)), omega arith)
tape_made (Err f) n tape left ok e = absurd (let z : ◌≡◌ {A = Result ℕ Refusal} (Ok n) (Err f) = ok in let i : ◌≡◌ {A = ℕ} 0 1 = cc in omega arith)
