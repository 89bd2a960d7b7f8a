use Rattle.std.proofs.Common.{◌≡◌, ℕ, ◌+◌, ◌≤◌, Bool, true, false, cond, List, [], ◌∷◌, ◌++◌, length, take, Some, None, Ok, Err, Option, Result, sym, refl, ap, ◌∙◌}
use Rattle.std.proofs.lemmas.List.{length-take-le}
use Rattle.std.proofs.lemmas.Bool.{both_ways, cond-true}
use Rattle.refusal.specs.declared.Cause.{Cause}
use Rattle.refusal.specs.declared.Refusal.{Refusal}
use Rattle.page_text.specs.Sayings.{Reading}
use Rattle.pages.specs.declared.check.Progress.{Progress}
use Rattle.std.specs.Result.{result_ok}
use Rattle.pages.specs.declared.label.Label.{Label}
use Rattle.pages.specs.declared.line.Gain.{Gain}
use Rattle.pages.specs.Labels.{begins_with}
use Rattle.pages.specs.Page.{gained, shelved, Gathering, gathers}
use Rattle.pages.specs.Program.{held_line, held}
use Rattle.pages.proofs.OnLaws.{on_with, grows}
use Rattle.pages.proofs.HeldLaws.{begins_itself, begins_holds, begins_first}

-- a result that is done
pub ok_some : (x : Result Gain Cause) (g : Gain) → result_ok x ≡ Some g → x ≡ Ok g
ok_some (Ok h) g e = let d : h ≡ g = cc in ap Ok d
ok_some (Err c) g e = absurd cc

-- a line with no name
pub held_unnamed : (slots : List Label) (k : ℕ) (g : Gain) (x : Result Gain Cause) → x ≡ Ok g → g.label ≡ None → k ≤ length slots
    → Some (record { labels = k; size = g.next }) ≡ held_line slots (shelved (take k slots) x)
held_unnamed slots k g x e n h =
    let long = length-take-le k slots h in
    let begin = begins_itself k slots in
    rw (e, n, begin, long)

module _ (slots : List Label) where
  -- a line whose label is in its slot
  some_by : (b : Bool) (ms : List Label) (a : ℕ) (p : Progress) → (b ≡ true → take (length ms) slots ≡ ms)
      → cond b (Some (record { labels = length ms; size = a })) None ≡ Some p → ◌≡◌ {A = List Label × ℕ} (ms, a) (take p.labels slots, p.size)
  some_by true ms a p h e =
      let q : record { labels = length ms; size = a } ≡ p = cc in
      let F : Progress → List Label × ℕ = λ x. (take x.labels slots, x.size) in
      let G : List Label → List Label × ℕ = λ xs. (xs, a) in
      ap G (sym (h refl)) ∙ ap F q
  some_by false ms a p h e = absurd cc

  pub held_some : (x : Result (List Label × ℕ) Cause) (p : Progress) → held_line slots x ≡ Some p → x ≡ Ok (take p.labels slots, p.size)
  held_some (Ok y) p e = ap Ok (some_by (begins_with y.0 slots) y.0 y.1 p (λ h. (begins_holds y.0 slots h).0) e)
  held_some (Err c) p e = absurd cc

  -- a label that is not in its slot is missed at the end too
  missed : (b c : Bool) (p : Progress) → (c ≡ true → b ≡ true) → b ≡ false → cond c (Some p) None ≡ None
  missed b true p h e = absurd (both_ways b e (h refl))
  missed b false p h e = refl

  still_missed : (ms : List Label) (w : Result Gathering Refusal) → ((g : Gathering) → w ≡ Ok g → (more : List Label) × (g.labels ≡ ms ++ more)) → begins_with ms slots ≡ false → held slots w ≡ None
  still_missed ms (Ok g) f e =
      let m = f g refl in
      missed (begins_with ms slots) (begins_with g.labels slots) _ (λ h. begins_first ms m.0 slots (rw m.1 at h)) e
  still_missed ms (Err c) f e = refl

  not_begun : (b : Bool) (p : Progress) → cond b (Some p) None ≡ None → b ≡ false
  not_begun true p e = absurd cc
  not_begun false p e = refl

  module _ (n : ℕ) (rest : List Reading) (i : ℕ) where
    held_none : (x : Result (List Label × ℕ) Cause) → held_line slots x ≡ None → held slots (on_with n rest i x) ≡ None
    held_none (Ok y) e =
        still_missed y.0 (gathers n rest y.0 y.1 (i + 1))
        (λ g q. let t = grows n rest y.0 y.1 (i + 1) g q in (t.more, t.labels))
        (not_begun (begins_with y.0 slots) _ e)
    held_none (Err c) e = refl

-- a loop over lines, which has found k labels in their slots and come to the address a; rs are the lines that are left
module _ (slots : List Label) (n : ℕ) (rs : List Reading) (k a i : ℕ) (w : Result Gathering Refusal) (whole : gathers n rs (take k slots) a i ≡ w) where
  pub check_more : (r : Reading) (rest : List Reading) (p : Progress) → rs ≡ r ∷ rest → Some p ≡ held_line slots (shelved (take k slots) (gained n (take k slots) a r))
      → gathers n rest (take p.labels slots) p.size (i + 1) ≡ w
  check_more r rest p d e = sym (ap (on_with n rest i) (held_some slots _ p (sym e))) ∙ (rw d at whole)

  pub check_none : (r : Reading) (rest : List Reading) → rs ≡ r ∷ rest → None ≡ held_line slots (shelved (take k slots) (gained n (take k slots) a r)) → None ≡ held slots w
  check_none r rest d e = sym (held_none slots n rest i _ (sym e)) ∙ ap (held slots) (rw d at whole)

  pub check_all : rs ≡ [] → k ≤ length slots → Some (record { labels = k; size = a }) ≡ held slots w
  check_all d h =
      let long = length-take-le k slots h in
      let all : gathers n [] (take k slots) a i ≡ w = rw d at whole in
      let p : ℕ → Option Progress = λ m. Some (record { labels = m; size = a }) in
      ap p (sym long)
      ∙ (sym (cond-true (begins_with (take k slots) slots) (p (length (take k slots))) None (begins_itself k slots))
      ∙ ap (held slots) all)
