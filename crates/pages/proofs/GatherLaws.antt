use Rattle.std.proofs.Common.{◌≡◌, ℕ, ◌+◌, ◌≤◌, List, [], ◌∷◌, ◌++◌, length, take, drop, Ok, Err, Result, sym, ap, ◌∙◌}
use Rattle.std.proofs.lemmas.List.{length-take-le, take-append-drop}
use Rattle.refusal.specs.declared.Cause.{Cause}
use Rattle.refusal.specs.declared.Refusal.{Refusal}
use Rattle.refusal.specs.Numbers.{refused}
use Rattle.page_text.specs.Sayings.{Reading}
use Rattle.pages.specs.declared.label.Label.{Label}
use Rattle.pages.specs.declared.line.Gain.{Gain}
use Rattle.pages.proofs.OnLaws.{on_with}
use Rattle.pages.specs.Page.{on_line, gained, shelved, Gathering, gathered, gathers, gather_answer, slots_after}

-- a loop over lines, which has gathered the labels ls and come to the address a and the line i; rs are the lines that are left
module _ (n : ℕ) (rs : List Reading) (ls : List Label) (a i : ℕ) (w : Result Gathering Refusal) (whole : gathers n rs ls a i ≡ w) where
  pub gathers_more : (m : ℕ) (r : Reading) (rest : List Reading) (ms : List Label) (b : ℕ) → m ≡ n → rs ≡ r ∷ rest → shelved ls (gained m ls a r) ≡ Ok (ms, b) → gathers n rest ms b (i + 1) ≡ w
  gathers_more m r rest ms b k p q = sym (ap (on_with n rest i) (rw k at q)) ∙ (rw p at whole)

  pub gathers_refused : (m : ℕ) (r : Reading) (rest : List Reading) (e : Refusal) → m ≡ n → rs ≡ r ∷ rest → on_line i (gained m ls a r) ≡ Err e → Err e ≡ w
  gathers_refused m r rest e k p q = refused_by rest (gained n ls a r) e (rw k at q) ∙ (rw p at whole)
    where
      refused_by : (rest : List Reading) (x : Result Gain Cause) (e : Refusal) → on_line i x ≡ Err e → Err e ≡ on_with n rest i (shelved ls x)
      refused_by rest (Ok g) e q = absurd cc
      refused_by rest (Err c) e q = let d : refused c i ≡ e = cc in ap Err (sym d)

  pub gathers_all : rs ≡ [] → w ≡ Ok (gathered ls a)
  gathers_all p = sym (rw p at whole)

-- the labels in slots, of which the rest was left alone
module _ (slots before : List Label) (used a : ℕ) (w : Result Gathering Refusal) (within : used ≤ length slots) (alone : drop used slots ≡ drop used before) (all : w ≡ Ok (gathered (take used slots) a)) where
  pub all_answered : Ok (record { labels = used; size = a }) ≡ gather_answer w
  all_answered = let k = length-take-le used slots within in rw (all, k)

  pub all_kept : slots ≡ slots_after w before
  all_kept =
      let k = length-take-le used slots within in
      let F : List Label → List Label = λ xs. take used slots ++ xs in
      rw (all, k) (sym (take-append-drop used slots) ∙ ap F alone)
