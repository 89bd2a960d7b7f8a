use Rattle.std.proofs.Common.{◌≡◌, ℕ, ◌+◌, List, [], ◌∷◌, Ok, Err, Result, sym, ap, ◌∙◌}
use Rattle.refusal.specs.declared.Cause.{Cause}
use Rattle.refusal.specs.declared.Refusal.{Refusal}
use Rattle.refusal.specs.Numbers.{refused}
use Rattle.page_text.specs.Sayings.{Reading}
use Rattle.pages.specs.declared.label.Label.{Label}
use Rattle.pages.proofs.StandLaws.{on_with}
use Rattle.pages.specs.Page.{on_line}
use Rattle.pages.specs.Program.{extended, names_with, places}

-- a line that is not refused
pub line_done : {A : Type 0} (i : ℕ) (x : Result A Cause) (y : A) → on_line i x ≡ Ok y → x ≡ Ok y
line_done i (Ok z) y e = let d : z ≡ y = cc in ap Ok d
line_done i (Err c) y e = absurd cc

-- a loop over lines, which has placed the words ws and come to the line i, with k labels above; rs are the lines that are left
module _ (ls : List Label) (rs : List Reading) (k : ℕ) (ws : List ℕ) (i : ℕ) (w : Result (List ℕ) Refusal) (whole : places ls rs k ws i ≡ w) where
  pub places_more : (r : Reading) (rest : List Reading) (us : List ℕ) (j : ℕ) → rs ≡ r ∷ rest → extended ls k ws r ≡ Ok us → j ≡ names_with k r.name → places ls rest j us (i + 1) ≡ w
  places_more r rest us j p q n = rw n (sym (ap (on_with ls rest (names_with k r.name) i) q) ∙ (rw p at whole))

  pub places_refused : (r : Reading) (rest : List Reading) (e : Refusal) → rs ≡ r ∷ rest → on_line i (extended ls k ws r) ≡ Err e → Err e ≡ w
  places_refused r rest e p q = refused_by (extended ls k ws r) e q ∙ (rw p at whole)
    where
      refused_by : (x : Result (List ℕ) Cause) (e : Refusal) → on_line i x ≡ Err e → Err e ≡ on_with ls rest (names_with k r.name) i x
      refused_by (Ok us) e q = absurd cc
      refused_by (Err c) e q = let d : refused c i ≡ e = cc in ap Err (sym d)

  pub places_all : rs ≡ [] → w ≡ Ok ws
  places_all p = sym (rw p at whole)
