use Rattle.std.proofs.Common.{◌≡◌, Bool, true, false, cond, List, [], ◌∷◌, Some, Option}
use Rattle.std.specs.List.{AllByRecursion}
use Rattle.page_tokens.specs.declared.name.Name.{Name}
use Rattle.page_tokens.specs.Names.{same_name}
use Rattle.pages.specs.declared.label.Label.{Label}
use Rattle.pages.specs.Labels.{find_label}

-- what holds of all labels holds of one that is found
found_by : (P : Label → Type 0) (b : Bool) (l m : Label) (o : Option Label) → P l → (o ≡ Some m → P m) → cond b (Some l) o ≡ Some m → P m
found_by P true l m o h k e = let s : l ≡ m = cc in rw s at h
found_by P false l m o h k e = k e

pub found : (P : Label → Type 0) (ls : List Label) (n : Name) (l : Label) → AllByRecursion P ls → find_label ls n ≡ Some l → P l
found P [] n l h e = absurd cc
found P (m ∷ ls) n l h e = found_by P (same_name m.name n) m l (find_label ls n) h.0 (λ d. found P ls n l h.1 d) e
