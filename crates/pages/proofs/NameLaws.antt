use Rattle.std.proofs.Common.{◌≡◌, ℕ, zero, suc, ◌+◌, ◌%◌, ◌<◌, Bool, true, false, cond, ltb, List, [], ◌∷◌, ◌++◌, length, take, is_some, Some, None, Ok, Option, Result, sym, refl, ap, ◌∙◌, add-zero, arith}
use Rattle.std.proofs.lemmas.Slice.Eq.{bytes_eq-Decides}
use Rattle.std.proofs.lemmas.List.{append_assoc}
use Rattle.std.proofs.lemmas.List.Sums.{sum_by-cons}
use Rattle.std.proofs.lemmas.Bool.{cond-true}
use Rattle.refusal.specs.declared.Cause.{Cause}
use Rattle.refusal.specs.declared.Cause.TheVariants.{DuplicateName, LabelSlotsFull}
use Rattle.page_tokens.specs.declared.name.Name.{Name}
use Rattle.page_tokens.specs.Names.{same_name}
use Rattle.page_text.specs.Sayings.{Reading}
use Rattle.pages.specs.declared.label.Label.{Label}
use Rattle.pages.specs.declared.line.Gain.{Gain}
use Rattle.pages.specs.Labels.{find_label}
use Rattle.pages.specs.Page.{size_of, label_for, labelled, name_fault, unless, stated, gained, with_label, Gathering, gathers}
use Rattle.pages.specs.Program.{size_said, line_size}
use Rattle.pages.specs.Laws.{address, line}
use Rattle.pages.proofs.OnLaws.{goes, grows}

-- a name that was accepted is new
no_fault : (o : Option Cause) (x : Result Gain Cause) (g : Gain) → unless o x ≡ Ok g → o ≡ None
no_fault None x g e = refl
no_fault (Some c) x g e = absurd cc

not_known : (f : Option Label) (b : Bool) → cond (is_some f) (Some DuplicateName) (cond b None (Some LabelSlotsFull)) ≡ None → f ≡ None
not_known None b e = refl
not_known (Some l) b e = absurd cc

new : (n : ℕ) (ls : List Label) (a : ℕ) (r : Reading) (g : Gain) (m : Name) → gained n ls a r ≡ Ok g → r.name ≡ Some m → find_label ls m ≡ None
unfolding gained
new n ls a r g m e d =
    let f : name_fault n ls r.name ≡ None = no_fault (name_fault n ls r.name) (stated r.name a r.saying) g e in
    not_known (find_label ls m) (ltb (length ls) n) (ap (name_fault n ls) (sym d) ∙ f)

-- a label behind others that have another name
same_self : (n : Name) → same_name n n ≡ true
same_self n = (bytes_eq-Decides n.letters n.letters).1 refl

behind_by : (b : Bool) (m l : Label) (o p : Option Label) → (o ≡ None → p ≡ Some l) → cond b (Some m) o ≡ None → cond b (Some m) p ≡ Some l
behind_by true m l o p f e = absurd cc
behind_by false m l o p f e = f e

find_behind : (ls ys : List Label) (l : Label) → find_label ls l.name ≡ None → find_label (ls ++ l ∷ ys) l.name ≡ Some l
find_behind [] ys l e = cond-true (same_name l.name l.name) (Some l) _ (same_self l.name)
find_behind (m ∷ ls) ys l e = behind_by (same_name m.name l.name) m l _ _ (λ d. find_behind ls ys l d) e

-- each name stands for its line
pub names_stand : (n : ℕ) (rs : List Reading) (ls : List Label) (a i : ℕ) (w : Gathering) → gathers n rs ls a i ≡ Ok w
    → (j : ℕ) (m : Name) → j < length rs → (line rs j).name ≡ Some m → (l : Label) × (find_label w.labels m ≡ Some l) × (l.address ≡ (a + address rs j) % 65536)
names_stand n [] ls a i w e j m h d = absurd (omega arith)
names_stand n (r ∷ rest) ls a i w e zero m h d =
    let g = goes n r rest ls a i w e in
    let s = g.says.saying in
    let l = label_for s a m in
    let t = grows n rest _ _ (i + 1) w g.on in
    let own : with_label ls g.gain.label ≡ ls ++ l ∷ [] = ap (with_label ls) (g.says.label ∙ ap (labelled s a) d) in
    let all : w.labels ≡ ls ++ l ∷ t.more = t.labels ∙ (ap (λ (xs : List Label). xs ++ t.more) own ∙ append_assoc ls (l ∷ []) t.more) in
    let free = new n ls a r g.gain m g.took d in
    (l, ap (λ (xs : List Label). find_label xs m) all ∙ find_behind ls t.more l free, ap (λ (k : ℕ). k % 65536) (sym (add-zero a)))
names_stand n (r ∷ rest) ls a i w e (suc j) m h d =
    let g = goes n r rest ls a i w e in
    let z = names_stand n rest _ g.gain.next (i + 1) w g.on j m (omega arith) d in
    let size : line_size r ≡ size_of g.says.saying = ap size_said g.says.said in
    let k : g.gain.next + address rest j ≡ a + address (r ∷ rest) (suc j) = omega (arith, g.says.next, size, sum_by-cons line_size r (take j rest)) in
    (z.0, z.1, z.2 ∙ ap (λ (k : ℕ). k % 65536) k)
