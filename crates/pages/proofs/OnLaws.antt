use Rattle.std.proofs.Common.{◌≡◌, ℕ, ◌+◌, ◌≤◌, Bool, true, false, cond, leb, List, [], ◌∷◌, ◌++◌, length, take, Some, None, Ok, Err, Option, Result, sym, refl, ap, ◌∙◌, subst, arith}
use native.Mathlib.Nat.{mod-le}
use Rattle.std.specs.List.{AllByRecursion}
use Rattle.std.proofs.ByRecursion.{All-push, All-weaker}
use Rattle.std.proofs.lemmas.List.{append_assoc, append-nil, length-append, length_push, length-take-le, take_at}
use Rattle.std.proofs.lemmas.Bool.{leb-true}
use Rattle.refusal.specs.declared.Cause.{Cause}
use Rattle.refusal.specs.declared.Cause.TheVariants.{TooManyWords}
use Rattle.refusal.specs.declared.Refusal.{Refusal}
use Rattle.refusal.specs.Numbers.{refused}
use Rattle.page_tokens.specs.declared.name.Name.{Name}
use Rattle.page_text.specs.Sayings.{Saying, nothing, one, two, room, text, fixed, Reading}
use Rattle.pages.specs.declared.label.Label.{Label}
use Rattle.pages.specs.declared.line.Gain.{Gain}
use Rattle.pages.specs.Page.{size_of, room_of, label_for, labelled, name_fault, stated, unless, gained, with_label, shelved, Gathering, gathered, gathers}
use Rattle.pages.specs.Program.{Fits, Before, names_with, size_said, line_size, GatheredOn}

-- what a line that is accepted says, and what it adds
pub record Says (r : Reading) (a : ℕ) (g : Gain) : Type 0 where
  pub saying : Saying
  pub said : r.saying ≡ Ok saying
  pub label : g.label ≡ labelled saying a r.name
  pub next : g.next ≡ a + size_of saying
  pub few : a + size_of saying ≤ 65536

says_sized : (b : Bool) (n : Option Name) (a : ℕ) (s : Saying) (g : Gain) → leb (a + size_of s) 65536 ≡ b
    → cond b (Ok (record { label = labelled s a n; next = a + size_of s })) (Err TooManyWords) ≡ Ok g → Says (record { name = n; saying = Ok s }) a g
says_sized true n a s g t e =
    let h : record { label = labelled s a n; next = a + size_of s } ≡ g = cc in
    record {
      saying = s;
      said = refl;
      label = ap (λ (x : Gain). x.label) (sym h);
      next = ap (λ (x : Gain). x.next) (sym h);
      few = leb-true (a + size_of s) 65536 t;
    }
says_sized false n a s g t e = absurd cc

says_stated : (n : Option Name) (a : ℕ) (x : Result Saying Cause) (g : Gain) → stated n a x ≡ Ok g → Says (record { name = n; saying = x }) a g
says_stated n a (Ok s) g e = says_sized (leb (a + size_of s) 65536) n a s g refl e
says_stated n a (Err c) g e = absurd cc

faultless : (o : Option Cause) (x : Result Gain Cause) (g : Gain) → unless o x ≡ Ok g → x ≡ Ok g
faultless None x g e = e
faultless (Some c) x g e = absurd cc

pub gained_says : (n : ℕ) (ls : List Label) (a : ℕ) (r : Reading) (g : Gain) → gained n ls a r ≡ Ok g → Says r a g
unfolding gained
gained_says n ls a r g e = says_stated r.name a r.saying g (faultless (name_fault n ls r.name) _ g e)

-- how a gathering that ends well goes on after a line
pub record Goes (n : ℕ) (r : Reading) (rest : List Reading) (ls : List Label) (a i : ℕ) (w : Gathering) : Type 0 where
  pub gain : Gain
  pub took : gained n ls a r ≡ Ok gain
  pub says : Says r a gain
  pub on : gathers n rest (with_label ls gain.label) gain.next (i + 1) ≡ Ok w

-- the lines after one, by what the line comes to
abbrev pub on_with : ℕ → List Reading → ℕ → Result (List Label × ℕ) Cause → Result Gathering Refusal
on_with n rest i x = elim x [ Ok p ↦ gathers n rest p.0 p.1 (i + 1) | Err c ↦ Err (refused c i) ]

goes_by : (n : ℕ) (r : Reading) (rest : List Reading) (ls : List Label) (a i : ℕ) (w : Gathering) (x : Result Gain Cause) → gained n ls a r ≡ x → on_with n rest i (shelved ls x) ≡ Ok w → Goes n r rest ls a i w
goes_by n r rest ls a i w (Ok g) f e = record { gain = g; took = f; says = gained_says n ls a r g f; on = e }
goes_by n r rest ls a i w (Err c) f e = absurd cc

pub goes : (n : ℕ) (r : Reading) (rest : List Reading) (ls : List Label) (a i : ℕ) (w : Gathering) → gathers n (r ∷ rest) ls a i ≡ Ok w → Goes n r rest ls a i w
goes n r rest ls a i w e = goes_by n r rest ls a i w (gained n ls a r) refl e

-- labels are only added, and addresses only grow
with_label_more : (ls : List Label) (o : Option Label) → (more : List Label) × (with_label ls o ≡ ls ++ more)
with_label_more ls None = ([], sym (append-nil ls))
with_label_more ls (Some l) = (l ∷ [], refl)

pub record Grows (ls : List Label) (a : ℕ) (w : Gathering) : Type 0 where
  pub more : List Label
  pub labels : w.labels ≡ ls ++ more
  pub size : a ≤ w.size

pub grows : (n : ℕ) (rs : List Reading) (ls : List Label) (a i : ℕ) (w : Gathering) → gathers n rs ls a i ≡ Ok w → Grows ls a w
grows n [] ls a i w e =
    let h : gathered ls a ≡ w = cc in
    record { more = []; labels = ap (λ (x : Gathering). x.labels) (sym h) ∙ sym (append-nil ls); size = subst (λ (x : Gathering). a ≤ x.size) h (omega arith) }
grows n (r ∷ rest) ls a i w e =
    let g = goes n r rest ls a i w e in
    let k = g.says.next in
    let t = grows n rest _ _ (i + 1) w g.on in
    let m = with_label_more ls g.gain.label in
    let F : List Label → List Label = λ xs. xs ++ t.more in
    let s = t.size in
    record { more = m.0 ++ t.more; labels = t.labels ∙ (ap F m.1 ∙ append_assoc ls m.0 t.more); size = omega arith }

-- a line's own variable lies before the address after the line
room_fits : (s : Saying) → room_of s ≤ size_of s
room_fits nothing = omega arith
room_fits (one i) = omega arith
room_fits (two i o) = omega arith
room_fits (room q) = omega arith
room_fits (text q) = omega arith
room_fits (fixed n p v) = omega arith

own_before : (s : Saying) (a b : ℕ) (n : Name) → b ≡ a + size_of s → Before b (label_for s a n)
own_before s a b n e = let h = room_fits s in let m = mod-le a 65536 in omega arith

with_label_before : (s : Saying) (a b : ℕ) (n : Option Name) (ls : List Label) → b ≡ a + size_of s → AllByRecursion (Before b) ls → AllByRecursion (Before b) (with_label ls (labelled s a n))
with_label_before s a b None ls e h = h
with_label_before s a b (Some n) ls e h = All-push (Before b) ls (label_for s a n) h (own_before s a b n e)

with_label_length : (s : Saying) (a k : ℕ) (n : Option Name) (ls : List Label) → length ls ≡ k → length (with_label ls (labelled s a n)) ≡ names_with k n
with_label_length s a k None ls e = e
with_label_length s a k (Some n) ls e = length_push ls (label_for s a n) ∙ ap (λ (m : ℕ). m + 1) e

module _ (r : Reading) (rest : List Reading) (ls : List Label) (k at words i : ℕ) (g : GatheredOn (r ∷ rest) ls k at words i) where
  pub went : Goes g.slots r rest (take k ls) at i (gathered ls g.size)
  went = goes g.slots r rest (take k ls) at i (gathered ls g.size) g.on

  abbrev pub before_it : List Label
  before_it = with_label (take k ls) (labelled went.says.saying at r.name)

  pub on_again : gathers g.slots rest before_it (at + size_of went.says.saying) (i + 1) ≡ Ok (gathered ls g.size)
  on_again = rw (went.says.label, went.says.next) at went.on

  long : length before_it ≡ names_with k r.name
  long = with_label_length went.says.saying at k r.name (take k ls) (length-take-le k ls g.names)

  more : Grows before_it (at + size_of went.says.saying) (gathered ls g.size)
  more = grows g.slots rest before_it _ (i + 1) (gathered ls g.size) on_again

  -- a gathered line fits into the words lent
  pub line_fits : Fits at words r.saying
  line_fits = let s = more.size in let h = g.room in rw went.says.said (omega arith)

  pub sized_so : line_size r ≡ size_of went.says.saying
  sized_so = ap size_said went.says.said

  -- and the lines after it are gathered on
  pub gathered_on : GatheredOn rest ls (names_with k r.name) (at + line_size r) words (i + 1)
  gathered_on =
      let front : take (names_with k r.name) ls ≡ before_it =
      ap (λ (xs : List Label). take (names_with k r.name) xs) more.labels ∙ take_at before_it more.more (names_with k r.name) long in
      let wide : names_with k r.name ≤ length ls = omega (arith, long, simp length-append at (ap length more.labels)) in
      record {
        slots = g.slots;
        size = g.size;
        on = rw (front, sized_so) on_again;
        room = g.room;
        names = wide;
        before =
            rw (front, sized_so)
            (with_label_before went.says.saying at (at + size_of went.says.saying) r.name (take k ls) refl
            (All-weaker (Before at) (Before (at + size_of went.says.saying)) (λ l h. omega arith) (take k ls) g.before));
      }
