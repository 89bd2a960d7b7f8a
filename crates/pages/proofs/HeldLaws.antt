use Rattle.std.proofs.Common.{◌≡◌, ℕ, zero, suc, ◌<◌, ◌≤◌, Bool, true, false, ◌&&◌, eqb, List, [], ◌∷◌, ◌++◌, length, get_or, take, sym, refl, ap, ◌∙◌, arith, rules}
use Rattle.std.proofs.lemmas.Slice.Eq.{bytes_eq-Decides}
use Rattle.std.proofs.lemmas.Bool.{both_ways, and_parts, and_from, eq-eqb, eqb-true}
use Rattle.page_tokens.specs.Names.{same_name}
use Rattle.pages.specs.declared.label.Label.{Label}
use Rattle.pages.specs.Labels.{same_label, begins_with}
use Rattle.pages.specs.contracts.label.LabelPartialEq.TheImpl as TheImpl

-- what the checker reads past the end
abbrev none : Label
none = record { name = record { letters = [] }; address = 0; room = 0 }

-- `==` on labels compares their names' letters, their addresses and their rooms
pub eq_by_parts : (l m : Label) → TheImpl.eq-value.it l m ≡ same_label l m
eq_by_parts l m = search rules

same_itself : (l : Label) → same_label l l ≡ true
same_itself l =
    and_from _ _
    (and_from _ _ ((bytes_eq-Decides l.name.letters l.name.letters).1 refl) (eq-eqb l.address l.address refl))
    (eq-eqb l.room l.room refl)

label_is : (x y : List ℕ) (a b r q : ℕ) → x ≡ y → a ≡ b → r ≡ q → ◌≡◌ {A = Label} (record { name = record { letters = x }; address = a; room = r }) (record { name = record { letters = y }; address = b; room = q })
label_is x y a b r q d e f = cc

same_true : (l m : Label) → same_label l m ≡ true → l ≡ m
same_true l m h =
    let p = and_parts (same_name l.name m.name && eqb l.address m.address) (eqb l.room m.room) h in
    let q = and_parts (same_name l.name m.name) (eqb l.address m.address) p.0 in
    label_is l.name.letters m.name.letters l.address m.address l.room m.room
    ((bytes_eq-Decides l.name.letters m.name.letters).0 q.0) (eqb-true _ _ q.1) (eqb-true _ _ p.1)

-- slots begin with their own front
pub begins_itself : (k : ℕ) (slots : List Label) → begins_with (take k slots) slots ≡ true
begins_itself zero slots = refl
begins_itself (suc k) [] = refl
begins_itself (suc k) (s ∷ slots) = and_from _ _ (same_itself s) (begins_itself k slots)

-- and with one label more, if that is the next one
and_true : (x y : Bool) → x ≡ true → (x && y) ≡ y
and_true x y h = rw h

pub begins_more : (k : ℕ) (slots : List Label) (l : Label) → k < length slots → begins_with (take k slots ++ l ∷ []) slots ≡ same_label l (get_or slots k none)
begins_more k [] l h = absurd (omega arith)
begins_more zero (s ∷ slots) l h = last (same_label l s)
  where
    last : (b : Bool) → (b && true) ≡ b
    last true = refl
    last false = refl
begins_more (suc k) (s ∷ slots) l h = and_true (same_label s s) _ (same_itself s) ∙ begins_more k slots l (omega arith)

-- no slot is left for one more behind all
pub begins_past : (k : ℕ) (slots : List Label) (l : Label) → length slots ≤ k → begins_with (take k slots ++ l ∷ []) slots ≡ false
begins_past zero [] l h = refl
begins_past (suc k) [] l h = refl
begins_past zero (s ∷ slots) l h = absurd (omega arith)
begins_past (suc k) (s ∷ slots) l h = and_true (same_label s s) _ (same_itself s) ∙ begins_past k slots l (omega arith)

-- slots that begin with labels hold them
pub begins_holds : (ls slots : List Label) → begins_with ls slots ≡ true → (take (length ls) slots ≡ ls) × (length ls ≤ length slots)
begins_holds [] slots h = (refl, omega arith)
begins_holds (l ∷ ls) [] h = absurd (both_ways false refl h)
begins_holds (l ∷ ls) (s ∷ slots) h =
    let p = and_parts (same_label l s) (begins_with ls slots) h in
    let q = begins_holds ls slots p.1 in
    let e = same_true l s p.0 in
    let n = q.1 in
    (ap (λ (xs : List Label). s ∷ xs) q.0 ∙ ap (λ (x : Label). x ∷ ls) (sym e), omega arith)

-- and with the first of them
pub begins_first : (xs ys slots : List Label) → begins_with (xs ++ ys) slots ≡ true → begins_with xs slots ≡ true
begins_first [] ys slots h = refl
begins_first (x ∷ xs) ys [] h = h
begins_first (x ∷ xs) ys (s ∷ slots) h =
    let p = and_parts (same_label x s) (begins_with (xs ++ ys) slots) h in
    and_from _ _ p.0 (begins_first xs ys slots p.1)
