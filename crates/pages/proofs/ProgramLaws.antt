use Rattle.std.proofs.Common.{◌≡◌, ℕ, zero, suc, ◌+◌, ◌<◌, ◌≤◌, Bool, true, false, cond, ltb, ◌⊎◌, List, [], ◌∷◌, ◌++◌, length, get_or, take, set, replicate, Some, None, Ok, Err, sum_by, Option, Result, sym, refl, ap, ◌∙◌, subst, inl, inr, add-zero, mod-eq_of_lt, arith}
use Rattle.std.specs.List.{AllByRecursion}
use Rattle.std.proofs.ByRecursion.{All-push, All-append, All-weaker}
use Rattle.std.proofs.lemmas.List.{append-nil, append_assoc, get_or-append-add, length-append, length_push, length-set, length-replicate}
use Rattle.std.proofs.lemmas.List.Sums.{sum_by-cons}
use Rattle.std.proofs.lemmas.Bool.{cases_lt, cond-true}
use Rattle.refusal.specs.declared.Cause.{Cause}
use Rattle.refusal.specs.declared.Cause.TheVariants.{OutOfRange, OutsideVariable}
use Rattle.refusal.specs.declared.Refusal.{Refusal}
use Rattle.refusal.specs.Numbers.{refused}
use Rattle.icmc_words.specs.declared.instruction.Instruction.{Instruction}
use Rattle.icmc_words.specs.Decoded.{decoded}
use Rattle.icmc_words.specs.Encoded.{encodable, encoded}
use Rattle.icmc_word_laws.proofs.Back.{encoded_comes_back}
use Rattle.page_tokens.specs.declared.name.Name.{Name}
use Rattle.page_text.specs.Sayings.{Saying, nothing, one, two, room, text, fixed, Reading}
use Rattle.page_text.specs.Sound.{Sound}
use Rattle.pages.specs.declared.label.Label.{Label}
use Rattle.pages.specs.Labels.{find_label}
use Rattle.pages.specs.Page.{size_of, room_of, label_for, labelled, with_label, gathers, Gathering, gathered}
use Rattle.pages.specs.Program.{word_or_0, first_word, second_word, with_second, with_fixed, with_saying, with_line, extended, Before, names_with, size_said, line_size, GatheredOn, places}
use Rattle.pages.specs.Laws.{address, line, Stands}
use Rattle.pages.proofs.OnLaws.{Says, goes, went, before_it, on_again, sized_so, gathered_on}
use Rattle.pages.proofs.StandLaws.{placed_on, Apart, Same, places_same}

-- a variable that begins at an address or behind it
abbrev After : ℕ → Label → Type 0
After a l = (l.room ≡ 0) ⊎ (a ≤ l.address)

-- where a line has a variable, its address is below 65,536
room_after : (q a : ℕ) (n : Name) → a + q ≤ 65536 → (0 < q) ⊎ (q ≤ 0) → After a (label_for (room q) a n)
room_after q a n h (inl some) = let small : a < 65536 = omega arith in let e = mod-eq_of_lt small in inr (omega arith)
room_after q a n h (inr none) = inl (omega arith)

own_after : (s : Saying) (a : ℕ) (n : Name) → a + size_of s ≤ 65536 → After a (label_for s a n)
own_after nothing a n h = inl refl
own_after (one i) a n h = inl refl
own_after (two i o) a n h = inl refl
own_after (room q) a n h = room_after q a n h (cases_lt 0 q)
own_after (text q) a n h = inl refl
own_after (fixed m p v) a n h = inl refl

after_further : (a b : ℕ) → a ≤ b → (l : Label) → After b l → After a l
after_further a b h l (inl e) = inl e
after_further a b h l (inr e) = inr (omega arith)

-- the labels of later lines
pub record Later (ls : List Label) (a : ℕ) (w : Gathering) : Type 0 where
  pub more : List Label
  pub labels : w.labels ≡ ls ++ more
  pub after : AllByRecursion (After a) more

later_with : (s : Saying) (a b : ℕ) (n : Option Name) (ls : List Label) (w : Gathering) → b ≡ a + size_of s → b ≤ 65536 → Later (with_label ls (labelled s a n)) b w → Later ls a w
later_with s a b None ls w e h t =
    record { more = t.more; labels = t.labels; after = All-weaker (After b) (After a) (after_further a b (omega arith)) t.more t.after }
later_with s a b (Some n) ls w e h t =
    record {
      more = label_for s a n ∷ t.more;
      labels = t.labels ∙ append_assoc ls (label_for s a n ∷ []) t.more;
      after = (own_after s a n (omega arith), All-weaker (After b) (After a) (after_further a b (omega arith)) t.more t.after);
    }

pub later : (n : ℕ) (rs : List Reading) (ls : List Label) (a i : ℕ) (w : Gathering) → gathers n rs ls a i ≡ Ok w → Later ls a w
later n [] ls a i w e =
    let h : gathered ls a ≡ w = cc in
    record { more = []; labels = ap (λ (x : Gathering). x.labels) (sym h) ∙ sym (append-nil ls); after = tt }
later n (r ∷ rest) ls a i w e =
    let g = goes n r rest ls a i w e in
    let s = g.says in
    let F : Option Label → Type 0 = λ o. Later (with_label ls o) g.gain.next w in
    let t = later n rest (with_label ls g.gain.label) g.gain.next (i + 1) w g.on in
    later_with s.saying a g.gain.next r.name ls w s.next (omega (arith, s.next, s.few)) (subst F s.label t)

-- no variable has a word among those of a line that is none
abbrev pub Bare : Saying → Type 0
Bare s = room_of s ≡ 0

before_apart : (lo hi : ℕ) (l : Label) → Before lo l → Apart lo hi l
before_apart lo hi l h = inl h

after_apart : (lo hi : ℕ) (l : Label) → After hi l → Apart lo hi l
after_apart lo hi l (inl e) = inr (inl e)
after_apart lo hi l (inr e) = inr (inr e)

own_apart : (s : Saying) (a hi : ℕ) (n : Option Name) (ls : List Label) → Bare s → AllByRecursion (Apart a hi) ls → AllByRecursion (Apart a hi) (with_label ls (labelled s a n))
own_apart s a hi None ls b h = h
own_apart s a hi (Some n) ls b h = All-push (Apart a hi) ls (label_for s a n) h (inr (inl b))

module _ (r : Reading) (rest : List Reading) (ls : List Label) (k at words i : ℕ) (g : GatheredOn (r ∷ rest) ls k at words i) where
  abbrev said : Saying
  said = (went r rest ls k at words i g).says.saying

  pub bare_apart : Bare said → AllByRecursion (Apart at (at + size_of said)) ls
  bare_apart b =
      let hi : ℕ = at + size_of said in
      let own = before_it r rest ls k at words i g in
      let t = later g.slots rest own hi (i + 1) (gathered ls g.size) (on_again r rest ls k at words i g) in
      let front = own_apart said at hi r.name (take k ls) b (All-weaker (Before at) (Apart at hi) (before_apart at hi) (take k ls) g.before) in
      subst (λ (xs : List Label). AllByRecursion (Apart at hi) xs) (sym t.labels)
      (All-append (Apart at hi) own t.more front (All-weaker (After hi) (Apart at hi) (after_apart at hi) t.more t.after))

-- a program after a line is longer by the line's size
module _ (ls : List Label) (k : ℕ) (us vs : List ℕ) where
  by_append : (xs : List ℕ) → us ++ xs ≡ vs → length vs ≡ length us + length xs
  by_append xs d = ap length (sym d) ∙ length-append us xs

  fixed_length : (b : Bool) (n v : ℕ) → cond b (Ok (set us n v)) (Err OutsideVariable) ≡ Ok vs → length vs ≡ length us + 0
  fixed_length true n v e = let d : set us n v ≡ vs = cc in ap length (sym d) ∙ (length-set us n v ∙ sym (add-zero (length us)))
  fixed_length false n v e = absurd cc

  with_fixed_length : (f o : Option Label) (p v : ℕ) → with_fixed f o p v us ≡ Ok vs → length vs ≡ length us + 0
  with_fixed_length (Some l) o p v e = fixed_length (ltb p l.room) (l.address + p) v e
  with_fixed_length None (Some l) p v e = absurd cc
  with_fixed_length None None p v e = absurd cc

  second_length : (i : Instruction) (x : Result ℕ Cause) → with_second i us x ≡ Ok vs → length vs ≡ length us + 2
  second_length i (Ok v) e = let d : us ++ first_word i ∷ v ∷ [] ≡ vs = cc in by_append (first_word i ∷ v ∷ []) d
  second_length i (Err c) e = absurd cc

  saying_length : (s : Saying) → with_saying ls k us s ≡ Ok vs → length vs ≡ length us + size_of s
  saying_length nothing e = let d : us ≡ vs = cc in ap length (sym d) ∙ sym (add-zero (length us))
  saying_length (one i) e = let d : us ++ first_word i ∷ [] ≡ vs = cc in by_append (first_word i ∷ []) d
  saying_length (two i o) e = second_length i (second_word ls o) e
  saying_length (room q) e =
      let d : us ++ replicate q 0 ≡ vs = cc in
      by_append (replicate q 0) d ∙ ap (λ (n : ℕ). length us + n) (length-replicate q 0)
  saying_length (text q) e =
      let d : us ++ (q ++ 0 ∷ []) ≡ vs = cc in
      by_append (q ++ 0 ∷ []) d ∙ ap (λ (n : ℕ). length us + n) (length_push q 0)
  saying_length (fixed n p v) e = with_fixed_length (find_label (take k ls) n) (find_label ls n) p v e

  line_length : (x : Result Saying Cause) → with_line ls k us x ≡ Ok vs → length vs ≡ length us + size_said x
  line_length (Ok s) e = saying_length s e
  line_length (Err c) e = absurd cc

-- what a line puts stands at its address
ok_word : (x : Result ℕ Refusal) (w : ℕ) → x ≡ Ok w → x ≡ Ok (word_or_0 x)
ok_word (Ok v) w e = refl
ok_word (Err c) w e = absurd cc

decodes : (i : Instruction) → encodable i ≡ true → decoded (first_word i) ≡ Ok i
decodes i e = encoded_comes_back i (first_word i) (ok_word (encoded i) _ (cond-true (encodable i) (Ok _) (Err (refused OutOfRange 0)) e))

module _ (ls : List Label) (k at : ℕ) (us vs ws : List ℕ) (long : length us ≡ at) where
  word_at : (ys : List ℕ) (n q : ℕ) → us ++ ys ≡ vs → q < n → Same at (at + n) vs ws → get_or ws (at + q) 0 ≡ get_or ys q 0
  word_at ys n q d h same =
      same.1 (at + q) (omega arith) (omega arith)
      ∙ (ap (λ (xs : List ℕ). get_or xs (at + q) 0) (sym d)
      ∙ (ap (λ (m : ℕ). get_or (us ++ ys) (m + q) 0) (sym long) ∙ get_or-append-add us ys q 0))

  first_at : (ys : List ℕ) (n : ℕ) → us ++ ys ≡ vs → 0 < n → Same at (at + n) vs ws → get_or ws at 0 ≡ get_or ys 0 0
  first_at ys n d h same = ap (λ (m : ℕ). get_or ws m 0) (sym (add-zero at)) ∙ word_at ys n 0 d h same

  second_stands : (i : Instruction) (x : Result ℕ Cause) → encodable i ≡ true → with_second i us x ≡ Ok vs → Same at (at + 2) vs ws → (decoded (get_or ws at 0) ≡ Ok i) × (x ≡ Ok (get_or ws (at + 1) 0))
  second_stands i (Ok v) e f same =
      let d : us ++ first_word i ∷ v ∷ [] ≡ vs = cc in
      let ys = first_word i ∷ v ∷ [] in
      (ap decoded (first_at ys 2 d (omega arith) same) ∙ decodes i e, ap Ok (sym (word_at ys 2 1 d (omega arith) same)))
  second_stands i (Err c) e f same = absurd cc

  saying_stands : (s : Saying) → Sound (Ok s) → with_saying ls k us s ≡ Ok vs → (Bare s → Same at (at + size_of s) vs ws) → Stands ls ws at (Ok s)
  saying_stands nothing h e same = tt
  saying_stands (one i) h e same =
      let d : us ++ first_word i ∷ [] ≡ vs = cc in
      (ap decoded (first_at (first_word i ∷ []) 1 d (omega arith) (same refl)) ∙ decodes i h.0, h.1)
  saying_stands (two i o) h e same = let p = second_stands i (second_word ls o) h.0 e (same refl) in (p.0, h.1, p.1)
  saying_stands (room q) h e same = tt
  saying_stands (text q) h e same = λ j l. let d : us ++ (q ++ 0 ∷ []) ≡ vs = cc in word_at (q ++ 0 ∷ []) (length q + 1) j d l (same refl)
  saying_stands (fixed n p v) h e same = tt

  line_stands : (x : Result Saying Cause) → Sound x → with_line ls k us x ≡ Ok vs → ((s : Saying) → x ≡ Ok s → Bare s → Same at (at + size_of s) vs ws) → Stands ls ws at x
  line_stands (Ok s) h e same = saying_stands s h e (same s refl)
  line_stands (Err c) h e same = tt

-- a placed program: its length, and what stands at the address of each line
pub record PlacedOn (rs : List Reading) (ls : List Label) (at : ℕ) (ws : List ℕ) : Type 0 where
  pub size : length ws ≡ at + sum_by line_size rs
  pub few : at ≤ 65536 → length ws ≤ 65536
  pub stands : (j : ℕ) → j < length rs → Stands ls ws (at + address rs j) (line rs j).saying

unfold_extended : (ls : List Label) (k : ℕ) (us vs : List ℕ) (r : Reading) → extended ls k us r ≡ Ok vs → with_line ls k us r.saying ≡ Ok vs
unfolding extended
unfold_extended ls k us vs r e = e

module _ (r : Reading) (rest : List Reading) (ls : List Label) (k at words i : ℕ) (g : GatheredOn (r ∷ rest) ls k at words i) (us vs ws : List ℕ) (long : length us ≡ at) (sound : Sound r.saying) (put : extended ls k us r ≡ Ok vs) (on : places ls rest (names_with k r.name) vs (i + 1) ≡ Ok ws) where
  abbrev says : Says r at (went r rest ls k at words i g).gain
  says = (went r rest ls k at words i g).says

  longer : length vs ≡ at + line_size r
  longer = line_length ls k us vs r.saying (unfold_extended ls k us vs r put) ∙ ap (λ (n : ℕ). n + line_size r) long

  kept : (s : Saying) → r.saying ≡ Ok s → Bare s → Same at (at + size_of s) vs ws
  kept s e b =
      let same : says.saying ≡ s = let a = says.said in cc in
      let b' : Bare says.saying = subst Bare (sym same) b in
      let apart = bare_apart r rest ls k at words i g b' in
      let n : size_of s ≡ line_size r = sym (ap size_said e) in
      let F : Saying → Type 0 = λ x. AllByRecursion (Apart at (at + size_of x)) ls in
      places_same at (at + size_of s) ls (subst F same apart) rest _ vs (i + 1) ws (omega (arith, longer, n)) on

  here_stands : Stands ls ws at r.saying
  here_stands = line_stands ls k at us vs ws long r.saying sound (unfold_extended ls k us vs r put) kept

  small : at + line_size r ≤ 65536
  small = let f = says.few in omega (arith, sized_so r rest ls k at words i g)

  pub placed_more : PlacedOn rest ls (at + line_size r) ws → PlacedOn (r ∷ rest) ls at ws
  placed_more p =
      record {
        size = omega (arith, p.size, sum_by-cons line_size r rest);
        few = λ h. p.few small;
        stands = each;
      }
    where
      each : (j : ℕ) → j < length (r ∷ rest) → Stands ls ws (at + address (r ∷ rest) j) (line (r ∷ rest) j).saying
      each zero h = subst (λ (a : ℕ). Stands ls ws a r.saying) (sym (add-zero at)) here_stands
      each (suc j) h =
          let e : at + line_size r + address rest j ≡ at + address (r ∷ rest) (suc j) = omega (arith, sum_by-cons line_size r (take j rest)) in
          subst (λ (a : ℕ). Stands ls ws a (line rest j).saying) e (p.stands j (omega arith))

pub placed_all : (rs : List Reading) (ls : List Label) (k at words i : ℕ) → GatheredOn rs ls k at words i → (us ws : List ℕ) → length us ≡ at → AllByRecursion (λ r. Sound r.saying) rs → places ls rs k us i ≡ Ok ws → PlacedOn rs ls at ws
placed_all [] ls k at words i g us ws long sound e =
    let d : us ≡ ws = cc in
    let n : length ws ≡ at = ap length (sym d) ∙ long in
    record { size = omega (arith, n); few = λ h. omega (arith, n); stands = λ j h. absurd (omega arith) }
placed_all (r ∷ rest) ls k at words i g us ws long sound e =
    let p = placed_on ls r rest k us i ws e in
    let n = line_length ls k us p.0 r.saying (unfold_extended ls k us p.0 r p.1) in
    placed_more r rest ls k at words i g us p.0 ws long sound.0 p.1 p.2
    (placed_all rest ls (names_with k r.name) (at + line_size r) words (i + 1) (gathered_on r rest ls k at words i g) p.0 ws (omega (arith, n)) sound.1 p.2)
