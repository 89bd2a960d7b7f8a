use Rattle.std.proofs.Common.{◌≡◌, ℕ, ◌+◌, ◌<◌, ◌≤◌, Bool, true, false, cond, ltb, ◌≢◌, ◌⊎◌, List, [], ◌∷◌, ◌++◌, length, get_or, take, set, replicate, Some, None, Ok, Err, Option, Result, refl, ◌∙◌, subst, inl, inr, arith}
use Rattle.std.specs.List.{AllByRecursion}
use Rattle.std.proofs.ByRecursion.{All-take}
use Rattle.std.proofs.lemmas.List.{get_or_append_left, get_or-set_other, length-append, length-set}
use Rattle.std.proofs.lemmas.Bool.{ltb-true}
use Rattle.refusal.specs.declared.Cause.{Cause}
use Rattle.refusal.specs.declared.Cause.TheVariants.{OutsideVariable}
use Rattle.refusal.specs.declared.Refusal.{Refusal}
use Rattle.refusal.specs.Numbers.{refused}
use Rattle.icmc_words.specs.declared.instruction.Instruction.{Instruction}
use Rattle.page_text.specs.Sayings.{Saying, nothing, one, two, room, text, fixed, Reading}
use Rattle.pages.specs.declared.label.Label.{Label}
use Rattle.pages.specs.Labels.{find_label}
use Rattle.pages.specs.Program.{first_word, with_fixed, with_second, second_word, with_saying, with_line, extended, names_with, places}
use Rattle.pages.proofs.FixLaws.{found}

-- how a placing that ends well goes on after a line
abbrev pub on_with : List Label → List Reading → ℕ → ℕ → Result (List ℕ) Cause → Result (List ℕ) Refusal
on_with ls rest k i x = elim x [ Ok us ↦ places ls rest k us (i + 1) | Err c ↦ Err (refused c i) ]

on_by : (ls : List Label) (rest : List Reading) (k i : ℕ) (x : Result (List ℕ) Cause) (us : List ℕ) → on_with ls rest k i x ≡ Ok us → (vs : List ℕ) × (x ≡ Ok vs) × (places ls rest k vs (i + 1) ≡ Ok us)
on_by ls rest k i (Ok vs) us e = (vs, refl, e)
on_by ls rest k i (Err c) us e = absurd cc

pub placed_on : (ls : List Label) (r : Reading) (rest : List Reading) (k : ℕ) (ws : List ℕ) (i : ℕ) (us : List ℕ) → places ls (r ∷ rest) k ws i ≡ Ok us
    → (vs : List ℕ) × (extended ls k ws r ≡ Ok vs) × (places ls rest (names_with k r.name) vs (i + 1) ≡ Ok us)
placed_on ls r rest k ws i us e = on_by ls rest (names_with k r.name) i (extended ls k ws r) us e

-- a variable that has no word from lo to below hi
abbrev pub Apart : ℕ → ℕ → Label → Type 0
Apart lo hi l = (l.address + l.room ≤ lo) ⊎ ((l.room ≡ 0) ⊎ (hi ≤ l.address))

-- so a word of it lies elsewhere
elsewhere : (lo hi p : ℕ) (l : Label) → p < l.room → Apart lo hi l → (k : ℕ) → lo ≤ k → k < hi → k ≢ l.address + p
elsewhere lo hi p l h (inl a) k f g e = omega arith
elsewhere lo hi p l h (inr (inl a)) k f g e = omega arith
elsewhere lo hi p l h (inr (inr a)) k f g e = omega arith

-- the words from lo to below hi stay as they are
abbrev pub Same : ℕ → ℕ → List ℕ → List ℕ → Type 0
Same lo hi ws us = (length ws ≤ length us) × ((k : ℕ) → lo ≤ k → k < hi → get_or us k 0 ≡ get_or ws k 0)

module _ (lo hi : ℕ) (ls : List Label) (apart : AllByRecursion (Apart lo hi) ls) where
  same_on : (ws us vs : List ℕ) → Same lo hi ws us → Same lo hi us vs → Same lo hi ws vs
  same_on ws us vs f g = let a = f.0 in let b = g.0 in (omega arith, λ k p q. g.1 k p q ∙ f.1 k p q)

  same_append : (ws vs : List ℕ) → hi ≤ length ws → Same lo hi ws (ws ++ vs)
  same_append ws vs h = (simp length-append (omega arith), λ k p q. get_or_append_left ws vs 0 k (omega arith))

  fixed_by : (b : Bool) (ws us : List ℕ) (l : Label) (p v : ℕ) → ltb p l.room ≡ b → Apart lo hi l → cond b (Ok (set ws (l.address + p) v)) (Err OutsideVariable) ≡ Ok us → Same lo hi ws us
  fixed_by true ws us l p v t a e =
      let d : set ws (l.address + p) v ≡ us = cc in
      let h = ltb-true p l.room t in
      subst (λ (xs : List ℕ). Same lo hi ws xs) d
      (simp length-set (omega arith), λ k f g. let ne : k ≢ l.address + p = elsewhere lo hi p l h a k f g in rw get_or-set_other)
  fixed_by false ws us l p v t a e = absurd cc

  fixed_same : (f o : Option Label) (p v : ℕ) (ws us : List ℕ) → ((l : Label) → f ≡ Some l → Apart lo hi l) → with_fixed f o p v ws ≡ Ok us → Same lo hi ws us
  fixed_same (Some l) o p v ws us h e = fixed_by (ltb p l.room) ws us l p v refl (h l refl) e
  fixed_same None (Some l) p v ws us h e = absurd cc
  fixed_same None None p v ws us h e = absurd cc

  second_same : (ws us : List ℕ) (x : Result ℕ Cause) (i : Instruction) → hi ≤ length ws → with_second i ws x ≡ Ok us → Same lo hi ws us
  second_same ws us (Ok v) i h e = let d : ws ++ first_word i ∷ v ∷ [] ≡ us = cc in subst (λ (xs : List ℕ). Same lo hi ws xs) d (same_append ws _ h)
  second_same ws us (Err c) i h e = absurd cc

  saying_same : (k : ℕ) (ws us : List ℕ) (s : Saying) → hi ≤ length ws → with_saying ls k ws s ≡ Ok us → Same lo hi ws us
  saying_same k ws us nothing h e = let d : ws ≡ us = cc in subst (λ (xs : List ℕ). Same lo hi ws xs) d (omega arith, λ k p q. refl)
  saying_same k ws us (one i) h e = let d : ws ++ first_word i ∷ [] ≡ us = cc in subst (λ (xs : List ℕ). Same lo hi ws xs) d (same_append ws _ h)
  saying_same k ws us (two i o) h e = second_same ws us (second_word ls o) i h e
  saying_same k ws us (room q) h e = let d : ws ++ replicate q 0 ≡ us = cc in subst (λ (xs : List ℕ). Same lo hi ws xs) d (same_append ws _ h)
  saying_same k ws us (text q) h e = let d : ws ++ (q ++ 0 ∷ []) ≡ us = cc in subst (λ (xs : List ℕ). Same lo hi ws xs) d (same_append ws _ h)
  saying_same k ws us (fixed n p v) h e =
      fixed_same (find_label (take k ls) n) (find_label ls n) p v ws us
      (λ l d. found (Apart lo hi) (take k ls) n l (All-take (Apart lo hi) k ls apart) d) e

  line_same : (k : ℕ) (ws us : List ℕ) (x : Result Saying Cause) → hi ≤ length ws → with_line ls k ws x ≡ Ok us → Same lo hi ws us
  line_same k ws us (Ok s) h e = saying_same k ws us s h e
  line_same k ws us (Err c) h e = absurd cc

  -- the lines that follow leave the words from lo to below hi as they are
  pub places_same : (rs : List Reading) (k : ℕ) (ws : List ℕ) (i : ℕ) (us : List ℕ) → hi ≤ length ws → places ls rs k ws i ≡ Ok us → Same lo hi ws us
  unfolding extended
  places_same [] k ws i us h e = let d : ws ≡ us = cc in subst (λ (xs : List ℕ). Same lo hi ws xs) d (omega arith, λ k p q. refl)
  places_same (r ∷ rest) k ws i us h e =
      let p = placed_on ls r rest k ws i us e in
      let f = line_same k ws p.0 r.saying h p.1 in
      let a = f.0 in
      same_on ws p.0 us f (places_same rest _ p.0 (i + 1) us (omega arith) p.2)
