use Rattle.std.proofs.Common.{◌≡◌, Result, slice_index, ℕ, zero, suc, ◌+◌, ◌<◌, ◌≤◌, List, [], ◌∷◌, ◌++◌, map, length, get_or, take, set, Ok, Err, sym, refl, ap, ◌∙◌, add-one, arith}
use Rattle.std.proofs.lemmas.List.{append_assoc, get_or-map, map-append, take_more_set}
use Rattle.refusal.specs.declared.Cause.{Cause}
use Rattle.page_tokens.specs.Symbols.{Symbol}
use Rattle.page_text.specs.declared.register.Register.{Register}
use Rattle.page_text.specs.Grammar.{Part, then, comma, register, with_register, more_registers, registers}

-- n registers that are left, after i that are read
abbrev pub left_registers : ℕ → ℕ → List Symbol → Part (List ℕ)
left_registers zero n ss = registers n ss
left_registers (suc i) n ss = more_registers n ss

abbrev pub after : List ℕ → Part (List ℕ) → Part (List ℕ)
after xs p = then p (λ ys ss. Ok (xs ++ ys, ss))

abbrev pub numbers : ℕ → List Register → List ℕ
numbers i rs = map (λ r. r.number) (take i rs)

pub after_none : (p : Part (List ℕ)) → p ≡ after [] p
after_none (Ok p) = refl
after_none (Err e) = refl

after_one : (xs : List ℕ) (x : ℕ) (p : Part (List ℕ)) → after xs (then p (λ ys ss. Ok (x ∷ ys, ss))) ≡ after (xs ++ x ∷ []) p
after_one xs x (Ok p) = rw (append_assoc) refl
after_one xs x (Err e) = refl

-- the first register has no comma before it
pub first_turn : (i n m : ℕ) (ss : List Symbol) → i ≤ 0 → n ≡ suc m → left_registers i n ss ≡ with_register (register ss) (more_registers m)
first_turn zero n m ss h e = ap (λ k. registers k ss) e
first_turn (suc i) n m ss h e = absurd (omega arith)

pub next_turn : (i n m : ℕ) (ss ts : List Symbol) → 0 < i → n ≡ suc m → comma ss ≡ Ok (tt, ts) → left_registers i n ss ≡ with_register (register ts) (more_registers m)
next_turn zero n m ss ts h e k = absurd (omega arith)
next_turn (suc i) n m ss ts h e k =
    ap (λ j. more_registers j ss) e ∙ ap (λ (p : Part Unit). then p (λ _ ss. with_register (register ss) (more_registers m))) k

-- a register is put behind those that are read
pub put_register : (i m : ℕ) (rs : List Register) (r : Register) (ts us : List Symbol) → i < length rs → register ts ≡ Ok (r.number, us)
    → after (numbers i rs) (with_register (register ts) (more_registers m)) ≡ after (numbers (i + 1) (set rs i r)) (left_registers (i + 1) m us)
put_register i m rs r ts us h e =
    let more : numbers (i + 1) (set rs i r) ≡ numbers i rs ++ r.number ∷ [] = ap (map (λ x. x.number)) (take_more_set rs i r h) ∙ map-append (λ x. x.number) (take i rs) (r ∷ []) in
    ap (λ (p : Part ℕ). after (numbers i rs) (with_register p (more_registers m))) e
    ∙ (after_one (numbers i rs) r.number (more_registers m us)
    ∙ (ap (λ xs. after xs (more_registers m us)) (sym more)
    ∙ ap (λ k. after (numbers (i + 1) (set rs i r)) (left_registers k m us)) (sym (add-one i))))

pub no_register : (xs : List ℕ) (m : ℕ) (ts : List Symbol) (c : Cause) → register ts ≡ Err c → after xs (with_register (register ts) (more_registers m)) ≡ Err c
no_register xs m ts c e = ap (λ (p : Part ℕ). after xs (with_register p (more_registers m))) e

-- on with registers, one after another
then_more : {A B : Type 0} (p : Part A) (f h : A → List Symbol → Result B Cause) → ((a : A) (ss : List Symbol) → f a ss ≡ h a ss) → then p f ≡ then p h
then_more (Ok p) f h e = e p.0 p.1
then_more (Err c) f h e = refl

then_put : {B : Type 0} (x : ℕ) (p : Part (List ℕ)) (f : List ℕ → List Symbol → Result B Cause) → then (then p (λ xs ss. Ok (x ∷ xs, ss))) f ≡ then p (λ xs ss. f (x ∷ xs) ss)
then_put x (Ok p) f = refl
then_put x (Err c) f = refl

then_register : {B : Type 0} (p : Part ℕ) (h : List Symbol → Part (List ℕ)) (f : List ℕ → List Symbol → Result B Cause)
    → then (with_register p h) f ≡ then p (λ x ss. then (h ss) (λ xs ss. f (x ∷ xs) ss))
then_register (Ok p) h f = then_put p.0 (h p.1) f
then_register (Err c) h f = refl

then_after : {B : Type 0} (p : Part Unit) (h : List Symbol → Part ℕ) (n : ℕ) (f : List ℕ → List Symbol → Result B Cause)
    → then (then p (λ _ ss. with_register (h ss) (more_registers n))) f ≡ then p (λ _ ss. then (h ss) (λ x ss. then (more_registers n ss) (λ xs ss. f (x ∷ xs) ss)))
then_after (Ok p) h n f = then_register (h p.1) (more_registers n) f
then_after (Err c) h n f = refl

-- the number of a register that was read
number_at : (rs : List Register) (i : ℕ) (d : Register) → i < length rs → (get_or rs i d).number ≡ slice_index (map (λ r. r.number) rs) i
number_at rs i d h = sym (get_or-map (λ r. r.number) rs i d 0 h)

-- three registers read at once are three read one by one, and so are two
module _ {B : Type 0} (ss : List Symbol) where
  two_by : (f : ℕ → ℕ → List Symbol → Result B Cause)
      → then (registers 2 ss) (λ ns ss. f (slice_index ns 0) (slice_index ns 1) ss)
      ≡ then (register ss) (λ x ss. then (comma ss) (λ _ ss. then (register ss) (λ y ss. f x y ss)))
  two_by f =
      then_register (register ss) (more_registers 1) _
      ∙ then_more (register ss) _ _ (λ x ss. then_after (comma ss) register 0 _)

  three_by : (f : ℕ → ℕ → ℕ → List Symbol → Result B Cause)
      → then (registers 3 ss) (λ ns ss. f (slice_index ns 0) (slice_index ns 1) (slice_index ns 2) ss)
      ≡ then (register ss) (λ x ss. then (comma ss) (λ _ ss. then (register ss) (λ y ss. then (comma ss) (λ _ ss. then (register ss) (λ z ss. f x y z ss)))))
  three_by f =
      then_register (register ss) (more_registers 2) _
      ∙ then_more (register ss) _ _ (λ x ss. then_after (comma ss) register 1 _
      ∙ then_more (comma ss) _ _ (λ _ ss. then_more (register ss) _ _ (λ y ss. then_after (comma ss) register 0 _)))

  pub three_refused : (f : ℕ → ℕ → ℕ → List Symbol → Result B Cause) (c : Cause) → registers 3 ss ≡ Err c
      → Err c ≡ then (register ss) (λ x ss. then (comma ss) (λ _ ss. then (register ss) (λ y ss. then (comma ss) (λ _ ss. then (register ss) (λ z ss. f x y z ss)))))
  three_refused f c h = ap (λ (p : Part (List ℕ)). then p (λ ns ss. f (slice_index ns 0) (slice_index ns 1) (slice_index ns 2) ss)) (sym h) ∙ three_by f

module _ {B : Type 0} (ss ts : List Symbol) (rs : List Register) where
  pub two_registers : (f : ℕ → ℕ → List Symbol → Result B Cause) (d e : Register) → length rs ≡ 2 → registers 2 ss ≡ Ok (map (λ r. r.number) rs, ts)
      → f (get_or rs 0 d).number (get_or rs 1 e).number ts ≡ then (register ss) (λ x ss. then (comma ss) (λ _ ss. then (register ss) (λ y ss. f x y ss)))
  two_registers f d e l h =
      ap (λ x. f x (get_or rs 1 e).number ts) (number_at rs 0 d (omega arith))
      ∙ (ap (λ y. f (slice_index (map (λ r. r.number) rs) 0) y ts) (number_at rs 1 e (omega arith))
      ∙ (ap (λ (p : Part (List ℕ)). then p (λ ns ss. f (slice_index ns 0) (slice_index ns 1) ss)) (sym h)
      ∙ two_by ss f))

  pub three_registers : (f : ℕ → ℕ → ℕ → List Symbol → Result B Cause) (d e k : Register) → length rs ≡ 3 → registers 3 ss ≡ Ok (map (λ r. r.number) rs, ts)
      → f (get_or rs 0 d).number (get_or rs 1 e).number (get_or rs 2 k).number ts
      ≡ then (register ss) (λ x ss. then (comma ss) (λ _ ss. then (register ss) (λ y ss. then (comma ss) (λ _ ss. then (register ss) (λ z ss. f x y z ss)))))
  three_registers f d e k l h =
      ap (λ x. f x (get_or rs 1 e).number (get_or rs 2 k).number ts) (number_at rs 0 d (omega arith))
      ∙ (ap (λ y. f (slice_index (map (λ r. r.number) rs) 0) y (get_or rs 2 k).number ts) (number_at rs 1 e (omega arith))
      ∙ (ap (λ z. f (slice_index (map (λ r. r.number) rs) 0) (slice_index (map (λ r. r.number) rs) 1) z ts) (number_at rs 2 k (omega arith))
      ∙ (ap (λ (p : Part (List ℕ)). then p (λ ns ss. f (slice_index ns 0) (slice_index ns 1) (slice_index ns 2) ss)) (sym h)
      ∙ three_by ss f)))
