use Rattle.std.proofs.Common.{◌≡◌, ℕ, Bool, true, false, cond, eqb, List, [], ◌∷◌, Some, None, Ok, Err, codes, Option, Result, refl}
use Rattle.refusal.specs.declared.Cause.{Cause}
use Rattle.refusal.specs.declared.Cause.TheVariants.{OutOfRange}
use Rattle.icmc_words.specs.declared.instruction.Instruction.{Instruction}
use Rattle.icmc_words.specs.declared.instruction.Instruction.TheVariants as instruction
use Rattle.icmc_words.specs.Encoded.{encodable}
use Rattle.icmc_words.specs.Sizes.{size}
use Rattle.page_tokens.specs.declared.name.Name.{Name}
use Rattle.page_tokens.specs.Names.{named}
use Rattle.page_tokens.specs.Symbols.{Symbol, word_in, symbols}
use Rattle.page_tokens.specs.Labels.{label_in, past_label}
use Rattle.page_text.specs.declared.form.Form.{Form}
use Rattle.page_text.specs.declared.form.Form.TheVariants.{Alone, One, Two, Three, Stack, Mov, Shift, Load, Store, Jump, Call, Var, Text, Static}
use Rattle.page_text.specs.declared.form.NoRegisters.{NoRegisters}
use Rattle.page_text.specs.declared.form.NoRegisters.TheVariants as none
use Rattle.page_text.specs.declared.form.OneRegister.{OneRegister}
use Rattle.page_text.specs.declared.form.OneRegister.TheVariants as one_register
use Rattle.page_text.specs.declared.form.TwoRegisters.{TwoRegisters}
use Rattle.page_text.specs.declared.form.TwoRegisters.TheVariants as two_registers
use Rattle.page_text.specs.declared.form.ThreeRegisters.{ThreeRegisters}
use Rattle.page_text.specs.declared.form.ThreeRegisters.TheVariants as three_registers
use Rattle.page_text.specs.declared.form.OnStack.{OnStack}
use Rattle.page_text.specs.declared.form.OnStack.TheVariants as stack
use Rattle.page_text.specs.declared.form.Loads.{Loads}
use Rattle.page_text.specs.declared.form.Loads.TheVariants as load
use Rattle.page_text.specs.declared.statement.Operand.{Operand}
use Rattle.page_text.specs.Forms.{on_none, on_one, on_two, on_three, on_stack, on_load}
use Rattle.page_text.specs.Grammar.{Part, then, register, register_or, number, address, name, comma, plus, letters}
use Rattle.page_text.specs.Sayings.{Saying, one, two, room, text, fixed, ended, one_word, two_words, mov_from, mov_to, operands, by_form, by_word, statement, line_read}
use Rattle.page_text.specs.Sound.{Sound}
use Rattle.page_text.specs.Table.{form_named}

-- the same as a record, so that antt finds what it is about
pub record Fine (x : Result Saying Cause) : Type 0 where
  pub sound : Sound x

fine : {x : Result Saying Cause} → Sound x → Fine x
fine h = record { sound = h }

-- what follows a part is sound if it is so whatever the part was
sound_then : {A : Type 0} (x : Part A) (f : A → List Symbol → Result Saying Cause) → ((a : A) (ss : List Symbol) → Fine (f a ss)) → Fine (then x f)
sound_then (Ok p) f h = h p.0 p.1
sound_then (Err e) f h = fine tt

one_by : (i : Instruction) (b : Bool) (ss : List Symbol) → encodable i ≡ b → size i ≡ 1 → Fine (cond b (ended (one i) ss) (Err OutOfRange))
one_by i true [] e s = fine (e, s)
one_by i true (t ∷ ts) e s = fine tt
one_by i false ss e s = fine tt

two_by : (i : Instruction) (o : Operand) (b : Bool) (ss : List Symbol) → encodable i ≡ b → size i ≡ 2 → Fine (cond b (ended (two i o) ss) (Err OutOfRange))
two_by i o true [] e s = fine (e, s)
two_by i o true (t ∷ ts) e s = fine tt
two_by i o false ss e s = fine tt

sound_one : (i : Instruction) (ss : List Symbol) → size i ≡ 1 → Fine (one_word i ss)
sound_one i ss s = one_by i (encodable i) ss refl s

sound_two : (i : Instruction) (o : Operand) (ss : List Symbol) → size i ≡ 2 → Fine (two_words i o ss)
sound_two i o ss s = two_by i o (encodable i) ss refl s

size_none : (f : NoRegisters) → size (on_none f) ≡ 1
size_none none.Nop = refl
size_none none.Rts = refl
size_none none.Breakp = refl
size_none none.Halt = refl
size_none none.Clearc = refl
size_none none.Setc = refl

size_one : (f : OneRegister) (x : ℕ) → size (on_one f x) ≡ 1
size_one one_register.Inc x = refl
size_one one_register.Dec x = refl
size_one one_register.Inchar x = refl

size_two : (f : TwoRegisters) (x y : ℕ) → size (on_two f x y) ≡ 1
size_two two_registers.Not x y = refl
size_two two_registers.Cmp x y = refl
size_two two_registers.Loadi x y = refl
size_two two_registers.Storei x y = refl
size_two two_registers.Outchar x y = refl

size_three : (f : ThreeRegisters) (x y z : ℕ) → size (on_three f x y z) ≡ 1
size_three three_registers.And x y z = refl
size_three three_registers.Or x y z = refl
size_three three_registers.Xor x y z = refl
size_three three_registers.Add x y z = refl
size_three three_registers.Addc x y z = refl
size_three three_registers.Sub x y z = refl
size_three three_registers.Subc x y z = refl
size_three three_registers.Mul x y z = refl
size_three three_registers.Mulc x y z = refl
size_three three_registers.Div x y z = refl
size_three three_registers.Divc x y z = refl
size_three three_registers.Mod x y z = refl

size_stack : (f : OnStack) (o : Option ℕ) → size (on_stack f o) ≡ 1
size_stack stack.Push None = refl
size_stack stack.Push (Some x) = refl
size_stack stack.Pop None = refl
size_stack stack.Pop (Some x) = refl

size_load : (f : Loads) (x : ℕ) → size (on_load f x) ≡ 2
size_load load.Load x = refl
size_load load.Loadn x = refl

sound_from : (x : ℕ) (o : Option ℕ) (ss : List Symbol) → Fine (mov_from x o ss)
sound_from x None ss = sound_one (instruction.MovFromSp x) ss refl
sound_from x (Some y) ss = sound_one (instruction.Mov x y) ss refl

sound_to : (o : Option ℕ) (ss : List Symbol) → Fine (mov_to o ss)
sound_to None ss = sound_then (register ss) _ (λ x ss. sound_one (instruction.MovToSp x) ss refl)
sound_to (Some x) ss = sound_then (register_or (named (codes "sp")) ss) _ (λ o ss. sound_from x o ss)

sound_end : (s : Saying) (ss : List Symbol) → Fine (Ok s) → Fine (ended s ss)
sound_end s [] h = h
sound_end s (t ∷ ts) h = fine tt

sound_room : (b : Bool) (q : ℕ) (ss : List Symbol) → Fine (cond b (Err OutOfRange) (ended (room q) ss))
sound_room true q ss = fine tt
sound_room false q ss = sound_end (room q) ss (fine tt)

sound_operands : (f : Form) (ss : List Symbol) → Fine (operands f ss)
sound_operands (Alone f) ss = sound_one (on_none f) ss (size_none f)
sound_operands (One f) ss = sound_then (register ss) _ (λ x ss. sound_one (on_one f x) ss (size_one f x))
sound_operands (Two f) ss =
    sound_then (register ss) _ (λ x ss. sound_then (comma ss) _ (λ _ ss. sound_then (register ss) _ (λ y ss. sound_one (on_two f x y) ss (size_two f x y))))
sound_operands (Three f) ss =
    sound_then (register ss) _ (λ x ss. sound_then (comma ss) _ (λ _ ss. sound_then (register ss) _ (λ y ss. sound_then (comma ss) _ (λ _ ss.
    sound_then (register ss) _ (λ z ss. sound_one (on_three f x y z) ss (size_three f x y z))))))
sound_operands (Stack f) ss = sound_then (register_or (named (codes "fr")) ss) _ (λ o ss. sound_one (on_stack f o) ss (size_stack f o))
sound_operands Mov ss = sound_then (register_or (named (codes "sp")) ss) _ (λ o ss. sound_then (comma ss) _ (λ _ ss. sound_to o ss))
sound_operands (Shift k) ss =
    sound_then (register ss) _ (λ x ss. sound_then (comma ss) _ (λ _ ss. sound_then (number ss) _ (λ n ss. sound_one (instruction.Shift k x n) ss refl)))
sound_operands (Load f) ss =
    sound_then (register ss) _ (λ x ss. sound_then (comma ss) _ (λ _ ss. sound_then (address ss) _ (λ a ss. sound_two (on_load f x) a ss (size_load f x))))
sound_operands Store ss =
    sound_then (address ss) _ (λ a ss. sound_then (comma ss) _ (λ _ ss. sound_then (register ss) _ (λ x ss. sound_two (instruction.Store x) a ss refl)))
sound_operands (Jump k) ss = sound_then (address ss) _ (λ a ss. sound_two (instruction.Jump k) a ss refl)
sound_operands (Call k) ss = sound_then (address ss) _ (λ a ss. sound_two (instruction.Call k) a ss refl)
sound_operands Var ss = sound_then (number ss) _ (λ q ss. sound_room (eqb q 0) q ss)
sound_operands Text ss = sound_then (letters ss) _ (λ q ss. sound_end (text q) ss (fine tt))
sound_operands Static ss =
    sound_then (name ss) _ (λ n ss. sound_then (plus ss) _ (λ _ ss. sound_then (number ss) _ (λ p ss. sound_then (comma ss) _ (λ _ ss.
    sound_then (number ss) _ (λ v ss. sound_end (fixed n p v) ss (fine tt))))))

sound_form : (o : Option Form) (ss : List Symbol) → Fine (by_form o ss)
sound_form None ss = fine tt
sound_form (Some f) ss = sound_operands f ss

sound_word : (o : Option Name) (ss : List Symbol) → Fine (by_word o ss)
sound_word None ss = fine tt
sound_word (Some n) ss = sound_form (form_named n) ss

sound_statement : (ss : List Symbol) → Fine (statement ss)
sound_statement [] = fine tt
sound_statement (s ∷ ss) = sound_word (word_in s) ss

-- whatever bytes a line has, what it says is sound
pub sound_line : (bs : List ℕ) → Sound (line_read bs).saying
unfolding line_read
sound_line bs = (sound_statement (past_label (label_in (symbols bs)) (symbols bs))).sound
