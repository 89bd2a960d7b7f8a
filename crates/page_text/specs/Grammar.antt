use Rattle.std.specs.Prelude.{ℕ, zero, suc, ◌-◌, Bool, true, false, cond, ◌&&◌, List, [], ◌∷◌, Some, None, Ok, Err, Option, Result, MatchResult, ◌≡◌, ◌==◌, nat_le, slice_index}
use Rattle.refusal.specs.declared.Cause.{Cause}
use Rattle.refusal.specs.declared.Cause.TheVariants.{Malformed, OutOfRange}
use Rattle.page_tokens.specs.declared.name.Name.{Name}
use Rattle.page_tokens.specs.declared.token.Tokens.{Tokens}
use Rattle.page_tokens.specs.Classes.{between}
use Rattle.page_tokens.specs.Names.{same_name}
use Rattle.page_tokens.specs.Symbols.{Symbol, comma as comma_token, plus as plus_token, word_in, number_in, letters_in, same_symbol, symbols}
use Rattle.page_text.specs.declared.statement.Operand.{Operand}
use Rattle.page_text.specs.declared.statement.Operand.TheVariants.{Number, Label}

-- the tokens that are left of a line
abbrev pub rest : Tokens → List Symbol
rest ts = symbols ts.rest.now

-- a part of a statement, and the tokens after it
abbrev pub Part : Type 0 → Type 0
Part A = Result (A × List Symbol) Cause

-- a part was read, and other tokens left; or it was refused
abbrev pub ReadsBy : {A B : Type 0} → (A → B) → Part B → Result A Cause → Tokens → Type 0
ReadsBy view p r ts = MatchResult r (λ x. p ≡ Ok (view x, rest ts)) (λ e. p ≡ Err e)

abbrev pub Reads : {A : Type 0} → Part A → Result A Cause → Tokens → Type 0
Reads p r ts = ReadsBy (λ x. x) p r ts

-- on with the tokens after a part
abbrev pub then : {A B : Type 0} → Part A → (A → List Symbol → Result B Cause) → Result B Cause
then (Ok p) f = f p.0 p.1
then (Err e) f = Err e

-- what was right, with the tokens that are left
abbrev pub before : {A : Type 0} → List Symbol → Result A Cause → Part A
before ss (Ok a) = Ok (a, ss)
before ss (Err e) = Err e

-- r0 to r7: 114 is r, 48 to 55 are 0 to 7, and 32 ends the name
abbrev pub register_of : Name → Result ℕ Cause
register_of n =
    cond (slice_index n.letters 0 == 114 && between 48 55 (slice_index n.letters 1) && slice_index n.letters 2 == 32)
    (Ok (slice_index n.letters 1 - 48)) (Err Malformed)

abbrev pub named_register : Option Name → Result ℕ Cause
named_register None = Err Malformed
named_register (Some n) = register_of n

abbrev pub register : List Symbol → Part ℕ
register [] = Err Malformed
register (s ∷ ss) = before ss (named_register (word_in s))

-- a register, or none where another name stands in its place
abbrev pub or_register : Bool → Name → Result (Option ℕ) Cause
or_register true n = Ok None
or_register false n = elim (register_of n) [ Ok x ↦ Ok (Some x) | Err e ↦ Err e ]

abbrev pub named_or : Name → Option Name → Result (Option ℕ) Cause
named_or other None = Err Malformed
named_or other (Some n) = or_register (same_name n other) n

abbrev pub register_or : Name → List Symbol → Part (Option ℕ)
register_or other [] = Err Malformed
register_or other (s ∷ ss) = before ss (named_or other (word_in s))

-- a number is at most 65,535
abbrev pub in_range : ℕ → Result ℕ Cause
in_range n = cond (nat_le n 65535) (Ok n) (Err OutOfRange)

abbrev pub some_number : Option ℕ → Result ℕ Cause
some_number None = Err Malformed
some_number (Some n) = in_range n

abbrev pub number : List Symbol → Part ℕ
number [] = Err Malformed
number (s ∷ ss) = before ss (some_number (number_in s))

-- a sign that has to stand in its place
abbrev pub sign : Symbol → List Symbol → Part Unit
sign t [] = Err Malformed
sign t (s ∷ ss) = cond (same_symbol t s) (Ok (tt, ss)) (Err Malformed)

abbrev pub comma : List Symbol → Part Unit
comma ss = sign comma_token ss

abbrev pub plus : List Symbol → Part Unit
plus ss = sign plus_token ss

abbrev pub some_of : {A : Type 0} → Option A → Result A Cause
some_of None = Err Malformed
some_of (Some a) = Ok a

-- a name, of whatever it is
abbrev pub name : List Symbol → Part Name
name [] = Err Malformed
name (s ∷ ss) = before ss (some_of (word_in s))

-- the letters of a quoted part
abbrev pub letters : List Symbol → Part (List ℕ)
letters [] = Err Malformed
letters (s ∷ ss) = before ss (some_of (letters_in s))

-- the second word of an instruction: the address of a name, or a number
abbrev pub as_number : Result ℕ Cause → Result Operand Cause
as_number (Ok n) = Ok (Number n)
as_number (Err e) = Err e

abbrev pub name_or_number : Option Name → Option ℕ → Result Operand Cause
name_or_number None o = as_number (some_number o)
name_or_number (Some n) o = Ok (Label n)

abbrev pub address : List Symbol → Part Operand
address [] = Err Malformed
address (s ∷ ss) = before ss (name_or_number (word_in s) (number_in s))

-- n registers, each after a comma; and with commas between them alone
abbrev pub with_register : Part ℕ → (List Symbol → Part (List ℕ)) → Part (List ℕ)
with_register p f = then p (λ x ss. then (f ss) (λ xs ss. Ok (x ∷ xs, ss)))

abbrev pub more_registers : ℕ → List Symbol → Part (List ℕ)
more_registers zero ss = Ok ([], ss)
more_registers (suc n) ss = then (comma ss) (λ _ ss. with_register (register ss) (more_registers n))

abbrev pub registers : ℕ → List Symbol → Part (List ℕ)
registers zero ss = Ok ([], ss)
registers (suc n) ss = with_register (register ss) (more_registers n)
