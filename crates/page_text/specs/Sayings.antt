use Rattle.std.specs.Prelude.{ℕ, cond, List, [], ◌∷◌, Some, None, Ok, Err, codes, Option, Result, ◌==◌}
use Rattle.refusal.specs.declared.Cause.{Cause}
use Rattle.refusal.specs.declared.Cause.TheVariants.{UnknownStatement, Malformed, OutOfRange}
use Rattle.icmc_words.specs.declared.instruction.Instruction.{Instruction}
use Rattle.icmc_words.specs.declared.instruction.Instruction.TheVariants as instruction
use Rattle.icmc_words.specs.Encoded.{encodable}
use Rattle.page_tokens.specs.declared.name.Name.{Name}
use Rattle.page_tokens.specs.Names.{named}
use Rattle.page_tokens.specs.Symbols.{Symbol, word_in, symbols}
use Rattle.page_tokens.specs.Labels.{label_in, past_label}
use Rattle.page_text.specs.declared.form.Form.{Form}
use Rattle.page_text.specs.declared.form.Form.TheVariants.{Alone, One, Two, Three, Stack, Mov, Shift, Load, Store, Jump, Call, Var, Text, Static}
use Rattle.page_text.specs.declared.line.Line.{Line}
use Rattle.page_text.specs.declared.statement.Operand.{Operand}
use Rattle.page_text.specs.declared.statement.Statement.{Statement}
use Rattle.page_text.specs.declared.statement.Statement.TheVariants as stated
use Rattle.page_text.specs.Forms.{on_none, on_one, on_two, on_three, on_stack, on_load}
use Rattle.page_text.specs.Grammar.{then, register, register_or, number, address, name, comma, plus, letters}
use Rattle.page_text.specs.Table.{form_named}

-- what a line says: nothing; an instruction, with its second word if it has one; so many words of 0; letters; or a word of a variable
pub data Saying : Type 0 where
  nothing : Saying
  one : Instruction → Saying
  two : Instruction → Operand → Saying
  room : ℕ → Saying
  text : List ℕ → Saying
  fixed : Name → ℕ → ℕ → Saying

abbrev pub saying_of : Statement → Saying
saying_of stated.Empty = nothing
saying_of (stated.OneWord i) = one i
saying_of (stated.TwoWords i o) = two i o
saying_of (stated.Var q) = room q
saying_of (stated.Text q) = text q.now
saying_of (stated.Static n p v) = fixed n p v

abbrev pub said : Result Statement Cause → Result Saying Cause
said (Ok s) = Ok (saying_of s)
said (Err e) = Err e

-- a statement that ends its line
abbrev pub ended : Saying → List Symbol → Result Saying Cause
ended s [] = Ok s
ended s (t ∷ ts) = Err Malformed

-- an instruction whose operands fit their fields; only a shift's count can be too large
abbrev pub one_word : Instruction → List Symbol → Result Saying Cause
one_word i ss = cond (encodable i) (ended (one i) ss) (Err OutOfRange)

abbrev pub two_words : Instruction → Operand → List Symbol → Result Saying Cause
two_words i o ss = cond (encodable i) (ended (two i o) ss) (Err OutOfRange)

-- mov: to sp a register; to a register another, or sp
abbrev pub mov_from : ℕ → Option ℕ → List Symbol → Result Saying Cause
mov_from x None ss = one_word (instruction.MovFromSp x) ss
mov_from x (Some y) ss = one_word (instruction.Mov x y) ss

abbrev pub mov_to : Option ℕ → List Symbol → Result Saying Cause
mov_to None ss = then (register ss) (λ x ss. one_word (instruction.MovToSp x) ss)
mov_to (Some x) ss = then (register_or (named (codes "sp")) ss) (λ o ss. mov_from x o ss)

-- the operands of each form, from the left
abbrev pub operands : Form → List Symbol → Result Saying Cause
operands (Alone f) ss = one_word (on_none f) ss
operands (One f) ss = then (register ss) (λ x ss. one_word (on_one f x) ss)
operands (Two f) ss =
    then (register ss) (λ x ss. then (comma ss) (λ _ ss. then (register ss) (λ y ss. one_word (on_two f x y) ss)))
operands (Three f) ss =
    then (register ss) (λ x ss. then (comma ss) (λ _ ss. then (register ss) (λ y ss. then (comma ss) (λ _ ss. then (register ss) (λ z ss.
    one_word (on_three f x y z) ss)))))
operands (Stack f) ss = then (register_or (named (codes "fr")) ss) (λ o ss. one_word (on_stack f o) ss)
operands Mov ss = then (register_or (named (codes "sp")) ss) (λ o ss. then (comma ss) (λ _ ss. mov_to o ss))
operands (Shift k) ss =
    then (register ss) (λ x ss. then (comma ss) (λ _ ss. then (number ss) (λ n ss. one_word (instruction.Shift k x n) ss)))
operands (Load f) ss = then (register ss) (λ x ss. then (comma ss) (λ _ ss. then (address ss) (λ a ss. two_words (on_load f x) a ss)))
operands Store ss = then (address ss) (λ a ss. then (comma ss) (λ _ ss. then (register ss) (λ x ss. two_words (instruction.Store x) a ss)))
operands (Jump k) ss = then (address ss) (λ a ss. two_words (instruction.Jump k) a ss)
operands (Call k) ss = then (address ss) (λ a ss. two_words (instruction.Call k) a ss)
operands Var ss = then (number ss) (λ q ss. cond (q == 0) (Err OutOfRange) (ended (room q) ss))
operands Text ss = then (letters ss) (λ q ss. ended (text q) ss)
operands Static ss =
    then (name ss) (λ n ss. then (plus ss) (λ _ ss. then (number ss) (λ p ss. then (comma ss) (λ _ ss. then (number ss) (λ v ss.
    ended (fixed n p v) ss)))))

-- a statement: none, or a name and its operands
abbrev pub by_form : Option Form → List Symbol → Result Saying Cause
by_form None ss = Err UnknownStatement
by_form (Some f) ss = operands f ss

abbrev pub by_word : Option Name → List Symbol → Result Saying Cause
by_word None ss = Err Malformed
by_word (Some n) ss = by_form (form_named n) ss

abbrev pub statement : List Symbol → Result Saying Cause
statement [] = Ok nothing
statement (s ∷ ss) = by_word (word_in s) ss

-- a line: its name, if it has one, and what it says after it
pub record Reading : Type 0 where
  pub name : Option Name
  pub saying : Result Saying Cause

abbrev pub reading : List Symbol → Reading
reading ss = record { name = label_in ss; saying = statement (past_label (label_in ss) ss) }

-- the line of some bytes; shut for those that need not look inside
unfoldable pub line_read : List ℕ → Reading
line_read bs = reading (symbols bs)

abbrev pub reading_of : Line → Reading
reading_of l = record { name = l.name; saying = said l.statement }
