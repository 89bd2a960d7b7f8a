use Rattle.std.specs.Prelude.{ℕ, List, [], ◌∷◌, codes, Option}
use Rattle.std.specs.Option.{option_map}
use Rattle.std.specs.List.{find}
use Rattle.icmc_words.specs.declared.instruction.Condition.TheVariants as condition
use Rattle.icmc_words.specs.declared.instruction.ShiftKind.TheVariants as shift
use Rattle.page_tokens.specs.declared.name.Name.{Name}
use Rattle.page_tokens.specs.Names.{named, same_name}
use Rattle.page_text.specs.declared.form.Form.{Form}
use Rattle.page_text.specs.declared.form.Form.TheVariants.{Alone, One, Two, Three, Stack, Mov, Shift, Load, Store, Jump, Call, Var, Text, Static}
use Rattle.page_text.specs.declared.form.NoRegisters.TheVariants as none
use Rattle.page_text.specs.declared.form.OneRegister.TheVariants as one
use Rattle.page_text.specs.declared.form.TwoRegisters.TheVariants as two
use Rattle.page_text.specs.declared.form.ThreeRegisters.TheVariants as three
use Rattle.page_text.specs.declared.form.OnStack.TheVariants as stack
use Rattle.page_text.specs.declared.form.Loads.TheVariants as load

-- a name's letters and a form
abbrev pub Row : Type 0
Row = List ℕ × Form

abbrev pub row : List ℕ → Form → Row
row n f = ((named n).letters, f)

-- the statements
abbrev pub table : List Row
table =
    row (codes "nop") (Alone none.Nop) ∷
    row (codes "rts") (Alone none.Rts) ∷
    row (codes "breakp") (Alone none.Breakp) ∷
    row (codes "halt") (Alone none.Halt) ∷
    row (codes "clearc") (Alone none.Clearc) ∷
    row (codes "setc") (Alone none.Setc) ∷
    row (codes "push") (Stack stack.Push) ∷
    row (codes "pop") (Stack stack.Pop) ∷
    row (codes "inc") (One one.Inc) ∷
    row (codes "dec") (One one.Dec) ∷
    row (codes "inchar") (One one.Inchar) ∷
    row (codes "not") (Two two.Not) ∷
    row (codes "cmp") (Two two.Cmp) ∷
    row (codes "loadi") (Two two.Loadi) ∷
    row (codes "storei") (Two two.Storei) ∷
    row (codes "outchar") (Two two.Outchar) ∷
    row (codes "mov") Mov ∷
    row (codes "and") (Three three.And) ∷
    row (codes "or") (Three three.Or) ∷
    row (codes "xor") (Three three.Xor) ∷
    row (codes "add") (Three three.Add) ∷
    row (codes "addc") (Three three.Addc) ∷
    row (codes "sub") (Three three.Sub) ∷
    row (codes "subc") (Three three.Subc) ∷
    row (codes "mul") (Three three.Mul) ∷
    row (codes "mulc") (Three three.Mulc) ∷
    row (codes "div") (Three three.Div) ∷
    row (codes "divc") (Three three.Divc) ∷
    row (codes "mod") (Three three.Mod) ∷
    row (codes "shiftl0") (Shift shift.LeftZeros) ∷
    row (codes "shiftl1") (Shift shift.LeftOnes) ∷
    row (codes "shiftr0") (Shift shift.RightZeros) ∷
    row (codes "shiftr1") (Shift shift.RightOnes) ∷
    row (codes "rotl") (Shift shift.RotateLeft) ∷
    row (codes "rotr") (Shift shift.RotateRight) ∷
    row (codes "load") (Load load.Load) ∷
    row (codes "loadn") (Load load.Loadn) ∷
    row (codes "store") Store ∷
    row (codes "jmp") (Jump condition.Always) ∷
    row (codes "jeq") (Jump condition.Equal) ∷
    row (codes "jne") (Jump condition.NotEqual) ∷
    row (codes "jz") (Jump condition.Zero) ∷
    row (codes "jnz") (Jump condition.NotZero) ∷
    row (codes "jc") (Jump condition.Carry) ∷
    row (codes "jnc") (Jump condition.NotCarry) ∷
    row (codes "jgr") (Jump condition.Greater) ∷
    row (codes "jle") (Jump condition.Lesser) ∷
    row (codes "jeg") (Jump condition.EqualOrGreater) ∷
    row (codes "jel") (Jump condition.EqualOrLesser) ∷
    row (codes "jov") (Jump condition.Overflow) ∷
    row (codes "jno") (Jump condition.NotOverflow) ∷
    row (codes "jn") (Jump condition.Negative) ∷
    row (codes "jdz") (Jump condition.DivisionByZero) ∷
    row (codes "call") (Call condition.Always) ∷
    row (codes "ceq") (Call condition.Equal) ∷
    row (codes "cne") (Call condition.NotEqual) ∷
    row (codes "cz") (Call condition.Zero) ∷
    row (codes "cnz") (Call condition.NotZero) ∷
    row (codes "cc") (Call condition.Carry) ∷
    row (codes "cnc") (Call condition.NotCarry) ∷
    row (codes "cgr") (Call condition.Greater) ∷
    row (codes "cle") (Call condition.Lesser) ∷
    row (codes "ceg") (Call condition.EqualOrGreater) ∷
    row (codes "cel") (Call condition.EqualOrLesser) ∷
    row (codes "cov") (Call condition.Overflow) ∷
    row (codes "cno") (Call condition.NotOverflow) ∷
    row (codes "cn") (Call condition.Negative) ∷
    row (codes "cdz") (Call condition.DivisionByZero) ∷
    row (codes "var") Var ∷
    row (codes "string") Text ∷
    row (codes "static") Static ∷
    []

-- the form of the first row with a name
abbrev pub find_row : List Row → Name → Option Form
find_row rs n = option_map (λ r. r.1) (find (λ r. same_name (record { letters = r.0 }) n) rs)

-- the form of the statement with a name; shut, since the table is long
unfoldable pub form_named : Name → Option Form
form_named n = find_row table n
