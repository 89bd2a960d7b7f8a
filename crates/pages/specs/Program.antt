use Rattle.std.specs.Prelude.{◌≡◌, ℕ, ◌+◌, ◌≤◌, cond, List, [], ◌∷◌, ◌++◌, length, take, drop, replicate, Some, None, Ok, Err, Option, Result, nat_le, nat_lt, slice_set}
use Rattle.std.specs.List.{AllByRecursion}
use Rattle.refusal.specs.declared.Cause.{Cause}
use Rattle.refusal.specs.declared.Cause.TheVariants.{UnknownName, OutsideVariable, NotGathered, TooManyWords}
use Rattle.refusal.specs.declared.Refusal.{Refusal}
use Rattle.refusal.specs.Numbers.{refused}
use Rattle.icmc_words.specs.declared.instruction.Instruction.{Instruction}
use Rattle.icmc_words.specs.Encoded.{encoded}
use Rattle.page_tokens.specs.declared.name.Name.{Name}
use Rattle.page_text.specs.declared.statement.Operand.{Operand}
use Rattle.page_text.specs.declared.statement.Operand.TheVariants as operand
use Rattle.page_text.specs.Sayings.{Saying, nothing, one, two, room, text, fixed, Reading}
use Rattle.pages.specs.declared.label.Label.{Label}
use Rattle.pages.specs.declared.check.Progress.{Progress}
use Rattle.pages.specs.declared.placing.Placed.{Placed}
use Rattle.pages.specs.Labels.{no_label, find_label, begins_with}
use Rattle.pages.specs.Page.{size_of, Gathering, gathered, gathers, gathering, page}

-- an instruction's first word; what a line says can always be encoded
abbrev pub word_or_0 : Result ℕ Refusal → ℕ
word_or_0 (Ok w) = w
word_or_0 (Err e) = 0

abbrev pub first_word : Instruction → ℕ
first_word i = word_or_0 (encoded i)

-- an instruction's second word: a number, or the address of a name
abbrev pub address_in : Option Label → Result ℕ Cause
address_in None = Err UnknownName
address_in (Some l) = Ok l.address

abbrev pub second_word : List Label → Operand → Result ℕ Cause
second_word ls (operand.Number n) = Ok n
second_word ls (operand.Label n) = address_in (find_label ls n)

-- word p of a variable, by the label with its name on a line above; failing that the name stands below, or nowhere
abbrev pub with_fixed : Option Label → Option Label → ℕ → ℕ → List ℕ → Result (List ℕ) Cause
with_fixed (Some l) o p v ws = cond (nat_lt p l.room) (Ok (slice_set ws (l.address + p) v)) (Err OutsideVariable)
with_fixed None (Some l) p v ws = Err OutsideVariable
with_fixed None None p v ws = Err UnknownName

abbrev pub with_second : Instruction → List ℕ → Result ℕ Cause → Result (List ℕ) Cause
with_second i ws (Ok v) = Ok (ws ++ first_word i ∷ v ∷ [])
with_second i ws (Err c) = Err c

-- the program ws with what a line says; ls are the page's labels, of which k are on lines above
abbrev pub with_saying : List Label → ℕ → List ℕ → Saying → Result (List ℕ) Cause
with_saying ls k ws nothing = Ok ws
with_saying ls k ws (one i) = Ok (ws ++ first_word i ∷ [])
with_saying ls k ws (two i o) = with_second i ws (second_word ls o)
with_saying ls k ws (room q) = Ok (ws ++ replicate q 0)
with_saying ls k ws (text q) = Ok (ws ++ (q ++ 0 ∷ []))
with_saying ls k ws (fixed n p v) = with_fixed (find_label (take k ls) n) (find_label ls n) p v ws

abbrev pub with_line : List Label → ℕ → List ℕ → Result Saying Cause → Result (List ℕ) Cause
with_line ls k ws (Ok s) = with_saying ls k ws s
with_line ls k ws (Err c) = Err c

-- the same, shut for those that need not look inside
unfoldable pub extended : List Label → ℕ → List ℕ → Reading → Result (List ℕ) Cause
extended ls k ws l = with_line ls k ws l.saying

-- a line's words lie within the words lent; a line that is refused has none, which no number of slots says
abbrev pub Fits : ℕ → ℕ → Result Saying Cause → Type 0
Fits at words (Ok s) = at + size_of s ≤ words
Fits at words (Err c) = Unit {0}

-- a label's variable lies before an address
abbrev pub Before : ℕ → Label → Type 0
Before at l = l.address + l.room ≤ at

-- the labels on the lines up to this one
abbrev pub names_with : ℕ → Option Name → ℕ
names_with k None = k
names_with k (Some n) = k + 1

-- how many words a line takes
abbrev pub size_said : Result Saying Cause → ℕ
size_said (Ok s) = size_of s
size_said (Err c) = 0

abbrev pub line_size : Reading → ℕ
line_size l = size_said l.saying

-- lines that were gathered with the labels ls: the first k labels are on lines above, the next line begins at the address at, and its number is i
pub record GatheredOn (lines : List Reading) (ls : List Label) (k at words i : ℕ) : Type 0 where
  pub slots : ℕ
  pub size : ℕ
  pub on : gathers slots lines (take k ls) at i ≡ Ok (gathered ls size)
  pub room : size ≤ words
  pub names : k ≤ length ls
  pub before : AllByRecursion (Before at) (take k ls)

-- the lines from the i-th on; the first thing wrong decides
abbrev pub places : List Label → List Reading → ℕ → List ℕ → ℕ → Result (List ℕ) Refusal
places ls [] k ws i = Ok ws
places ls (l ∷ rest) k ws i =
    elim (extended ls k ws l) [ Ok us ↦ places ls rest (names_with k l.name) us (i + 1) | Err c ↦ Err (refused c i) ]

-- labels that slots begin with: how many, and the address after their lines
abbrev pub held_line : List Label → Result (List Label × ℕ) Cause → Option Progress
held_line slots (Ok p) = cond (begins_with p.0 slots) (Some (record { labels = length p.0; size = p.1 })) None
held_line slots (Err c) = None

abbrev pub held : List Label → Result Gathering Refusal → Option Progress
held slots (Ok g) = cond (begins_with g.labels slots) (Some (record { labels = length g.labels; size = g.size })) None
held slots (Err e) = None

-- a text with its labels in slots, placed into as many words as are lent
abbrev pub placing_in : List ℕ → ℕ → Gathering → Result (List ℕ) Refusal
placing_in bytes words g = cond (nat_le g.size words) (places g.labels (page bytes) 0 [] 1) (Err (refused TooManyWords 0))

abbrev pub placing_by : List ℕ → List Label → ℕ → Result Gathering Refusal → Result (List ℕ) Refusal
placing_by bytes slots words (Ok g) = cond (begins_with g.labels slots) (placing_in bytes words g) (Err (refused NotGathered 0))
placing_by bytes slots words (Err e) = Err (refused NotGathered 0)

abbrev pub placing : List ℕ → List Label → ℕ → Result (List ℕ) Refusal
placing bytes slots words = placing_by bytes slots words (gathering bytes (length slots))

abbrev pub place_answer : Result (List ℕ) Refusal → Result Placed Refusal
place_answer (Ok ws) = Ok (record { size = length ws })
place_answer (Err e) = Err e

-- the words afterwards: the program in the first ones, the others as they were; a refusal zeroes them all, and empties the slots
abbrev pub words_after : Result (List ℕ) Refusal → List ℕ → List ℕ
words_after (Ok ws) words = ws ++ drop (length ws) words
words_after (Err e) words = replicate (length words) 0

abbrev pub slots_left : Result (List ℕ) Refusal → List Label → List Label
slots_left (Ok ws) slots = slots
slots_left (Err e) slots = replicate (length slots) no_label
