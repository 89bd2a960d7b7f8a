use Rattle.std.specs.Prelude.{◌≡◌, ◌≤◌, ℕ, ◌+◌, ◌%◌, cond, List, [], ◌∷◌, ◌++◌, map, length, drop, replicate, is_some, Some, None, Ok, Err, Option, Result, nat_le, nat_lt}
use Rattle.refusal.specs.declared.Cause.{Cause}
use Rattle.refusal.specs.declared.Cause.TheVariants.{DuplicateName, TextTooLong, LabelSlotsFull, TooManyWords}
use Rattle.refusal.specs.declared.Refusal.{Refusal}
use Rattle.refusal.specs.Numbers.{refused}
use Rattle.page_tokens.specs.declared.name.Name.{Name}
use Rattle.page_tokens.specs.Lines.{lines}
use Rattle.page_text.specs.Sayings.{Saying, nothing, one, two, room, text, fixed, Reading, line_read}
use Rattle.shelf.specs.SliceVecs.{items, NowHolds}
use Rattle.shelf.specs.declared.slice_vec.SliceVec.{SliceVec}
use Rattle.pages.specs.declared.label.Label.{Label}
use Rattle.pages.specs.declared.line.Gain.{Gain}
use Rattle.pages.specs.declared.gathering.Gathered.{Gathered}
use Rattle.pages.specs.Labels.{no_label, find_label}

-- how many words a line takes
abbrev pub size_of : Saying → ℕ
size_of nothing = 0
size_of (one i) = 1
size_of (two i o) = 2
size_of (room q) = q
size_of (text ls) = length ls + 1
size_of (fixed n p v) = 0

-- how many of them are a variable's
abbrev pub room_of : Saying → ℕ
room_of nothing = 0
room_of (one i) = 0
room_of (two i o) = 0
room_of (room q) = q
room_of (text ls) = 0
room_of (fixed n p v) = 0

-- the label of a line that begins at the address a: addresses go modulo 65,536
abbrev pub label_for : Saying → ℕ → Name → Label
label_for s a n = record { name = n; address = a % 65536; room = room_of s }

abbrev pub labelled : Saying → ℕ → Option Name → Option Label
labelled s a None = None
labelled s a (Some n) = Some (label_for s a n)

-- what is wrong with a line's name: an earlier line has it, or no slot is left for it
abbrev pub name_fault : ℕ → List Label → Option Name → Option Cause
name_fault slots ls None = None
name_fault slots ls (Some n) =
    cond (is_some (find_label ls n)) (Some DuplicateName) (cond (nat_lt (length ls) slots) None (Some LabelSlotsFull))

abbrev pub checked_name : Option Cause → Result Unit Cause
checked_name None = Ok tt
checked_name (Some c) = Err c

-- the words of a line at the address a: the program has at most 65,536
abbrev pub sized : Option Name → ℕ → Saying → Result Gain Cause
sized n a s = cond (nat_le (a + size_of s) 65536) (Ok (record { label = labelled s a n; next = a + size_of s })) (Err TooManyWords)

abbrev pub stated : Option Name → ℕ → Result Saying Cause → Result Gain Cause
stated n a (Ok s) = sized n a s
stated n a (Err c) = Err c

abbrev pub unless : Option Cause → Result Gain Cause → Result Gain Cause
unless None x = x
unless (Some c) x = Err c

-- a line at the address a, after lines with the labels ls: its name first, then its statement, then its words
abbrev pub gain : ℕ → List Label → ℕ → Reading → Result Gain Cause
gain slots ls a l = unless (name_fault slots ls l.name) (stated l.name a l.saying)

-- the same, shut for those that need not look inside
unfoldable pub gained : ℕ → List Label → ℕ → Reading → Result Gain Cause
gained slots ls a l = gain slots ls a l

abbrev pub with_label : List Label → Option Label → List Label
with_label ls None = ls
with_label ls (Some l) = ls ++ l ∷ []

-- the labels after a line, and the address after its words
abbrev pub shelved : List Label → Result Gain Cause → Result (List Label × ℕ) Cause
shelved ls (Ok g) = Ok (with_label ls g.label, g.next)
shelved ls (Err c) = Err c

-- a refusal tells the line's number
abbrev pub on_line : {A : Type 0} → ℕ → Result A Cause → Result A Refusal
on_line i (Ok x) = Ok x
on_line i (Err c) = Err (refused c i)

-- the names of a page and how many words it takes
pub record Gathering : Type 0 where
  pub labels : List Label
  pub size : ℕ

abbrev pub gathered : List Label → ℕ → Gathering
gathered ls a = record { labels = ls; size = a }

-- the lines from the i-th on; the first thing wrong decides
abbrev pub gathers : ℕ → List Reading → List Label → ℕ → ℕ → Result Gathering Refusal
gathers slots [] ls a i = Ok (gathered ls a)
gathers slots (l ∷ rest) ls a i =
    elim (shelved ls (gained slots ls a l)) [ Ok p ↦ gathers slots rest p.0 p.1 (i + 1) | Err c ↦ Err (refused c i) ]

-- what the lines of a text say
unfoldable pub page : List ℕ → List Reading
page bytes = map line_read (lines bytes)

-- gathering a text with so many label slots
abbrev pub gathering : List ℕ → ℕ → Result Gathering Refusal
gathering bytes slots = cond (nat_le (length bytes) 65535) (gathers slots (page bytes) [] 0 1) (Err (refused TextTooLong 0))

abbrev pub gather_answer : Result Gathering Refusal → Result Gathered Refusal
gather_answer (Ok g) = Ok (record { labels = length g.labels; size = g.size })
gather_answer (Err e) = Err e

-- the slots afterwards: the labels in the first ones, the others as they were; a refusal empties them all
abbrev pub slots_after : Result Gathering Refusal → List Label → List Label
slots_after (Ok g) slots = g.labels ++ drop (length g.labels) slots
slots_after (Err e) slots = replicate (length slots) no_label

-- the i-th line gathered: its label, if it has one, in the next slot, and the address after its words; or why it is refused
abbrev pub GathersLine : SliceVec Label → SliceVec Label → ℕ → ℕ → Reading → Result ℕ Refusal → Type 0
GathersLine old new a i r (Ok next) =
    (shelved (items old) (gained (length old.slots.now) (items old) a r) ≡ Ok (items new, next))
    × NowHolds old new (items new)
    × (length (items old) ≤ length (items new))
GathersLine old new a i r (Err e) = on_line i (gained (length old.slots.now) (items old) a r) ≡ Err e
