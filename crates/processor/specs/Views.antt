use Rattle.std.specs.Prelude.{ℕ, Bool, true, false, cond, Some, None, Ok, Err, Option, Result, ◌==◌, nat_lt}
use Rattle.refusal.specs.declared.Refusal.{Refusal}
use Rattle.refusal.specs.declared.Cause.TheVariants.{Absent, Closed, Unassigned}
use Rattle.refusal.specs.Numbers.{refused}
use Rattle.stores.specs.Cells as store
use Rattle.processor.specs.declared.Side.{Side}
use Rattle.processor.specs.declared.Side.TheVariants.{Memory, Screen}

-- a cell that is present: its word, and whether it is open
pub record Cell : Type 0 where
  pub word : ℕ
  pub unlocked : Bool

-- the cells of a store by address; none where the address is absent
abbrev pub Cells : Type 0
Cells = ℕ → Option Cell

abbrev pub cell : Option ℕ → Bool → Option Cell
cell None o = None
cell (Some w) o = Some (record { word = w; unlocked = o })

-- what can be seen of a store: its addresses 0 to 65,535, and no place that a refusal tells
abbrev pub cells : store.Cells → store.Locks → Cells
cells m o a = cond (nat_lt a 65536) (cell (m a) (o a)) None

-- the key at each count: none above 65,535
abbrev pub keys : store.Cells → ℕ → Option ℕ
keys m c = cond (nat_lt c 65536) (m c) None

-- all that a processor can see
pub record View : Type 0 where
  pub memory : Cells
  pub screen : Cells
  pub keys : ℕ → Option ℕ

abbrev pub view : Cells → Cells → (ℕ → Option ℕ) → View
view m s k = record { memory = m; screen = s; keys = k }

abbrev pub side_of : Side → View → Cells
side_of Memory v = v.memory
side_of Screen v = v.screen

-- why an access or an instruction is refused, with the address as the processor sees it
pub data Fault : Type 0 where
  absent : Side → ℕ → Fault
  closed : Side → ℕ → Fault
  unassigned : ℕ → Fault

-- a word looked at
abbrev pub seen : Option Cell → Side → ℕ → Result ℕ Fault
seen None s a = Err (absent s a)
seen (Some c) s a = Ok c.word

abbrev pub look : View → Side → ℕ → Result ℕ Fault
look v s a = seen (side_of s v a) s a

-- a word exchanged for another: the word that stood there, or why it stays
abbrev pub granted : Bool → ℕ → Side → ℕ → Result ℕ Fault
granted true w s a = Ok w
granted false w s a = Err (closed s a)

abbrev pub yielded : Option Cell → Side → ℕ → Result ℕ Fault
yielded None s a = Err (absent s a)
yielded (Some c) s a = granted c.unlocked c.word s a

abbrev pub exchange : View → Side → ℕ → Result ℕ Fault
exchange v s a = yielded (side_of s v a) s a

-- the cells with another word at an address
abbrev pub put : Cells → ℕ → ℕ → Cells
put m a w b = cond (b == a) (Some (record { word = w; unlocked = true })) (m b)

abbrev pub put_into : Side → View → ℕ → ℕ → View
put_into Memory v a w = view (put v.memory a w) v.screen v.keys
put_into Screen v a w = view v.memory (put v.screen a w) v.keys

abbrev pub put_if : Result ℕ Fault → Side → View → ℕ → ℕ → View
put_if (Ok old) s v a w = put_into s v a w
put_if (Err f) s v a w = v

-- all that can be seen after an exchange, done or refused
abbrev pub exchanged : View → Side → ℕ → ℕ → View
exchanged v s a w = put_if (exchange v s a) s v a w

-- a probe: what an exchange would be refused for
abbrev pub probed : Result ℕ Fault → Result Unit Fault
probed (Ok w) = Ok tt
probed (Err f) = Err f

abbrev pub probe : View → Side → ℕ → Result Unit Fault
probe v s a = probed (exchange v s a)

-- a write to a store that answers the word it replaced, or its refusal
abbrev pub replaced : Option ℕ → Bool → ℕ → ℕ → Result ℕ Refusal
replaced None o p q = Err (refused Absent p)
replaced (Some v) false p q = Err (refused Closed q)
replaced (Some v) true p q = Ok v

-- the places that the stores' refusals tell
pub record Places : Type 0 where
  pub memory_absent : store.Places
  pub memory_closed : store.Places
  pub screen_absent : store.Places
  pub screen_closed : store.Places

abbrev pub places : store.Places → store.Places → store.Places → store.Places → Places
places m n s t = record { memory_absent = m; memory_closed = n; screen_absent = s; screen_closed = t }

abbrev pub told : Places → Fault → Refusal
told p (absent Memory a) = refused Absent (p.memory_absent a)
told p (absent Screen a) = refused Absent (p.screen_absent a)
told p (closed Memory a) = refused Closed (p.memory_closed a)
told p (closed Screen a) = refused Closed (p.screen_closed a)
told p (unassigned a) = refused Unassigned a

-- an answer with its fault told as a refusal
abbrev pub answer : {X : Type 0} → Places → Result X Fault → Result X Refusal
answer p (Ok x) = Ok x
answer p (Err f) = Err (told p f)
