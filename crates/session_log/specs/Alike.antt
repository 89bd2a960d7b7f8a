use Rattle.std.specs.Prelude.{◌≡◌, ℕ, ◌<◌, List, length, get_or, IfOk, Ok, Err, Result, slice_index_or}
use Rattle.refusal.specs.declared.Refusal.{Refusal}
use Rattle.stores.specs.Cells as store
use Rattle.processor.specs.declared.devices.Devices.{Devices}
use Rattle.processor.specs.Views.{View, Places, view, cell, cells, keys}
use Rattle.processor.specs.Rules.{Rules, State, state}
use Rattle.session.specs.declared.entry.Entry.{Entry}
use Rattle.session.specs.declared.state.Session.{Session}
use Rattle.session.specs.Snapshots.{Snapshot, snapshot}
use Rattle.session.specs.Opens.{loaded, load_answer}
use Rattle.session_log.specs.declared.line.Line.{Line}
use Rattle.session_log.specs.Plain.{fresh, after}
use Rattle.session_log.specs.Logs.{Logged, opening, opening_answer}

-- cells are alike: the same addresses 0 to 65,535 are present and open and show the same words, whatever else differs
abbrev pub AlikeCells : store.Cells → store.Locks → store.Cells → store.Locks → Type 0
AlikeCells m o n q = (a : ℕ) → a < 65536 → cell (m a) (o a) ≡ cell (n a) (q a)

-- keys are alike: the same counts 0 to 65,535 have the same key or none
abbrev pub AlikeKeys : store.Cells → store.Cells → Type 0
AlikeKeys k l = (c : ℕ) → c < 65536 → k c ≡ l c

-- a memory, a screen and a source of keys, by what their addresses show and which are open
pub record Stores : Type 0 where
  pub memory : store.Cells
  pub memory_open : store.Locks
  pub screen : store.Cells
  pub screen_open : store.Locks
  pub keys : store.Cells

abbrev pub stores : store.Cells → store.Locks → store.Cells → store.Locks → store.Cells → Stores
stores m o s q k = record { memory = m; memory_open = o; screen = s; screen_open = q; keys = k }

-- the same of devices, by what their makes say of their stores
abbrev pub stores_of : {M S K : Type 0} → (M → store.Cells) → (M → store.Locks) → (S → store.Cells) → (S → store.Locks) → (K → store.Cells) → Devices M S K → Stores
stores_of m o s q k d = stores (m d.memory) (o d.memory) (s d.screen) (q d.screen) (k d.keys)

-- what a processor sees of them
abbrev pub seen : Stores → View
seen x = view (cells x.memory x.memory_open) (cells x.screen x.screen_open) (keys x.keys)

pub record Alike (x y : Stores) : Type 0 where
  pub memory : AlikeCells x.memory x.memory_open y.memory y.memory_open
  pub screen : AlikeCells x.screen x.screen_open y.screen y.screen_open
  pub keys : AlikeKeys x.keys y.keys

-- two lines stand at the same state, all cells included: the pages as they were opened, w and u, after as many instructions as the lines say
abbrev pub SameState : {P : Type 0} → Rules P → State P → State P → Line P → Line P → Type 0
SameState r w u x y =
    (x.processor ≡ y.processor)
    × ((v : View) × (after r x.count w ≡ Ok (state x.processor v)) × (after r y.count u ≡ Ok (state y.processor v)))

-- two logs agree wherever as many instructions are done: between any two of their lines, and at their ends
pub record Agree {P : Type 0} (r : Rules P) (w u : State P) (ls ms : List (Line P)) (d b : Snapshot P) : Type 0 where
  pub lines : (i j : ℕ) (z : Line P) → i < length ls → j < length ms → (get_or ls i z).count ≡ (get_or ms j z).count → SameState r w u (slice_index_or ls i z) (slice_index_or ms j z)
  pub ends : d.count ≡ b.count → d.state ≡ b.state

-- how a log left its session, its stores, its journal and its lines
pub record Left (P : Type 0) : Type 0 where
  pub answer : Result (Session P) Refusal
  pub stores : Stores
  pub slots : List (Entry P)
  pub lines : List (Line P)

abbrev pub left : {P : Type 0} → Result (Session P) Refusal → Stores → List (Entry P) → List (Line P) → Left P
left a x j ls = record { answer = a; stores = x; slots = j; lines = ls }

-- a log of the lines ls on the stores a with j journal slots, by what it left: it is opened as the tape is loaded there, and an opened one is
-- the plain session's from the opening on
pub record LeftBy {P : Type 0} (r : Rules P) (tape : List ℕ) (stack j : ℕ) (a : Stores) (ls : List (Line P)) (x : Left P) : Type 0 where
  pub places : Places
  pub opened : opening_answer x.answer ≡ load_answer (loaded places (seen a) tape)
  pub log : let w = opening r stack (seen a) tape in IfOk x.answer (λ s. Logged r places w j ls x.lines (snapshot s (seen x.stores) x.slots) (fresh w))

-- two openings are accepted or refused alike, but for a refusal's place; where they are accepted, the logs agree
abbrev pub Agreed : {P : Type 0} → Rules P → State P → State P → Left P → Left P → Result (Session P) Refusal → Result (Session P) Refusal → Type 0
Agreed r w u x y (Ok s) (Ok t) = Agree r w u x.lines y.lines (snapshot s (seen x.stores) x.slots) (snapshot t (seen y.stores) y.slots)
Agreed r w u x y (Ok s) (Err e) = ⊥
Agreed r w u x y (Err e) (Ok t) = ⊥
Agreed r w u x y (Err e) (Err f) = e.cause ≡ f.cause

-- two logs on one tape with one stack start agree where their stores are alike
abbrev pub AlikeAgree : {P : Type 0} → Rules P → List ℕ → ℕ → Stores → Stores → Left P → Left P → Type 0
AlikeAgree r tape stack a b x y =
    Alike a b → Agreed r (opening r stack (seen a) tape) (opening r stack (seen b) tape) x y x.answer y.answer
