use Rattle.std.specs.Prelude.{ℕ, Some, None, Ok, Err, Option, Result}
use Rattle.processor.specs.declared.CellWrite.{CellWrite}
use Rattle.processor.specs.declared.Mark.{Mark}
use Rattle.processor.specs.declared.Next.{Next}
use Rattle.processor.specs.Views.{View, Fault, exchange, put_into}

-- a processor's rules: how it starts, what comes next, what its mark says and what its registers hold
pub record Rules (P : Type 0) : Type 0 where
  pub start : ℕ → P
  pub next : P → View → Result (Next P) Fault
  pub mark : P → Mark
  pub register : P → ℕ → Option ℕ

-- a processor with all that it can see
pub record State (P : Type 0) : Type 0 where
  pub processor : P
  pub view : View

abbrev pub state : {P : Type 0} → P → View → State P
state p v = record { processor = p; view = v }

-- a state that was moved to, and what puts the written cell back
pub record Moved (P : Type 0) : Type 0 where
  pub state : State P
  pub undo : Option CellWrite

-- a word written into a cell, if it can be: the old word goes into the undo
abbrev pub written : {P : Type 0} → Result ℕ Fault → CellWrite → P → View → Result (Moved P) Fault
written (Ok old) c p v =
    Ok (record {
      state = state p (put_into c.side v c.at c.word);
      undo = Some (record { side = c.side; at = c.at; word = old });
    })
written (Err f) c p v = Err f

-- another processor in place, and a cell written if one is to be
abbrev pub moved : {P : Type 0} → View → P → Option CellWrite → Result (Moved P) Fault
moved v p None = Ok (record { state = state p v; undo = None })
moved v p (Some c) = written (exchange v c.side c.at) c p v

abbrev pub moved_by : {P : Type 0} → View → Result (Next P) Fault → Result (Moved P) Fault
moved_by v (Ok n) = moved v n.after n.write
moved_by v (Err f) = Err f

-- the next instruction tried
abbrev pub stepped : {P : Type 0} → Rules P → State P → Result (Moved P) Fault
stepped r s = moved_by s.view (r.next s.processor s.view)

abbrev pub state_of : {P : Type 0} → Result (Moved P) Fault → Result (State P) Fault
state_of (Ok m) = Ok m.state
state_of (Err f) = Err f

abbrev pub undo_of : {P : Type 0} → Result (Moved P) Fault → Result (Option CellWrite) Fault
undo_of (Ok m) = Ok m.undo
undo_of (Err f) = Err f

-- one instruction: the state after it, or why it is refused
abbrev pub instruction : {P : Type 0} → Rules P → State P → Result (State P) Fault
instruction r s = state_of (stepped r s)

-- the state after what was tried: a refusal leaves it as it was
abbrev pub or_same : {P : Type 0} → Result (State P) Fault → State P → State P
or_same (Ok t) s = t
or_same (Err f) s = s
