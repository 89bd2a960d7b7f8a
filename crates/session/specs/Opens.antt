use Rattle.std.specs.Prelude.{ℕ, List, [], ◌∷◌, Ok, Err, Result}
use Rattle.refusal.specs.declared.Refusal.{Refusal}
use Rattle.processor.specs.declared.Side.TheVariants.{Memory}
use Rattle.processor.specs.Views.{View, Fault, Places, told, probe, exchanged, put_into}
use Rattle.processor.specs.Rules.{Rules}
use Rattle.tape.specs.declared.cursor.CellWord.{CellWord}
use Rattle.tape.specs.Checks.{checked}
use Rattle.tape.specs.Puts.{puts}
use Rattle.session.specs.declared.state.Session.{Session}

-- the first fault, or the rest
abbrev pub then : Result Unit Fault → Result Unit Fault → Result Unit Fault
then (Ok u) o = o
then (Err f) o = Err f

-- each address that is to be written probed, in order
abbrev pub probe_all : View → List CellWord → Result Unit Fault
probe_all v [] = Ok tt
probe_all v (p ∷ ps) = then (probe v Memory p.at) (probe_all v ps)

-- the words put in order
abbrev pub put_all : View → List CellWord → View
put_all v [] = v
put_all v (p ∷ ps) = put_all (put_into Memory v p.at p.word) ps

-- the words written in order, each as far as the store takes it
abbrev pub write_all : View → List CellWord → View
write_all v [] = v
write_all v (p ∷ ps) = write_all (exchanged v Memory p.at p.word) ps

-- a tape's words put into the memory, or why not: the tape's own checks first, then the probes
abbrev pub probes_told : Places → View → List CellWord → Result Unit Fault → Result View Refusal
probes_told p v ps (Ok u) = Ok (put_all v ps)
probes_told p v ps (Err f) = Err (told p f)

abbrev pub tape_told : Places → View → List ℕ → Result Unit Refusal → Result View Refusal
tape_told p v tape (Ok u) = probes_told p v (puts tape) (probe_all v (puts tape))
tape_told p v tape (Err e) = Err e

abbrev pub loaded : Places → View → List ℕ → Result View Refusal
loaded p v tape = tape_told p v tape (checked tape)

-- the same by writes
abbrev pub probes_written : Places → View → List CellWord → Result Unit Fault → Result View Refusal
probes_written p v ps (Ok u) = Ok (write_all v ps)
probes_written p v ps (Err f) = Err (told p f)

abbrev pub tape_written : Places → View → List ℕ → Result Unit Refusal → Result View Refusal
tape_written p v tape (Ok u) = probes_written p v (puts tape) (probe_all v (puts tape))
tape_written p v tape (Err e) = Err e

abbrev pub load_answer : Result View Refusal → Result Unit Refusal
load_answer (Ok w) = Ok tt
load_answer (Err e) = Err e

-- the cells after an opening
abbrev pub view_after : Result View Refusal → View → View
view_after (Ok w) v = w
view_after (Err e) v = v

-- a session's own numbers: the processor, the instructions done, the journal slots in use
pub record Own (P : Type 0) : Type 0 where
  pub processor : P
  pub count : ℕ
  pub used : ℕ

abbrev pub own : {P : Type 0} → Session P → Own P
own s = record { processor = s.processor; count = s.count; used = s.journal.used }

abbrev pub own_answer : {P : Type 0} → Result (Session P) Refusal → Result (Own P) Refusal
own_answer (Ok s) = Ok (own s)
own_answer (Err e) = Err e

-- an opened session: the processor at its start, nothing done, no slot in use
abbrev pub fresh : {P : Type 0} → Rules P → ℕ → Own P
fresh r stack = record { processor = r.start stack; count = 0; used = 0 }

abbrev pub opened : {P : Type 0} → Rules P → ℕ → Result View Refusal → Result (Own P) Refusal
opened r stack (Ok v) = Ok (fresh r stack)
opened r stack (Err e) = Err e
