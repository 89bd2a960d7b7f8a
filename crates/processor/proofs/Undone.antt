use Rattle.std.proofs.Common.{◌≡◌, ℕ, Ok, Err, Result, ap}
use Rattle.refusal.specs.declared.Refusal.{Refusal}
use Rattle.processor.specs.declared.CellWrite.{CellWrite}
use Rattle.processor.specs.Views.{View, Fault, Places, answer, told}
use Rattle.processor.specs.Rules.{written, undo_of}

-- a refused exchange is told as it is
pub refused_written : {P : Type 0} (p : Places) (v : View) (after : P) (c : CellWrite) (o : Result ℕ Fault) (e : Refusal) → Err e ≡ answer p o → Err e ≡ answer p (undo_of (written o c after v))
refused_written p v after c (Ok w) e h = absurd (cc)
refused_written p v after c (Err f) e h = let k : e ≡ told p f = cc in ap Err k
