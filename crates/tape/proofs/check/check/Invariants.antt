use Rattle.std.proofs.Common.{◌≡◌, drop}
use Rattle.tape.specs.Checks.{checks, checked}
use Rattle.tape.proofs.check.check.Given as goal

-- the rest of the tape decides as the whole does
abbrev pub invariant-loop-i : goal.invariant-loop-i
invariant-loop-i l = checks (drop l.i-counter l.tape) l.i-counter l.cursor.place l.sum ≡ checked l.tape
