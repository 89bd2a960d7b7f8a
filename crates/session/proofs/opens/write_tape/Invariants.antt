use Rattle.std.proofs.Common.{◌≡◌}
use Rattle.tape.specs.Puts.{puts, puts_from}
use Rattle.session.specs.Opens.{write_all}
use Rattle.session.proofs.opens.write_tape.Given as goal

-- what is left to put leaves what the whole does
abbrev pub invariant-loop-put : goal.invariant-loop-put
invariant-loop-put g l =
    (write_all (g.B.Bus.view l.bus) (puts_from l.put-iterator.cursor.place l.put-iterator.rest.now)
    ≡ write_all (g.B.Bus.view l.initial.bus) (puts l.tape))
    × (g.B.Bus.places l.bus ≡ g.B.Bus.places l.initial.bus)
