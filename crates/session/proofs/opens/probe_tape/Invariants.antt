use Rattle.std.proofs.Common.{◌≡◌}
use Rattle.tape.specs.Puts.{puts, puts_from}
use Rattle.session.specs.Opens.{probe_all}
use Rattle.session.proofs.opens.probe_tape.Given as goal

-- what is left to put is probed as the whole is
abbrev pub invariant-loop-put : goal.invariant-loop-put
invariant-loop-put g l =
    probe_all (g.B.Bus.view l.bus) (puts_from l.put-iterator.cursor.place l.put-iterator.rest.now)
    ≡ probe_all (g.B.Bus.view l.bus) (puts l.tape)
