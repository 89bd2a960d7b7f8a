use Rattle.std.proofs.Common.{length}
use Rattle.session_log.specs.Logs.{opening, opened}
use Rattle.session_log.proofs.Stood.{stands_fresh}
use Rattle.icmc.specs.Steps.{machine_rules}
use Rattle.long_run.proofs.LongRunLaws.{one_run, ran_out}
use Rattle.long_run.proofs.rounds.rounds_make_one_run.Goals as goal

pub returns : goal.returns
returns g c =
    let a = c.args in
    let p = g.B.Bus.places a.bus.now in
    let v = g.B.Bus.view a.bus.now in
    let j = a.journal.now in
    let w = opening machine_rules a.stack v a.tape.now in
    let x = one_run machine_rules p w (length j) (opened machine_rules a.stack v a.tape.now j) (stands_fresh machine_rules w j) in
    record { stop = x.0; count = x.1; state = x.2; page = ran_out p (length j) w }
