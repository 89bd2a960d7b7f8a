use Rattle.std.proofs.Common.{length, refl}
use Rattle.session_log.specs.Plain.{fresh}
use Rattle.session_log.specs.Logs.{opening, opened}
use Rattle.session_log.proofs.Stood.{logged, stands_fresh}
use Rattle.session_log.proofs.log.an_opened_log_stands.Goals as goal

pub returns : goal.returns
returns g c =
    let a = c.args in
    let R = g.P.Processor.rules in
    let v = g.B.Bus.view a.bus.now in
    let j = a.journal.now in
    let w = opening R a.stack v a.tape.now in
    logged R (g.B.Bus.places a.bus.now) w (length j) a.lines.now _ (opened R a.stack v a.tape.now j) _ (fresh w) (stands_fresh R w j) refl refl
