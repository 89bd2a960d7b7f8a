use Rattle.session_log.proofs.Stood.{opens}
use Rattle.session_log.proofs.log.open.Goals as goal

pub returns : goal.returns
returns g c =
    let a = c.args in
    let e = c.open.ensures in
    let x = opens g.P.Processor.rules a.stack (g.B.Bus.view a.bus.now) a.tape.now (g.B.Bus.places a.bus.now) c.open.result _ a.journal.now e.answer e.after in
    record { opened = x.0; after = x.1; places = e.places }
