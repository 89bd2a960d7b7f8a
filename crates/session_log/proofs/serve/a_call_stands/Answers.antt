use Rattle.std.proofs.Common.{length, refl}
use Rattle.session.specs.Snapshots.{snapshot}
use Rattle.session_log.proofs.Stood.{answered}
use Rattle.session_log.proofs.serve.a_call_stands.Goals as goal

pub returns : goal.returns
returns g c =
    let a = c.args in
    let d = snapshot a.session.now (g.B.Bus.view a.bus.now) a.journal.now in
    record { stands = λ w s i. answered g.P.Processor.rules (g.B.Bus.places a.bus.now) w (length a.journal.now) a.call d _ s _ i refl refl }
