use Rattle.session_log.proofs.Agreeing.{logs_agree}
use Rattle.session_log.proofs.pair.replay_both.Goals as goal

pub returns : goal.returns
returns g c =
    record { agreed = logs_agree g.P.Processor.rules c.args.tape.now c.args.stack _ _ _ _ _ _ _ _ c.replay_on-first.ensures c.replay_on-second.ensures }
