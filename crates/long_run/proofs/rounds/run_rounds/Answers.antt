use Rattle.std.proofs.Common.{◌-◌, ◌∙◌, arith, rules}
use Rattle.icmc.specs.Steps.{machine_rules}
use Rattle.long_run.proofs.RoundLaws.{all, goes, stands}
use Rattle.long_run.proofs.rounds.run_rounds.Goals as goal

pub returns-then-ne : goal.returns-then-ne
returns-then-ne g c =
    let l = c.loop in
    let e = c.round-stop.ensures in
    let x = stands machine_rules _ 1000 _ l.invariant.1 1000 l.counter _ _ _ _ c.loop-test.true l.invariant.0 e.stop e.after (search rules) in
    record { stop = x.0; after = x.1; places = e.places ∙ l.invariant.1 }

pub loop-preserved : goal.loop-preserved
loop-preserved g c =
    let l = c.loop in
    let e = c.round-stop.ensures in
    (goes machine_rules _ 1000 _ l.invariant.1 1000 l.counter _ _ _ _ c.loop-test.true l.invariant.0 e.stop e.after (search rules), e.places ∙ l.invariant.1)

pub returns : goal.returns
returns g c =
    let l = c.loop in
    let x = all machine_rules _ 1000 (1000 - l.counter) _ _ (omega arith) l.invariant.0 in
    record { stop = x.0; after = x.1; places = l.invariant.1 }
