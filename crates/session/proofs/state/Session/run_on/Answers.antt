use Rattle.std.proofs.Common.{◌∙◌}
use Rattle.session.proofs.RunLaws.{more, stops_after, stops_before, one_more}
use Rattle.session.proofs.state.Session.run_on.Goals as goal

pub loop-done-preserved : goal.loop-done-preserved
loop-done-preserved g c =
    let l = c.loop-done in
    let e = c.in-Ok-None.ensures in
    let a = rw c.in-Ok-None.field-0-is at e.answer in (
      more g.P.Processor.rules _ _ _ _ _ _ _ l.invariant.1 c.loop-done-test.true l.invariant.0 e.after a,
      e.places ∙ l.invariant.1,
      one_more g.P.Processor.rules _ _ _ _ _ _ _ l.invariant.1 c.loop-done-test.true l.invariant.0 e.after _ l.invariant.2,
    )

pub returns-in-Ok-Some : goal.returns-in-Ok-Some
returns-in-Ok-Some g c =
    let l = c.loop-done in
    let e = c.in-Ok-Some.ensures in
    let a = rw c.in-Ok-Some.field-0-is at e.answer in
    let x = stops_after g.P.Processor.rules _ _ _ _ _ _ _ l.invariant.1 c.loop-done-test.true l.invariant.0 e.after _ a in
    record { answer = x.0; after = x.1; places = e.places ∙ l.invariant.1 }

pub returns-in-Err : goal.returns-in-Err
returns-in-Err g c =
    let l = c.loop-done in
    let e = c.in-Err.ensures in
    let x = stops_before g.P.Processor.rules _ _ _ _ _ _ _ l.invariant.1 c.loop-done-test.true l.invariant.0 e.after _ e.answer in
    record { answer = x.0; after = x.1; places = e.places ∙ l.invariant.1 }
