use Rattle.std.proofs.Common.{◌<◌, ◌≤◌, length, ◌∙◌, arith}
use Rattle.session.specs.Snapshots.{snapshot}
use Rattle.session_log.proofs.LogLaws.{after_more, lines_more, rest_more, after_all, lines_all}
use Rattle.session_log.proofs.log.carry_on.Goals as goal

pub loop-line-preserved : goal.loop-line-preserved
loop-line-preserved g c =
    let l = c.loop-line in
    let e = c.serve_line.ensures in
    let R = g.P.Processor.rules in
    let p = g.B.Bus.places c.args.bus.now in
    let q = g.B.Bus.places l.bus in
    let d = snapshot l.session (g.B.Bus.view l.bus) l.journal in
    let b = snapshot c.serve_line.new.session (g.B.Bus.view c.serve_line.new.bus) c.serve_line.new.journal in
    let ms = c.args.lines.now in
    let x = c.line-item.result in
    let a = c.serve_line.result in
    let h : l.line-index < length l.lines = omega (arith, c.loop-line-test.true, l.auto.lines) in
    let k = c.loop-line-test.true in (
      after_more R p q d b l.lines ms l.line-index x a l.invariant.3 h k l.invariant.2 e.after _ l.invariant.0,
      lines_more R p q d b l.lines ms l.line-index x a l.invariant.3 h k l.invariant.2 e.after _ e.line l.invariant.1,
      rest_more R p q d b l.lines ms l.line-index x a l.invariant.3 h k l.invariant.2 e.after,
      e.places ∙ l.invariant.3,
    )

pub returns : goal.returns
returns g c =
    let l = c.loop-line in
    let R = g.P.Processor.rules in
    let p = g.B.Bus.places c.args.bus.now in
    let d = snapshot l.session (g.B.Bus.view l.bus) l.journal in
    let ms = c.args.lines.now in
    let k : length l.lines ≤ l.line-index = omega (arith, c.loop-line-test.false, l.auto.lines) in
    let after = after_all R p d l.lines ms l.line-index c.loop-line-test.false k _ l.invariant.0 in
    let lines = lines_all R p d l.lines ms l.line-index c.loop-line-test.false k _ l.invariant.1 in
    record {
      after = after;
      lines = lines;
      places = l.invariant.3;
      stands = λ w s i. rw (after, lines) (c.a_log_stands.ensures.stands w s i);
    }
