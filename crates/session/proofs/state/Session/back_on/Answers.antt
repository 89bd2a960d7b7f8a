use Rattle.std.proofs.Common.{◌≡◌, ◌-◌, ◌<◌, sym, ◌∙◌, arith}
use Rattle.session.specs.Snapshots.{snapshot}
use Rattle.session.proofs.BackLaws.{one_back, stops_back, one_less, last_some}
use Rattle.session.proofs.state.Session.back_on.Goals as goal

pub loop-done-preserved : goal.loop-done-preserved
loop-done-preserved g c =
    let l = c.loop-done in
    let j = c.args.journal.now in
    let d = snapshot l.self (g.B.Bus.view l.bus) j in
    let b = snapshot c.retreat.new.self (g.B.Bus.view c.retreat.new.bus) j in
    let e = c.in_default.ensures in
    let i = sym c.unwrap-entry.ensures ∙ c.last.ensures in
    let z : 0 < c.args.count = omega arith in
    let u : c.retreat.new.self.journal.used ≡ l.self.journal.used - 1 = one_less _ _ d b _ _ _ _ l.invariant.1 c.loop-done-test.true l.invariant.2 (l.invariant.3 z) i l.invariant.0 e.after e.answer in (
      one_back _ _ d b _ _ _ _ l.invariant.1 c.loop-done-test.true l.invariant.2 (l.invariant.3 z) i l.invariant.0 e.after e.answer,
      e.places ∙ l.invariant.1,
      omega arith,
      λ h. omega (arith, l.invariant.3 z),
    )

pub returns-in-Err : goal.returns-in-Err
returns-in-Err g c =
    let l = c.loop-done in
    let j = c.args.journal.now in
    let d = snapshot l.self (g.B.Bus.view l.bus) j in
    let b = snapshot c.retreat.new.self (g.B.Bus.view c.retreat.new.bus) j in
    let e = c.in-Err.ensures in
    let i = sym c.unwrap-entry.ensures ∙ c.last.ensures in
    let z : 0 < c.args.count = omega arith in
    let x = stops_back _ _ d b _ _ _ _ l.invariant.1 c.loop-done-test.true l.invariant.2 (l.invariant.3 z) i l.invariant.0 e.after _ e.answer in
    record { answer = x.0; after = x.1; places = e.places ∙ l.invariant.1 }

pub unwrap-entry-requires : goal.unwrap-entry-requires
unwrap-entry-requires g c =
    let l = c.loop-done in
    let z : 0 < c.args.count = omega arith in
    rw c.last.ensures (last_some l.self.journal.used c.args.journal.now (omega arith) (l.invariant.3 z))
