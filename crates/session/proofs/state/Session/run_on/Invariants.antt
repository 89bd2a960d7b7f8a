use Rattle.std.proofs.Common.{◌≡◌, ◌+◌, ◌-◌, ◌≤◌}
use Rattle.session.specs.Snapshots.{snapshot}
use Rattle.session.specs.Runs.{runs_on}
use Rattle.session.proofs.state.Session.run_on.Given as goal

-- the rest of the run is the whole run
abbrev pub invariant-loop-done : goal.invariant-loop-done
invariant-loop-done g l =
    (runs_on g.P.Processor.rules (l.count - l.done) l.done (snapshot l.self (g.B.Bus.view l.bus) l.journal)
    ≡ runs_on g.P.Processor.rules l.count 0 (snapshot l.initial.self (g.B.Bus.view l.initial.bus) l.initial.journal))
    × (g.B.Bus.places l.bus ≡ g.B.Bus.places l.initial.bus)
    × (l.self.count + (l.count - l.done) ≤ 4000000000)
