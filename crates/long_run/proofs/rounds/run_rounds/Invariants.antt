use Rattle.std.proofs.Common.{◌≡◌, ◌-◌}
use Rattle.session.specs.Snapshots.{snapshot}
use Rattle.icmc.specs.Steps.{machine_rules}
use Rattle.long_run.specs.Rounds.{rounds}
use Rattle.long_run.proofs.rounds.run_rounds.Given as goal

-- the rounds that are left make the whole
abbrev pub invariant-loop : goal.invariant-loop
invariant-loop g l =
    (rounds machine_rules (g.B.Bus.places l.initial.bus) 1000 (1000 - l.counter) (snapshot l.session (g.B.Bus.view l.bus) l.journal)
    ≡ rounds machine_rules (g.B.Bus.places l.initial.bus) 1000 1000 (snapshot l.initial.session (g.B.Bus.view l.initial.bus) l.initial.journal))
    × (g.B.Bus.places l.bus ≡ g.B.Bus.places l.initial.bus)
