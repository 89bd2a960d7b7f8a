use Rattle.std.proofs.Common.{◌≡◌, ◌-◌, ◌<◌, ◌≤◌, length}
use Rattle.session.specs.Snapshots.{snapshot}
use Rattle.session.specs.Backs.{backs_on}
use Rattle.session.proofs.state.Session.back_on.Given as goal

-- the rest of the back is the whole back
abbrev pub invariant-loop-done : goal.invariant-loop-done
invariant-loop-done g l =
    (backs_on (l.count - l.done) l.done (snapshot l.self (g.B.Bus.view l.bus) l.journal)
    ≡ backs_on l.count 0 (snapshot l.initial.self (g.B.Bus.view l.initial.bus) l.journal))
    × (g.B.Bus.places l.bus ≡ g.B.Bus.places l.initial.bus)
    × (l.count - l.done ≤ l.self.journal.used)
    × (0 < l.count → l.self.journal.used ≤ length l.journal)
