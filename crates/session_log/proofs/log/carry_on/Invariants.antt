use Rattle.std.proofs.Common.{◌≡◌, ◌++◌, take, drop}
use Rattle.session.specs.Snapshots.{snapshot}
use Rattle.session_log.specs.Serving.{log_after, log_lines}
use Rattle.session_log.proofs.log.carry_on.Given as goal

-- the rest of the log is the whole log
abbrev pub invariant-loop-line : goal.invariant-loop-line
invariant-loop-line g l =
    (log_after g.P.Processor.rules (drop l.line-index l.initial.lines) (snapshot l.session (g.B.Bus.view l.bus) l.journal)
    ≡ log_after g.P.Processor.rules l.initial.lines (snapshot l.initial.session (g.B.Bus.view l.initial.bus) l.initial.journal))
    × (take l.line-index l.lines ++ log_lines g.P.Processor.rules (g.B.Bus.places l.initial.bus) (drop l.line-index l.initial.lines) (snapshot l.session (g.B.Bus.view l.bus) l.journal)
    ≡ log_lines g.P.Processor.rules (g.B.Bus.places l.initial.bus) l.initial.lines (snapshot l.initial.session (g.B.Bus.view l.initial.bus) l.initial.journal))
    × (drop l.line-index l.lines ≡ drop l.line-index l.initial.lines)
    × (g.B.Bus.places l.bus ≡ g.B.Bus.places l.initial.bus)
