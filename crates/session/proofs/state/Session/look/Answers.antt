use Rattle.std.proofs.Common.{◌≡◌, ℕ, Ok, Err, Result, refl, ◌∙◌}
use Rattle.processor.specs.Views.{Fault, Places, answer, look}
use Rattle.session.specs.Snapshots.{told_answer}
use Rattle.session.specs.Looks.{cell_or}
use Rattle.session.proofs.state.Session.look.Goals as goal

told_cell : (p : Places) (o : Result ℕ Fault) → answer p o ≡ told_answer p (cell_or o)
told_cell p (Ok w) = refl
told_cell p (Err f) = refl

pub returns-in-Cell : goal.returns-in-Cell
returns-in-Cell g c =
    rw c.in-Cell.is (c.look.ensures ∙ told_cell (g.B.Bus.places c.args.bus.now) (look (g.B.Bus.view c.args.bus.now) c.in-Cell.side c.in-Cell.at))
