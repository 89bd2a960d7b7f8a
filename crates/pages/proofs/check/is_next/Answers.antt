use Rattle.std.proofs.Common.{◌≤◌, length, rules, sym, ◌∙◌}
use Rattle.std.proofs.lemmas.Bool.{le-ltb}
use Rattle.pages.proofs.HeldLaws.{begins_more, begins_past}
use Rattle.pages.proofs.check.is_next.Goals as goal

pub returns-then-found-slots : goal.returns-then-found-slots
returns-then-found-slots c = search (rules, begins_more)

pub returns-else-found-slots : goal.returns-else-found-slots
returns-else-found-slots c =
    let none : length c.args.slots.now ≤ c.args.found = search rules in
    le-ltb c.args.found (length c.args.slots.now) none ∙ sym (begins_past c.args.found c.args.slots.now c.args.label none)
