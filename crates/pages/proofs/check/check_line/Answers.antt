use Rattle.std.proofs.Common.{rules, sym, ◌∙◌}
use Rattle.pages.proofs.CheckLaws.{ok_some, held_unnamed}
use Rattle.pages.proofs.check.check_line.Goals as goal

pub returns-in_default-clause-held : goal.returns-in_default-clause-held
returns-in_default-clause-held c =
    let g = c.in_ok-label.field-0 in
    let taken = ok_some c.add_line.result g (search rules) in
    held_unnamed c.args.slots.now c.args.so_far.labels g _ (sym c.add_line.ensures.gain ∙ taken) c.in_default.is c.requires
