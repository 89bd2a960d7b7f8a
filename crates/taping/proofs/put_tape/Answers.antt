use Rattle.std.proofs.Common.{ℕ, ◌+◌, ◌∙◌, subst}
use Rattle.shelf.specs.Slots.{records_pushed}
use Rattle.shelf.specs.SliceVecs.{NowHolds}
use Rattle.taping.proofs.WriteLaws.{tape_put}
use Rattle.taping.proofs.put_tape.Goals as goal

pub returns : goal.returns
returns c =
    let t = c.put_program.new.tape in
    let last = subst (λ (s : ℕ). NowHolds t c.push-2.new.self (records_pushed t.shelf.used t.slots.now (0xc000_0000 + s)))
    (c.from.ensures ∙ c.add_up.ensures) c.push-2.ensures.after in
    tape_put c.args.words.now _ _ _ _ c.requires c.push.ensures.after c.put_program.ensures last
