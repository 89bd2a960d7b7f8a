use Rattle.std.proofs.Common.{◌++◌, map, length, drop, replicate, ap, ◌∙◌}
use Rattle.std.specs.Char.{to_ascii_lowercase}
use Rattle.page_tokens.proofs.NameLaws.{lowered}
use Rattle.page_tokens.proofs.name.Name.of.Goals as goal

pub returns : goal.returns
returns c =
    let w = c.args.word.now in
    ap (λ ls. record { letters = ls })
    (c.make_ascii_lowercase.ensures.after
    ∙ (ap (λ ls. map to_ascii_lowercase (ls ++ drop (length w) (replicate 32 32))) c.copy_from_slice.ensures.after ∙ lowered w))
