use Rattle.std.proofs.Common.{◌≡◌, ℕ, ◌+◌, ◌%◌, rules, ◌∙◌}
use Rattle.std.specs.List.{fold}
use Rattle.taping.proofs.SumLaws.{fold_is_checksum}
use Rattle.taping.proofs.add_up.Goals as goal

pub returns : goal.returns
returns c =
    let folded : c.fold.result ≡ fold (λ (s w : ℕ). (s + w) % 65536) 0 c.args.words.now = search rules in
    folded ∙ fold_is_checksum c.args.words.now
