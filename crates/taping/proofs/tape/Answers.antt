use Rattle.std.proofs.Common.{◌+◌, length, take, drop, rules}
use Rattle.taping.proofs.WriteLaws.{held, narrow_front}
use Rattle.taping.proofs.tape.Goals as goal

pub returns-clause-holds : goal.returns-clause-holds
returns-clause-holds c =
    let size = c.args.placed.size in
    let ws = take size c.args.words.now in
    held ws (drop (length ws + 2) c.args.tape.now) c.write.new.tape c.write.result (narrow_front size c.args.words.now (λ i. (c.type_inv.words i).fits)) (search rules) (search rules)
