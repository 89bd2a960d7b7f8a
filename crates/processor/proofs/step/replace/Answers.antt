use Rattle.std.proofs.Common.{rules}
use Rattle.processor.proofs.Undone.{refused_written}
use Rattle.processor.proofs.step.replace.Goals as goal

pub returns-in_err-old-clause-answer : goal.returns-in_err-old-clause-answer
returns-in_err-old-clause-answer g c = search (rules, refused_written)
