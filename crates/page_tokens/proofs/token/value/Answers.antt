use Rattle.std.proofs.Common.{rules}
use Rattle.page_tokens.proofs.TokenLaws.{decimal_more, decimal_all}
use Rattle.page_tokens.proofs.token.value.Goals as goal

pub loop-digit-preserved : goal.loop-digit-preserved
loop-digit-preserved c = search (rules, decimal_more)

pub returns : goal.returns
returns c = search (rules, decimal_all)
