use Rattle.std.proofs.Common.{rules, tests}
use Rattle.std.proofs.lemmas.Iterator.{YieldsList-from_slice}
use Rattle.std.proofs.lemmas.Iterator.Search.{find_from_yields_List}
use Rattle.page_tokens.specs.Names.{same_name}
use Rattle.pages.specs.declared.label.Label.{Label}
use Rattle.pages.proofs.label.find.Goals as goal

pub returns : goal.returns
returns c =
    let n = c.args.name.now in
    let f = find_from_yields_List (λ (l : Label). same_name l.name n) _ _ c.find.result c.find.ensures.ran (YieldsList-from_slice c.args.labels.now cc) (λ x b q k. search (rules, tests)) in
    search rules
