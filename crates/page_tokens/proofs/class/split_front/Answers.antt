use Rattle.std.proofs.Common.{◌≡◌, take, drop, rules, tests, ap, ◌∙◌}
use Rattle.std.specs.List.{prefix_len}
use Rattle.std.proofs.lemmas.Iterator.{YieldsList-from_slice}
use Rattle.std.proofs.lemmas.Iterator.Search.{YieldsList-from_take_while}
use Rattle.std.proofs.lemmas.Iterator.Consumers.{count_from_yields_List}
use Rattle.std.proofs.lemmas.List.Folds.{length-prefix_len}
use Rattle.page_tokens.specs.Classes.{of_class}
use Rattle.page_tokens.proofs.class.split_front.Goals as goal

pub returns : goal.returns
returns c =
    let bs = c.args.bytes.now in
    let class = of_class c.args.class in
    let n : c.count-size.result ≡ prefix_len class bs =
    count_from_yields_List c.take_while.result c.count-size.result c.count-size.ensures.ran
    (YieldsList-from_take_while _ class (YieldsList-from_slice bs cc) c.take_while.ensures.closure c.take_while.ensures.done (λ x b q k. search (rules, tests)))
    ∙ length-prefix_len class bs in
    record { front = c.split_at.ensures.front ∙ ap (λ k. take k bs) n; left = c.split_at.ensures.back ∙ ap (λ k. drop k bs) n }
