use Rattle.std.proofs.Common.{◌≡◌, ◌∷◌, ◌<◌, length, rules, tests}
use Rattle.std.proofs.lemmas.List.{length-drop}
use Rattle.page_tokens.specs.Lines.{lines}
use Rattle.page_tokens.proofs.LineLaws.{lines_first}
use Rattle.page_tokens.proofs.line.LinesIterator.next.Goals as goal

pub returns-clause-steps : goal.returns-clause-steps
returns-clause-steps c =
    let some : 0 < length c.args.self.now.rest.now = search (rules, tests) in
    let first : lines c.args.self.now.rest.now ≡ c.split_front.result.0.now ∷ lines c.past_end-self.result.now = search (rules, lines_first) in
    (first, search rules)

pub returns-clause-goes : goal.returns-clause-goes
returns-clause-goes c =
    let some : 0 < length c.args.self.now.rest.now = search (rules, tests) in
    let shorter : length c.past_end-self.result.now < length c.args.self.now.rest.now = search (rules, length-drop) in
    search rules
