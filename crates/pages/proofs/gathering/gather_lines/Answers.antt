use Rattle.std.proofs.Common.{◌≡◌, ◌+◌, [], ◌∷◌, ap, ◌∙◌, rules}
use Rattle.std.proofs.lemmas.Result.{err_from_is_err_and}
use Rattle.shelf.proofs.SliceVecLaws.{holds_on, holds_all}
use Rattle.page_tokens.specs.Lines.{lines}
use Rattle.pages.specs.Page.{gather_answer}
use Rattle.pages.proofs.PageLaws.{page_first, page_none}
use Rattle.pages.proofs.GatherLaws.{gathers_more, gathers_refused, gathers_all}
use Rattle.pages.proofs.gathering.gather_lines.Goals as goal

pub loop-i-preserved : goal.loop-i-preserved
loop-i-preserved c =
    let l = c.loop-i in
    let old = l.i-iterator in
    let new = c.next.new.self in
    let first : lines old.iter.rest.now ≡ c.in-Some.line.now ∷ lines new.iter.rest.now = search rules in
    let next : new.count ≡ old.count + 1 = search rules in
    let e = c.in_ok-size.ensures.gathers in
    record {
      can = search rules;
      ends = search rules;
      gathers = rw next (gathers_more _ _ _ _ _ _ l.invariant.gathers _ _ _ _ _ l.invariant.slots (page_first _ _ _ first) e.0);
      slots = e.1.slots ∙ l.invariant.slots;
      holds = holds_on _ _ _ _ _ l.invariant.holds e.1 e.2;
    }

pub returns-in_err-size-clause-answer : goal.returns-in_err-size-clause-answer
returns-in_err-size-clause-answer c =
    let l = c.loop-i in
    let old = l.i-iterator in
    let new = c.next.new.self in
    let first : lines old.iter.rest.now ≡ c.in-Some.line.now ∷ lines new.iter.rest.now = search rules in
    let here : c.in-Some.i ≡ old.count = search rules in
    let p = err_from_is_err_and c.from_residual.result c.from_residual.ensures.1 in
    let refused = rw here at c.in_err-size.ensures.gathers in
    rw (p.1, p.2) (ap gather_answer (gathers_refused _ _ _ _ _ _ l.invariant.gathers _ _ _ _ l.invariant.slots (page_first _ _ new.iter.rest.now first) refused))

pub returns-clause-answer : goal.returns-clause-answer
returns-clause-answer c =
    let l = c.loop-i in
    let none : lines l.i-iterator.iter.rest.now ≡ [] = search rules in
    let all = gathers_all _ _ _ _ _ _ l.invariant.gathers (page_none _ none) in
    rw (c.len.ensures, all)

pub returns-clause-slots : goal.returns-clause-slots
returns-clause-slots c =
    let l = c.loop-i in
    let none : lines l.i-iterator.iter.rest.now ≡ [] = search rules in
    let all = gathers_all _ _ _ _ _ _ l.invariant.gathers (page_none _ none) in
    let kept = holds_all _ _ _ l.invariant.holds in
    rw all (search rules)
