use Rattle.std.proofs.Common.{◌≡◌, ◌+◌, [], ◌∷◌, rules, arith}
use Rattle.page_tokens.specs.Lines.{lines}
use Rattle.pages.proofs.PageLaws.{page_first, page_none}
use Rattle.pages.proofs.CheckLaws.{check_more, check_none, check_all}
use Rattle.pages.proofs.check.check_lines.Goals as goal

pub loop-line-init : goal.loop-line-init
loop-line-init c = record { can = search rules; ends = search rules; gathers = (1, search rules); within = omega arith }

pub check_line-requires : goal.check_line-requires
check_line-requires c = c.loop-line.invariant.within

pub loop-line-preserved : goal.loop-line-preserved
loop-line-preserved c =
    let l = c.loop-line in
    let new = c.next.new.self in
    let first : lines l.line-iterator.rest.now ≡ c.in-Some.line.now ∷ lines new.rest.now = search rules in
    let w = l.invariant.gathers in
    record {
      can = search rules;
      ends = search rules;
      gathers = (w.0 + 1, check_more c.args.slots.now _ _ _ _ w.0 _ w.1 _ _ _ (page_first _ _ new.rest.now first) c.in_ok-so_far.ensures.held);
      within = c.in_ok-so_far.ensures.within;
    }

pub returns : goal.returns
returns c =
    let l = c.loop-line in
    let w = l.invariant.gathers in
    let none : lines l.line-iterator.rest.now ≡ [] = search rules in
    check_all c.args.slots.now _ _ _ _ w.0 _ w.1 (page_none _ none) l.invariant.within

pub returns-in_err-so_far : goal.returns-in_err-so_far
returns-in_err-so_far c =
    let l = c.loop-line in
    let new = c.next.new.self in
    let first : lines l.line-iterator.rest.now ≡ c.in-Some.line.now ∷ lines new.rest.now = search rules in
    let w = l.invariant.gathers in
    rw c.from_residual.ensures (check_none c.args.slots.now _ _ _ _ w.0 _ w.1 _ _ (page_first _ _ new.rest.now first) c.in_err-so_far.ensures.held)
