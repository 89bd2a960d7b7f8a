use Rattle.std.proofs.Common.{◌≡◌, ◌+◌, [], ◌∷◌, List, length, ap, subst, rules, arith}
use Rattle.std.proofs.lemmas.Result.{err_from_is_err_and}
use Rattle.shelf.specs.SliceVecs.{items}
use Rattle.shelf.proofs.SliceVecLaws.{holds_on, holds_all}
use Rattle.page_tokens.specs.Lines.{lines}
use Rattle.page_text.specs.Sayings.{Reading}
use Rattle.pages.specs.Program.{GatheredOn, place_answer}
use Rattle.pages.proofs.PageLaws.{page_first, page_none}
use Rattle.pages.proofs.OnLaws.{line_fits, gathered_on}
use Rattle.pages.proofs.PlaceLaws.{line_done, places_more, places_refused, places_all}
use Rattle.pages.proofs.placing.place_lines.Goals as goal

pub place_line-requires : goal.place_line-requires
place_line-requires c =
    let l = c.loop-i in
    let new = c.next.new.self in
    let first : lines l.i-iterator.iter.rest.now ≡ c.in-Some.line.now ∷ lines new.iter.rest.now = search rules in
    line_fits _ _ _ _ _ _ _ (subst (λ (rs : List Reading). GatheredOn rs c.args.labels.now l.above (length (items l.program)) (length l.program.slots.now) (l.i-iterator.count + 1)) (page_first _ _ new.iter.rest.now first) l.invariant.on)

pub loop-i-preserved : goal.loop-i-preserved
loop-i-preserved c =
    let l = c.loop-i in
    let old = l.i-iterator in
    let new = c.next.new.self in
    let first : lines old.iter.rest.now ≡ c.in-Some.line.now ∷ lines new.iter.rest.now = search rules in
    let next : new.count ≡ old.count + 1 = search rules in
    let here : c.in-Some.i ≡ old.count = search rules in
    let e = rw here at c.in_ok-above.ensures in
    let on = subst (λ (rs : List Reading). GatheredOn rs c.args.labels.now l.above (length (items l.program)) (length l.program.slots.now) (old.count + 1)) (page_first _ _ new.iter.rest.now first) l.invariant.on in
    record {
      can = search rules;
      ends = search rules;
      places = rw next (places_more _ _ _ _ _ _ l.invariant.places _ _ _ _ (page_first _ _ new.iter.rest.now first) (line_done _ _ _ e.words.0) e.names);
      on = rw (next, e.names, e.words.2, e.words.1.slots) (gathered_on _ _ _ _ _ _ _ on);
      holds = holds_on _ _ _ _ _ l.invariant.holds e.words.1 (omega (arith, e.words.2));
    }

pub returns-in_err-above-clause-answer : goal.returns-in_err-above-clause-answer
returns-in_err-above-clause-answer c =
    let l = c.loop-i in
    let old = l.i-iterator in
    let new = c.next.new.self in
    let first : lines old.iter.rest.now ≡ c.in-Some.line.now ∷ lines new.iter.rest.now = search rules in
    let here : c.in-Some.i ≡ old.count = search rules in
    let p = err_from_is_err_and c.from_residual.result c.from_residual.ensures.1 in
    let refused = rw here at c.in_err-above.ensures.words in
    rw (p.1, p.2) (ap place_answer (places_refused _ _ _ _ _ _ l.invariant.places _ _ _ (page_first _ _ new.iter.rest.now first) refused))

pub returns-clause-answer : goal.returns-clause-answer
returns-clause-answer c =
    let l = c.loop-i in
    let none : lines l.i-iterator.iter.rest.now ≡ [] = search rules in
    let all = places_all _ _ _ _ _ _ l.invariant.places (page_none _ none) in
    rw (c.len.ensures, all)

pub returns-clause-words : goal.returns-clause-words
returns-clause-words c =
    let l = c.loop-i in
    let none : lines l.i-iterator.iter.rest.now ≡ [] = search rules in
    let all = places_all _ _ _ _ _ _ l.invariant.places (page_none _ none) in
    let kept = holds_all _ _ _ l.invariant.holds in
    rw all (search rules)
