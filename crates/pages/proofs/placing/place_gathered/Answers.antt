use Rattle.std.proofs.Common.{◌≡◌, length, Some, None, Err, sym, ap, ◌∙◌, rules}
use Rattle.std.proofs.lemmas.Result.{err_from_is_err_and}
use Rattle.std.proofs.lemmas.List.{length-take-le}
use Rattle.refusal.specs.declared.Cause.TheVariants.{NotGathered}
use Rattle.refusal.specs.Numbers.{refused}
use Rattle.pages.specs.Page.{gathering}
use Rattle.pages.specs.Program.{held, place_answer}
use Rattle.pages.proofs.FoundLaws.{found_all, not_found, found_on, found_places, found_full}
use Rattle.pages.proofs.placing.place_gathered.Goals as goal

pub slice_bounds-place_lines-end : goal.slice_bounds-place_lines-end
slice_bounds-place_lines-end c =
    let a = c.args in
    let e : Some c.in_ok-found.found ≡ held a.slots.now (gathering a.text.now (length a.slots.now)) = search rules in
    let within = (found_all a.slots.now (gathering a.text.now (length a.slots.now)) _ e).within in
    sym (length-take-le c.in_ok-found.found.labels a.slots.now within)

pub place_lines-requires : goal.place_lines-requires
place_lines-requires c =
    let a = c.args in
    let n = length a.words.now in
    let e : Some c.in_ok-found.found ≡ held a.slots.now (gathering a.text.now (length a.slots.now)) = search rules in
    let f = found_all a.slots.now (gathering a.text.now (length a.slots.now)) _ e in
    found_on a.text.now a.slots.now _ n f c.if-words-found.false

pub returns-in_err-found : goal.returns-in_err-found
returns-in_err-found c =
    let a = c.args in
    let e : None ≡ held a.slots.now (gathering a.text.now (length a.slots.now)) = search rules in
    let none = not_found a.text.now a.slots.now (length a.words.now) (gathering a.text.now (length a.slots.now)) e in
    let p = err_from_is_err_and c.from_residual.result c.from_residual.ensures.1 in
    let why : c.in_err-found.field-0.0 ≡ refused NotGathered 0 = search rules in
    record { answer = rw (p.1, p.2) (ap Err why ∙ ap place_answer (sym none)); words = rw p.1 tt }

pub returns-then-words-found : goal.returns-then-words-found
returns-then-words-found c =
    let a = c.args in
    let e : Some c.in_ok-found.found ≡ held a.slots.now (gathering a.text.now (length a.slots.now)) = search rules in
    let f = found_all a.slots.now (gathering a.text.now (length a.slots.now)) _ e in
    let full = found_full a.text.now a.slots.now _ (length a.words.now) f c.if-words-found.true in
    record { answer = ap Err c.at-then-words-found.ensures ∙ ap place_answer (sym full); words = tt }

pub returns : goal.returns
returns c =
    let a = c.args in
    let e : Some c.in_ok-found.found ≡ held a.slots.now (gathering a.text.now (length a.slots.now)) = search rules in
    let f = found_all a.slots.now (gathering a.text.now (length a.slots.now)) _ e in
    let all = found_places a.text.now a.slots.now _ (length a.words.now) f c.if-words-found.false in
    let e = c.place_lines.ensures in
    record { answer = rw all e.answer; words = rw all e.words }
