use Rattle.std.proofs.Common.{length, sym, ap, ◌∙◌}
use native.Mathlib.Nat.{sub-zero}
use Rattle.scoring.specs.Scores.{score_answer, view_scored}
use Rattle.scoring.proofs.OpenLaws.{tape_made, page_ran}
use Rattle.scoring.proofs.scores.score.Goals as goal

pub slice_bounds-run_out-end : goal.slice_bounds-run_out-end
slice_bounds-run_out-end g c = let e = c.in_ok-size.ensures in (tape_made _ _ _ _ e.answer e.tape).1

pub returns : goal.returns
returns g c =
    let a = c.args in
    let e = c.in_ok-size.ensures in
    let run = c.run_out.ensures in
    let p = g.B.Bus.places a.bus.now in
    let v = g.B.Bus.view a.bus.now in
    let j = length a.journal.now in
    let made = (tape_made _ _ _ _ e.answer e.tape).0 in
    record {
      answer = rw sub-zero at run.answer ∙ ap (score_answer p j a.stack v) (sym made);
      view = rw sub-zero at run.view ∙ ap (view_scored p j a.stack v) (sym made);
      page = page_ran p j a.stack v _ a.text.now _ _ e.page (rw sub-zero at run.page);
      tape = e.tape;
      left = e.left;
      places = run.places;
    }
