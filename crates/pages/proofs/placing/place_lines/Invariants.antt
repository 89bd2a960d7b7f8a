use Rattle.std.proofs.Common.{◌≡◌, ◌+◌, [], length}
use Rattle.shelf.specs.SliceVecs.{items, NowHolds}
use Rattle.pages.specs.Page.{page}
use Rattle.pages.specs.Program.{GatheredOn, places}
use Rattle.pages.proofs.placing.place_lines.Given as goal

-- the lines that are left are placed to what all are, from the words put so far; they were gathered
abbrev pub invariant-loop-i : goal.invariant-loop-i
invariant-loop-i l = record {
  can : (goal.iterator-loop-i).can_next l.i-iterator;
  ends : (goal.iterator-loop-i).is_finite l.i-iterator;
  places :
      places l.labels (page l.i-iterator.iter.rest.now) l.above (items l.program) (l.i-iterator.count + 1) ≡ places l.labels (page l.text) 0 [] 1;
  on : GatheredOn (page l.i-iterator.iter.rest.now) l.labels l.above (length (items l.program)) (length l.program.slots.now) (l.i-iterator.count + 1);
  holds : NowHolds l.initial.program l.program (items l.program);
}
