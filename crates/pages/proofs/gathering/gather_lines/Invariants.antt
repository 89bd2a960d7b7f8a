use Rattle.std.proofs.Common.{◌≡◌, ◌+◌, [], length}
use Rattle.shelf.specs.SliceVecs.{items, NowHolds}
use Rattle.pages.specs.Page.{gathers, page}
use Rattle.pages.proofs.gathering.gather_lines.Given as goal

-- the lines that are left gather to what all do, from the labels gathered so far
abbrev pub invariant-loop-i : goal.invariant-loop-i
invariant-loop-i l = record {
  can : (goal.iterator-loop-i).can_next l.i-iterator;
  ends : (goal.iterator-loop-i).is_finite l.i-iterator;
  gathers :
      gathers (length l.fn.slots) (page l.i-iterator.iter.rest.now) (items l.labels) l.size (l.i-iterator.count + 1)
      ≡ gathers (length l.fn.slots) (page l.text) [] 0 1;
  slots : length l.labels.slots.now ≡ length l.fn.slots;
  holds : NowHolds l.initial.labels l.labels (items l.labels);
}
