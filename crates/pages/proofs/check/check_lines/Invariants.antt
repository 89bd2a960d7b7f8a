use Rattle.std.proofs.Common.{◌≡◌, ℕ, ◌≤◌, [], length, take}
use Rattle.pages.specs.Page.{gathers, page}
use Rattle.pages.proofs.check.check_lines.Given as goal

-- the lines that are left gather to what all do, from the labels found so far
abbrev pub invariant-loop-line : goal.invariant-loop-line
invariant-loop-line l = record {
  can : (goal.iterator-loop-line).can_next l.line-iterator;
  ends : (goal.iterator-loop-line).is_finite l.line-iterator;
  gathers : (i : ℕ) × (gathers (length l.slots) (page l.line-iterator.rest.now) (take l.so_far.labels l.slots) l.so_far.size i
      ≡ gathers (length l.slots) (page l.text) [] 0 1);
  within : l.so_far.labels ≤ length l.slots;
}
