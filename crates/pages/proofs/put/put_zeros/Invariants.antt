use Rattle.std.proofs.Common.{◌++◌, replicate}
use Rattle.shelf.specs.SliceVecs.{items, NowHolds}
use Rattle.pages.proofs.put.put_zeros.Given as goal

abbrev pub invariant-loop-done : goal.invariant-loop-done
invariant-loop-done l = NowHolds l.initial.program l.program (items l.initial.program ++ replicate l._done 0)
