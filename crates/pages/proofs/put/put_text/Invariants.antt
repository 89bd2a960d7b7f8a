use Rattle.std.proofs.Common.{◌++◌, take}
use Rattle.shelf.specs.SliceVecs.{items, NowHolds}
use Rattle.pages.proofs.put.put_text.Given as goal

abbrev pub invariant-loop-letter : goal.invariant-loop-letter
invariant-loop-letter l = NowHolds l.initial.program l.program (items l.initial.program ++ take l.letter-index l.quoted)
