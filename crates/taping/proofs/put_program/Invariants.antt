use Rattle.std.proofs.Common.{◌++◌, take}
use Rattle.shelf.specs.SliceVecs.{items, NowHolds}
use Rattle.taping.proofs.put_program.Given as goal

abbrev pub invariant-loop-word : goal.invariant-loop-word
invariant-loop-word l = NowHolds l.initial.tape l.tape (items l.initial.tape ++ take l.word-index l.words)
