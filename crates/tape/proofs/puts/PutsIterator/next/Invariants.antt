use Rattle.std.proofs.Common.{◌≡◌, length}
use Rattle.tape.specs.Puts.{puts_from}
use Rattle.tape.proofs.puts.PutsIterator.next.Given as goal

-- the words that are left put what all of them put
abbrev pub invariant-loop-word : goal.invariant-loop-word
invariant-loop-word l =
    puts_from l.self.cursor.place l.self.rest.now ≡ puts_from l.initial.self.cursor.place l.initial.self.rest.now

abbrev pub decreases-loop-word : goal.decreases-loop-word
decreases-loop-word l = length l.self.rest.now
