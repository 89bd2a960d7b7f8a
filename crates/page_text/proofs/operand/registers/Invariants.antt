use Rattle.std.proofs.Common.{◌≡◌, ◌-◌, ◌≤◌, length}
use Rattle.page_text.specs.Grammar.{rest, registers}
use Rattle.page_text.proofs.RegisterLaws.{left_registers, after, numbers}
use Rattle.page_text.proofs.operand.registers.Given as goal

-- what is read so far, and what is left
abbrev pub invariant-loop-i : goal.invariant-loop-i
invariant-loop-i g l =
    (length l.place-items ≡ l.i-end)
    × (l.i ≤ l.i-end)
    × (registers l.i-end (rest l.fn.tokens) ≡ after (numbers l.i l.place-items) (left_registers l.i (l.i-end - l.i) (rest l.tokens)))
