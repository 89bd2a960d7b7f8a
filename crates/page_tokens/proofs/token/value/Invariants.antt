use Rattle.std.proofs.Common.{◌≡◌, ◌≤◌, drop}
use Rattle.page_tokens.specs.Symbols.{decimal}
use Rattle.page_tokens.proofs.token.value.Given as goal

-- the digits that are left make the whole; a byte is at most 255, so that five of them stay far below 2^32
abbrev pub invariant-loop-digit : goal.invariant-loop-digit
invariant-loop-digit l =
    (decimal l.value (drop l.digit-index l.digits) ≡ decimal 0 l.digits)
    × (l.digit-index ≤ 0 → l.value ≤ 0)
    × (l.digit-index ≤ 1 → l.value ≤ 207)
    × (l.digit-index ≤ 2 → l.value ≤ 2277)
    × (l.digit-index ≤ 3 → l.value ≤ 22977)
    × (l.digit-index ≤ 4 → l.value ≤ 229977)
