use Rattle.std.specs.Prelude.{ℕ, Bool, not, ◌&&◌, ◌||◌, ◌==◌, nat_le}
use Rattle.page_tokens.specs.declared.class.Class.{Class}
use Rattle.page_tokens.specs.declared.class.Class.TheVariants.{Blank, NameStart, NamePart, Digit, Letter, InLine}

-- from low to high, both included
abbrev pub between : ℕ → ℕ → ℕ → Bool
between low high b = nat_le low b && nat_le b high

-- which bytes are of a class: 9, 13 and 32 are blanks; a to z are 97 to 122, A to Z 65 to 90, _ is 95, 0 to 9 are 48 to 57; the quote is 34; 10 ends a line
abbrev pub of_class : Class → ℕ → Bool
of_class Blank b = b == 9 || b == 13 || b == 32
of_class NameStart b = between 97 122 b || between 65 90 b || b == 95
of_class NamePart b = between 97 122 b || between 65 90 b || b == 95 || between 48 57 b
of_class Digit b = between 48 57 b
of_class Letter b = between 32 126 b && not (b == 34)
of_class InLine b = not (b == 10)
