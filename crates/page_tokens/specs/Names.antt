use Rattle.std.specs.Prelude.{ℕ, ◌-◌, Bool, List, ◌++◌, map, length, replicate}
use Rattle.std.specs.Char.{to_ascii_lowercase}
use Rattle.std.specs.Str.{bytes_eq}
use Rattle.page_tokens.specs.declared.name.Name.{Name}

-- a name: its letters as small letters, filled up with blanks to 32
abbrev pub named : List ℕ → Name
named bs = record { letters = map to_ascii_lowercase bs ++ replicate (32 - length bs) 32 }

abbrev pub same_name : Name → Name → Bool
same_name m n = bytes_eq m.letters n.letters
