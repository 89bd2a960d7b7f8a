use Rattle.std.specs.Prelude.{Bool, true, false, ◌&&◌, List, [], ◌∷◌, replicate, Option, ◌==◌}
use Rattle.std.specs.List.{find}
use Rattle.page_tokens.specs.declared.name.Name.{Name}
use Rattle.page_tokens.specs.Names.{same_name}
use Rattle.pages.specs.declared.label.Label.{Label}

-- an empty slot
abbrev pub no_label : Label
no_label = record { name = record { letters = replicate 32 32 }; address = 0; room = 0 }

abbrev pub same_label : Label → Label → Bool
same_label l m = same_name l.name m.name && l.address == m.address && l.room == m.room

-- the label with a name
abbrev pub find_label : List Label → Name → Option Label
find_label ls n = find (λ l. same_name l.name n) ls

-- whether slots begin with these labels
abbrev pub begins_with : List Label → List Label → Bool
begins_with [] slots = true
begins_with (l ∷ ls) [] = false
begins_with (l ∷ ls) (s ∷ slots) = same_label l s && begins_with ls slots
