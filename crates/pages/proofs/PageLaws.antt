use Rattle.std.proofs.Common.{◌≡◌, ℕ, List, [], ◌∷◌, map, ap}
use Rattle.page_tokens.specs.Lines.{lines}
use Rattle.page_text.specs.Sayings.{line_read}
use Rattle.pages.specs.Page.{page}

-- a first line and those after it
pub page_first : (bytes line rest : List ℕ) → lines bytes ≡ line ∷ lines rest → page bytes ≡ line_read line ∷ page rest
unfolding page
page_first bytes line rest e = ap (map line_read) e

-- no line
pub page_none : (bytes : List ℕ) → lines bytes ≡ [] → page bytes ≡ []
unfolding page
page_none bytes e = ap (map line_read) e
