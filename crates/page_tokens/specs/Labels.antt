use Rattle.std.specs.Prelude.{ℕ, cond, List, [], ◌∷◌, drop, Some, None, Option}
use Rattle.page_tokens.specs.declared.name.Name.{Name}
use Rattle.page_tokens.specs.Symbols.{Symbol, Piece, first_token, word_in, is_colon}

-- the name of a line: the first token, where a colon follows it
abbrev pub label_in : List Symbol → Option Name
label_in [] = None
label_in (s ∷ []) = None
label_in (s ∷ t ∷ ts) = cond (is_colon t) (word_in s) None

-- what follows it
abbrev pub past_label : Option Name → List Symbol → List Symbol
past_label None ss = ss
past_label (Some n) ss = drop 2 ss

-- the bytes after a first token
abbrev pub past_piece : List ℕ → Option Piece → List ℕ
past_piece bs None = bs
past_piece bs (Some p) = p.1

abbrev pub past_token : List ℕ → List ℕ
past_token bs = past_piece bs (first_token bs)
