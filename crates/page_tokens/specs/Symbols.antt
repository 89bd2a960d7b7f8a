use Rattle.std.specs.Prelude.{ℕ, Bool, true, false, zero, suc, ◌+◌, ◌-◌, ◌*◌, cond, ◌&&◌, List, [], ◌∷◌, length, take, drop, Some, None, Option, ◌==◌, nat_le}
use Rattle.std.specs.List.{prefix_len}
use Rattle.std.specs.Borrow.{Bor}
use Rattle.std.specs.Option.{option_map}
use Rattle.std.specs.Str.{bytes_eq}
use Rattle.page_tokens.specs.declared.class.Class.TheVariants.{Blank, NameStart, NamePart, Digit, Letter}
use Rattle.page_tokens.specs.declared.name.Name.{Name}
use Rattle.page_tokens.specs.declared.token.Token.{Token}
use Rattle.page_tokens.specs.declared.token.Token.TheVariants as token
use Rattle.page_tokens.specs.Classes.{between, of_class}
use Rattle.page_tokens.specs.Names.{named, same_name}

-- a token as it is meant: what a quoted part says, and not where it lies
pub data Symbol : Type 0 where
  word : Name → Symbol
  number : ℕ → Symbol
  colon : Symbol
  comma : Symbol
  plus : Symbol
  quoted : List ℕ → Symbol
  malformed : Symbol

abbrev pub symbol_of : Token → Symbol
symbol_of (token.Word n) = word n
symbol_of (token.Number n) = number n
symbol_of token.Colon = colon
symbol_of token.Comma = comma
symbol_of token.Plus = plus
symbol_of (token.Quoted q) = quoted q.now
symbol_of token.Malformed = malformed

-- what kind of token a token is
abbrev pub word_in : Symbol → Option Name
word_in (word n) = Some n
word_in (number n) = None
word_in colon = None
word_in comma = None
word_in plus = None
word_in (quoted q) = None
word_in malformed = None

abbrev pub number_in : Symbol → Option ℕ
number_in (word n) = None
number_in (number n) = Some n
number_in colon = None
number_in comma = None
number_in plus = None
number_in (quoted q) = None
number_in malformed = None

abbrev pub is_colon : Symbol → Bool
is_colon (word n) = false
is_colon (number n) = false
is_colon colon = true
is_colon comma = false
is_colon plus = false
is_colon (quoted q) = false
is_colon malformed = false

abbrev pub is_comma : Symbol → Bool
is_comma (word n) = false
is_comma (number n) = false
is_comma colon = false
is_comma comma = true
is_comma plus = false
is_comma (quoted q) = false
is_comma malformed = false

abbrev pub is_plus : Symbol → Bool
is_plus (word n) = false
is_plus (number n) = false
is_plus colon = false
is_plus comma = false
is_plus plus = true
is_plus (quoted q) = false
is_plus malformed = false

abbrev pub is_malformed : Symbol → Bool
is_malformed (word n) = false
is_malformed (number n) = false
is_malformed colon = false
is_malformed comma = false
is_malformed plus = false
is_malformed (quoted q) = false
is_malformed malformed = true

abbrev pub letters_in : Symbol → Option (List ℕ)
letters_in (word n) = None
letters_in (number n) = None
letters_in colon = None
letters_in comma = None
letters_in plus = None
letters_in (quoted q) = Some q
letters_in malformed = None

-- whether two tokens say the same
abbrev pub some_in : {A : Type 0} → (A → Bool) → Option A → Bool
some_in f None = false
some_in f (Some a) = f a

abbrev pub same_symbol : Symbol → Symbol → Bool
same_symbol (word n) s = some_in (same_name n) (word_in s)
same_symbol (number n) s = some_in (λ m. n == m) (number_in s)
same_symbol colon s = is_colon s
same_symbol comma s = is_comma s
same_symbol plus s = is_plus s
same_symbol (quoted q) s = some_in (bytes_eq q) (letters_in s)
same_symbol malformed s = is_malformed s

-- what stands at the front of some bytes, and the bytes after it
abbrev pub Piece : Type 0
Piece = Symbol × List ℕ

abbrev pub piece_of : Token × Bor (List ℕ) → Piece
piece_of p = (symbol_of p.0, p.1.now)

abbrev pub front_of : Option (Token × Bor (List ℕ)) → Option Piece
front_of o = option_map piece_of o

-- a malformed token takes all the bytes that are left
abbrev pub spoiled : Piece
spoiled = (malformed, [])

-- the number of decimal digits, read after others worth n
abbrev pub decimal : ℕ → List ℕ → ℕ
decimal n [] = n
decimal n (d ∷ ds) = decimal (n * 10 + (d - 48)) ds

-- after #, one to five digits
abbrev pub number_of : ℕ → List ℕ → Piece
number_of n bs = cond (between 1 5 n) (number (decimal 0 (take n bs)), drop n bs) spoiled

abbrev pub number_piece : List ℕ → Piece
number_piece bs = number_of (prefix_len (of_class Digit) bs) bs

-- after a quote, letters up to another
abbrev pub quoted_by : List ℕ → List ℕ → Piece
quoted_by q [] = spoiled
quoted_by q (b ∷ bs) = cond (b == 34) (quoted q, bs) spoiled

abbrev pub quoted_of : ℕ → List ℕ → Piece
quoted_of n bs = quoted_by (take n bs) (drop n bs)

abbrev pub quoted_piece : List ℕ → Piece
quoted_piece bs = quoted_of (prefix_len (of_class Letter) bs) bs

-- a name: a letter or _ first, at most 32 bytes
abbrev pub word_by : List ℕ → List ℕ → Piece
word_by [] bs = spoiled
word_by (w ∷ ws) bs = cond (of_class NameStart w && nat_le (length (w ∷ ws)) 32) (word (named (w ∷ ws)), bs) spoiled

abbrev pub word_of : ℕ → List ℕ → Piece
word_of n bs = word_by (take n bs) (drop n bs)

abbrev pub word_piece : List ℕ → Piece
word_piece bs = word_of (prefix_len (of_class NamePart) bs) bs

-- by the first byte, which is no blank: : 58, ; 59, # 35, comma 44, + 43, quote 34; a comment is the line's end
abbrev pub piece_by : ℕ → List ℕ → Option Piece
piece_by b bs =
    cond (b == 58) (Some (colon, bs))
    (cond (b == 59) None
    (cond (b == 35) (Some (number_piece bs))
    (cond (b == 44) (Some (comma, bs))
    (cond (b == 43) (Some (plus, bs))
    (cond (b == 34) (Some (quoted_piece bs)) (Some (word_piece (b ∷ bs))))))))

abbrev pub front_piece : List ℕ → Option Piece
front_piece [] = None
front_piece (b ∷ bs) = piece_by b bs

-- blanks stand before a token
abbrev pub first_piece : List ℕ → Option Piece
first_piece bs = front_piece (drop (prefix_len (of_class Blank) bs) bs)

-- the first token of some bytes; the same, shut for those that need not look inside
unfoldable pub first_token : List ℕ → Option Piece
first_token bs = first_piece bs

-- the token of a piece, and what the bytes after it give
abbrev pub piece_first : Option Piece → (List ℕ → List Symbol) → List Symbol
piece_first None f = []
piece_first (Some p) f = p.0 ∷ f p.1

-- the tokens of some bytes, at most n of them
abbrev pub symbols_in : ℕ → List ℕ → List Symbol
symbols_in zero bs = []
symbols_in (suc n) bs = piece_first (first_token bs) (symbols_in n)

-- all of them: each token takes a byte or more
unfoldable pub symbols : List ℕ → List Symbol
symbols bs = symbols_in (length bs) bs
