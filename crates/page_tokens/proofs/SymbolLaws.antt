use Rattle.std.proofs.Common.{◌≡◌, ℕ, zero, suc, ◌<◌, ◌≤◌, ◌&&◌, Bor, eqb, leb, List, [], ◌∷◌, length, take, drop, Some, None, Option, IfSome, sym, refl, ap, ◌∙◌, arith}
use Rattle.std.specs.List.{prefix_len}
use Rattle.std.proofs.lemmas.List.{length-drop}
use Rattle.std.proofs.lemmas.Bool.{cond_both}
use Rattle.page_tokens.specs.declared.class.Class.TheVariants.{Blank, NameStart, NamePart, Digit, Letter}
use Rattle.page_tokens.specs.declared.token.Token.{Token}
use Rattle.page_tokens.specs.Classes.{between, of_class}
use Rattle.page_tokens.specs.Symbols.{Symbol, Piece, front_of, spoiled, number_piece, quoted_by, quoted_piece, word_by, word_piece, piece_by, front_piece, first_token, piece_first, symbols_in, symbols}

-- at most n bytes are left
abbrev Leaves : ℕ → Piece → Type 0
Leaves n p = length p.1 ≤ n

leaves_number : (bs : List ℕ) → Leaves (length bs) (number_piece bs)
leaves_number bs =
    let n = prefix_len (of_class Digit) bs in
    let d = length-drop n bs in
    cond_both (between 1 5 n) _ spoiled (Leaves (length bs)) (λ h. omega arith) (λ h. omega arith)

leaves_quoted : (bs : List ℕ) → Leaves (length bs) (quoted_piece bs)
leaves_quoted bs =
    let n = prefix_len (of_class Letter) bs in
    let d = length-drop n bs in
    by_quote (take n bs) (drop n bs) (length bs) (omega arith)
  where
    by_quote : (q cs : List ℕ) (m : ℕ) → length cs ≤ m → Leaves m (quoted_by q cs)
    by_quote q [] m h = omega arith
    by_quote q (c ∷ cs) m h = cond_both (eqb c 34) _ spoiled (Leaves m) (λ e. omega arith) (λ e. omega arith)

leaves_word : (b : ℕ) (bs : List ℕ) → Leaves (length bs) (word_piece (b ∷ bs))
leaves_word b bs = by_size (prefix_len (of_class NamePart) (b ∷ bs))
  where
    by_size : (n : ℕ) → Leaves (length bs) (word_by (take n (b ∷ bs)) (drop n (b ∷ bs)))
    by_size zero = omega arith
    by_size (suc n) =
        let d = length-drop n bs in
        cond_both (of_class NameStart b && leb (length (b ∷ take n bs)) 32) _ spoiled (Leaves (length bs)) (λ e. omega arith) (λ e. omega arith)

-- a token takes a byte or more
abbrev Takes : ℕ → Option Piece → Type 0
Takes n o = IfSome o (λ p. length p.1 < n)

takes_by : (b : ℕ) (bs : List ℕ) → Takes (length (b ∷ bs)) (piece_by b bs)
takes_by b bs =
    let P = Takes (length (b ∷ bs)) in
    let n = leaves_number bs in
    let q = leaves_quoted bs in
    let w = leaves_word b bs in
    cond_both (eqb b 58) _ _ P (λ h. omega arith) (λ h.
    cond_both (eqb b 59) _ _ P (λ h. tt) (λ h.
    cond_both (eqb b 35) _ _ P (λ h. omega arith) (λ h.
    cond_both (eqb b 44) _ _ P (λ h. omega arith) (λ h.
    cond_both (eqb b 43) _ _ P (λ h. omega arith) (λ h.
    cond_both (eqb b 34) _ _ P (λ h. omega arith) (λ h. omega arith))))))

takes_front : (bs : List ℕ) (m : ℕ) → length bs ≤ m → Takes m (front_piece bs)
takes_front [] m h = tt
takes_front (b ∷ bs) m h = weaker (piece_by b bs) (takes_by b bs)
  where
    weaker : (o : Option Piece) → Takes (length (b ∷ bs)) o → Takes m o
    weaker None k = tt
    weaker (Some p) k = omega arith

takes_first : (bs : List ℕ) → Takes (length bs) (first_token bs)
unfolding first_token
takes_first bs =
    let n = prefix_len (of_class Blank) bs in
    let d = length-drop n bs in
    takes_front (drop n bs) (length bs) (omega arith)

-- one token more or less allowed for makes no difference, where there are bytes enough
enough_by : (o : Option Piece) (f g : List ℕ → List Symbol) (m : ℕ) → Takes m o → ((bs : List ℕ) → length bs < m → f bs ≡ g bs) → piece_first o f ≡ piece_first o g
enough_by None f g m t h = refl
enough_by (Some p) f g m t h = ap (λ (ss : List Symbol). p.0 ∷ ss) (h p.1 t)

no_symbols : (n : ℕ) → symbols_in n [] ≡ []
unfolding first_token
no_symbols zero = refl
no_symbols (suc n) = refl

enough : (n m : ℕ) (bs : List ℕ) → length bs ≤ n → length bs ≤ m → symbols_in n bs ≡ symbols_in m bs
enough n m [] h k = no_symbols n ∙ sym (no_symbols m)
enough zero m (b ∷ bs) h k = absurd (omega arith)
enough (suc n) zero (b ∷ bs) h k = absurd (omega arith)
enough (suc n) (suc m) (b ∷ bs) h k =
    enough_by (first_token (b ∷ bs)) _ _ (length (b ∷ bs)) (takes_first (b ∷ bs)) (λ cs l. enough n m cs (omega arith) (omega arith))

-- the tokens of some bytes are the first one and those of what follows
pub symbols_first : (bs : List ℕ) → symbols bs ≡ piece_first (first_token bs) symbols
unfolding symbols
symbols_first bs =
    enough (length bs) (suc (length bs)) bs (omega arith) (omega arith)
    ∙ enough_by (first_token bs) _ _ (length bs) (takes_first bs) (λ cs l. enough (length bs) (length cs) cs (omega arith) (omega arith))

-- what is read of the bytes after the blanks is the first token
pub token_front : (bs cs : List ℕ) (r : Option (Token × Bor (List ℕ))) → cs ≡ drop (prefix_len (of_class Blank) bs) bs → front_of r ≡ front_piece cs → first_token bs ≡ front_of r
unfolding first_token
token_front bs cs r e h = sym (h ∙ ap front_piece e)

-- and the first of the tokens of the whole
pub symbols_front : (bs cs : List ℕ) (r : Option (Token × Bor (List ℕ))) → cs ≡ drop (prefix_len (of_class Blank) bs) bs → front_of r ≡ front_piece cs → symbols bs ≡ piece_first (front_of r) symbols
symbols_front bs cs r e h = symbols_first bs ∙ ap (λ (o : Option Piece). piece_first o symbols) (token_front bs cs r e h)
