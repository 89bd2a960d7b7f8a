use Rattle.std.proofs.Common.{◌≡◌, ℕ, zero, suc, ◌-◌, ◌∷◌, List, ◌++◌, map, length, drop, replicate, refl, ap, ◌∙◌}
use Rattle.std.specs.Char.{to_ascii_lowercase}
use Rattle.std.proofs.lemmas.List.{drop-replicate, map-append}
use Rattle.page_tokens.specs.declared.name.Name.{Name}
use Rattle.page_tokens.specs.Names.{same_name}
use Rattle.page_tokens.specs.contracts.name.NamePartialEq.TheImpl as TheImpl

blanks : (n : ℕ) → map to_ascii_lowercase (replicate n 32) ≡ replicate n 32
blanks zero = refl
blanks (suc n) = ap (λ ls. 32 ∷ ls) (blanks n)

-- a word put in front of blanks, as small letters
pub lowered : (w : List ℕ) → map to_ascii_lowercase (w ++ drop (length w) (replicate 32 32)) ≡ map to_ascii_lowercase w ++ replicate (32 - length w) 32
lowered w =
    map-append to_ascii_lowercase w (drop (length w) (replicate 32 32))
    ∙ ap (λ ls. map to_ascii_lowercase w ++ ls) (ap (map to_ascii_lowercase) (drop-replicate (length w) 32 32) ∙ blanks (32 - length w))

-- `==` on names compares their letters
pub eq_by_letters : (m n : Name) → TheImpl.eq-value.it m n ≡ same_name m n
eq_by_letters m n = refl
