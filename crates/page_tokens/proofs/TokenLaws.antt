use Rattle.std.proofs.Common.{◌≡◌, ℕ, ◌+◌, ◌-◌, ◌*◌, ◌<◌, ◌≤◌, List, length, get_or, drop}
use Rattle.std.proofs.lemmas.List.{at_drop_more, at_drop_all}
use Rattle.page_tokens.specs.Symbols.{decimal}

pub decimal_more : (n : ℕ) (xs : List ℕ) (i : ℕ) → i < length xs → decimal n (drop i xs) ≡ decimal (n * 10 + (get_or xs i 0 - 48)) (drop (i + 1) xs)
decimal_more n xs i h = at_drop_more (decimal n) xs i 0 h

pub decimal_all : (n : ℕ) (xs : List ℕ) (i : ℕ) → length xs ≤ i → decimal n (drop i xs) ≡ n
decimal_all n xs i h = at_drop_all (decimal n) xs i h
