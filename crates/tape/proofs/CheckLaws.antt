use Rattle.std.proofs.Common.{◌≡◌, ℕ, ◌+◌, ◌-◌, ◌<◌, ◌≤◌, List, length, get_or, drop, Some, None, Err, Option, Result, sym, ap, ◌∙◌, arith}
use Rattle.std.proofs.lemmas.List.{at_drop_more, at_drop_all, length-drop}
use Rattle.refusal.specs.declared.Refusal.{Refusal}
use Rattle.refusal.specs.declared.Cause.TheVariants.{MisplacedTapeEnd}
use Rattle.refusal.specs.Numbers.{refused}
use Rattle.tape.specs.declared.item.Item.{Item}
use Rattle.tape.specs.Items.{item}
use Rattle.tape.specs.Puts.{place_after}
use Rattle.tape.specs.Checks.{verdict, sum_after, checks, checked}

-- the word at index i, whose item is t, as a loop over the tape meets it
module _ (ws : List ℕ) (i place sum : ℕ) (whole : checks (drop i ws) i place sum ≡ checked ws) where
  abbrev goes_on : Option Item → Option (Result Unit Refusal) → Result Unit Refusal
  goes_on t o = elim o [ Some answer ↦ answer | None ↦ checks (drop (i + 1) ws) (i + 1) (place_after t place) (sum_after t sum) ]

  here : (t : Option Item) → t ≡ item (get_or ws i 0) → i < length ws → goes_on t (verdict t (length ws - i - 1) i place sum) ≡ checked ws
  here t e h =
      let n : length (drop (i + 1) ws) ≡ length ws - i - 1 = simp length-drop (omega arith) in
      ap (λ (m : ℕ). goes_on t (verdict t m i place sum)) (sym n)
      ∙ (ap (λ (u : Option Item). goes_on u (verdict u (length (drop (i + 1) ws)) i place sum)) e
      ∙ (sym (at_drop_more (λ xs. checks xs i place sum) ws i 0 h) ∙ whole))

  pub check_more : (t : Option Item) (place' sum' : ℕ) → t ≡ item (get_or ws i 0) → i < length ws → None ≡ verdict t (length ws - i - 1) i place sum → place' ≡ place_after t place → sum' ≡ sum_after t sum → checks (drop (i + 1) ws) (i + 1) place' sum' ≡ checked ws
  check_more t place' sum' e h v p q = rw (p, q) (ap (goes_on t) v ∙ here t e h)

  pub check_decided : (t : Option Item) (answer : Result Unit Refusal) → t ≡ item (get_or ws i 0) → i < length ws → Some answer ≡ verdict t (length ws - i - 1) i place sum → answer ≡ checked ws
  check_decided t answer e h v = ap (goes_on t) v ∙ here t e h

  pub check_all : length ws ≤ i → Err (refused MisplacedTapeEnd i) ≡ checked ws
  check_all h = sym (at_drop_all (λ xs. checks xs i place sum) ws i h) ∙ whole
