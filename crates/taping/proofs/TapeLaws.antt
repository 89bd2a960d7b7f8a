use Rattle.std.proofs.Common.{◌≡◌, ℕ, suc, ◌+◌, ◌%◌, ◌<◌, ◌≤◌, Bool, cond, eqb, List, [], ◌∷◌, ◌++◌, length, get_or, Some, None, Ok, Err, sum, Option, Result, refl, ap, ◌∙◌, arith}
use Rattle.std.proofs.lemmas.List.{length-append, get_or_append_left, get_or_push}
use Rattle.std.proofs.lemmas.List.Sums.{sum_by-cons}
use Rattle.std.proofs.lemmas.Bool.{eq-eqb, le-ltb}
use Rattle.refusal.specs.declared.Refusal.{Refusal}
use Rattle.refusal.specs.declared.Cause.TheVariants.{WrongTapeSum, PlacePastEnd}
use Rattle.refusal.specs.Numbers.{refused}
use Rattle.tape.specs.declared.cursor.CellWord.{CellWord}
use Rattle.tape.specs.declared.item.Item.{Item}
use Rattle.tape.specs.declared.item.Item.TheVariants.{Put, End}
use Rattle.tape.specs.Items.{kind, filler, value, item_of, item}
use Rattle.tape.specs.Puts.{put_by, place_after, with_put, puts_from}
use Rattle.tape.specs.Checks.{verdict, sum_after, checks}
use Rattle.taping.specs.Tapes.{checksum, tape_of, cell_words, HoldsProgram}

-- words of 16 bits
abbrev pub Narrow : List ℕ → Type 0
Narrow ws = (i : ℕ) → get_or ws i 0 < 65536

-- what a tape word says, by its parts
item_by : (w k n : ℕ) → filler w ≡ 0 → kind w ≡ k → value w ≡ n → item w ≡ item_of k n
item_by w k n f g v =
    ap (λ (x : ℕ). cond (eqb x 0) (item_of (kind w) (value w)) None) f
    ∙ (ap (λ (x : ℕ). item_of x (value w)) g ∙ ap (item_of k) v)

item_put : (w : ℕ) → w < 65536 → item w ≡ Some (Put w)
item_put w h = item_by w 0 w (omega arith) (omega arith) (omega arith)

item_end : (s : ℕ) → s < 65536 → item (0xc000_0000 + s) ≡ Some (End s)
item_end s h = item_by (0xc000_0000 + s) 3 s (omega arith) (omega arith) (omega arith)

-- a word of a tape with the item t, and the words after it
abbrev goes : Option Item → List ℕ → ℕ → ℕ → ℕ → Result Unit Refusal
goes t ws i place s =
    elim (verdict t (length ws) i place s) [ Some answer ↦ answer | None ↦ checks ws (i + 1) (place_after t place) (sum_after t s) ]

abbrev goes_put : Bool → ℕ → List ℕ → ℕ → ℕ → ℕ → Result Unit Refusal
goes_put b w ws i place s =
    elim (cond {A = Option (Result Unit Refusal)} b (Some (Err (refused PlacePastEnd i))) None) [
      | Some answer ↦ answer
      | None ↦ checks ws (i + 1) (cond b place (place + 1)) ((s + w) % 65536)
    ]

abbrev ending : List ℕ → ℕ → List ℕ
ending ws own = ws ++ (0xc000_0000 + own) ∷ []

-- a program's words are put, and its sum is right
program_decides : (ws : List ℕ) (own i place s : ℕ) → Narrow ws → place + length ws ≤ 65536 → s < 65536 → own ≡ (s + sum ws) % 65536
    → checks (ending ws own) i place s ≡ Ok tt
program_decides [] own i place s n few h e =
    let same : own ≡ s = omega arith in
    ap (λ (t : Option Item). goes t [] i place s) (item_end own (omega arith))
    ∙ ap (λ (b : Bool). cond {A = Result Unit Refusal} b (Ok tt) (Err (refused WrongTapeSum i))) (eq-eqb own s same)
program_decides (w ∷ ws) own i place s n few h e =
    let sum_is : sum (w ∷ ws) ≡ w + sum ws = sum_by-cons (λ (x : ℕ). x) w ws in
    ap (λ (t : Option Item). goes t (ending ws own) i place s) (item_put w (n 0))
    ∙ (ap (λ (b : Bool). goes_put b w (ending ws own) i place s) (le-ltb 65535 place (omega arith))
    ∙ program_decides ws own (i + 1) (place + 1) ((s + w) % 65536) (λ j. n (suc j)) (omega arith) (omega arith) (omega arith))

abbrev puts_by : Option Item → ℕ → List ℕ → List CellWord
puts_by t place ws = with_put (put_by t place) (puts_from (place_after t place) ws)

abbrev puts_put : Bool → ℕ → ℕ → List ℕ → List CellWord
puts_put b w place ws = with_put (cond b None (Some (record { at = place; word = w }))) (puts_from (cond b place (place + 1)) ws)

program_puts : (ws : List ℕ) (own place : ℕ) → Narrow ws → place + length ws ≤ 65536 → own < 65536 → puts_from place (ending ws own) ≡ cell_words place ws
program_puts [] own place n few h = ap (λ (t : Option Item). puts_by t place []) (item_end own h)
program_puts (w ∷ ws) own place n few h =
    ap (λ (t : Option Item). puts_by t place (ending ws own)) (item_put w (n 0))
    ∙ (ap (λ (b : Bool). puts_put b w place (ending ws own)) (le-ltb 65535 place (omega arith))
    ∙ ap (λ (ps : List CellWord). record { at = place; word = w } ∷ ps) (program_puts ws own (place + 1) (λ j. n (suc j)) (omega arith) h))

pub tape_holds : (ws : List ℕ) → Narrow ws → HoldsProgram ws (tape_of ws)
tape_holds ws n =
    let own = checksum ws in
    let end_is : get_or (ending ws own) (length ws) 0 ≡ 0xc000_0000 + own = get_or_push ws (0xc000_0000 + own) 0 (length ws) refl in
    record {
      size = ap suc (length-append ws ((0xc000_0000 + own) ∷ [])) ∙ omega arith;
      start = refl;
      words = λ i h. ap item (get_or_append_left ws _ 0 i h) ∙ item_put (get_or ws i 0) (n i);
      end = ap item end_is ∙ item_end own (omega arith);
      accepted = λ few. program_decides ws own 1 0 0 n (omega arith) (omega arith) (omega arith);
      puts = λ few. program_puts ws own 0 n (omega arith) (omega arith);
    }
