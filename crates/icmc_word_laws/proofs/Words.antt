use Rattle.std.proofs.Common.{◌≡◌, ℕ, ◌+◌, ◌*◌, ◌/◌, ◌%◌, Bool, true, false, cond, not, ◌&&◌, eqb, ltb, List, [], ◌∷◌, ◌++◌, is_ok, Ok, Err, Result, sym, refl, ap, ◌∙◌, subst, inl, inr, arith}
use Rattle.std.specs.List.{AllByRecursion, list_all}
use Rattle.std.proofs.lemmas.Bool.{and_parts, or_cases, or_parts, or_from, and_left, eqb-true, not-true, not_from_false, cases_Bool, cond-false, cond-true, cond_both, false≢true}
use Rattle.refusal.specs.declared.Refusal.{Refusal}
use Rattle.refusal.specs.declared.Cause.TheVariants.{Unassigned}
use Rattle.refusal.specs.Numbers.{refused}
use Rattle.icmc_words.specs.declared.instruction.Instruction.{Instruction}
use Rattle.icmc_words.specs.declared.instruction.Instruction.TheVariants.{Jump, Call, Loadn}
use Rattle.icmc_words.specs.Tables.{row_at, among}
use Rattle.icmc_words.proofs.Below.{upto, upto_at}
use Rattle.icmc_words.specs.Conditions.{condition_at}
use Rattle.icmc_words.specs.Decoded.{bit, op_of, x_of, y_of, z_of, k_of, unassigned, control_rows, calculation_rows, transfer_rows, transfer, calculation, decoded}
use Rattle.icmc_words.specs.Encoded.{encoded}
use Rattle.icmc_word_laws.specs.Assigned.{op_codes, assigned}
use Rattle.icmc_word_laws.specs.Spare.{cleared}
use Rattle.icmc_word_laws.specs.Laws.{then_encoded, recoded, normalized, AssignedExactly}

-- The words of the listed op codes, all of them, by a test that is computed.

-- a word agrees with what it was decoded to: the instruction has the cleared word
abbrev is_word : Result ℕ Refusal → ℕ → Bool
is_word (Ok u) v = eqb u v
is_word (Err e) v = false

abbrev agrees : Result Instruction Refusal → ℕ → Bool
agrees (Ok i) w = assigned w && is_word (encoded i) (cleared w)
agrees (Err e) w = not (assigned w)

abbrev part : ℕ → Bool
part op = upto 1024 (λ low. agrees (decoded (op * 1024 + low)) (op * 1024 + low))

parts : list_all part op_codes ≡ true
parts = refl

passed : (test : ℕ → Bool) (ns : List ℕ) → list_all test ns ≡ true → (n : ℕ) → among ns n ≡ true → test n ≡ true
passed test [] a n t = absurd (false≢true t)
passed test (m ∷ ms) a n t =
    let p = and_parts (test m) (list_all test ms) a in
    elim (or_cases (eqb n m) (among ms n) t)
    [ inl e ↦ subst (λ (k : ℕ). test k ≡ true) (sym (eqb-true n m e)) p.0 | inr u ↦ passed test ms p.1 n u ]

listed_agrees : (w : ℕ) → among op_codes (op_of w) ≡ true → agrees (decoded w) w ≡ true
listed_agrees w t =
    let p = passed part op_codes parts (op_of w) t in
    let a = upto_at 1024 (λ low. agrees (decoded (w / 1024 * 1024 + low)) (w / 1024 * 1024 + low)) p (w % 1024) (omega arith) in
    let e : w / 1024 * 1024 + w % 1024 ≡ w = omega arith in
    subst (λ (v : ℕ). agrees (decoded v) v ≡ true) e a

-- Any other op code is in none of the tables.

abbrev keys : {A : Type 0} → List (ℕ × A) → List ℕ
keys [] = []
keys (r ∷ rs) = r.0 ∷ keys rs

row_none : {A : Type 0} (other : A) (rows : List (ℕ × A)) (n : ℕ) → among (keys rows) n ≡ false → row_at other rows n ≡ other
row_none other [] n f = refl
row_none other (r ∷ rs) n f =
    let p = or_parts (eqb n r.0) (among (keys rs) n) f in
    cond-false (eqb n r.0) r.1 (row_at other rs n) p.0 ∙ row_none other rs n p.1

among_parts : (ls ms : List ℕ) (n : ℕ) → among (ls ++ ms) n ≡ false → (among ls n ≡ false) × (among ms n ≡ false)
among_parts [] ms n f = (refl, f)
among_parts (l ∷ ls) ms n f =
    let p = or_parts (eqb n l) (among (ls ++ ms) n) f in
    let q = among_parts ls ms n p.1 in
    (or_from (eqb n l) (among ls n) p.0 q.0, q.1)

unlisted : (w : ℕ) → among op_codes (op_of w) ≡ false → decoded w ≡ unassigned
unlisted w f =
    let cs : List (ℕ × Result Instruction Refusal) = control_rows w (x_of w) (k_of w) in
    let ds : List (ℕ × Result Instruction Refusal) = calculation_rows w (x_of w) (y_of w) (z_of w) in
    let ts : List (ℕ × Result Instruction Refusal) = transfer_rows w (x_of w) (y_of w) in
    let p = among_parts (keys cs) (keys ds ++ keys ts) (op_of w) f in
    let q = among_parts (keys ds) (keys ts) (op_of w) p.1 in
    row_none (calculation w) cs (op_of w) p.0
    ∙ (row_none (transfer w) ds (op_of w) q.0 ∙ row_none unassigned ts (op_of w) q.1)

word_agrees : (w : ℕ) → agrees (decoded w) w ≡ true
word_agrees w =
    elim (cases_Bool (among op_codes (op_of w))) [
      | inl t ↦ listed_agrees w t
      | inr f ↦ rw (unlisted w f) (not_from_false (assigned w) (and_left (among op_codes (op_of w)) _ f))
    ]

-- Where a word is refused, it is for being unassigned.

abbrev UnassignedIfErr : Result Instruction Refusal → Type 0
UnassignedIfErr (Ok i) = Unit {0}
UnassignedIfErr (Err e) = e ≡ refused Unassigned 0

row_all : {A : Type 0} (P : A → Type 0) (other : A) (rows : List (ℕ × A)) → P other → AllByRecursion (λ r. P r.1) rows → (n : ℕ) → P (row_at other rows n)
row_all P other [] h a n = h
row_all P other (r ∷ rs) h a n =
    cond_both (eqb n r.0) r.1 (row_at other rs n) P (λ _. a.0) (λ _. row_all P other rs h a.1 n)

either : (b : Bool) (i : Instruction) → UnassignedIfErr (cond b (Ok i) unassigned)
either b i = cond_both b (Ok i) unassigned UnassignedIfErr (λ _. tt) (λ _. refl)

neither : (b : Bool) (i : Instruction) → UnassignedIfErr (cond b unassigned (Ok i))
neither b i = cond_both b unassigned (Ok i) UnassignedIfErr (λ _. refl) (λ _. tt)

refusals : (w : ℕ) → UnassignedIfErr (decoded w)
refusals w =
    let k = k_of w in
    row_all UnassignedIfErr (calculation w) (control_rows w (x_of w) (k_of w))
    (row_all UnassignedIfErr (transfer w) (calculation_rows w (x_of w) (y_of w) (z_of w))
    (row_all UnassignedIfErr unassigned (transfer_rows w (x_of w) (y_of w)) refl
    (tt, (tt, (tt, (tt, (tt, (neither (bit 0 w) (Loadn (x_of w)), (tt, (tt, tt)))))))) (op_of w))
    (tt, (tt, (tt, (tt, (tt, (tt, (tt, (tt, (tt, (tt, (tt, (tt, tt)))))))))))) (op_of w))
    (tt, (either (ltb k 15) (Jump (condition_at k)), (either (ltb k 15) (Call (condition_at k)), (tt, (tt, (tt, (tt, (tt, (tt, tt)))))))))
    (op_of w)

-- The laws.

is_word_true : (r : Result ℕ Refusal) (v : ℕ) → is_word r v ≡ true → r ≡ Ok v
is_word_true (Ok u) v t = ap Ok (eqb-true u v t)
is_word_true (Err e) v t = absurd (false≢true t)

recodes : (r : Result Instruction Refusal) (w : ℕ) → UnassignedIfErr r → agrees r w ≡ true → then_encoded r ≡ normalized w
recodes (Ok i) w u t =
    let p = and_parts (assigned w) (is_word (encoded i) (cleared w)) t in
    is_word_true (encoded i) (cleared w) p.1 ∙ sym (cond-true (assigned w) (Ok (cleared w)) (Err (refused Unassigned 0)) p.0)
recodes (Err e) w u t =
    ap Err u ∙ sym (cond-false (assigned w) (Ok (cleared w)) (Err (refused Unassigned 0)) (not-true (assigned w) t))

-- a word that is decoded and encoded again has exactly its spare bits cleared, and an unassigned word is refused
pub normalized_law : (w : ℕ) → recoded w ≡ normalized w
normalized_law w = recodes (decoded w) w (refusals w) (word_agrees w)

exactly : (r : Result Instruction Refusal) (w : ℕ) → agrees r w ≡ true → is_ok r ≡ assigned w
exactly (Ok i) w t = sym (and_parts (assigned w) (is_word (encoded i) (cleared w)) t).0
exactly (Err e) w t = sym (not-true (assigned w) t)

pub assigned_exactly : AssignedExactly
assigned_exactly w = exactly (decoded w) w (word_agrees w)
