use Rattle.std.proofs.Common.{◌≡◌, ℕ, suc, ◌+◌, ◌-◌, ◌<◌, ◌≤◌, Bool, true, cond, ltb, leb, List, [], ◌∷◌, reverse, length, get_or, take, set, Some, None, Ok, Err, Result, sym, refl, ap, ◌∙◌, arith, take-suc, take-suc-set}
use mathlib.Core.List.{reverse-append}
use Rattle.std.specs.List.{slice_get}
use Rattle.std.specs.Option.{IsSome}
use Rattle.std.proofs.lemmas.Option.{slice_get-get_or}
use Rattle.std.proofs.lemmas.Bool.{lt-ltb, le-leb, and_from}
use Rattle.refusal.specs.declared.Refusal.{Refusal}
use Rattle.shelf.specs.Slots.{has_last, last_record}
use Rattle.processor.specs.Views.{Fault, Places, told}
use Rattle.processor.specs.Rules.{Moved}
use Rattle.session.specs.declared.entry.Entry.{Entry}
use Rattle.session.specs.Snapshots.{Snapshot}
use Rattle.session.specs.Trials.{restored}
use Rattle.session.specs.Runs.{noted_answer}
use Rattle.session.specs.Backs.{newest, undone, Gone, gone, takes, backs_on, told_taken}

-- where slots are in use and lent, there is a last record
last_is : {X : Type 0} (u : ℕ) (xs : List X) → 0 < u → u ≤ length xs → last_record u xs ≡ slice_get xs (u - 1)
last_is u xs h k =
    let t : has_last u xs ≡ true = and_from (ltb 0 u) (leb u (length xs)) (lt-ltb 0 u h) (le-leb u (length xs) k) in
    ap (λ (b : Bool). cond b (slice_get xs (u - 1)) None) t

pub last_some : {X : Type 0} (u : ℕ) (xs : List X) → 0 < u → u ≤ length xs → IsSome (last_record u xs)
last_some {X} u [] h k = absurd (omega arith)
last_some {X} u (x ∷ xs) h k =
    let s : u - 1 < length (x ∷ xs) = omega arith in
    rw (last_is u (x ∷ xs) h k ∙ slice_get-get_or (x ∷ xs) (u - 1) x s) refl

last_entry : {X : Type 0} (u : ℕ) (xs : List X) (x : X) → 0 < u → u ≤ length xs → Some x ≡ last_record u xs → x ≡ get_or xs (u - 1) x
last_entry {X} u xs x h k e =
    let s : u - 1 < length xs = omega arith in
    let n : Some x ≡ Some (get_or xs (u - 1) x) = e ∙ (last_is u xs h k ∙ slice_get-get_or xs (u - 1) x s) in
    cc

pub newest_next : {P : Type 0} (u : ℕ) (j : List (Entry P)) (e : Entry P) → u < length j → newest (suc u) j ≡ get_or j u e ∷ newest u j
newest_next u j e h = ap reverse (take-suc j u e h) ∙ reverse-append (take u j) (get_or j u e ∷ [])

pub newest_set : {P : Type 0} (u : ℕ) (j : List (Entry P)) (e : Entry P) → u < length j → newest (suc u) (set j u e) ≡ e ∷ newest u j
newest_set u j e h = ap reverse (take-suc-set j u e h) ∙ reverse-append (take u j) (e ∷ [])

take_case : {P : Type 0} → Snapshot P → ℕ → ℕ → Result (Moved P) Fault → Gone P
take_case d m k (Ok s) = takes (take m (newest (d.used - 1) d.slots)) (k + 1) (undone (Ok s) d)
take_case d m k (Err f) = gone d k (Some f)

module _ {P : Type 0} (d : Snapshot P) (e : Entry P) (m k : ℕ) (some : 0 < d.used) (there : d.used ≤ length d.slots) (is : Some e ≡ last_record d.used d.slots) where
  top : newest d.used d.slots ≡ e ∷ newest (d.used - 1) d.slots
  top =
      let s : d.used ≡ suc (d.used - 1) = omega arith in
      let i : e ≡ get_or d.slots (d.used - 1) e = last_entry d.used d.slots e some there is in
      ap (λ (u : ℕ). newest u d.slots) s
      ∙ (newest_next (d.used - 1) d.slots e (omega arith) ∙ ap (λ (x : Entry P). x ∷ newest (d.used - 1) d.slots) (sym i))

  back_suc : backs_on (suc m) k d ≡ take_case d m k (restored d.state e)
  unfolding take_case
  back_suc = ap (λ (es : List (Entry P)). takes (take (suc m) es) k d) top

by_ok : {P : Type 0} (d : Snapshot P) (m k : ℕ) (q : Places) (x : Result (Moved P) Fault) → Ok tt ≡ noted_answer q x → take_case d m k x ≡ backs_on m (k + 1) (undone x d)
unfolding take_case
by_ok d m k q (Ok s) h = refl
by_ok d m k q (Err f) h = cc

by_err : {P : Type 0} (d : Snapshot P) (m k : ℕ) (q : Places) (x : Result (Moved P) Fault) (y : Refusal) → Err y ≡ noted_answer q x → (f : Fault) × (take_case d m k x ≡ gone (undone x d) k (Some f)) × (y ≡ told q f)
unfolding take_case
by_err d m k q (Ok s) y h = cc
by_err d m k q (Err f) y h = (f, refl, cc)

ok_used : {P : Type 0} (q : Places) (x : Result (Moved P) Fault) (d : Snapshot P) → Ok tt ≡ noted_answer q x → (undone x d).used ≡ d.used - 1
ok_used q (Ok s) d h = refl
ok_used q (Err f) d h = cc

-- as the loop of a back meets it: d before the turn, b after it
module _ {P : Type 0} (p q : Places) (d b : Snapshot P) (e : Entry P) (n k : ℕ) (x : Gone P) (told_same : q ≡ p) (h : k < n) (few : n - k ≤ d.used) (there : d.used ≤ length d.slots) (is : Some e ≡ last_record d.used d.slots) (whole : backs_on (n - k) k d ≡ x) (after : b ≡ undone (restored d.state e) d) where
  back_now : take_case d (n - (k + 1)) k (restored d.state e) ≡ x
  back_now =
      let s : n - k ≡ suc (n - (k + 1)) = omega arith in
      sym (ap (λ (m : ℕ). backs_on m k d) s ∙ back_suc d e (n - (k + 1)) k (omega arith) there is) ∙ whole

  pub one_back : Ok tt ≡ noted_answer q (restored d.state e) → backs_on (n - (k + 1)) (k + 1) b ≡ x
  one_back a = rw after (sym (by_ok d (n - (k + 1)) k q (restored d.state e) a) ∙ back_now)

  pub stops_back : (y : Refusal) → Err y ≡ noted_answer q (restored d.state e) → ((record { done = k; refusal = Some y }) ≡ told_taken p x) × (b ≡ x.after)
  stops_back y a =
      let z = by_err d (n - (k + 1)) k q (restored d.state e) y a in
      let w : gone b k (Some z.0) ≡ x = rw after (sym z.1 ∙ back_now) in
      (cc, rw (← w) refl)

  pub one_less : Ok tt ≡ noted_answer q (restored d.state e) → b.used ≡ d.used - 1
  one_less a = rw after (ok_used q (restored d.state e) d a)
