use Rattle.std.proofs.Common.{◌≡◌, ℕ, ◌+◌, ◌-◌, ◌<◌, ◌≤◌, List, [], ◌∷◌, ◌++◌, length, take, drop, refl, sym, ap, ◌∙◌, subst, arith}
use Rattle.std.proofs.lemmas.List.{drop-drop, length-take-le, length_push, take-append-drop}
use Rattle.std.proofs.lemmas.Bool.{lt-ltb, cond-true}
use Rattle.shelf.specs.Slots.{has_room, records_pushed}
use Rattle.shelf.specs.SliceVecs.{items, NowHolds}
use Rattle.shelf.specs.declared.slice_vec.SliceVec.{SliceVec}

-- what is alike from j on is alike from k on
drop_further : {A : Type 0} (j k : ℕ) (xs ys : List A) → j ≤ k → drop j xs ≡ drop j ys → drop k xs ≡ drop k ys
drop_further j k xs ys h e =
    let m : j + (k - j) ≡ k = omega arith in
    ap (λ (i : ℕ). drop i xs) (sym m)
    ∙ (sym (drop-drop (k - j) j xs)
    ∙ (ap (λ (zs : List _). drop (k - j) zs) e
    ∙ (drop-drop (k - j) j ys
    ∙ ap (λ (i : ℕ). drop i ys) m)))

-- what it holds before anything is done
pub holds_own : {T : Type 0} (a : SliceVec T) → NowHolds a a (items a)
holds_own a = record { same_slots = refl; items = refl; used = sym (length-take-le a.shelf.used a.slots.now a.within); others = refl; slots = refl }

-- one change after another, the second not leaving fewer records
pub holds_on : {T : Type 0} (a b c : SliceVec T) (xs ys : List T) → NowHolds a b xs → NowHolds b c ys → length xs ≤ length ys → NowHolds a c ys
holds_on a b c xs ys p q h = record {
  same_slots = q.same_slots ∙ p.same_slots;
  items = q.items;
  used = q.used;
  others = q.others ∙ drop_further (length xs) (length ys) b.slots.now a.slots.now h p.others;
  slots = q.slots ∙ p.slots;
}

-- a push where a slot is free
pub pushed_one : {T : Type 0} (a : SliceVec T) (x : T) → length (items a) < length a.slots.now → records_pushed a.shelf.used a.slots.now x ≡ items a ++ x ∷ []
pushed_one a x h =
    let n = length-take-le a.shelf.used a.slots.now a.within in
    cond-true (has_room a.shelf.used a.slots.now) (items a ++ x ∷ []) (items a) (lt-ltb a.shelf.used (length a.slots.now) (omega arith))

-- one record more after other changes
pub pushed_on : {T : Type 0} (a b c : SliceVec T) (xs : List T) (x : T) → NowHolds a b xs → length xs < length a.slots.now
    → NowHolds b c (records_pushed b.shelf.used b.slots.now x) → NowHolds a c (xs ++ x ∷ [])
pushed_on a b c xs x p h q =
    let room : length (items b) < length b.slots.now = omega (arith, ap length p.items, p.slots) in
    let more : records_pushed b.shelf.used b.slots.now x ≡ xs ++ x ∷ [] = pushed_one b x room ∙ ap (λ (zs : List _). zs ++ x ∷ []) p.items in
    holds_on a b c xs (xs ++ x ∷ []) p (subst (NowHolds b c) more q) (omega (arith, length_push xs x))

-- all the slots: the records, and then what stood there
pub holds_all : {T : Type 0} (a b : SliceVec T) (xs : List T) → NowHolds a b xs → b.slots.now ≡ xs ++ drop (length xs) a.slots.now
holds_all a b xs p =
    let front : take (length xs) b.slots.now ≡ xs = ap (λ (n : ℕ). take n b.slots.now) (sym p.used) ∙ p.items in
    let F : List _ → List _ = λ zs. zs ++ drop (length xs) b.slots.now in
    sym (take-append-drop (length xs) b.slots.now) ∙ (ap F front ∙ ap (λ (zs : List _). xs ++ zs) p.others)
