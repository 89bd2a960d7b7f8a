use Rattle.std.proofs.Common.{◌≡◌, ℕ, zero, suc, ◌+◌, ◌≤◌, List, [], ◌∷◌, ◌++◌, length, take, sym, ap, ◌∙◌, subst, arith}
use Rattle.std.proofs.Math.Seq.{take-append_seam}
use Rattle.std.proofs.lemmas.List.{append_assoc, length-append, length-drop, length_push}
use Rattle.shelf.specs.Slots.{records_pushed}
use Rattle.shelf.specs.SliceVecs.{items, free, NowHolds}
use Rattle.shelf.specs.declared.slice_vec.SliceVec.{SliceVec}
use Rattle.shelf.proofs.SliceVecLaws.{holds_own, holds_on, pushed_on}
use Rattle.taping.specs.Tapes.{checksum, tape_of, HoldsProgram}
use Rattle.taping.proofs.TapeLaws.{Narrow, tape_holds}

-- a tape's first word, its program and its last word, put one after another
pub tape_put : (ws : List ℕ) (a b c d : SliceVec ℕ) → length ws + 2 ≤ length (free a)
    → NowHolds a b (records_pushed a.shelf.used a.slots.now 0x4000_0000) → NowHolds b c (items b ++ ws)
    → NowHolds c d (records_pushed c.shelf.used c.slots.now (0xc000_0000 + checksum ws)) → NowHolds a d (items a ++ tape_of ws)
tape_put ws a b c d room first words last =
    let free_is = length-drop a.shelf.used a.slots.now in
    let own = holds_own a in
    let one : NowHolds a b (items a ++ 0x4000_0000 ∷ []) = pushed_on a a b (items a) 0x4000_0000 own (omega (arith, own.used)) first in
    let long_one : length (items a ++ 0x4000_0000 ∷ []) ≡ length (items a) + 1 = length_push (items a) 0x4000_0000 in
    let all : items b ++ ws ≡ (items a ++ 0x4000_0000 ∷ []) ++ ws = ap (λ (xs : List ℕ). xs ++ ws) one.items in
    let long_all : length ((items a ++ 0x4000_0000 ∷ []) ++ ws) ≡ length (items a ++ 0x4000_0000 ∷ []) + length ws = length-append _ ws in
    let two : NowHolds a c ((items a ++ 0x4000_0000 ∷ []) ++ ws) = holds_on a b c _ _ one (subst (NowHolds b c) all words) (omega (arith, long_all)) in
    let three = pushed_on a c d _ (0xc000_0000 + checksum ws) two (omega (arith, long_all, long_one, own.used)) last in
    subst (NowHolds a d) (append_assoc _ ws _ ∙ append_assoc (items a) _ _) three

-- slots that begin with a program's tape hold it
pub held : (ws more slots : List ℕ) (n : ℕ) → Narrow ws → slots ≡ tape_of ws ++ more → n ≡ length ws + 2 → HoldsProgram ws (take n slots)
held ws more slots n narrow e k =
    let long : n ≡ length (tape_of ws) = omega (arith, length-append ws ((0xc000_0000 + checksum ws) ∷ [])) in
    let front : take n slots ≡ tape_of ws = rw (e, long) (take-append_seam (tape_of ws) more) in
    subst (HoldsProgram ws) (sym front) (tape_holds ws narrow)

-- the front of narrow words is narrow
pub narrow_front : (n : ℕ) (ws : List ℕ) → Narrow ws → Narrow (take n ws)
narrow_front zero ws narrow i = omega arith
narrow_front (suc n) [] narrow i = omega arith
narrow_front (suc n) (w ∷ ws) narrow zero = narrow 0
narrow_front (suc n) (w ∷ ws) narrow (suc i) = narrow_front n ws (λ j. narrow (suc j)) i
