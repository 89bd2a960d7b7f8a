use Rattle.std.specs.Prelude.{ℕ, Bool, true, false, cond, Some, None, Ok, Err, Option, Result, ◌==◌}
use Rattle.refusal.specs.declared.Refusal.{Refusal}
use Rattle.refusal.specs.declared.Cause.TheVariants.{Absent, Closed}
use Rattle.refusal.specs.Numbers.{refused}

-- the word that each address shows; none where the address is absent
abbrev pub Cells : Type 0
Cells = ℕ → Option ℕ

-- which addresses are open
abbrev pub Locks : Type 0
Locks = ℕ → Bool

-- the place that a refusal at each address tells
abbrev pub Places : Type 0
Places = ℕ → ℕ

-- a read of what an address shows: the word, or absent with the place told
abbrev pub reads : Option ℕ → ℕ → Result ℕ Refusal
reads (Some w) p = Ok w
reads None p = Err (refused Absent p)

-- a write or a probe: absent with the place p, or present and closed with the place q, or done
abbrev pub writes : Option ℕ → Bool → ℕ → ℕ → Result Unit Refusal
writes None o p q = Err (refused Absent p)
writes (Some v) false p q = Err (refused Closed q)
writes (Some v) true p q = Ok tt

-- what an address that is written shows afterwards
abbrev pub rewritten : Option ℕ → Bool → ℕ → Option ℕ
rewritten None o w = None
rewritten (Some v) false w = Some v
rewritten (Some v) true w = Some w

-- the cells after a write of the word w to the address a: no other address changes
abbrev pub written : Cells → Locks → ℕ → ℕ → Cells
written m o a w b = cond (b == a) (rewritten (m b) (o b) w) (m b)
