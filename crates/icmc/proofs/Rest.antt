use Rattle.std.proofs.Common.{◌≡◌, ℕ, refl}
use Rattle.processor.specs.Views.{View}
use Rattle.icmc_words.specs.declared.instruction.Condition.{Condition}
use Rattle.icmc_words.specs.declared.instruction.Instruction.{Instruction}
use Rattle.icmc_words.specs.declared.instruction.Instruction.TheVariants.{Nop, Rts, Breakp, Halt, Clearc, Setc, Jump, Call, Push, PushFr, Pop, PopFr, Shift, And, Or, Xor, Not, Cmp, Add, Addc, Sub, Subc, Mul, Mulc, Div, Divc, Mod, Inc, Dec, Load, Store, Loadn, Loadi, Storei, Mov, MovFromSp, MovToSp, Outchar, Inchar}
use Rattle.icmc.specs.declared.machine.Machine.{Machine}
use Rattle.icmc.specs.Calculations.{calculation}
use Rattle.icmc.specs.Steps.{performed, quiet}

-- the instructions that the last arm of a match on them is left with
pub record Rest (i : Instruction) : Type 0 where
  pub no_nop : i ≡ Nop → ⊥
  pub no_rts : i ≡ Rts → ⊥
  pub no_breakp : i ≡ Breakp → ⊥
  pub no_halt : i ≡ Halt → ⊥
  pub no_clearc : i ≡ Clearc → ⊥
  pub no_setc : i ≡ Setc → ⊥
  pub no_jump : (k : Condition) → i ≡ Jump k → ⊥
  pub no_call : (k : Condition) → i ≡ Call k → ⊥
  pub no_push : (x : ℕ) → i ≡ Push x → ⊥
  pub no_pushfr : i ≡ PushFr → ⊥
  pub no_pop : (x : ℕ) → i ≡ Pop x → ⊥
  pub no_popfr : i ≡ PopFr → ⊥
  pub no_load : (x : ℕ) → i ≡ Load x → ⊥
  pub no_store : (x : ℕ) → i ≡ Store x → ⊥
  pub no_loadn : (x : ℕ) → i ≡ Loadn x → ⊥
  pub no_loadi : (x : ℕ) (y : ℕ) → i ≡ Loadi x y → ⊥
  pub no_storei : (x : ℕ) (y : ℕ) → i ≡ Storei x y → ⊥
  pub no_mov : (x : ℕ) (y : ℕ) → i ≡ Mov x y → ⊥
  pub no_movfromsp : (x : ℕ) → i ≡ MovFromSp x → ⊥
  pub no_movtosp : (x : ℕ) → i ≡ MovToSp x → ⊥
  pub no_outchar : (x : ℕ) (y : ℕ) → i ≡ Outchar x y → ⊥
  pub no_inchar : (x : ℕ) → i ≡ Inchar x → ⊥

-- they calculate, and no more
pub rest_calculates : (i : Instruction) (e : ℕ) (m n : Machine) (v : View) → Rest i → performed i e m n v ≡ quiet (calculation i m n)
rest_calculates Nop e m n v h = absurd (h.no_nop refl)
rest_calculates Rts e m n v h = absurd (h.no_rts refl)
rest_calculates Breakp e m n v h = absurd (h.no_breakp refl)
rest_calculates Halt e m n v h = absurd (h.no_halt refl)
rest_calculates Clearc e m n v h = absurd (h.no_clearc refl)
rest_calculates Setc e m n v h = absurd (h.no_setc refl)
rest_calculates (Jump k) e m n v h = absurd (h.no_jump k refl)
rest_calculates (Call k) e m n v h = absurd (h.no_call k refl)
rest_calculates (Push x) e m n v h = absurd (h.no_push x refl)
rest_calculates PushFr e m n v h = absurd (h.no_pushfr refl)
rest_calculates (Pop x) e m n v h = absurd (h.no_pop x refl)
rest_calculates PopFr e m n v h = absurd (h.no_popfr refl)
rest_calculates (Shift s x c) e m n v h = refl
rest_calculates (And x y z) e m n v h = refl
rest_calculates (Or x y z) e m n v h = refl
rest_calculates (Xor x y z) e m n v h = refl
rest_calculates (Not x y) e m n v h = refl
rest_calculates (Cmp x y) e m n v h = refl
rest_calculates (Add x y z) e m n v h = refl
rest_calculates (Addc x y z) e m n v h = refl
rest_calculates (Sub x y z) e m n v h = refl
rest_calculates (Subc x y z) e m n v h = refl
rest_calculates (Mul x y z) e m n v h = refl
rest_calculates (Mulc x y z) e m n v h = refl
rest_calculates (Div x y z) e m n v h = refl
rest_calculates (Divc x y z) e m n v h = refl
rest_calculates (Mod x y z) e m n v h = refl
rest_calculates (Inc x) e m n v h = refl
rest_calculates (Dec x) e m n v h = refl
rest_calculates (Load x) e m n v h = absurd (h.no_load x refl)
rest_calculates (Store x) e m n v h = absurd (h.no_store x refl)
rest_calculates (Loadn x) e m n v h = absurd (h.no_loadn x refl)
rest_calculates (Loadi x y) e m n v h = absurd (h.no_loadi x y refl)
rest_calculates (Storei x y) e m n v h = absurd (h.no_storei x y refl)
rest_calculates (Mov x y) e m n v h = absurd (h.no_mov x y refl)
rest_calculates (MovFromSp x) e m n v h = absurd (h.no_movfromsp x refl)
rest_calculates (MovToSp x) e m n v h = absurd (h.no_movtosp x refl)
rest_calculates (Outchar x y) e m n v h = absurd (h.no_outchar x y refl)
rest_calculates (Inchar x) e m n v h = absurd (h.no_inchar x refl)
