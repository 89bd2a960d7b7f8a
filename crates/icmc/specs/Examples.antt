use Rattle.std.specs.Prelude.{◌≡◌, ℕ, List, [], ◌∷◌, Ok, Err, Result, slice_index}
use Rattle.refusal.specs.declared.Refusal.{Refusal}
use Rattle.refusal.specs.declared.Cause.TheVariants.{Unassigned}
use Rattle.refusal.specs.Numbers.{refused}
use Rattle.stores.specs.Memories.{listed, all_open}
use Rattle.processor.specs.declared.Mark.TheVariants.{Ready}
use Rattle.processor.specs.Views.{View, view, cells, keys, Fault, look}
use Rattle.processor.specs.declared.Side.TheVariants.{Memory}
use Rattle.processor.specs.Rules.{State, state, instruction}
use Rattle.icmc_words.specs.declared.instruction.Instruction.{Instruction}
use Rattle.icmc_words.specs.Decoded.{decoded}
use Rattle.icmc_words.specs.Encoded.{encoded}
use Rattle.icmc_alu.specs.declared.arithmetic.Executed.{Executed}
use Rattle.icmc.specs.declared.examples.Examples.{Examples}
use Rattle.icmc.specs.declared.machine.Machine.{Machine}
use Rattle.icmc.specs.Steps.{machine_rules}

-- a memory of words from address 0 on, all open, with no screen and no keys
abbrev pub memory_of : List ℕ → View
memory_of ws = view (cells (listed ws) all_open) (cells (listed []) all_open) (keys (listed []))

-- a machine about to do the instruction at a, with words in R1 and R2 and the stack at 20
abbrev pub ready_at : ℕ → ℕ → ℕ → List ℕ → State Machine
ready_at a y z ws =
    state (record { registers = 0 ∷ y ∷ z ∷ 0 ∷ 0 ∷ 0 ∷ 0 ∷ 0 ∷ []; pc = a; fr = 0; sp = 20; keys = 0; mark = Ready }) (memory_of ws)

-- one instruction leaves these in R0 and FR
abbrev pub Leaves : ℕ → ℕ → Result (State Machine) Fault → Type 0
Leaves word flags (Ok s) = (slice_index s.processor.registers 0 ≡ word) × (s.processor.fr ≡ flags)
Leaves word flags (Err e) = ⊥

-- a further instruction
abbrev pub then_next : Result (State Machine) Fault → Result (State Machine) Fault
then_next (Ok s) = instruction machine_rules s
then_next (Err e) = Err e

-- the machine goes to an address, and the word at 20 is as given
abbrev pub GoesWith : ℕ → ℕ → Result (State Machine) Fault → Type 0
GoesWith pc word (Ok s) = (s.processor.pc ≡ pc) × (look s.view Memory 20 ≡ Ok word)
GoesWith pc word (Err e) = ⊥

-- a word decoded and encoded again
abbrev pub recoded_by : Result Instruction Refusal → Result ℕ Refusal
recoded_by (Ok i) = encoded i
recoded_by (Err e) = Err e

-- a result and FR
abbrev pub gives : ℕ → ℕ → Executed
gives word flags = record { word = word; fr = flags }

-- what the operations and the codes come to
abbrev pub filed : Examples
filed =
    record {
      sum = gives 0 56;
      difference = gives 65535 544;
      product = gives 4633 48;
      quotient = gives 0 72;
      rotated = 0x0003;
      no_condition = Err (refused Unassigned 0);
      no_loadn = Err (refused Unassigned 0);
      recoded = Ok 0xcc00;
    }

-- op codes 20 to 23 hex with x 0, y 1, z 2 and c 0 are add, sub, mul, div r0, r1, r2; op code 10 hex with x 0, bits 6 to 4 100 and n 1 is rotl r0, #1;
-- 0c00 hex is call and 1000 hex rts: the call stands at 10, its routine at 3
pub record FiledExamples : Type 0 where
  pub add_wraps : Leaves 0 56 (instruction machine_rules (ready_at 0 65535 1 (0x8014 ∷ [])))
  pub sub_wraps : Leaves 65535 544 (instruction machine_rules (ready_at 0 0 1 (0x8414 ∷ [])))
  pub mul_wraps : Leaves 4633 48 (instruction machine_rules (ready_at 0 46341 46341 (0x8814 ∷ [])))
  pub div_by_zero : Leaves 0 72 (instruction machine_rules (ready_at 0 7 0 (0x8c14 ∷ [])))
  pub rotl_by_one : Leaves 0x0003 0 (then_next (instruction machine_rules (ready_at 0 0x8001 0 (0xcc10 ∷ 0x4041 ∷ []))))
  pub no_condition : decoded 0x0bc0 ≡ Err (refused Unassigned 0)
  pub no_loadn : decoded 0xe001 ≡ Err (refused Unassigned 0)
  pub mov_recoded : recoded_by (decoded 0xcc02) ≡ Ok 0xcc00
  pub call_pushes : GoesWith 3 11 (instruction machine_rules (ready_at 10 0 0 (0 ∷ 0 ∷ 0 ∷ 0x1000 ∷ 0 ∷ 0 ∷ 0 ∷ 0 ∷ 0 ∷ 0 ∷ 0x0c00 ∷ 3 ∷ 0 ∷ 0 ∷ 0 ∷ 0 ∷ 0 ∷ 0 ∷ 0 ∷ 0 ∷ 0 ∷ [])))
  pub rts_returns : GoesWith 12 11 (then_next (instruction machine_rules (ready_at 10 0 0 (0 ∷ 0 ∷ 0 ∷ 0x1000 ∷ 0 ∷ 0 ∷ 0 ∷ 0 ∷ 0 ∷ 0 ∷ 0x0c00 ∷ 3 ∷ 0 ∷ 0 ∷ 0 ∷ 0 ∷ 0 ∷ 0 ∷ 0 ∷ 0 ∷ 0 ∷ []))))
