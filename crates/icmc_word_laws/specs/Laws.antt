use Rattle.std.specs.Prelude.{◌≡◌, ℕ, cond, is_ok, Ok, Err, Result}
use Rattle.refusal.specs.declared.Refusal.{Refusal}
use Rattle.refusal.specs.declared.Cause.TheVariants.{Unassigned, OutOfRange}
use Rattle.refusal.specs.Numbers.{refused}
use Rattle.icmc_words.specs.declared.instruction.Instruction.{Instruction}
use Rattle.icmc_words.specs.Decoded.{decoded}
use Rattle.icmc_words.specs.Encoded.{encoded, encodable}
use Rattle.icmc_word_laws.specs.Assigned.{assigned}
use Rattle.icmc_word_laws.specs.Spare.{cleared}

-- a word decoded, and the instruction encoded
abbrev pub then_encoded : Result Instruction Refusal → Result ℕ Refusal
then_encoded (Ok i) = encoded i
then_encoded (Err e) = Err e

abbrev pub recoded : ℕ → Result ℕ Refusal
recoded w = then_encoded (decoded w)

-- what comes of it: an assigned word with its spare bits cleared, and no other
abbrev pub normalized : ℕ → Result ℕ Refusal
normalized w = cond (assigned w) (Ok (cleared w)) (Err (refused Unassigned 0))

-- an instruction encoded, and the word decoded
abbrev pub then_decoded : Result ℕ Refusal → Result Instruction Refusal
then_decoded (Ok w) = decoded w
then_decoded (Err e) = Err e

-- what comes of it: an instruction whose registers and count are in range, and no other
abbrev pub returned : Instruction → Result Instruction Refusal
returned i = cond (encodable i) (Ok i) (Err (refused OutOfRange 0))

-- the word of an instruction means that instruction
abbrev pub EncodedComesBack : Type 0
EncodedComesBack = (i : Instruction) (w : ℕ) → encoded i ≡ Ok w → decoded w ≡ Ok i

-- a word means an instruction exactly where it is assigned
abbrev pub AssignedExactly : Type 0
AssignedExactly = (w : ℕ) → is_ok (decoded w) ≡ assigned w
