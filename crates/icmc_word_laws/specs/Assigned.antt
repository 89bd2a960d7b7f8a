use Rattle.std.specs.Prelude.{ℕ, Bool, not, ◌&&◌, List, [], ◌∷◌, ◌==◌}
use Rattle.icmc_words.specs.Tables.{among}
use Rattle.icmc_words.specs.Decoded.{bit, op_of, k_of}

-- the op codes that have an instruction
abbrev pub op_codes : List ℕ
op_codes =
    0x00 ∷ 0x02 ∷ 0x03 ∷ 0x04 ∷ 0x05 ∷ 0x06 ∷ 0x08 ∷ 0x0e ∷ 0x0f ∷
    0x10 ∷ 0x12 ∷ 0x13 ∷ 0x14 ∷ 0x15 ∷ 0x16 ∷ 0x20 ∷ 0x21 ∷ 0x22 ∷ 0x23 ∷ 0x24 ∷ 0x25 ∷
    0x30 ∷ 0x31 ∷ 0x32 ∷ 0x33 ∷ 0x35 ∷ 0x38 ∷ 0x3c ∷ 0x3d ∷ []

-- the words that are instructions: those of a listed op code, but not a jump or call on condition 15, nor loadn with bit 0 set
abbrev pub assigned : ℕ → Bool
assigned w =
    among op_codes (op_of w)
    && (not (among (0x02 ∷ 0x03 ∷ []) (op_of w) && k_of w == 15)
    && not (op_of w == 0x38 && bit 0 w))
