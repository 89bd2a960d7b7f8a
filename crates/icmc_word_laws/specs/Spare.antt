use Rattle.std.specs.Prelude.{ℕ, ◌+◌, ◌-◌, ◌^◌, cond, [], ◌∷◌, bit_and}
use Rattle.icmc_words.specs.Tables.{row_at}
use Rattle.icmc_words.specs.Decoded.{bit, op_of}

-- what the bits from one down to another are worth together
abbrev pub bits : ℕ → ℕ → ℕ
bits from to = 2 ^ (from + 1) - 2 ^ to

-- the spare bits of a word, by its op code: those that no rule names, and where two codes mean the same the bit in which they differ
abbrev pub spare : ℕ → ℕ
spare w =
    row_at 0 (
    (0x00, bits 9 0) ∷
    (0x02, bits 5 0) ∷
    (0x03, bits 5 0) ∷
    (0x04, bits 9 0) ∷
    (0x05, cond (bit 6 w) (bits 9 7 + bits 5 0) (bits 5 0)) ∷
    (0x06, cond (bit 6 w) (bits 9 7 + bits 5 0) (bits 5 0)) ∷
    (0x08, bits 8 0) ∷
    (0x0e, bits 9 0) ∷
    (0x0f, bits 9 0) ∷
    (0x10, cond (bit 6 w) (bits 4 4) 0) ∷
    (0x12, bits 0 0) ∷
    (0x13, bits 0 0) ∷
    (0x14, bits 0 0) ∷
    (0x15, bits 3 0) ∷
    (0x16, bits 3 0) ∷
    (0x24, bits 5 0) ∷
    (0x25, bits 0 0) ∷
    (0x30, bits 6 0) ∷
    (0x31, bits 6 0) ∷
    (0x32, bits 3 0) ∷
    (0x33, cond (bit 0 w) (bits 6 2) (bits 3 1)) ∷
    (0x35, bits 6 0) ∷
    (0x38, bits 6 1) ∷
    (0x3c, bits 3 0) ∷
    (0x3d, bits 3 0) ∷
    []) (op_of w)

-- a word with its spare bits cleared
abbrev pub cleared : ℕ → ℕ
cleared w = bit_and w (65535 - spare w)
