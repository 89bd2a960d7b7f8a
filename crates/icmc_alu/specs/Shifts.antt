use Rattle.std.specs.Prelude.{ℕ, ◌+◌, ◌-◌, ◌*◌, ◌/◌, ◌%◌, ◌^◌}
use Rattle.icmc_words.specs.declared.instruction.ShiftKind.{ShiftKind}
use Rattle.icmc_words.specs.declared.instruction.ShiftKind.TheVariants.{LeftZeros, LeftOnes, RightZeros, RightOnes, RotateLeft, RotateRight}

-- x shifted or rotated by n, 0 to 15: what is left of x, and what comes into the n places that it leaves
abbrev pub shifted : ShiftKind → ℕ → ℕ → ℕ
shifted LeftZeros x n = x * 2 ^ n % 65536
shifted LeftOnes x n = x * 2 ^ n % 65536 + (2 ^ n - 1)
shifted RightZeros x n = x / 2 ^ n
shifted RightOnes x n = x / 2 ^ n + (65536 - 2 ^ (16 - n))
shifted RotateLeft x n = x * 2 ^ n % 65536 + x / 2 ^ (16 - n)
shifted RotateRight x n = x / 2 ^ n + x * 2 ^ (16 - n) % 65536
