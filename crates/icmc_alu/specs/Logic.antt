use Rattle.std.specs.Prelude.{ℕ, ◌-◌, bit_and, bit_or, bit_xor}
use Rattle.icmc_alu.specs.declared.logic.Logic.{Logic}
use Rattle.icmc_alu.specs.declared.logic.Logic.TheVariants.{And, Or, Xor, Not}

-- the word of each operation, bit by bit; not looks at y alone
abbrev pub logic_word : Logic → ℕ → ℕ → ℕ
logic_word And y z = bit_and y z
logic_word Or y z = bit_or y z
logic_word Xor y z = bit_xor y z
logic_word Not y z = 65535 - y
