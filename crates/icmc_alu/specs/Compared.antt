use Rattle.std.specs.Prelude.{ℕ, ◌==◌, nat_lt}
use Rattle.icmc_alu.specs.Flags.{with_flag}
use Rattle.icmc_alu.specs.declared.flags.Flag.TheVariants.{Greater, Lesser, Equal}

-- FR after x and y were compared: of three flags the one that holds is on, the others off
abbrev pub three_flags : ℕ → ℕ → ℕ → ℕ
three_flags x y fr = with_flag Greater (nat_lt y x) (with_flag Lesser (nat_lt x y) (with_flag Equal (x == y) fr))

-- the same, shut for those that need not look inside
unfoldable pub compared : ℕ → ℕ → ℕ → ℕ
compared x y fr = three_flags x y fr
