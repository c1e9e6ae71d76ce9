-- Formula numbers. Assumes nothing.
use Rattle.std.specs.Prelude.{ℕ, ◌+◌, ◌-◌, ◌%◌, cond, ◌==◌}
use Rattle.tables.specs.declared.number.Number.{Number}

-- The number beside n: an even number and the one after it name a formula and its opposite.
abbrev pub beside : ℕ → ℕ
beside n = cond (n % 2 == 0) (n + 1) (n - 1)

abbrev pub beside_number : Number → Number
beside_number n = record { 0 = beside n.0 }
