-- Counts of cells.
use Rattle.std.specs.Prelude.{ℕ, ◌^◌, min}

-- as far as cells are counted
abbrev pub cut : ℕ → ℕ
cut n = min n (2 ^ 63)
