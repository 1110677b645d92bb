-- The texts of places, one after another.
use Rattle.std.specs.Prelude.{ℕ, zero, suc, List, [], codes}

-- the comma that stands behind so many places, if there are any
abbrev pub comma_behind : ℕ → List ℕ
comma_behind zero = []
comma_behind (suc n) = codes ","
