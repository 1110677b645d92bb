-- The longest front of bytes that pass a test.
use Rattle.std.specs.Prelude.{ℕ, Bool, if◌then◌else◌, List, [], ◌∷◌}

abbrev pub front : (ℕ → Bool) → List ℕ → List ℕ
front test [] = []
front test (byte ∷ bytes) = if test byte then byte ∷ front test bytes else []
