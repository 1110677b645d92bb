-- How a byte of a string is escaped. Language reference, "Text of a value".
use Rattle.std.specs.Prelude.{ℕ, List, [], ◌∷◌, cond, nat_eq, codes}

-- a byte of a string as in source: the newline, the quote and the backslash have a backslash before them
abbrev pub escaped : ℕ → List ℕ
escaped b = cond (nat_eq b 10) (codes "\\n") (cond (nat_eq b 34) (codes "\\\"") (cond (nat_eq b 92) (codes "\\\\") (b ∷ [])))
