-- The content of a string, as a loop reads it.
use Rattle.std.proofs.Common.{◌≡◌, ℕ, List, [], ◌∷◌, ◌++◌, Option, Some, None, refl, append_assoc}
use Rattle.herm_lexer.specs.Reading.{before}

-- content that was read, and then what follows
abbrev pub appended : List ℕ → Option (List ℕ) → Option (List ℕ)
appended front None = None
appended front (Some rest) = Some (front ++ rest)

pub appended-before : (front : List ℕ) (b : ℕ) (rest : Option (List ℕ)) → appended front (before (Some b) rest) ≡ appended (front ++ b ∷ []) rest
appended-before front b None = refl
appended-before front b (Some bs) = simp append_assoc
