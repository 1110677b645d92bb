-- How a string is read back from its text.
-- Language reference, "Text of a value".
use Rattle.std.specs.Prelude.{ℕ, List, [], ◌∷◌, ◌++◌, nat_eq, if◌then◌else◌, Bool, true, false}
use Rattle.herm_model.specs.Escapes.{escaped}

-- the bytes as they stand inside the quotes
abbrev pub escaped_all : List ℕ → List ℕ
escaped_all [] = []
escaped_all (b ∷ bs) = escaped b ++ escaped_all bs

-- the text of a string: its bytes between quotes, escaped
abbrev pub quoted : List ℕ → List ℕ
quoted s = 34 ∷ escaped_all s ++ 34 ∷ []

-- the bytes that an escaped text stands for, up to the closing quote; the flag says that a backslash stood before
abbrev pub unescaped : Bool → List ℕ → List ℕ
unescaped after_backslash [] = []
unescaped true (b ∷ bs) = (if nat_eq b 110 then 10 else b) ∷ unescaped false bs
unescaped false (b ∷ bs) =
    if nat_eq b 34 then []
    else if nat_eq b 92 then unescaped true bs
    else b ∷ unescaped false bs

-- the string that a text stands for
abbrev pub unquoted : List ℕ → List ℕ
unquoted [] = []
unquoted (_ ∷ bs) = unescaped false bs
