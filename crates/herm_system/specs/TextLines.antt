-- Lines of text.
use Rattle.std.specs.Prelude.{List, [], ◌∷◌, ◌++◌}
use Rattle.herm_journal.specs.Entries.{Text}

-- a line of text
abbrev pub line : Text → Text
line t = t ++ 10 ∷ []

-- the first line of the list, as a line of text, or nothing
abbrev pub first_line : List Text → Text
first_line [] = []
first_line (t ∷ ts) = line t
