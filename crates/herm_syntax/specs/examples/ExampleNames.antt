-- Names and the least trees of the computed examples.
use Rattle.std.specs.Prelude.{[], ◌∷◌, codes}
use Rattle.herm_syntax.specs.Symbols.{Symbol, Identifier}
use Rattle.herm_syntax.specs.Trees.{Letters, Path, Statement, Leave}

abbrev pub a : Letters
a = codes "a"

abbrev pub b : Letters
b = codes "b"

abbrev pub c : Letters
c = codes "c"

abbrev pub d : Letters
d = codes "d"

abbrev pub e : Letters
e = codes "e"

abbrev pub f : Letters
f = codes "f"

abbrev pub variable : Letters → Symbol
variable letters = Identifier letters

abbrev pub one : Letters → Path
one letters = letters ∷ []

-- leave;
abbrev pub left : Statement
left = Leave
