-- Literals one after the other, each once.
use Rattle.std.specs.Prelude.{List, [], ◌∷◌, ◌++◌, cond}
use Rattle.herm_model.specs.Lists.{any_pass}
use Rattle.herm_model.specs.Expressions.{Literal}
use Rattle.herm_translated.specs.Constants.{same_literal}

-- a literal behind others, where it is not among them
abbrev pub with_literal : List Literal → Literal → List Literal
with_literal ks l = cond (any_pass (same_literal l) ks) ks (ks ++ l ∷ [])

-- each of these in turn
abbrev pub shared : List Literal → List Literal → List Literal
shared ks [] = ks
shared ks (l ∷ ls) = shared (with_literal ks l) ls
