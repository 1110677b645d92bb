-- Constants: the literals of a program in one list, and the place of each.
use Rattle.std.specs.Prelude.{ℕ, suc, List, [], ◌∷◌, ◌++◌, filter, flat_map, Bool, false, not, ◌&&◌, cond, nat_eq}
use Rattle.herm_model.specs.Lists.{same_numbers}
use Rattle.herm_model.specs.Tables.{same_boolean, same_integer}
use Rattle.herm_model.specs.Expressions.{Literal, boolean, integer, text, tag, Expression, literal, copy, negation, logical_not, operation, size_of, decimal, length_of, Atom}
use Rattle.herm_model.specs.Statements.{Form, Assign, Remove, Get, Call, If, While}

abbrev pub same_literal : Literal → Literal → Bool
same_literal (boolean a) (boolean b) = same_boolean a b
same_literal (integer y) (integer z) = same_integer y z
same_literal (text s) (text t) = same_numbers s t
same_literal (tag t i) (tag u j) = nat_eq t u && nat_eq i j
same_literal _ _ = false

-- the place of a literal among constants, the first where it is
abbrev pub place_of : List Literal → Literal → ℕ
place_of [] l = 0
place_of (k ∷ constants) l = cond (same_literal k l) 0 (suc (place_of constants l))

-- the literals of an expression, in the order in which it is written
abbrev pub literals_of : Expression → List Literal
literals_of (literal l) = l ∷ []
literals_of (copy p) = []
literals_of (negation e) = literals_of e
literals_of (logical_not e) = literals_of e
literals_of (operation o left right) = literals_of left ++ literals_of right
literals_of (size_of p) = []
literals_of (decimal e) = literals_of e
literals_of (length_of e) = literals_of e

-- the literals among atoms, in order
abbrev pub literals_among : List Atom → List Literal
literals_among [] = []
literals_among (Atom.literal l ∷ atoms) = l ∷ literals_among atoms
literals_among (Atom.path p ∷ atoms) = literals_among atoms

-- the literals of a form
abbrev pub literals_in : Form → List Literal
literals_in (Assign x e) = literals_of e
literals_in (Remove r t keys) = literals_among keys
literals_in (Get r t keys) = literals_among keys
literals_in (Call o arguments) = literals_among arguments
literals_in (If e) = literals_of e
literals_in (While e) = literals_of e
literals_in form = []

-- each literal once, where it comes first
abbrev pub once : List Literal → List Literal
once [] = []
once (l ∷ ls) = l ∷ filter (λ k. not (same_literal l k)) (once ls)

-- The constants of a program with these forms. Code reference, "Modules and images".
abbrev pub constants_of : List Form → List Literal
constants_of forms = once (flat_map literals_in forms)
