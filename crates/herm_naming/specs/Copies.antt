-- What statements copy, and whether it may be copied. Language reference, "Copyable types".
use Rattle.std.specs.Prelude.{ℕ, Bool, true, ◌&&◌, List, [], ◌∷◌, ◌++◌, Option, Some}
use Rattle.herm_model.specs.Lists.{all_pass, map_or}
use Rattle.herm_model.specs.Paths.{Path}
use Rattle.herm_model.specs.Types.{TypeTable, Shape, rows, greatest_depth}
use Rattle.herm_model.specs.Copyable.{is_copyable_within}
use Rattle.herm_model.specs.Expressions.{Expression, literal, copy, negation, logical_not, operation, size_of, decimal, length_of, paths_among}
use Rattle.herm_model.specs.Calls.{call_parameters, arguments_by}
use Rattle.herm_model.specs.Statements.{Form, Assign, Remove, Get, For, Call, If, While, Statement, simple, choosing, repeating, leaving, trying}
use Rattle.herm_naming.specs.Fits.{is_in_mode, when_known, may_be, type_of}

-- the paths whose values an expression copies
abbrev pub copied : Expression → List Path
copied (literal l) = []
copied (copy p) = p ∷ []
copied (negation e) = copied e
copied (logical_not e) = copied e
copied (operation o left right) = copied left ++ copied right
copied (size_of p) = []
copied (decimal e) = copied e
copied (length_of e) = copied e

module _ (table : TypeTable) where
  -- a type may be copied
  abbrev pub may_copy : Option ℕ → Bool
  may_copy t = map_or true (is_copyable_within greatest_depth table) (when_known table t)

  -- a table whose rows may be copied
  abbrev pub may_copy_rows : Shape → Bool
  may_copy_rows (rows row key) = may_copy (Some row)
  may_copy_rows s = true

  module _ (types : List ℕ) where
    abbrev pub may_copy_each : List Path → Bool
    may_copy_each ps = all_pass (λ p. may_copy (type_of table types p)) ps

    -- What a form copies may be copied: paths in expressions, keys, `in` arguments, and the rows of `get` and `for`.
    -- Language reference, "Copyable types".
    abbrev pub copies_form : Form → Bool
    copies_form (Assign x e) = may_copy_each (copied e)
    copies_form (Remove r t keys) = may_copy_each (paths_among keys)
    copies_form (Get r t keys) = may_copy_each (paths_among keys) && may_be table may_copy_rows (type_of table types t)
    copies_form (For r t) = may_be table may_copy_rows (type_of table types t)
    copies_form (Call o arguments) = may_copy_each (arguments_by is_in_mode (call_parameters table types o) arguments)
    copies_form (If e) = may_copy_each (copied e)
    copies_form (While e) = may_copy_each (copied e)
    copies_form _ = true

    abbrev pub copies_statement : Statement → Bool
    copies_statement (simple f) = copies_form f
    copies_statement (choosing f _) = copies_form f
    copies_statement (repeating f body) = copies_form f
    copies_statement leaving = true
    copies_statement (trying _ _) = true
