use Rattle.std.proofs.Common.{◌≡◌, ◌++◌, drop}
use Rattle.herm_model.specs.Tables.{key_of}
use Rattle.herm_values.specs.View.{value_view, key_view}
use Rattle.herm_values.proofs.keys.key_of.Given as goal

abbrev pub invariant-columns : goal.invariant-columns
invariant-columns l = key_view l.key.items ++ key_of (drop l.column-index l.columns) (value_view l.row) ≡ key_of l.columns (value_view l.row)
