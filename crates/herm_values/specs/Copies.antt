-- What a key of the code stands for.
use Rattle.std.specs.Prelude.{ℕ, List}
use Rattle.herm_model.specs.Values as model
use Rattle.herm_values.specs.View.{key_view}
use Rattle.herm_values.specs.declared.scalar.KeyRow.{KeyRow}

-- the scalars of a key and the place that it names
abbrev pub key_row_view : KeyRow → List model.Scalar × ℕ
key_row_view row = (key_view row.key.items, row.place)
