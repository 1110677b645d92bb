-- Types by number, where there may be none, and what a frame knows.
use Rattle.std.specs.Prelude.{ℕ, List, map, Option, option_map}
use Rattle.herm_base.specs.declared.numbers.TypeNo.{TypeNo}
use Rattle.herm_model.specs.Types.{TypeTable}
use Rattle.herm_fronts.specs.declared.frame.Frame.{Frame}

abbrev pub kind : Option TypeNo → Option ℕ
kind t = option_map (λ t. t.0) t

abbrev pub kinds : List TypeNo → List ℕ
kinds ts = map (λ t. t.0) ts

-- the shapes of the types, and the types of the variables
abbrev pub table_of : Frame → TypeTable
table_of f = f.types.now.shapes

abbrev pub variables_of : Frame → List ℕ
variables_of f = kinds f.of.now
