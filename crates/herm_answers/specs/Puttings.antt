-- Instructions that put a message.
use Rattle.std.specs.Prelude.{◌≡◌, List, map, Bool, true, false}
use Rattle.herm_model.specs.Paths.{Path}
use Rattle.herm_model.specs.Types.{Raised}
use Rattle.herm_code.specs.View.{argument_view}
use Rattle.herm_instructions.specs.Instructions.{Instruction, Send, Call}
use Rattle.herm_types.specs.View.{path_view}
use Rattle.herm_answers.specs.declared.putting.Putting.{Putting}
use Rattle.herm_answers.specs.declared.putting.Putting.TheVariants as puttings

abbrev pub is_putting : Instruction → Bool
is_putting (Send x o trim) = true
is_putting (Call o arguments keeps) = true
is_putting _ = false

abbrev pub IsPutting : Putting → Instruction → Type 0
IsPutting (puttings.Sending source) i = (o : Path) × (trim : List Path) × (i ≡ Send (path_view source.now) o trim)
IsPutting (puttings.Calling arguments) i = (o : Path) × (keeps : List Raised) × (i ≡ Call o (map argument_view arguments.now) keeps)
IsPutting puttings.Other i = is_putting i ≡ false
