-- What the types of the generator stand for.
use Rattle.herm_model.specs.Expressions as model
use Rattle.herm_typed.specs.View.{typed_literal_view}
use Rattle.herm_code.specs.View.{instr_view}
use Rattle.herm_fronts.specs.declared.expressions.Item.{Item}
use Rattle.herm_fronts.specs.declared.expressions.Item.TheVariants.{Literal, Done}
use Rattle.herm_fronts.specs.declared.constants.Key.{Key}
use Rattle.herm_fronts.specs.declared.constants.Key.TheVariants.{Bool, Int, Text, Tag}
use Rattle.herm_fronts.specs.Operands as operands

abbrev pub item_view : Item → operands.Operand
item_view (Literal l) = operands.constant (typed_literal_view l.now)
item_view (Done i) = operands.done_by (instr_view i)

abbrev pub key_view : Key → model.Literal
key_view (Bool b) = model.boolean b
key_view (Int n) = model.integer n
key_view (Text bytes) = model.text bytes
key_view (Tag t place) = model.tag t.0 place
