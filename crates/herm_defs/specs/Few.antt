-- Lists whose elements have numbers of 32 bits.
use Rattle.std.specs.Prelude.{ℕ, List, length, ◌<◌, ◌^◌}
use Rattle.herm_model.specs.Lists.{IsIn}
use Rattle.herm_syntax.specs.declared.definitions.DefForm.{DefForm}
use Rattle.herm_syntax.specs.declared.definitions.DefForm.TheVariants.{Shaped, Exception}
use Rattle.herm_syntax.specs.declared.definitions.ShapeForm.{ShapeForm}
use Rattle.herm_syntax.specs.declared.definitions.ShapeForm.TheVariants.{Names, Fields, Cases, Rows, Inport, Outport, CallMessage}
use Rattle.herm_meaning.specs.Items.{Placed}

-- how many parts a shape lists
abbrev pub part_total : ShapeForm → ℕ
part_total (Names values) = length values.items
part_total (Fields fs) = length fs.items
part_total (Cases cs) = length cs.items
part_total (Rows row keys) = length keys.items
part_total (Inport message facts) = length facts.items
part_total (Outport port) = 0
part_total (CallMessage params raises) = length params.items

abbrev pub form_total : DefForm → ℕ
form_total (Shaped shape) = part_total shape
form_total Exception = 0

-- No list of parts is longer than there are numbers.
abbrev pub AreFew : List Placed → Type 0
AreFew items = (i : Placed) → IsIn i items → form_total i.1.form < 2 ^ 31
