-- Values of the kinds that hold no memory: one that goes need not be dropped.
use Rattle.std.specs.Prelude.{Bool, true, false, List, [], ◌∷◌, ◌&&◌}
use Rattle.herm_values.specs.declared.value.Value.{Value}
use Rattle.herm_values.specs.declared.value.Value.TheBlock as values

-- booleans, integers, names of enumerations, and ports
abbrev pub takes_no_memory : Value → Bool
takes_no_memory (values.Bool b) = true
takes_no_memory (values.Int n) = true
takes_no_memory (values.Text t) = false
takes_no_memory (values.Tag i) = true
takes_no_memory (values.Fields' shape fields) = false
takes_no_memory (values.Case' component pointer v) = false
takes_no_memory (values.Table' pointer columns keys shape rows) = false
takes_no_memory (values.Poly' tag depth pointer v) = false
takes_no_memory (values.Call' caller call shape params) = false
takes_no_memory (values.Inport port) = true
takes_no_memory (values.Outport port) = true

-- the top is there and takes no memory
abbrev pub top_takes_no_memory : List Value → Bool
top_takes_no_memory [] = false
top_takes_no_memory (v ∷ below) = takes_no_memory v

-- the top two are there and neither takes memory
abbrev pub two_take_no_memory : List Value → Bool
two_take_no_memory [] = false
two_take_no_memory (right ∷ below) = takes_no_memory right && top_takes_no_memory below
