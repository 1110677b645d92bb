-- The bytes of a text, short or long.
use Rattle.std.specs.Prelude.{ℕ, List, take}
use Rattle.std.specs.Arc.{arc_slice_items}
use Rattle.herm_events.specs.declared.trace.Text.{Text}
use Rattle.herm_events.specs.declared.trace.Text.TheVariants.{Short, Long}

abbrev pub bytes_of : Text → List ℕ
bytes_of (Short short) = take short.count short.bytes
bytes_of (Long shared) = arc_slice_items shared
