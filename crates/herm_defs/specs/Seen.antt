-- Items as definitions see them.
use Rattle.std.specs.Prelude.{ℕ}
use denote.Bor.{Bor}
use Rattle.herm_syntax.specs.declared.definitions.DefItem.{DefItem}
use Rattle.herm_meaning.specs.Items.{Placed}

abbrev pub item_seen : ℕ × Bor DefItem → Placed
item_seen i = (i.0, i.1.now)
