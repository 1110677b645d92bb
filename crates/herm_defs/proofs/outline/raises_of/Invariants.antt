use Rattle.std.proofs.Common.{◌≡◌, map, take}
use Rattle.herm_syntax.specs.View.{raise_form_view}
use Rattle.herm_meaning.specs.Meaning.{raising_numbered}
use Rattle.herm_types.specs.View.{raise_decl_view}
use Rattle.herm_defs.proofs.outline.raises_of.Given as goal

abbrev pub invariant-loop-raise : goal.invariant-loop-raise
invariant-loop-raise l = map raise_decl_view l.numbered.items ≡ map (raising_numbered l.exceptions) (map raise_form_view (take l.raise-index l.raises))
