use Rattle.std.proofs.Common.{◌≡◌, ◌++◌, map, drop}
use Rattle.herm_journal.specs.Entries.{more_texts_of}
use Rattle.herm_values.specs.View.{value_view}
use Rattle.herm_letters.proofs.text.push_more_texts.Given as goal

abbrev pub invariant-values : goal.invariant-values
invariant-values l = l.out.items ++ more_texts_of (map value_view (drop l.v-index l.values)) ≡ l.fn.out.items ++ more_texts_of (map value_view l.values)
