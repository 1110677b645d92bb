use Rattle.std.proofs.Common.{◌≡◌, ◌++◌, [], drop, length, IfSome}
use Rattle.herm_model.specs.ValueTexts.{parts_text}
use Rattle.herm_rows.specs.Nodes.{HasNode}
use Rattle.herm_values.specs.Parts.{parts_from}
use Rattle.herm_values.specs.View.{views_of, rows_from, table_parts}
use Rattle.herm_letters.specs.PlaceTexts.{comma_behind}
use Rattle.herm_letters.proofs.text.+text.Given as goal

-- what is written so far, joined with the rest, is the whole
abbrev pub invariant-push_places-places : goal.invariant-push_places-places
invariant-push_places-places l = l.out.items ++ parts_text (parts_from (drop l.n (views_of l.places))) (comma_behind l.n) ≡ l.fn.out.items ++ parts_text (parts_from (views_of l.places)) []

abbrev pub invariant-push_rows-rows : goal.invariant-push_rows-rows
invariant-push_rows-rows l = record {
  stands : IfSome l.next (λ node. HasNode l.table.keys node.0);
  written : l.out.items ++ parts_text (parts_from (rows_from l.table l.next)) l.before ≡ l.fn.out.items ++ parts_text (table_parts l.table) [];
}

abbrev pub decreases-push_rows-rows : goal.decreases-push_rows-rows
decreases-push_rows-rows l = length (rows_from l.table l.next)
