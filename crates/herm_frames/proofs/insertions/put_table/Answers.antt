use Rattle.std.proofs.Common.{◌≡◌, ℕ, List, refl, ap, ◌∙◌}
use Rattle.std.specs.Prelude.{⊤}
use Rattle.herm_model.specs.Values.{Cell, change_at}
use Rattle.herm_places.specs.Held.{keyed_places, seen_places}
use Rattle.herm_types.specs.View.{path_view}
use Rattle.herm_values.specs.declared.value.Value.{Table as a_held_table}
use Rattle.herm_values.proofs.Seen.{table_view}
use Rattle.herm_values.proofs.Forgotten.{table_keyed}
use Rattle.herm_frames.proofs.insertions.put_table.Goals as goal

pub returns-clause-seen : goal.returns-clause-seen
returns-clause-seen c = c.exchange-away.ensures.new_seen ∙ ap (λ (v : Cell ⊤). change_at (path_view c.args.path.now) (λ d. v) (seen_places c.args.variables.now)) (table_view (a_held_table c.args.table) c.args.table refl)

pub returns-clause-keyed : goal.returns-clause-keyed
returns-clause-keyed c = c.exchange-away.ensures.new ∙ ap (λ (v : Cell (List ℕ)). change_at (path_view c.args.path.now) (λ d. v) (keyed_places c.args.variables.now)) (table_keyed (a_held_table c.args.table) c.args.table refl)
