use Rattle.std.proofs.Common.{◌≡◌, Some, option_map, sym, ap, ◌∙◌}
use Rattle.herm_model.specs.Values.{read_at}
use Rattle.herm_places.specs.Held.{keyed_places, seen_places}
use Rattle.herm_types.specs.View.{path_view}
use Rattle.herm_values.specs.Keyed.{keyed_view}
use Rattle.herm_values.specs.View.{value_view}
use Rattle.herm_frames.proofs.TablesTaken.{taken_seen, taken_keyed, taken_none, taken_key, key_gone}
use Rattle.herm_frames.proofs.insertions.take_table.Goals as goal

pub returns-clause-seen : goal.returns-clause-seen
returns-clause-seen c = taken_seen c.into_table.result c.in-Some.held _ (ap (option_map value_view) (sym c.in-Some.is) ∙ c.exchange.ensures.old_seen) c.into_table.ensures.seen

pub returns-clause-keyed : goal.returns-clause-keyed
returns-clause-keyed c = taken_keyed c.into_table.result c.in-Some.held _ (ap (option_map keyed_view) (sym c.in-Some.is) ∙ c.exchange.ensures.old) c.into_table.ensures.keyed

pub returns-clause-none : goal.returns-clause-none
returns-clause-none c = taken_none c.into_table.result c.in-Some.held _ _ (ap (option_map keyed_view) (sym c.in-Some.is) ∙ c.exchange.ensures.old) c.into_table.ensures.none

pub returns-in_default-clause-none_keyed : goal.returns-in_default-clause-none_keyed
returns-in_default-clause-none_keyed c key is =
    key_gone key _ (path_view c.args.path.now) (keyed_places c.args.variables.now) (keyed_places c.exchange.new.self) (sym (ap (option_map keyed_view) c.in_default.is) ∙ c.exchange.ensures.old) c.exchange.ensures.new

pub returns-clause-none_keyed : goal.returns-clause-none_keyed
returns-clause-none_keyed c = taken_key c.into_table.result c.in-Some.held _ _ (ap (option_map keyed_view) (sym c.in-Some.is) ∙ c.exchange.ensures.old) c.into_table.ensures.none
