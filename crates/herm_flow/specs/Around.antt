-- What the text around a statement decides, as the model's.
use Rattle.std.specs.Prelude.{ℕ, map}
use Rattle.herm_model.specs.Targets.{node}
use Rattle.herm_model.specs.Nodes.{Surroundings}
use Rattle.herm_flow.specs.declared.walk.Around.{Around}
use Rattle.herm_flow.specs.View.{target_view, catch_view}

abbrev pub around_view : Around → Surroundings
around_view a = record { behind = target_view a.behind; catches = map catch_view a.catches.now; exit = target_view a.exit }

-- within the block of a loop at this place
abbrev pub in_loop : ℕ → Surroundings → Surroundings
in_loop from s = record { behind = node from; catches = s.catches; exit = s.behind }
