use Rattle.std.proofs.Common.{◌≡◌, ◌++◌, map, drop}
use Rattle.herm_model.specs.Nodes.{catches_of}
use Rattle.herm_typed.specs.Blocks.{handlers_list}
use Rattle.herm_flow.specs.View.{target_view, catch_view}
use Rattle.herm_flow.proofs.starts.handlers_of.Given as goal

-- What was found, with what is left, is the whole.
abbrev pub invariant-handlers : goal.invariant-handlers
invariant-handlers l = map catch_view l.found.items ++ catches_of (handlers_list (drop l.exception-index l.handled)) l.at (target_view l.behind) ≡ catches_of (handlers_list l.handled) l.fn.from (target_view l.behind)
