use Rattle.std.proofs.Common.{◌≡◌, ◌++◌, map, drop}
use Rattle.herm_model.specs.Nodes.{catches_of}
use Rattle.herm_typed.specs.Blocks.{handlers_list}
use Rattle.herm_flow.specs.View.{target_view, catch_view}
use Rattle.herm_flow.proofs.starts.reach_of.Given as goal

-- What was found, with what is left, is the whole.
abbrev pub invariant-outer : goal.invariant-outer
invariant-outer l = map catch_view l.found.items ++ map catch_view (drop l.c-index l.outer) ≡ catches_of (handlers_list l.fn.handled) l.fn.from (target_view l.fn.behind) ++ map catch_view l.outer
