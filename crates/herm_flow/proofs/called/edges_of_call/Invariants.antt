use Rattle.std.proofs.Common.{◌≡◌, map, take}
use Rattle.herm_flow.specs.Listed.{lead_of, AreCalled}
use Rattle.herm_flow.proofs.called.edges_of_call.Given as goal

-- The edges so far are those of the outcomes so far.
abbrev pub invariant-each : goal.invariant-each
invariant-each l = record { called : AreCalled l.frame l.o l.edges.items; leads : map lead_of l.edges.items ≡ take l.lead-index l.leads }
