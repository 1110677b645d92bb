use Rattle.std.proofs.Common.{take}
use Rattle.herm_flow.specs.Listed.{AreListed, AreLed}
use Rattle.herm_flow.proofs.lists.lists_of_each.Given as goal

-- The edges so far are those of the outcomes so far.
abbrev pub invariant-each : goal.invariant-each
invariant-each l = record { listed : AreListed l.frame l.form l.lists; led : AreLed l.frame l.form l.lists.edges.items (take l.lead-index l.leads) }
