use Rattle.std.proofs.Common.{sym, subst, ◌∙◌}
use Rattle.herm_meaning.specs.Names.{NamedTable, IsWellNamed}
use Rattle.herm_types.specs.Table.{IsSized}
use Rattle.herm_suits_tests.proofs.Sampled.{sample-is, sample-well_named, sample-sized}
use Rattle.herm_suits_tests.proofs.table.sample.Goals as goal

pub new-requires-clause-well_named : goal.new-requires-clause-well_named
new-requires-clause-well_named c = subst (λ (t : NamedTable). IsWellNamed t) (sym (sample-is c.in_ok-defined.defined.items c.in_ok-exceptions.exceptions.items c.in_ok-defined.ensures.names c.in_ok-defined.ensures.shapes c.in_ok-defined.ensures.parts c.in_ok-exceptions.ensures)) sample-well_named

pub new-requires-clause-sized : goal.new-requires-clause-sized
new-requires-clause-sized c = subst (λ (t : NamedTable). IsSized t) (sym (sample-is c.in_ok-defined.defined.items c.in_ok-exceptions.exceptions.items c.in_ok-defined.ensures.names c.in_ok-defined.ensures.shapes c.in_ok-defined.ensures.parts c.in_ok-exceptions.ensures)) sample-sized

pub returns : goal.returns
returns c = c.in_ok-table.ensures ∙ sample-is c.in_ok-defined.defined.items c.in_ok-exceptions.exceptions.items c.in_ok-defined.ensures.names c.in_ok-defined.ensures.shapes c.in_ok-defined.ensures.parts c.in_ok-exceptions.ensures
