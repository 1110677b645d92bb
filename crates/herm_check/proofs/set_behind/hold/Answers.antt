use Rattle.std.proofs.Common.{◌∙◌, sym}
use Rattle.herm_types.specs.View.{fact_view}
use Rattle.herm_check.proofs.InSets.{held-one, known-one}
use Rattle.herm_check.proofs.set_behind.hold.Goals as goal

pub returns-clause-facts : goal.returns-clause-facts
returns-clause-facts c = held-one c.args.numbers.now c.requires.apart (fact_view c.args.fact.now) c.in-Some.number (sym c.number_of.ensures ∙ c.in-Some.is) c.args.held.now c.insert.new.self c.in_ok-insert.ensures.ok

pub returns-clause-known : goal.returns-clause-known
returns-clause-known c = known-one c.args.numbers.now c.requires.apart (fact_view c.args.fact.now) c.in-Some.number (sym c.number_of.ensures ∙ c.in-Some.is) c.args.held.now c.insert.new.self c.in_ok-insert.ensures.ok
