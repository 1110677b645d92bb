use Rattle.std.proofs.Common.{sym, subst, map}
use Rattle.herm_syntax.specs.View.{dfact_view}
use Rattle.herm_meaning.specs.DefinitionFaults.{HasBadFacts}
use Rattle.herm_graph.specs.Tells.{Tells}
use Rattle.herm_defs.proofs.FactLaws.{facts-told}
use Rattle.herm_defs.proofs.facts.bad_facts.Goals as goal

pub returns : goal.returns
returns c = subst (λ b. Tells b (HasBadFacts c.args.context.now c.args.message (map dfact_view c.args.facts.now))) (sym c.in_ok-any.ensures) (facts-told c.args.context.now c.args.message (map dfact_view c.args.facts.now) (sym c.if-not-is_record_at.ensures))
