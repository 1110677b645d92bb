use Rattle.std.proofs.Common.{map}
use Rattle.herm_types.specs.View.{fact_view}
use Rattle.herm_typestate.specs.Facts.{has_fact}
use Rattle.herm_judge.specs.View.{table_of, variables_of}
use Rattle.herm_effects.proofs.Begun.{begun_is_pushed}
use Rattle.herm_effects.proofs.closed.push_before.Goals as goal

pub returns-then-branch : goal.returns-then-branch
returns-then-branch c = λ fs p.
    begun_is_pushed (table_of c.args.frame.now) (variables_of c.args.frame.now) (has_fact c.args.seen.now) (map fact_view c.args.out.now.items) fs (fact_view c.args.fact.now) (c.in_ok-is_begun.ensures c.if-branch.true) p
