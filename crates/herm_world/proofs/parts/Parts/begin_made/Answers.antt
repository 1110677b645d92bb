use Rattle.std.proofs.Common.{length, option_map, sym, subst}
use Rattle.herm_code.specs.View.{image_view}
use Rattle.herm_world.specs.Orders.{made_view}
use Rattle.herm_world.specs.Steps.{BeginsMade, IsModule}
use Rattle.herm_world.proofs.parts.Parts.begin_made.Goals as goal

pub begin_one-requires : goal.begin_one-requires
begin_one-requires c = record { there = subst (λ o. IsModule (length c.args.image.now.modules) (option_map made_view o)) c.in-Some.is c.requires.there }

pub returns-in-Some-clause-begins : goal.returns-in-Some-clause-begins
returns-in-Some-clause-begins c =
    subst (λ o. BeginsMade (image_view c.args.image.now) c.args.limits.now.steps c.args.maker c.args.stamp (option_map made_view o) c.args.self.now.processes.items c.begin_one.new.self.processes.items) (sym c.in-Some.is)
    c.in_ok-begin_one-in-Some.ensures.begins
