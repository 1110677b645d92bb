use Rattle.std.proofs.Common.{◌∷◌, map, inl, subst}
use Rattle.herm_types.specs.View.{fact_view}
use Rattle.herm_facts.specs.FactNumbers.{number_of}
use Rattle.herm_facts.specs.Numbers.{Appends}
use Rattle.herm_facts.proofs.Walk.{Below, TreesOnce, appended}
use Rattle.herm_facts.proofs.Listed.{facts_below}
use Rattle.herm_facts.proofs.fact_numbers.FactNumbers.below.Goals as goal

pub returns-clause-once : goal.returns-clause-once
unfolding number_of
returns-clause-once c =
    facts_below c.args.self.now.trees.items (map fact_view c.args.self.now.facts.items) (c.args.path.now.var.0 ∷ c.args.path.now.parts.items) c.args.out.now.items c.push_below.new.out.items c.args.self.now.numbers
    (subst (λ ts. Appends (TreesOnce ts) (Below ts (c.args.path.now.var.0 ∷ c.args.path.now.parts.items)) c.args.out.now.items c.push_below.new.out.items) c.as_slice.ensures.value
    (subst (λ p. Appends (TreesOnce c.as_slice.result.now) (Below c.as_slice.result.now (c.args.path.now.var.0 ∷ p)) c.args.out.now.items c.push_below.new.out.items) c.as_slice-2.ensures.value c.in_ok-push_below.ensures))

pub returns-clause-below : goal.returns-clause-below
unfolding number_of
returns-clause-below c = appended _ _ c.args.out.now.items c.push_below.new.out.items (returns-clause-once c)

pub returns-clause-kept : goal.returns-clause-kept
returns-clause-kept c n old = (returns-clause-below c n).1 (inl old)
