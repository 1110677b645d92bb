use Rattle.std.proofs.Common.{◌∷◌, length, sym, subst}
use Rattle.std.proofs.lemmas.Bool.{ltb-false}
use Rattle.herm_typestate.proofs.Marks.{no_rest}
use Rattle.herm_facts.specs.Numbers.{Appends}
use Rattle.herm_facts.proofs.Walk.{Below, TreesOnce, placed_here, placed_below, nothing_there}
use Rattle.herm_facts.proofs.numbered.+push_below.Goals as goal

pub returns-in_default : goal.returns-in_default
returns-in_default t c = nothing_there c.args.trees.now c.args.at c.args.rest.now c.args.out.now.items (ltb-false c.args.at (length c.args.trees.now) (sym c.in_default.ensures.lookup.0))

pub returns-in_ok-push_tree-in-None : goal.returns-in_ok-push_tree-in-None
returns-in_ok-push_tree-in-None t c =
    subst (λ r. Appends (TreesOnce c.args.trees.now) (Below c.args.trees.now (c.args.at ∷ r)) c.args.out.now.items c.push_tree.new.out.items) (sym (no_rest c.args.rest.now c.in-None.ensures.cases))
    (placed_here c.args.trees.now c.args.at c.in-Some.tree.now c.args.out.now.items c.push_tree.new.out.items c.in-Some.ensures.lookup.3.0 c.in-Some.ensures.lookup.1 c.in_ok-push_tree-in-None.ensures)

pub returns-in_ok-push_below-in-Some-split_first : goal.returns-in_ok-push_below-in-Some-split_first
returns-in_ok-push_below-in-Some-split_first t c =
    let next = c.in-Some-split_first.next.now in
    let rest = c.in-Some-split_first.rest.now in
    subst (λ r. Appends (TreesOnce c.args.trees.now) (Below c.args.trees.now (c.args.at ∷ r)) c.args.out.now.items c.push_below.new.out.items) (sym c.in-Some-split_first.ensures.cases.0)
    (placed_below c.args.trees.now c.args.at c.in-Some.tree.now next rest c.args.out.now.items c.push_below.new.out.items c.in-Some.ensures.lookup.3.0 c.in-Some.ensures.lookup.1
    (subst (λ ts. Appends (TreesOnce ts) (Below ts (next ∷ rest)) c.args.out.now.items c.push_below.new.out.items) c.parts_of.ensures c.in_ok-push_below-in-Some-split_first.ensures))
