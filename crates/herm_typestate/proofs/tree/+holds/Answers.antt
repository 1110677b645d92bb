use Rattle.std.proofs.Common.{◌≡◌, ◌∷◌, [], sym, ap, ◌∙◌, subst}
use Rattle.herm_typestate.specs.Trees.{has_mark}
use Rattle.herm_typestate.proofs.Marks.{at_place, no_rest}
use Rattle.herm_typestate.proofs.tree.+holds.Goals as goal

pub returns-in-None : goal.returns-in-None
returns-in-None t c =
    subst (λ r. c.has.result ≡ has_mark c.args.trees.now c.args.mark (c.args.at ∷ r)) (sym (no_rest c.args.rest.now c.in-None.ensures.cases))
    (c.has.ensures ∙ sym (at_place c.args.trees.now c.args.at c.in-Some.tree.now c.in-Some.ensures.lookup.3.0 c.in-Some.ensures.lookup.1 c.args.mark []))

pub returns-in-Some-split_first : goal.returns-in-Some-split_first
returns-in-Some-split_first t c =
    subst (λ r. c.holds.result ≡ has_mark c.args.trees.now c.args.mark (c.args.at ∷ r)) (sym c.in-Some-split_first.ensures.cases.0)
    (c.holds.ensures ∙ (ap (λ ts. has_mark ts c.args.mark (c.in-Some-split_first.next.now ∷ c.in-Some-split_first.rest.now)) c.as_slice.ensures.value
    ∙ sym (at_place c.args.trees.now c.args.at c.in-Some.tree.now c.in-Some.ensures.lookup.3.0 c.in-Some.ensures.lookup.1 c.args.mark (c.in-Some-split_first.next.now ∷ c.in-Some-split_first.rest.now))))
