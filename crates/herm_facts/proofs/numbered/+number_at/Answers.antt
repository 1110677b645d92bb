use Rattle.std.proofs.Common.{◌≡◌, ◌∷◌, [], sym, ap, ◌∙◌, subst}
use Rattle.herm_typestate.proofs.Marks.{no_rest}
use Rattle.herm_facts.specs.Numbers.{number_by, numbers_at}
use Rattle.herm_facts.proofs.Giving.{at_place}
use Rattle.herm_facts.proofs.numbered.+number_at.Goals as goal

pub returns-in-None : goal.returns-in-None
returns-in-None t c =
    subst (λ r. c.own_number.result ≡ number_by (numbers_at c.args.trees.now (c.args.at ∷ r)) c.args.component) (sym (no_rest c.args.rest.now c.in-None.ensures.cases))
    (c.own_number.ensures ∙ ap (λ ns. number_by ns c.args.component) (sym (at_place c.args.trees.now c.args.at c.in-Some.tree.now c.in-Some.ensures.lookup.3.0 c.in-Some.ensures.lookup.1 [])))

pub returns-in-Some-split_first : goal.returns-in-Some-split_first
returns-in-Some-split_first t c =
    let rest = c.in-Some-split_first.next.now ∷ c.in-Some-split_first.rest.now in
    subst (λ r. c.number_at.result ≡ number_by (numbers_at c.args.trees.now (c.args.at ∷ r)) c.args.component) (sym c.in-Some-split_first.ensures.cases.0)
    (c.number_at.ensures ∙ (ap (λ ts. number_by (numbers_at ts rest) c.args.component) c.parts_of.ensures
    ∙ ap (λ ns. number_by ns c.args.component) (sym (at_place c.args.trees.now c.args.at c.in-Some.tree.now c.in-Some.ensures.lookup.3.0 c.in-Some.ensures.lookup.1 rest))))
