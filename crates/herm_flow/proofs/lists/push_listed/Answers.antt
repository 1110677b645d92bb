use Rattle.std.proofs.Common.{Vec, Global, refl, sym, subst}
use Rattle.herm_model.specs.Lists.{IsIn}
use Rattle.herm_flow.specs.declared.onward.OnwardEdge.{OnwardEdge}
use Rattle.herm_flow.specs.Listed.{AreLed}
use Rattle.herm_flow.proofs.ListedEdges.{listed_more}
use Rattle.herm_flow.proofs.LedEdges.{led_without, led_more, names_alike}
use Rattle.herm_flow.proofs.lists.push_listed.Goals as goal

pub returns-then-is_repeat-clause-led : goal.returns-then-is_repeat-clause-led
returns-then-is_repeat-clause-led c = λ before led.
    let lists = c.name.new.lists in
    let frame = c.args.frame.now in
    let form = c.args.form.now in
    let same = c.in_ok-named.ensures.edges in
    let by = c.is_repeated-is_repeat.ensures.repeated c.if-is_repeat.true in
    let alike = names_alike frame form lists c.as_slice.result.now by.0 c.args.lead _ _ c.in_ok-named.ensures.listed c.as_slice.ensures.value by.1 by.2 by.3 by.4 c.in_ok-named.ensures.named in
    led_without frame form lists.edges.items before c.args.lead by.0 (subst (IsIn by.0) c.as_slice.ensures.value by.1) alike (subst (λ (es : Vec OnwardEdge Global). AreLed frame form es.items before) (sym same) led)

pub returns-clause-listed : goal.returns-clause-listed
returns-clause-listed c = listed_more c.args.frame.now c.args.form.now c.name.new.lists _ _ refl refl c.in_ok-push.ensures.items c.in_ok-named.ensures.named c.in_ok-named.ensures.listed

pub returns-clause-led : goal.returns-clause-led
returns-clause-led c = λ before led.
    led_more c.args.frame.now c.args.form.now c.name.new.lists.edges.items _ before c.args.lead _ c.in_ok-push.ensures.items refl
    (subst (λ (es : Vec OnwardEdge Global). AreLed c.args.frame.now c.args.form.now es.items before) (sym c.in_ok-named.ensures.edges) led)
