use Rattle.std.proofs.Common.{◌≡◌, ◌+◌, ◌*◌, map, Some, length, slice_get, sym, ◌∙◌, ap, subst, arith}
use Rattle.std.proofs.lemmas.Option.{slice_get_within}
use Rattle.herm_model.proofs.Lists.{length-map}
use Rattle.herm_types.specs.View.{fact_view}
use Rattle.herm_flow.specs.OnwardView.{onward_flow_view}
use Rattle.herm_check.specs.Effects.{share, AreEffectsIn}
use Rattle.herm_check.proofs.EdgeEffects.{effects-known}
use Rattle.herm_check.proofs.Shares.{share-has}
use Rattle.herm_check.proofs.search.search_for.Goals as goal

pub shared_in-facts-requires : goal.shared_in-facts-requires
shared_in-facts-requires c =
    let facts = c.facts.result.now in
    let f = c.requires.first.0 in
    let within = slice_get_within (map fact_view facts) (64 * c.args.number) f ((c.facts.ensures f (64 * c.args.number)).1 c.requires.first.1) in
    omega (arith, within, length-map fact_view facts)

pub effects_in-requires : goal.effects_in-requires
effects_in-requires c = c.requires.lists.many

pub complete-requires-clause-effects : goal.complete-requires-clause-effects
complete-requires-clause-effects c =
    let facts = map fact_view c.facts.result.now in
    subst (λ es. AreEffectsIn (onward_flow_view c.args.flow.now) (map fact_view c.shared_in-facts.result.now) es) (sym c.as_slice.ensures.value)
    (subst (λ fs. AreEffectsIn (onward_flow_view c.args.flow.now) fs c.in_ok-effects.effects.items) (sym c.shared_in-facts.ensures.facts)
    (effects-known c.args.lost.now facts c.facts.ensures c.args.number c.args.flow.now c.args.lists.now c.in_ok-effects.effects.items c.requires.lists c.in_ok-effects.ensures))

pub returns : goal.returns
returns c j f less number =
    let h = c.in_ok-complete.ensures in
    let facts = map fact_view c.facts.result.now in
    let at = subst (λ fs. slice_get fs j ≡ Some f) (sym c.shared_in-facts.ensures.facts) (share-has facts c.args.number j f less ((c.facts.ensures f (64 * c.args.number + j)).1 number)) in
    record { visits = h.visits; search = h.each j f at; left = h.left j f at }
