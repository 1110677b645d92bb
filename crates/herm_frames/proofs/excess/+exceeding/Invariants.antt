use Rattle.std.proofs.Common.{◌≡◌, ◌||◌, ◌*◌, suc, map, drop}
use Rattle.herm_model.specs.Lists.{any_pass}
use Rattle.herm_types.specs.View.{param_view}
use Rattle.herm_frames.specs.Excesses.{is_out, may_exceed}
use Rattle.herm_frames.proofs.excess.+exceeding.Given as goal

abbrev pub decreases-may_exceed : goal.decreases-may_exceed
decreases-may_exceed l = 2 * l.depth

abbrev pub decreases-fields_may_exceed : goal.decreases-fields_may_exceed
decreases-fields_may_exceed l = suc (2 * l.depth)

abbrev pub decreases-params_may_exceed : goal.decreases-params_may_exceed
decreases-params_may_exceed l = suc (2 * l.depth)

abbrev pub invariant-fields_may_exceed-parts : goal.invariant-fields_may_exceed-parts
invariant-fields_may_exceed-parts l = any_pass (may_exceed l.types.shapes l.depth) (map (λ p. p.of.0) (drop l.part-index l.parts)) ≡ any_pass (may_exceed l.types.shapes l.depth) (map (λ p. p.of.0) l.parts)

abbrev pub invariant-params_may_exceed-params : goal.invariant-params_may_exceed-params
invariant-params_may_exceed-params l = any_pass (λ x. is_out x.mode || may_exceed l.types.shapes l.depth x.content) (map param_view (drop l.param-index l.params)) ≡ any_pass (λ x. is_out x.mode || may_exceed l.types.shapes l.depth x.content) (map param_view l.params)
