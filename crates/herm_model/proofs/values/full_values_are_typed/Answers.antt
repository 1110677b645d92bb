use Rattle.std.proofs.Common.{◌∷◌, subst, sym, ap}
use Rattle.herm_model.specs.Lists.{IsIn}
use Rattle.herm_model.specs.Paths.{init, path_of}
use Rattle.herm_model.specs.Types.{full_parts, greatest_depth, part_paths}
use Rattle.herm_model.proofs.Lists.{in-map, in-map_from, cons-tail}
use Rattle.herm_model.proofs.Steps.{full-named, steps-lead, steps-listed}
use Rattle.herm_model.proofs.Typing.{full-typed}
use Rattle.herm_model.proofs.FullFacts.{full-leads, leads-full, exact-full}
use Rattle.herm_model.proofs.values.full_values_are_typed.Goals as goal

pub returns-clause-full : goal.returns-clause-full
returns-clause-full c = λ table t x h. full-typed table t x h

pub returns-clause-facts : goal.returns-clause-facts
returns-clause-facts c = λ table t x w h q. (
  λ v. in-map (λ r. init (0 ∷ r)) q (part_paths full_parts table t) (steps-listed full_parts table full-named greatest_depth t w q (full-leads table q t x h v)),
  λ i. let r = in-map_from (λ r. init (0 ∷ r)) (init (0 ∷ q)) (part_paths full_parts table t) i in
      leads-full table q t x h (steps-lead full_parts table greatest_depth t q (subst (λ z. IsIn z (part_paths full_parts table t)) (sym (cons-tail (ap path_of r.2))) r.1)),
)

pub returns-clause-only : goal.returns-clause-only
returns-clause-only c = λ table t x w h E. exact-full table x greatest_depth t w h (λ i q. (
  λ v. let l = in-map_from (λ r. init (0 ∷ r)) (init (0 ∷ i ∷ q)) (part_paths full_parts table t) ((E (i ∷ q)).0 v) in
      steps-lead full_parts table greatest_depth t (i ∷ q) (subst (λ z. IsIn z (part_paths full_parts table t)) (sym (cons-tail (ap path_of l.2))) l.1),
  λ l. (E (i ∷ q)).1 (in-map (λ r. init (0 ∷ r)) (i ∷ q) (part_paths full_parts table t) (steps-listed full_parts table full-named greatest_depth t w (i ∷ q) l)),
))
