use Rattle.std.proofs.Common.{subst}
use Rattle.herm_typestate.specs.Trees.{has_mark, IsWithin, IsBeyond}
use Rattle.herm_typestate.specs.Facts.{has_fact, mark_of}
use Rattle.herm_model.specs.Paths.{path_of}
use Rattle.herm_typestate.proofs.FactSets.{beyond_fact, told_true, told_false}
use Rattle.herm_typestate.proofs.state.State.is_below.Goals as goal

pub returns-clause-below : goal.returns-clause-below
unfolding has_fact
returns-clause-below c h f =
    subst (λ ts. IsWithin (has_mark ts) (has_mark c.args.other.now.vars.items)) c.as_slice.ensures.value
    (subst (λ us. IsWithin (has_mark c.as_slice.result.now) (has_mark us)) c.as_slice-2.ensures.value (told_true c.is_below-below.result _ _ c.is_below-below.ensures h)) (mark_of f) (path_of f)

pub returns-clause-witness : goal.returns-clause-witness
unfolding has_fact
returns-clause-witness c h =
    beyond_fact c.args.self.now.vars.items c.args.other.now.vars.items
    (subst (λ ts. IsBeyond (has_mark ts) (has_mark c.args.other.now.vars.items)) c.as_slice.ensures.value
    (subst (λ us. IsBeyond (has_mark c.as_slice.result.now) (has_mark us)) c.as_slice-2.ensures.value (told_false c.is_below-below.result _ _ c.is_below-below.ensures h)))
