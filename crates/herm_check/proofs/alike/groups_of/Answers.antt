use Rattle.std.proofs.Common.{◌≡◌, ◌⊎◌, inl, inr, ◌≢◌, ℕ, ◌<◌, ◌+◌, length, Some, slice_get, get_or, refl, sym, subst, arith, ap, ◌∙◌}
use Rattle.std.specs.declared.vec.Vec.{Vec}
use Rattle.std.specs.declared.alloc.Global.{Global}
use Rattle.std.proofs.lemmas.Option.{slice_get_within, slice_get-get_or}
use Rattle.herm_model.specs.Lists.{IsIn}
use Rattle.herm_check.proofs.Joined.{same_or_not}
use Rattle.herm_check.proofs.Searched.{one-at}
use Rattle.herm_check.proofs.alike.groups_of.Goals as goal

pub loop-n-preserved : goal.loop-n-preserved
loop-n-preserved c = (omega (arith, c.in_ok-add_to_group.ensures.many, c.loop-n.invariant.0), λ k m g before first at. by k m g before first at (same_or_not k c.loop-n.n))
  where
    by : (k m : ℕ) (g : Vec ℕ Global) → k < c.loop-n.n + 1 → slice_get c.args.firsts.now k ≡ Some m → slice_get c.add_to_group.new.groups.items m ≡ Some g → (k ≡ c.loop-n.n) ⊎ (k ≢ c.loop-n.n) → IsIn k g.items
    by k m g before first at (inr d) =
        let h = c.in_ok-add_to_group.ensures.kept m g at in
        h.2 k (c.loop-n.invariant.1 k m h.0 (omega (arith, before, d)) first h.1)
    by k m g before first at (inl e) =
        let n = c.loop-n.n in
        let firsts = c.args.firsts.now in
        let read = slice_get-get_or firsts n 0 (omega (arith, c.loop-n-test.true)) in
        let same : m ≡ get_or firsts n 0 = one-at (slice_get firsts n) m (get_or firsts n 0) (subst (λ i. slice_get firsts i ≡ Some m) e first) read in
        subst (λ i. IsIn i g.items) (sym e) (c.in_ok-add_to_group.ensures.added g (subst (λ i. slice_get c.add_to_group.new.groups.items i ≡ Some g) same at))

pub returns-clause-groups : goal.returns-clause-groups
returns-clause-groups c n m g first at =
    let within = slice_get_within c.args.firsts.now n m first in
    c.loop-n.invariant.1 n m g (omega (arith, within, c.loop-n-test.false)) first at
