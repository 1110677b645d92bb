use Rattle.std.proofs.Common.{◌≡◌, ◌⊎◌, inl, inr, ◌≢◌, ℕ, ◌<◌, ◌≤◌, ◌∷◌, [], length, Option, Some, None, slice_get, slice_set, refl, sym, ◌∙◌, subst, ap, arith}
use Rattle.std.specs.declared.vec.Vec.{Vec}
use Rattle.std.specs.declared.alloc.Global.{Global}
use Rattle.std.proofs.lemmas.Option.{slice_get_past, slice_get_read}
use Rattle.herm_model.specs.Lists.{IsIn}
use Rattle.herm_model.proofs.Lists.{in-append_left, in-append_right}
use Rattle.herm_check.proofs.Joined.{same_or_not, set-here, set-elsewhere}
use Rattle.herm_check.proofs.Searched.{one-at}
use Rattle.herm_check.proofs.alike.add_to_group.Goals as goal

none-some : {X : Type 0} (x : X) → ◌≡◌ {A = Option X} None (Some x) → ⊥
none-some x e = cc

pub returns-in_ok-push-clause-added : goal.returns-in_ok-push-clause-added
returns-in_ok-push-clause-added c g at =
    let groups = c.args.groups.now.items in
    let p = c.args.place in
    let within : p < length groups = omega (arith, c.if-place-len.true) in
    let same = one-at (slice_get (slice_set groups p c.push.new.self) p) c.push.new.self g (set-here groups p c.push.new.self within) at in
    subst (λ (v : Vec ℕ Global). IsIn c.args.n v.items) same (subst (IsIn c.args.n) (sym c.in_ok-push.ensures.items) (in-append_right c.args.n c.index_mut.result.now.items (c.args.n ∷ []) (inl refl)))

pub returns-in_ok-push-clause-kept : goal.returns-in_ok-push-clause-kept
returns-in_ok-push-clause-kept c m g at = by (same_or_not c.args.place m)
  where
    by : (c.args.place ≡ m) ⊎ (c.args.place ≢ m) → (h : Vec ℕ Global) × (slice_get c.args.groups.now.items m ≡ Some h) × ((k : ℕ) → IsIn k h.items → IsIn k g.items)
    by (inl e) =
        let p = c.args.place in
        let xs = c.args.groups.now.items in
        let within : p < length xs = omega (arith, c.if-place-len.true) in
        let old = slice_get_read xs (length xs) p c.index_mut.result.now refl within c.index_mut.ensures.value in
        let same = one-at (slice_get (slice_set xs p c.push.new.self) p) c.push.new.self g (set-here xs p c.push.new.self within) (subst (λ i. slice_get (slice_set xs p c.push.new.self) i ≡ Some g) (sym e) at) in
        (c.index_mut.result.now, subst (λ i. slice_get xs i ≡ Some c.index_mut.result.now) e old, λ k member. subst (λ (v : Vec ℕ Global). IsIn k v.items) same (subst (IsIn k) (sym c.in_ok-push.ensures.items) (in-append_left k c.index_mut.result.now.items (c.args.n ∷ []) member)))
    by (inr d) = (g, sym (set-elsewhere c.args.groups.now.items c.args.place m c.push.new.self d) ∙ at, λ k member. member)

pub returns-else-place-len-clause-added : goal.returns-else-place-len-clause-added
returns-else-place-len-clause-added c g at = absurd (none-some g (sym (slice_get_past c.args.groups.now.items c.args.place (omega (arith, c.if-place-len.false))) ∙ at))
