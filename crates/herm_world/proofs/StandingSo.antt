-- Whether a process can step, by what comes next.
use Rattle.std.proofs.Common.{◌≡◌, ℕ, Bool, true, false, cond, Some, refl, sym, ap, ◌∙◌}
use Rattle.std.specs.Prelude.{⊤}
use Rattle.herm_journal.specs.Messages.{CellWant}
use Rattle.herm_system.specs.Machines.{Machine, Standing, local, acting, waiting}
use Rattle.herm_system.specs.Systems.{standing, seen_as, can_be_done}
use Rattle.herm_world.specs.Looks.{can_so}

module _ {Q : Type 0} (machine : Machine ⊤ Q) (limit : ℕ) (can : CellWant ⊤ → Bool) (x : Q) where
  pub stands-as : (s : Standing) → machine.ready limit x ≡ s → standing machine limit can x ≡ seen_as s (can_be_done can (machine.wanted x))
  stands-as s e = ap (λ r. seen_as r (can_be_done can (machine.wanted x))) e

  pub local-can : machine.ready limit x ≡ local → true ≡ can_so (standing machine limit can x)
  local-can e = sym (ap can_so (stands-as local e))

  pub acting-as : (w : CellWant ⊤) → machine.ready limit x ≡ acting → machine.wanted x ≡ Some w → standing machine limit can x ≡ cond (can w) acting waiting
  acting-as w e wants = stands-as acting e ∙ ap (λ o. cond (can_be_done can o) acting waiting) wants

  pub acting-can : (w : CellWant ⊤) → machine.ready limit x ≡ acting → machine.wanted x ≡ Some w → can w ≡ can_so (standing machine limit can x)
  acting-can w e wants = sym (ap can_so (acting-as w e wants) ∙ by (can w))
    where
      by : (b : Bool) → can_so (cond b acting waiting) ≡ b
      by true = refl
      by false = refl
