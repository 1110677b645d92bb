-- At which ports a process waits, by how it stands.
use Rattle.std.proofs.Common.{◌≡◌, ℕ, List, [], ◌∷◌, Bool, true, false, cond, Some, refl, sym, ap, ◌∙◌, true≢false}
use Rattle.std.specs.Prelude.{⊤}
use Rattle.herm_model.proofs.Options.{some-injective}
use Rattle.herm_journal.specs.Actions.{new_port, new_process, to_put, to_take, to_close, to_answer, to_hear}
use Rattle.herm_journal.specs.Messages.{CellWant}
use Rattle.herm_system.specs.Machines.{Machine, Standing, ended, out_of_steps, out_of_actions, local, acting, waiting}
use Rattle.herm_system.specs.Systems.{standing}
use Rattle.herm_waking.specs.Unnamed.{ports_as, ports_of_want}
use Rattle.herm_exchanges.specs.Told.{Told, told}
use Rattle.herm_world.specs.Looks.{can_so}
use Rattle.herm_world.specs.Waits.{awaited_so, is_take}
use Rattle.herm_world.proofs.StandingSo.{acting-as}

-- nothing is waited for where no message is wanted
pub none-awaited : (w : CellWant ⊤) (t : Told) → told w ≡ Some t → is_take t ≡ false → ports_of_want (Some w) ≡ []
none-awaited new_port t e f = refl
none-awaited (new_process code) t e f = refl
none-awaited (to_put n m) t e f = refl
none-awaited (to_take []) t e f = refl
none-awaited (to_take (n ∷ ports)) t e f = absurd (true≢false (ap is_take (some-injective e) ∙ f))
none-awaited (to_close n) t e f = refl
none-awaited (to_answer caller call r) t e f = refl
none-awaited to_hear t e f = refl

-- who can step waits nowhere
pub able-waits_nowhere : (s : Standing) (ports : List ℕ) → can_so s ≡ true → ports_as s ports ≡ []
able-waits_nowhere ended ports e = refl
able-waits_nowhere out_of_steps ports e = refl
able-waits_nowhere out_of_actions ports e = refl
able-waits_nowhere waiting ports e = absurd (true≢false (sym e))
able-waits_nowhere local ports e = refl
able-waits_nowhere acting ports e = refl

module _ {Q : Type 0} (machine : Machine ⊤ Q) (limit : ℕ) (can : CellWant ⊤ → Bool) (x : Q) where
  pub awaits-as : (s : Standing) → standing machine limit can x ≡ s → awaited_so machine limit can x ≡ ports_as s (ports_of_want (machine.wanted x))
  awaits-as s e = ap (λ s. ports_as s (ports_of_want (machine.wanted x))) e

  -- who wants what it cannot do now waits
  pub stuck-waits : (w : CellWant ⊤) → machine.ready limit x ≡ acting → machine.wanted x ≡ Some w → can_so (standing machine limit can x) ≡ false → awaited_so machine limit can x ≡ ports_of_want (machine.wanted x)
  stuck-waits w next wants stuck = awaits-as (cond (can w) acting waiting) (acting-as machine limit can x w next wants) ∙ by (can w) (sym (ap can_so (acting-as machine limit can x w next wants)) ∙ stuck)
    where
      by : (b : Bool) → can_so (cond b acting waiting) ≡ false → ports_as (cond b acting waiting) (ports_of_want (machine.wanted x)) ≡ ports_of_want (machine.wanted x)
      by true e = absurd (true≢false e)
      by false e = refl
