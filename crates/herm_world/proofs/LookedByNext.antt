-- A process that was looked at again, by what is next, where that is no action.
use Rattle.std.proofs.Common.{◌≡◌, ℕ, List, [], Bool, true, false, cond, refl, sym, ap, ◌∙◌}
use Rattle.std.specs.Prelude.{⊤}
use Rattle.herm_instructions.specs.Images.{Image}
use Rattle.herm_code_machine.specs.CodeStates.{CodeState}
use Rattle.herm_system.specs.Machines.{Standing, ended, out_of_steps, out_of_actions, local}
use Rattle.herm_system.specs.Systems.{standing}
use Rattle.herm_steps.specs.declared.running.End.{End}
use Rattle.herm_waking.specs.Numbers.{inserted, removed}
use Rattle.herm_waking.specs.Unnamed.{bare_can, ports_as, ports_of_want}
use Rattle.herm_waking.specs.Waking.{noted_at}
use Rattle.herm_machine.specs.Machines.{nameless}
use Rattle.herm_process.specs.Processes.{ProcessState}
use Rattle.herm_process.specs.declared.next.Next.TheVariants as nexts
use Rattle.herm_process.specs.declared.next.Spent.{Spent}
use Rattle.herm_process.specs.declared.next.Spent.TheVariants as spent
use Rattle.herm_world.specs.Looks.{can_so}
use Rattle.herm_world.specs.Places.{Places, seen_of, waiters_of}
use Rattle.herm_world.specs.Waits.{IsLookedAt, opened}
use Rattle.herm_world.proofs.Awaiting.{awaits-as}
use Rattle.herm_world.proofs.LookedOne.{LooksSo}
use Rattle.herm_world.proofs.StandingSo.{stands-as}
use Rattle.herm_world.proofs.TakenFrom.{IsNextFor}

module _ (p : ProcessState) (s : Places) (who : ℕ) (ready : List ℕ) where
  -- how it stands tells whether it can step, and who stands so waits nowhere
  looked-as : (image : Image) (main : ℕ) (x : CodeState ⊤) (qs : List (CodeState ⊤)) (st : Standing) (b : Bool) → can_so st ≡ b → ((ports : List ℕ) → ports_as st ports ≡ []) → standing (nameless image main) p.limit (bare_can (seen_of qs s) who) x ≡ st
      → IsLookedAt (nameless image main) p.limit (bare_can (seen_of qs s) who) x who s ready s (cond b (inserted who ready) (removed who ready))
  looked-as image main x qs st b can none is = record {
    kept = ap (λ b. cond b (inserted who ready) (removed who ready)) (sym (ap can_so is ∙ can));
    noted = sym (ap (λ ports. noted_at (opened s) who ports (waiters_of s)) (awaits-as (nameless image main) p.limit (bare_can (seen_of qs s) who) x st is ∙ none (ports_of_want ((nameless image main).wanted x))));
  }

  pub looks-local : IsNextFor p nexts.Local → LooksSo who p s ready s (inserted who ready)
  looks-local next image main x at qs = looked-as image main x qs local true refl (λ ports. refl) (stands-as (nameless image main) p.limit (bare_can (seen_of qs s) who) x local (next image main x at))

  pub looks-ended : (end : End) → IsNextFor p (nexts.Ended end) → LooksSo who p s ready s (removed who ready)
  looks-ended end next image main x at qs = looked-as image main x qs ended false refl (λ ports. refl) (stands-as (nameless image main) p.limit (bare_can (seen_of qs s) who) x ended (next image main x at).0)

  pub looks-stopped : (limit : Spent) → IsNextFor p (nexts.Stopped limit) → LooksSo who p s ready s (removed who ready)
  looks-stopped (spent.Steps n) next image main x at qs = looked-as image main x qs out_of_steps false refl (λ ports. refl) (stands-as (nameless image main) p.limit (bare_can (seen_of qs s) who) x out_of_steps (next image main x at).0)
  looks-stopped (spent.Actions n) next image main x at qs = looked-as image main x qs out_of_actions false refl (λ ports. refl) (stands-as (nameless image main) p.limit (bare_can (seen_of qs s) who) x out_of_actions (next image main x at).0)
