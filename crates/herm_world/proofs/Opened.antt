-- A world opens: the process of main is looked at, and the world shows the run of no events.
use Rattle.std.proofs.Common.{◌≡◌, ◌≤◌, ◌<◌, ℕ, zero, suc, List, [], ◌∷◌, map, length, false, Some, None, refl, sym, ap, subst, arith}
use Rattle.std.specs.Prelude.{IsTrue, slice_get, ⊤}
use Rattle.herm_model.specs.Lists.{list_of}
use Rattle.herm_model.specs.Typed.{is_text}
use Rattle.herm_model.specs.TypedPrograms.{main_start}
use Rattle.herm_model.proofs.Options.{chain-some, none-not_some, some-injective}
use Rattle.herm_journal.specs.Entries.{Text}
use Rattle.herm_journal.specs.NextNumbers.{Limits}
use Rattle.herm_instructions.specs.Images.{Image}
use Rattle.herm_system.specs.Systems.{numbered_from_one}
use Rattle.herm_code_machine.specs.CodeStates.{CodeState}
use Rattle.herm_code_machine.specs.CodeTypes.{first_type}
use Rattle.herm_code_machine.specs.ReadyCode.{ReadyCode, labelled_image}
use Rattle.herm_code_worlds.specs.CodeWorlds.{named, nameless}
use Rattle.herm_code_worlds.specs.laws.WorldOfCode.{WorksAsWorld}
use Rattle.herm_waking.specs.KeptRounds.{first_worked}
use Rattle.herm_waking.specs.Unnamed.{bare_can}
use Rattle.herm_waking.specs.UnnamedRounds.{BareWorked, bare_first, bare_opening}
use Rattle.herm_process.specs.Processes.{ProcessState, IsProcess}
use Rattle.herm_ready.specs.Table.{ReadySet}
use Rattle.herm_world.specs.Opening.{AreOpening, IsFirst}
use Rattle.herm_world.specs.Places.{Places, seen_of}
use Rattle.herm_world.specs.Waits.{IsSameBut, IsLookedAt}
use Rattle.herm_world.specs.Worlds.{AreAlike, AreTold, IsToldOf, Sees, ShowsRun}
use Rattle.herm_world.proofs.LookedSees.{looked-sees}
use Rattle.herm_world.proofs.SameRecorded.{same-recorded}

module _ (image : Image) (main : ℕ) (works : WorksAsWorld image main) (limits : Limits) (argument : Text) (p : ProcessState) (s new : Places) (ready : ReadySet) (first : IsFirst image main limits.steps p) (opening : AreOpening limits argument s) (same : IsSameBut s new)
    (looked : (x : CodeState ⊤) → IsProcess image main p x → (qs : List (CodeState ⊤)) → IsLookedAt (nameless image main) p.limit (bare_can (seen_of qs s) 1) x 1 s [] new ready.members) where
  -- before the look
  abbrev before : BareWorked (CodeState ⊤)
  before = record { system = bare_opening (nameless image main) main limits argument; kept = record { ready = []; waiters = None ∷ None ∷ [] } }

  alike : AreAlike (IsProcess image main) (p ∷ []) before.system.processes
  alike = subst (λ o. AreAlike (IsProcess image main) (p ∷ []) (list_of (λ x. x ∷ []) o)) (sym first.begins) (first.stands, tt)

  sees-before : Sees image main (p ∷ []) s [] before
  sees-before = record { processes = alike; places = opening.seen before.system.processes; ready_is = refl; waiters = opening.waiters }

  its : numbered_from_one 1 before.system.processes ≡ Some first.state
  its = ap (λ o. numbered_from_one 1 (list_of (λ x. x ∷ []) o)) first.begins

  seen-then : Sees image main (p ∷ []) new ready.members (bare_first (nameless image main) main limits argument)
  seen-then =
      looked-sees image main (p ∷ []) s new [] ready.members before sees-before 1 first.state its same
      (subst (λ limit. IsLookedAt (nameless image main) limit (bare_can (seen_of before.system.processes s) 1) first.state 1 s [] new ready.members) first.its_limit (looked first.state first.stands before.system.processes))

  told : AreTold [] limits.steps (p ∷ []) new
  told = record { processes = of; fresh = λ q none. refl; cells = same-recorded [] s new same opening.recorded }
    where
      of : (q : ℕ) (x : ProcessState) → numbered_from_one q (p ∷ []) ≡ Some x → IsToldOf [] limits.steps q x
      of zero x is = none-not_some is
      of (suc zero) x is = subst (IsToldOf [] limits.steps 1) (some-injective is) (record { number = first.number; limit_is = first.its_limit; born = first.born; diary = first.diary; clock = first.clock; free = first.free })
      of (suc (suc i)) x is = none-not_some is

  pub opened-shows : IsTrue (is_text argument) → 1 ≤ limits.processes
      → ShowsRun limits argument [] (first_worked (named image main) limits argument) (bare_first (nameless image main) main limits argument)
      (record { image = image; main = main; processes = p ∷ []; places = new; ready = ready; is_dead = false })
  opened-shows texts one = record { alive = refl; shows = works.shown.opens limits argument texts one; sees = seen-then; told = told }

-- the module of main is there
pub main-there : (image : Image) (main : ℕ) → first_type (labelled_image image main) main ≡ Some main_start → main < length image.modules
main-there image main starts =
    let code = chain-some (λ (c : ReadyCode). slice_get c.scope.variables 0) (slice_get (labelled_image image main).codes main) main_start starts in
    within _ image.modules main code.0 code.1
  where
    within : {X Y : Type 0} (f : X → Y) (xs : List X) (i : ℕ) (y : Y) → slice_get (map f xs) i ≡ Some y → i < length xs
    within f [] i y is = none-not_some is
    within f (x ∷ xs) zero y is = omega arith
    within f (x ∷ xs) (suc i) y is = omega (arith, within f xs i y is)
