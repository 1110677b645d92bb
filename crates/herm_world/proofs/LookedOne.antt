-- A process that is there was looked at again.
use Rattle.std.proofs.Common.{◌≡◌, ℕ, List, Some, sym, subst, ◌∙◌}
use Rattle.std.specs.Prelude.{⊤}
use Rattle.herm_model.proofs.Options.{none-not_some, some-injective}
use Rattle.herm_instructions.specs.Images.{Image}
use Rattle.herm_system.specs.Systems.{numbered_from_one}
use Rattle.herm_code_machine.specs.CodeStates.{CodeState}
use Rattle.herm_machine.specs.Machines.{nameless}
use Rattle.herm_process.specs.Processes.{ProcessState, IsProcess}
use Rattle.herm_waking.specs.Unnamed.{bare_can}
use Rattle.herm_world.specs.Places.{Places, seen_of}
use Rattle.herm_world.specs.Steps.{LookedAt}
use Rattle.herm_world.specs.Waits.{IsSameBut, IsLookedAt}

abbrev pub LooksSo : ℕ → ProcessState → Places → List ℕ → Places → List ℕ → Type 0
LooksSo q x s ready t ready_then = (image : Image) (main : ℕ) (state : CodeState ⊤) → IsProcess image main x state → (qs : List (CodeState ⊤)) → IsLookedAt (nameless image main) x.limit (bare_can (seen_of qs s) q) state q s ready t ready_then

pub looked-one : (q : ℕ) (ps : List ProcessState) (x : ProcessState) (s t : Places) (ready ready_then : List ℕ) → numbered_from_one q ps ≡ Some x → IsSameBut s t → LooksSo q x s ready t ready_then → LookedAt q ps s ready t ready_then
looked-one q ps x s t ready ready_then at same looks = record {
  same = same;
  there = λ y e. subst (λ y. LooksSo q y s ready t ready_then) (some-injective (sym at ∙ e)) looks;
  absent = λ none. none-not_some (sym none ∙ at);
}
