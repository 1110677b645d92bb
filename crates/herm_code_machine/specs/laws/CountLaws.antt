-- What is claimed of the counts of processes of code: of steps and actions, and behind an entry that is put aside.
use Rattle.std.specs.Prelude.{ℕ, suc, Some, ◌≡◌}
use Rattle.herm_model.specs.Values.{Name}
use Rattle.herm_journal.specs.Messages.{CellAction}
use Rattle.herm_system.specs.Machines.{Machine}
use Rattle.herm_instructions.specs.Instructions.{Step}
use Rattle.herm_code_machine.specs.CodeInstance.{code_at, code_machine}
use Rattle.herm_code_machine.specs.CodeStates.{CodeState}
use Rattle.herm_code_machine.specs.ReadyCode.{ReadyCode, ReadyImage}
use Rattle.herm_code_machine.specs.laws.StandingLaws.{IsAtInstruction}

-- the same process with this count of actions
abbrev pub with_actions : {N : Type 0} → ℕ → CodeState N → CodeState N
with_actions n x = record x { frame = record (x.frame) { actions = n } }

-- An entry that is put aside is one action more, and nothing else. Code reference, "Processes".
pub record PutsAside {N : Type 0} (machine : Machine N (CodeState N)) : Type 0 where
  pub counts : (x : CodeState N) → machine.actions (machine.put_aside x) ≡ suc (machine.actions x)
  pub same : (x : CodeState N) → with_actions x.frame.actions (machine.put_aside x) ≡ x

-- A process whose code is this makes one step and no action at a local step, which begins with a `Step`; and at an answer one action, and a step
-- exactly where it is at a `Step`. Code reference, "Pieces".
pub record CountsSteps (image : ReadyImage) (c : ReadyCode) : Type 0 where
  pub begins : (x y : CodeState Name) → code_at image x ≡ Some c → (code_machine image).local_step x ≡ Some y → (i : ℕ) × IsAtInstruction c x i Step
  pub local_steps : (x y : CodeState Name) → code_at image x ≡ Some c → (code_machine image).local_step x ≡ Some y → ((code_machine image).steps y ≡ suc ((code_machine image).steps x)) × ((code_machine image).actions y ≡ (code_machine image).actions x)
  pub answers : (x y : CodeState Name) (at : ℕ) (a : CellAction Name) → code_at image x ≡ Some c → (code_machine image).answered x at a ≡ Some y → (code_machine image).actions y ≡ suc ((code_machine image).actions x)
  pub at_steps : (x y : CodeState Name) (at : ℕ) (a : CellAction Name) → code_at image x ≡ Some c → (code_machine image).answered x at a ≡ Some y → (i : ℕ) → IsAtInstruction c x i Step → (code_machine image).steps y ≡ suc ((code_machine image).steps x)
  pub elsewhere : (x y : CodeState Name) (at : ℕ) (a : CellAction Name) → code_at image x ≡ Some c → (code_machine image).answered x at a ≡ Some y → ((i : ℕ) → IsAtInstruction c x i Step → ⊥) → (code_machine image).steps y ≡ (code_machine image).steps x

abbrev pub StepsAreCounted : Type 0
StepsAreCounted = (image : ReadyImage) (c : ReadyCode) → CountsSteps image c
