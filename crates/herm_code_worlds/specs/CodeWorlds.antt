-- The machine of an image, with names of cells and without, what its processes find, and a run that a world without names shows.
use Rattle.std.specs.Prelude.{ℕ, List, Some, ◌≡◌, ⊤}
use Rattle.herm_model.specs.Values.{Name, Kind}
use Rattle.herm_journal.specs.Entries.{Text}
use Rattle.herm_journal.specs.Messages.{CellWant, CellAction}
use Rattle.herm_journal.specs.NextNumbers.{Limits}
use Rattle.herm_system.specs.Machines.{Machine}
use Rattle.herm_system.specs.Suiting.{Answers, Suits}
use Rattle.herm_system.specs.Systems.{Event, run, start}
use Rattle.herm_instructions.specs.Images.{Image}
use Rattle.herm_instructions.specs.Instructions.{Step}
use Rattle.herm_code_machine.specs.CodeInstance.{code_at, code_machine, nameless_code}
use Rattle.herm_code_machine.specs.CodeLocal.{IsSoundCodeIn, typed_stack}
use Rattle.herm_code_machine.specs.CodeRenaming.{forget_code}
use Rattle.herm_code_machine.specs.CodeStates.{CodeState}
use Rattle.herm_code_machine.specs.ReadyCode.{ReadyCode, ReadyImage, labelled_image}
use Rattle.herm_code_machine.specs.laws.OperandLaws.{IsNowhereStuck, IsLeftBy, behind_step}
use Rattle.herm_code_machine.specs.laws.StandingLaws.{IsAtInstruction}
use Rattle.herm_waking.specs.KeptRounds.{Worked}
use Rattle.herm_waking.specs.UnnamedRounds.{BareWorked, unnamed_worked}
use Rattle.herm_waking.specs.laws.RoundLaws.{IsWorked}

-- A process has code, and no instruction is stuck in its next run: behind the step that it is at, and behind what its action, or the call
-- that is open, comes to with each answer that suits what it wants. Code reference, "Sound states of code".
pub record FindsItsOperands (image : ReadyImage) (x : CodeState Name) : Type 0 where
  pub code : ReadyCode
  pub its_code : code_at image x ≡ Some code
  pub steps : (i : ℕ) → IsAtInstruction code x i Step → IsNowhereStuck code (behind_step x i)
  pub answers : (want : CellWant Name) (at : ℕ) (a : CellAction Name) → (code_machine image).wanted x ≡ Some want → Answers want a → Suits (code_machine image) x at a
      → (u : CodeState Name) → IsLeftBy code x at a u → IsNowhereStuck code u

module _ (image : Image) (main : ℕ) where
  -- the image made ready, and its machines
  abbrev pub its_ready : ReadyImage
  its_ready = labelled_image image main

  abbrev pub named : Machine Name (CodeState Name)
  named = code_machine its_ready

  abbrev pub nameless : Machine ⊤ (CodeState ⊤)
  nameless = nameless_code its_ready

  -- what is sound within a process, and what it has beside its cells
  abbrev pub IsWithin : CodeState Name → Type 0
  IsWithin = IsSoundCodeIn its_ready

  abbrev pub on_stack : CodeState Name → List (ℕ × Kind)
  on_stack = typed_stack its_ready

  -- a world without names shows a run along these events from the start: the run is there, its state is sound, what is kept beside it is
  -- right, and it is within its limits; and the world is this state without names, with the same kept. Language reference, "Values".
  pub record Shows (limits : Limits) (argument : Text) (events : List Event) (w : Worked (CodeState Name)) (b : BareWorked (CodeState ⊤)) : Type 0 where
    pub comes : run named events (start named limits argument) ≡ Some w.run
    pub worked : IsWorked named IsWithin on_stack w
    pub seen : unnamed_worked forget_code w ≡ b
