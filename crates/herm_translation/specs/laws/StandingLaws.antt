-- What is claimed of a process of code that stands for one of the source.
use Rattle.std.specs.Prelude.{ℕ, ◌≡◌}
use Rattle.herm_model.specs.Values.{Name}
use Rattle.herm_system.specs.Ledger.{held_by, finalised_by}
use Rattle.herm_source.specs.Modules.{Modules}
use Rattle.herm_source.specs.States.{State}
use Rattle.herm_source.specs.Instance.{source}
use Rattle.herm_code_machine.specs.ReadyCode.{ReadyImage}
use Rattle.herm_code_machine.specs.CodeStates.{CodeState}
use Rattle.herm_code_machine.specs.CodeInstance.{code_machine}
use Rattle.herm_translation.specs.StandsFor.{NodesOfIndices, StandsFor, AreCodesFor}

-- Two processes show the same numbers, ends and cells: all that a system asks of them but what depends on their statement or piece.
pub record LookTheSame (modules : Modules) (image : ReadyImage) (x : State Name) (y : CodeState Name) : Type 0 where
  pub module_number : (source modules).module_number x ≡ (code_machine image).module_number y
  pub number : (source modules).number x ≡ (code_machine image).number y
  pub serial : (source modules).serial x ≡ (code_machine image).serial y
  pub steps : (source modules).steps x ≡ (code_machine image).steps y
  pub actions : (source modules).actions x ≡ (code_machine image).actions y
  pub exception : (source modules).exception x ≡ (code_machine image).exception y
  pub held : (w : Name → ℕ) → held_by w (source modules) x ≡ held_by w (code_machine image) y
  pub finalised : (w : Name → ℕ) → finalised_by w (source modules) x ≡ finalised_by w (code_machine image) y

-- A process that stands for another one looks the same, also behind an entry that both put aside.
-- Code reference, "Standing for a process".
pub record StandingLooksTheSame (modules : Modules) (image : ReadyImage) (nodes : NodesOfIndices) : Type 0 where
  pub looks : (x : State Name) (y : CodeState Name) → StandsFor image nodes x y → LookTheSame modules image x y
  pub puts_aside : (x : State Name) (y : CodeState Name) → StandsFor image nodes x y → StandsFor image nodes ((source modules).put_aside x) ((code_machine image).put_aside y)

abbrev pub StandingStatesLookTheSame : Type 0
StandingStatesLookTheSame = (modules : Modules) (image : ReadyImage) (nodes : NodesOfIndices) → AreCodesFor modules image → StandingLooksTheSame modules image nodes
