-- What is claimed of what a send trims: by the facts of its label it is what the source's send drops by values.
use Rattle.std.specs.Prelude.{ℕ, List, ◌∷◌, IsTrue, ◌≡◌}
use Rattle.herm_model.specs.Lists.{IsIn}
use Rattle.herm_model.specs.Paths.{Path, Fact}
use Rattle.herm_model.specs.Statements.{Form}
use Rattle.herm_model.specs.Values.{has_value}
use Rattle.herm_model.specs.FactsOfValues.{HasExactly}
use Rattle.herm_forms.specs.Frames.{Name, Frame}
use Rattle.herm_forms.specs.Modules.{Module}
use Rattle.herm_forms.specs.Excess.{excess_over_declared}
use Rattle.herm_instructions.specs.Instructions.{Send}
use Rattle.herm_instructions.specs.GoodCode.{TrimsExcess}
use Rattle.herm_code_machine.specs.ReadyCode.{ReadyCode}
use Rattle.herm_code_machine.specs.laws.InstructionLaws.{ActsAsForm}

-- Where a `Send` trims exactly the excess by the facts of its label, and the values have exactly these facts, it trims what the
-- message holds beyond the facts at which messages travel. Code reference, "Good code".
abbrev pub TrimsAreExcess : Type 0
TrimsAreExcess = (c : Module) (i : ℕ) (q o : Path) (trim : List Path) (facts : List Fact) (b : Frame Name) → TrimsExcess c.types c.variables (Send (i ∷ q) o trim) facts
    → HasExactly b.variables (λ f. IsIn f facts) → IsTrue (has_value b.variables (i ∷ q)) → trim ≡ excess_over_declared c o (i ∷ q) b

-- So the machine's `Send` wants what the source's `send` wants of the same values, and its answer leaves the same.
-- Code reference, "Good code".
abbrev pub SendsActAsForms : Type 0
SendsActAsForms = (name : Name → Name) (c : ReadyCode) (i : ℕ) (q o : Path) (trim : List Path) (facts : List Fact) (b : Frame Name) → TrimsExcess c.scope.types c.scope.variables (Send (i ∷ q) o trim) facts
    → HasExactly b.variables (λ f. IsIn f facts) → IsTrue (has_value b.variables (i ∷ q)) → ActsAsForm name c 0 b (Send (i ∷ q) o trim) (Form.Send (i ∷ q) o)
