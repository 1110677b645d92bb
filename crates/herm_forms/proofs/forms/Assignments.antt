-- Copies of full values.
use Rattle.std.proofs.Common.{◌≡◌, ℕ, sym, ◌∙◌, subst}
use Rattle.std.specs.Prelude.{⊤}
use Rattle.herm_model.specs.Types.{TypeTable}
use Rattle.herm_model.specs.Values.{Value}
use Rattle.herm_model.specs.CellNames.{copy_from, rename}
use Rattle.herm_model.specs.Typed.{whole, IsOf, IsFull}
use Rattle.herm_model.proofs.Renaming.{rename-copy_from, copy_from-constant}
use Rattle.herm_model.proofs.Typing.{IsOf-renamed, renamed-IsOf}
use Rattle.herm_forms.specs.Frames.{Name}

-- a copy of a full value is full
pub copied-full : (types : TypeTable) (t : ℕ) (name : ℕ → Name) (s : ℕ) (value : Value) → IsFull types t value → IsFull types t (copy_from name s value)
copied-full types t name s value h =
    let none : Name → ⊤ = λ n. tt in
    let none' : ⊤ → ⊤ = λ n. tt in
    let same : rename none (copy_from name s value) ≡ rename none' value = rename-copy_from name none s value ∙ copy_from-constant {N = ⊤} {M = ⊤} tt s value in
    renamed-IsOf none types whole t (copy_from name s value) (subst (IsOf whole types t) (sym same) (IsOf-renamed none' types whole t value h))
