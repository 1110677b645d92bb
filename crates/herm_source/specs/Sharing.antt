-- That all codes of modules have one table of types.
use Rattle.std.specs.Prelude.{ℕ, Some, ◌≡◌, slice_get}
use Rattle.herm_forms.specs.Modules.{Module}
use Rattle.herm_source.specs.Modules.{Program, Modules}
use Rattle.herm_source.specs.AcceptedRuns.{AreAccepted}

-- All codes have the modules' table of types.
abbrev pub ShareTypes : Modules → Type 0
ShareTypes modules = (n : ℕ) (c : Module) → slice_get modules.codes n ≡ Some c → c.types ≡ modules.types

-- Those of accepted modules have it.
abbrev pub AcceptedShareTypes : Type 0
AcceptedShareTypes = (program : Program) (modules : Modules) → AreAccepted program modules → ShareTypes modules
