-- Sound states of machines whose processes have values beside their cells.
use Rattle.std.specs.Prelude.{ℕ, List, Some, ◌≡◌}
use Rattle.herm_model.specs.Values.{Name, Kind}
use Rattle.herm_system.specs.Machines.{Machine}
use Rattle.herm_system.specs.Sound.{IsSoundWith}
use Rattle.herm_system.specs.Systems.{System, numbered_from_one}
use Rattle.herm_sound.specs.Standing.{OutportsStand}

module _ {P : Type 0} (machine : Machine Name P) (Is : P → Type 0) (beside : P → List (ℕ × Kind)) where
  -- A sound state, where the ports have these types, and where each outport among the values that a process has beside its cells stands
  -- at a place of its type. Language reference, "Sound states".
  pub record IsSoundBesideWith (port_types : List ℕ) (s : System P) : Type 0 where
    pub sound : IsSoundWith machine Is port_types s
    pub stands : (p : ℕ) (x : P) → numbered_from_one p s.processes ≡ Some x → OutportsStand machine.types port_types (beside x)

  abbrev pub IsSoundBeside : System P → Type 0
  IsSoundBeside s = (port_types : List ℕ) × IsSoundBesideWith port_types s
