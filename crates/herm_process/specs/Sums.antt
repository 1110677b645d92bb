-- The counts of a process.
use Rattle.std.specs.Prelude.{◌≡◌, Option, Some, None, ⊤}
use Rattle.herm_system.specs.Machines.{Machine}
use Rattle.herm_process.specs.declared.ordered.Ordered.{Ordered}
use Rattle.herm_process.specs.declared.ordered.Ordered.TheVariants as ordered
use Rattle.herm_process.specs.declared.ordered.Sums.{Sums}

-- They are those of the state. Language reference, "The numbers of a run".
pub record AreSums {P : Type 0} (machine : Machine ⊤ P) (x : P) (sums : Sums) : Type 0 where
  pub steps : sums.steps ≡ machine.steps x
  pub actions : sums.actions ≡ machine.actions x

-- the sums that an order remembers, where a message or a reply went out with it
abbrev pub sums_in : Option Ordered → Option Sums
sums_in (Some (ordered.Put p sums)) = Some sums
sums_in (Some (ordered.Answer p k text sums)) = Some sums
sums_in (Some _) = None
sums_in None = None

-- the sums that are remembered where a message or a reply went out are those of the state before
abbrev pub Remembers : {P : Type 0} → Machine ⊤ P → P → Ordered → Type 0
Remembers machine x (ordered.Put p sums) = AreSums machine x sums
Remembers machine x (ordered.Answer p k text sums) = AreSums machine x sums
Remembers machine x o = ⊤
