-- The ranges of the limits (Language reference, "Limits of a run").
use Rattle.std.specs.Prelude.{◌≡◌, ℕ, ◌≤◌, ◌<◌, ◌⊎◌, List, [], ◌∷◌}
use Rattle.herm_base.specs.declared.limits.LimitName.{LimitName}
use Rattle.herm_base.specs.declared.limits.LimitName.TheVariants.{Processes, Ports, Steps, Workers}
use Rattle.herm_base.specs.declared.limits.LimitFault.{LimitFault}
use Rattle.herm_base.specs.declared.limits.LimitFault.TheVariants.{Low, High}

-- the greatest number that each limit may be
abbrev pub greatest : LimitName → ℕ
greatest Processes = 1024
greatest Ports = 16384
greatest Steps = 1000000
greatest Workers = 16

-- the numbers given, each with its limit, in the order in which they are judged
abbrev pub given : ℕ → ℕ → ℕ → ℕ → List (LimitName × ℕ)
given processes ports steps workers =
    (Processes, processes) ∷ (Ports, ports) ∷ (Steps, steps) ∷ (Workers, workers) ∷ []

-- a limit is at least 1 and at most its greatest number
abbrev pub IsInRange : LimitName × ℕ → Type 0
IsInRange (limit, n) = (1 ≤ n) × (n ≤ greatest limit)

-- a fault names a number below or above its range
abbrev pub IsFaultOf : LimitFault → LimitName × ℕ → Type 0
IsFaultOf (Low limit n) given = (given ≡ (limit, n)) × (n < 1)
IsFaultOf (High limit n) given = (given ≡ (limit, n)) × (greatest limit < n)

-- the fault is that of the first number outside its range
abbrev pub IsFirstFault : LimitFault → List (LimitName × ℕ) → Type 0
IsFirstFault fault [] = ⊥
IsFirstFault fault (number ∷ rest) = IsFaultOf fault number ⊎ (IsInRange number × IsFirstFault fault rest)
