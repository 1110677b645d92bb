-- The arms of a select and the ports that they look at.
use Rattle.std.specs.Prelude.{ℕ, suc, List, [], ◌∷◌, Bool, true, false, cond, ◌&&◌, nat_eq, Option, Some, None, is_some, ⊤}
use Rattle.herm_model.specs.Paths.{Path}
use Rattle.herm_forms.specs.Exchanges.{inport_at}
use Rattle.herm_forms.specs.Frames.{Frame}

-- whether there is an inport at each of these paths
abbrev pub have_ports : List Path → Frame ⊤ → Bool
have_ports [] s = true
have_ports (i ∷ paths) s = is_some (inport_at i s) && have_ports paths s

abbrev pub is_port : ℕ → Option ℕ → Bool
is_port port None = false
is_port port (Some q) = nat_eq port q

-- the place, counted on from one, of the first path at which this port's inport is
abbrev pub first_looking : (from port : ℕ) → List Path → Frame ⊤ → Option ℕ
first_looking n port [] s = None
first_looking n port (i ∷ paths) s = cond (is_port port (inport_at i s)) (Some n) (first_looking (suc n) port paths s)
