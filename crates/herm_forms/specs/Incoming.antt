-- What a form looks for at ports, and what comes in with the answer to its action.
use Rattle.std.specs.Prelude.{ℕ, List, [], ◌∷◌, map, find, Bool, nat_eq, Option, Some, option_and_then, ◌≡◌, ⊤}
use Rattle.herm_model.specs.Lists.{any_pass, list_of}
use Rattle.herm_model.specs.Paths.{Path}
use Rattle.herm_model.specs.Types.{type_at}
use Rattle.herm_model.specs.Statements.{Form, Receive, Select, Arm}
use Rattle.herm_journal.specs.Actions.{to_put, put, take}
use Rattle.herm_journal.specs.Messages.{CellAction, IsMessage}
use Rattle.herm_forms.specs.Frames.{Name, Frame}
use Rattle.herm_forms.specs.Exchanges.{inport_at}
use Rattle.herm_forms.specs.Modules.{Module}
use Rattle.herm_forms.specs.Acts.{wants}

-- the paths of the ports that a form looks at, in written order
abbrev pub ports_of : Form → List Path
ports_of (Receive x i) = i ∷ []
ports_of (Select arms) = map (λ (a : Arm). a.port) arms
ports_of _ = []

-- the path of the first port in written order that has this number, and its type
abbrev pub leads_from : {N : Type 0} → ℕ → Frame N → Path → Bool
leads_from n b i = any_pass (nat_eq n) (list_of (λ k. k ∷ []) (inport_at i b))

abbrev pub looked_at : {N : Type 0} → Module → Form → Frame N → ℕ → Option ℕ
looked_at c form b n = option_and_then (type_at c.types c.variables) (find (leads_from n b) (ports_of form))

-- What comes in with the answer to a form's action: what is taken is a message of the port from which it is taken, and
-- what comes back is the message that was to be put. Language reference, "Actions".
abbrev pub ComesIn : (Name → Name) → Module → Form → Frame Name → (at : ℕ) → CellAction Name → Type 0
ComesIn name c form b at (take k m) = (t : ℕ) × (looked_at c form b at ≡ Some t) × IsMessage c.types t m
ComesIn name c form b at (put k m) = (n : ℕ) × (wants name c form b ≡ Some (to_put n m))
ComesIn name c form b at action = ⊤
