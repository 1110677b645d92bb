-- `return`: how a callmessage is answered, with what is given back. Language reference, "Calls".
use Rattle.std.specs.Prelude.{ℕ, List, Option, Some, None, option_map, option_and_then}
use Rattle.herm_model.specs.Paths.{Path}
use Rattle.herm_model.specs.Outcomes.{ok}
use Rattle.herm_model.specs.Values.{a_callmessage, Cell, cell, cell_at}
use Rattle.herm_journal.specs.Actions.{to_answer, answer}
use Rattle.herm_forms.specs.Frames.{Frame, Completion, goes, stuck, if_there, finalise_at_once, drop, taking, Taken, take_all}
use Rattle.herm_journal.specs.Messages.{CellWant, CellAction, CellReply}

-- what is given back of a callmessage: the parameters at these paths, without what they hold beyond full values
abbrev pub give_back : {N : Type 0} → (lost given : List Path) → Frame N → Option (Taken N)
give_back lost given b = take_all given (drop lost b)

-- the caller and the call of a callmessage
abbrev pub caller_of : {N : Type 0} → Cell N → Option (ℕ × ℕ)
caller_of (cell n (a_callmessage caller call) ps) = Some (caller, call)
caller_of c = None

-- `return m` and `return m exception E` want to answer the caller
abbrev pub return_wants : {N : Type 0} → (List (Cell N) → CellReply N) → Option (Taken N) → (source : Path) → Frame N → Option (CellWant N)
return_wants reply taken m b =
    option_and_then (λ c. option_map (λ t. to_answer c.0 c.1 (reply t.cells)) taken) (option_and_then caller_of (cell_at m b.variables))

-- The answer is at the caller's reply cell; the callmessage's cell is finalised, and then what else it holds.
-- Language reference, "Calls".
abbrev pub return : {N : Type 0} → Option (Taken N) → (source : Path) → CellAction N → Completion N
return taken m (answer k r) = if_there (λ t. taking m (λ c b. goes ok (finalise_at_once c b)) t.frame) taken
return taken m _ = stuck
