-- A process along the entries of its diary. It has values without names; the list of its finalised names is a count.
use Rattle.std.specs.Prelude.{ℕ, zero, suc, Bool, cond, Option, Some, None, option_and_then, length, ◌≡◌, ⊤, IsTrue}
use Rattle.herm_model.specs.Lists.{all_pass, any_pass}
use Rattle.herm_model.specs.WellMade.{is_well_made}
use Rattle.herm_journal.specs.Actions.{Want, new_port, new_process, to_put, to_take, to_close, to_answer, to_hear, Action, make_port, make_process, put, take, close, answer, hear}
use Rattle.herm_journal.specs.Entries.{Place, same_place}
use Rattle.herm_journal.specs.Messages.{CellWant, CellAction, IsMessage, IsReplyTo}
use Rattle.herm_system.specs.Machines.{OpenCall, Machine, is_local}
use Rattle.herm_system.specs.Systems.{places_for}

-- a local step is next
abbrev pub has_local_step : {N P : Type 0} → Machine N P → (limit : ℕ) → P → Bool
has_local_step machine limit x = is_local (machine.ready limit x)

-- the state behind so many local steps; none where there are fewer
abbrev pub local_steps : {N P : Type 0} → Machine N P → (limit : ℕ) → ℕ → P → Option P
local_steps machine limit zero x = Some x
local_steps machine limit (suc n) x = cond (has_local_step machine limit x) (option_and_then (local_steps machine limit n) (machine.local_step x)) None

-- The action is one that answers what is wanted: of its kind, and with the message or the reply that was given.
-- Language reference, "Diaries".
abbrev pub Answers : {M R : Type 0} → Want M R → Action M R → Type 0
Answers new_port (make_port made) = ⊤
Answers (new_process code) (make_process code' made) = code ≡ code'
Answers (to_put n m) (put number m') = m ≡ m'
Answers (to_take ports) (take number m) = ⊤
Answers (to_close n) (close count left) = length left ≡ count
Answers (to_answer caller call r) (answer call' r') = (call ≡ call') × (r ≡ r')
Answers to_hear (hear call r) = ⊤
Answers w a = ⊥

-- What comes in with an action is what the process waits for: a message of its port's type with exactly the declared
-- facts; a reply to the open call with the values or the exception that it waits for; and with a close, whose port may
-- have any type, messages that are well made. Language reference, "Diaries".
abbrev pub Suits : {N P : Type 0} → Machine N P → P → (at : ℕ) → CellAction N → Type 0
Suits machine x at (take number m) = (t : ℕ) × (machine.port_type x at ≡ Some t) × IsMessage machine.types t m
Suits machine x at (hear k r) = (call : OpenCall) × (machine.open_call x ≡ Some call) × (call.number ≡ k) × IsReplyTo machine.types call.call_type r
Suits machine x at (close count left) = IsTrue (all_pass is_well_made left)
Suits machine x at a = ⊤

-- what is wanted is done at a place where that may be done
abbrev pub Fulfils : {N P : Type 0} → Machine N P → P → Place → CellAction N → Type 0
Fulfils {N} machine x place a = (w : CellWant N) × (machine.wanted x ≡ Some w) × IsTrue (any_pass (same_place place) (places_for (machine.number x) w)) × Answers w a
