-- How a process stands under its limit of steps. Language reference, "Processes".
use Rattle.std.specs.Prelude.{ℕ, cond, nat_lt}
use Rattle.herm_forms.specs.Frames.{Frame}
use Rattle.herm_forms.specs.Modules.{Module}
use Rattle.herm_system.specs.Machines.{Standing, ended, out_of_steps, local, to_act, greatest_actions}
use Rattle.herm_forms.specs.Acts.{is_action}
use Rattle.herm_source.specs.States.{State, Next, an_item, a_reply, a_statement, nothing, next_of}

-- How a process stands under a limit of steps, without a look at the places. Of a next thing that is a step and an action
-- the limit of steps is looked at first. Language reference, "Processes".
abbrev pub ready_for : {N : Type 0} → Module → (limit : ℕ) → Frame N → Next N → Standing
ready_for c limit b nothing = ended
ready_for c limit b (an_item item work) = to_act (nat_lt b.actions greatest_actions)
ready_for c limit b (a_reply call n) = to_act (nat_lt b.actions greatest_actions)
ready_for c limit b (a_statement n) =
    cond (nat_lt b.steps limit) (cond (is_action c n.form) (to_act (nat_lt b.actions greatest_actions)) local) out_of_steps

abbrev pub ready_in : {N : Type 0} → Module → (limit : ℕ) → State N → Standing
ready_in c limit s = ready_for c limit s.frame (next_of c s)
