-- The counts of steps and actions make no difference to what is sent.
use Rattle.std.proofs.Common.{◌≡◌, ℕ, suc, List, Bool, true, false, Option, Some, None, option_map, option_and_then, refl, sym, ap, ◌∙◌}
use Rattle.std.specs.Prelude.{⊤}
use Rattle.herm_model.specs.Paths.{Path}
use Rattle.herm_model.specs.Values.{cell_at}
use Rattle.herm_journal.specs.Actions.{to_put}
use Rattle.herm_journal.specs.Messages.{CellWant}
use Rattle.herm_forms.specs.Exchanges.{outport_at, send_wants}
use Rattle.herm_forms.specs.Frames.{Frame, counted_action}
use Rattle.herm_forms.proofs.Counting.{recount, recount-drop}
use Rattle.herm_code_machine.specs.CodeSteps.{counted_if}
use Rattle.herm_values.specs.View.{value_view}
use Rattle.herm_values.specs.declared.value.Value.{Value}

abbrev sent_from : (x port : Path) → Frame ⊤ → Frame ⊤ → Option (CellWant ⊤)
sent_from x port s b = option_and_then (λ p. option_map (to_put p) (cell_at x b.variables)) (outport_at port s)

by_counts : (lost : List Path) (x port : Path) (n m : ℕ) (s : Frame ⊤) → send_wants lost x port (recount n m s) ≡ send_wants lost x port s
by_counts lost x port n m s = ap (sent_from x port s) (recount-drop n m lost s)

pub same_wants : (lost : List Path) (x port : Path) (has_step : Bool) (s : Frame ⊤) → send_wants lost x port (counted_action (counted_if has_step s)) ≡ send_wants lost x port s
same_wants lost x port true s = by_counts lost x port (suc s.steps) (suc s.actions) s
same_wants lost x port false s = by_counts lost x port s.steps (suc s.actions) s

abbrev pub message_to : Value → ℕ → Option (CellWant ⊤)
message_to v q = option_map (λ w. to_put q (value_view w)) (Some v)

pub sent_message : (lost : List Path) (x port : Path) (has_step : Bool) (s : Frame ⊤) (p : ℕ) (v : Value) → send_wants lost x port (counted_action (counted_if has_step s)) ≡ option_and_then (message_to v) (outport_at port (counted_action (counted_if has_step s))) → outport_at port s ≡ Some p
    → send_wants lost x port s ≡ Some (to_put p (value_view v))
sent_message lost x port true s p v e at = sym (same_wants lost x port true s) ∙ e ∙ ap (option_and_then (message_to v)) at
sent_message lost x port false s p v e at = sym (same_wants lost x port false s) ∙ e ∙ ap (option_and_then (message_to v)) at

-- no message is there
abbrev pub message_none : ℕ → Option (CellWant ⊤)
message_none q = None

none_anywhere : (o : Option ℕ) → option_and_then message_none o ≡ None
none_anywhere None = refl
none_anywhere (Some q) = refl

pub sent_nothing : (lost : List Path) (x port : Path) (has_step : Bool) (s : Frame ⊤) → send_wants lost x port (counted_action (counted_if has_step s)) ≡ option_and_then message_none (outport_at port (counted_action (counted_if has_step s))) → send_wants lost x port s ≡ None
sent_nothing lost x port has_step s e = sym (same_wants lost x port has_step s) ∙ e ∙ none_anywhere (outport_at port (counted_action (counted_if has_step s)))
