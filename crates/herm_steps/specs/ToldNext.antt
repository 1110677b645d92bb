-- What is told of what comes next, and the port at which it looks at a place.
use Rattle.std.specs.Prelude.{ℕ, List, Option, Some, None, option_and_then, slice_get, ⊤}
use Rattle.herm_model.specs.Values.{Value}
use Rattle.herm_forms.specs.ClosesAndAnswers.{work_wants}
use Rattle.herm_forms.specs.Exchanges.{inport_at}
use Rattle.herm_forms.specs.Frames.{Frame}
use Rattle.herm_code_machine.specs.CodeSeen.{ports_of}
use Rattle.herm_exchanges.specs.Told.{Told, a_hearing, told, told_of}
use Rattle.herm_steps.specs.Coming.{Coming, coming_item, coming_reply, coming_action, coming_piece, coming_nothing}

-- of the front of a work list
abbrev pub told_front : List Value → Option Told
told_front work = option_and_then told (option_and_then work_wants (slice_get work 0))

-- Whether or not what goes with it is there; nothing where a local step or nothing comes next. Code reference, "Pieces".
abbrev pub told_next : Coming → Frame ⊤ → Option Told
told_next coming_item b = told_front b.work
told_next (coming_reply index instruction) b = Some a_hearing
told_next (coming_action p m) b = told_of m.instruction b
told_next (coming_piece p) b = None
told_next coming_nothing b = None

-- None where no message is looked for there. Code reference, "Pieces".
abbrev pub looked_next : (place : ℕ) → Coming → Frame ⊤ → Option ℕ
looked_next place coming_item b = None
looked_next place (coming_reply index instruction) b = None
looked_next place (coming_action p m) b = option_and_then (λ i. inport_at i b) (slice_get (ports_of m.instruction) place)
looked_next place (coming_piece p) b = None
looked_next place coming_nothing b = None
