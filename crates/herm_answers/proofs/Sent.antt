-- The message of a `Send`: what it is, what is left, and what its answers leave.
use Rattle.std.proofs.Common.{◌≡◌, ℕ, List, Option, Some, None, option_map, option_and_then, refl, sym, ap, subst, ◌∙◌}
use Rattle.std.specs.Prelude.{⊤}
use Rattle.herm_model.specs.Outcomes.{ok, raised, disconnected}
use Rattle.herm_model.specs.Paths.{Path}
use Rattle.herm_model.specs.Values.{Cell, Value, cell_at}
use Rattle.herm_model.proofs.Options.{none-not_some, some-injective}
use Rattle.herm_journal.specs.Actions.{put, to_put}
use Rattle.herm_journal.specs.Messages.{CellWant}
use Rattle.herm_forms.specs.Exchanges.{outport_at, send, send_wants}
use Rattle.herm_forms.specs.Frames.{Frame, Completion, goes, stays, stuck, cleared, drop, if_there, putting}
use Rattle.herm_frames.specs.Completed.{Completes}
use Rattle.herm_frames.specs.HeldFrames.{HeldFrame}
use Rattle.herm_frames.specs.Standing.{Stands}
use Rattle.herm_answers.specs.Orders.{IsPutOf}

-- what is wanted goes to the port of the outport
pub record HasPort (o : Option ℕ) : Type 0 where
  pub port : ℕ
  pub at : o ≡ Some port

pub sent_to : (trim : List Path) (x o : Path) (b : Frame ⊤) (before : Option (List Value)) (w : CellWant ⊤) → option_and_then (λ stack. send_wants trim x o b) before ≡ Some w → HasPort (outport_at o b)
sent_to trim x o b None w e = none-not_some e
sent_to trim x o b (Some stack) w e = by (outport_at o b) refl e
  where
    by : (port : Option ℕ) → outport_at o b ≡ port → option_and_then (λ p. option_map (to_put p) (cell_at x (drop trim b).variables)) port ≡ Some w → HasPort (outport_at o b)
    by None at e = none-not_some e
    by (Some p) at e = record { port = p; at = at }

abbrev frame_in : Frame ⊤ → Completion ⊤ → Frame ⊤
frame_in d (goes o b) = b
frame_in d (stays b) = b
frame_in d stuck = d

stuck_goes : (b : Frame ⊤) → stuck ≡ goes ok b → ⊥
stuck_goes b e = let k : ⊥ = cc in k

-- the message was there, and the frame of the code stands for what is left
pub record LeavesSent (x : Path) (b : Frame ⊤) (f : HeldFrame) : Type 0 where
  pub message : Value
  pub at : cell_at x b.variables ≡ Some message
  pub stands : Stands f (cleared x b)

pub left_sent : (trim : List Path) (x : Path) (k : ℕ) (m : Value) (f : HeldFrame) (b : Frame ⊤) → Completes (Some ok) f (send trim x (put (Some k) m) b) → LeavesSent x (drop trim b) f
left_sent trim x k m f b h = by (cell_at x (drop trim b).variables) refl h
  where
    left : Frame ⊤
    left = cleared x (drop trim b)

    by : (o : Option (Cell ⊤)) → cell_at x (drop trim b).variables ≡ o → Completes (Some ok) f (if_there (λ c. goes ok left) o) → LeavesSent x (drop trim b) f
    by None at h = absurd (stuck_goes h.0 h.1)
    by (Some c) at h = record { message = c; at = at; stands = subst (Stands f) (sym (ap (frame_in left) h.1)) h.2 }

pub placed_leaves : (trim : List Path) (x : Path) (k : ℕ) (m sent : Value) (b : Frame ⊤) → cell_at x (drop trim b).variables ≡ Some sent → send trim x (put (Some k) m) b ≡ goes ok (cleared x (drop trim b))
placed_leaves trim x k m sent b at = ap (if_there (λ c. goes ok (cleared x (drop trim b)))) at

pub back_leaves : (trim : List Path) (x : Path) (m sent : Value) (b : Frame ⊤) → cell_at x (drop trim b).variables ≡ Some sent → send trim x (put None m) b ≡ putting x (raised disconnected) m (cleared x (drop trim b))
back_leaves trim x m sent b at = ap (if_there (λ c. putting x (raised disconnected) m (cleared x (drop trim b)))) at

-- What is wanted is to put the message that was taken out.
pub put_of : (trim : List Path) (x o : Path) (b : Frame ⊤) (before : Option (List Value)) (w : CellWant ⊤) (v : Value) → option_and_then (λ stack. send_wants trim x o b) before ≡ Some w
    → ((p : ℕ) → outport_at o b ≡ Some p → (stack : List Value) × (before ≡ Some stack) × (send_wants trim x o b ≡ Some (to_put p v))) → IsPutOf v w
put_of trim x o b before w v e wants =
    let h = sent_to trim x o b before w e in
    let k = wants h.port h.at in (h.port, some-injective (sym e ∙ ap (option_and_then (λ stack. send_wants trim x o b)) k.1 ∙ k.2))
