-- What the reply to a call leaves in the caller. Language reference, "Calls".
use Rattle.std.specs.Prelude.{ℕ, List, cond, nat_eq, None}
use Rattle.herm_model.specs.Paths.{Path}
use Rattle.herm_model.specs.Outcomes.{ok, raised, disconnected}
use Rattle.herm_journal.specs.Actions.{values, gone, hear}
use Rattle.herm_journal.specs.Actions
use Rattle.herm_forms.specs.Frames.{Frame, Completion, goes, stuck, drop, putting_all}
use Rattle.herm_journal.specs.Messages.{CellAction, CellReply}

-- The answer of the open call. Its values go to the arguments of modes inout and out. At an exception those that it
-- keeps go to theirs, after what the other arguments of mode out hold was finalised. Without an answer all that they
-- hold is finalised. Language reference, "Calls".
abbrev pub hear_reply : {N : Type 0} → (returned outs : List Path) → (kept left : ℕ → List Path) → CellReply N → Frame N → Completion N
hear_reply returned outs kept left (values cs) b = putting_all returned ok cs b
hear_reply returned outs kept left (Actions.raised e cs) b = putting_all (kept e) (raised e) cs (drop (left e) b)
hear_reply returned outs kept left gone b = goes (raised disconnected) (drop outs b)

-- the answer is to this call
abbrev pub hear_call : {N : Type 0} → (returned outs : List Path) → (kept left : ℕ → List Path) → (call : ℕ) → CellAction N → Frame N → Completion N
hear_call returned outs kept left call (hear k r) b =
    cond (nat_eq k call) (hear_reply returned outs kept left r (record b { call = None })) stuck
hear_call returned outs kept left call _ b = stuck
