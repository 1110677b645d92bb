-- The weight of what a process holds, has finalised and has made, by a weight for every name.
use Rattle.std.specs.Prelude.{ℕ, ◌+◌, List, Some}
use Rattle.herm_model.specs.Lists.{total}
use Rattle.herm_journal.specs.Actions.{new_process, to_put, to_answer, make_process}
use Rattle.herm_forms.specs.Frames.{Name, Loop, Frame}
use Rattle.herm_journal.specs.Messages.{CellWant, CellAction}
use Rattle.herm_forms.specs.Exchanges.{process_inport}
use Rattle.herm_journal.specs.Weights.{weigh, weigh_serials, weigh_in, weigh_all, weigh_reply}

module _ {N : Type 0} (w : N → ℕ) where
  abbrev pub weigh_loops : List (Loop N) → ℕ
  weigh_loops loops = total (λ (l : Loop N). weigh_in w l.rows) loops

  -- What a process holds: in its variables, in the lists of its loops and on its work list.
  -- Language reference, "The ledger".
  abbrev pub weight_held : Frame N → ℕ
  weight_held b = weigh_in w b.variables + weigh_loops b.loops + weigh_all w b.work

  -- what it holds or has finalised
  abbrev pub weight_accounted : Frame N → ℕ
  weight_accounted b = weight_held b + total w b.finalised

  -- What a process has made: the names with its number and the serials below its next one.
  -- Language reference, "The ledger".
  abbrev pub weight_made : (Name → N) → Frame N → ℕ
  weight_made name b = weigh_serials w (λ s. name (b.number, s)) 0 b.serial

  -- what goes out to a place with an action, as the process wanted it; a process that is made takes its inport
  abbrev pub weight_sent : (Name → N) → Frame N → CellWant N → CellAction N → ℕ
  weight_sent name b (to_put port m) action = weigh w m
  weight_sent name b (to_answer caller call r) action = weigh_reply w r
  weight_sent name b (new_process code) (make_process code' (Some weight_made)) = weigh w (process_inport name weight_made.1 b)
  weight_sent name b want action = 0
