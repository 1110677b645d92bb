-- The weight of what a process holds, and of what comes in and goes out with an action, by names and kinds.
use Rattle.std.proofs.Common.{◌≡◌, ℕ, ◌+◌, List, [], ◌∷◌, Some, None, refl, arith}
use Rattle.herm_model.specs.Lists.{total}
use Rattle.herm_model.specs.Values.{Name, Kind, Cell, cell, Parts, no_parts, gap, part}
use Rattle.herm_journal.specs.Actions.{values, raised, gone, new_process, to_put, to_answer, make_process, put, take, close, hear}
use Rattle.herm_journal.specs.Messages.{CellReply, CellWant, CellAction}
use Rattle.herm_journal.specs.Weights.{weigh, weigh_in, weigh_all, weigh_reply, weight_received}
use Rattle.herm_forms.specs.Frames.{Loop, Frame}
use Rattle.herm_forms.specs.Exchanges.{process_inport}
use Rattle.herm_forms.specs.Weights.{weigh_loops, weight_accounted, weight_sent}
use Rattle.herm_model.proofs.Loads.{load, load_in, load_all, weightless}

module _ {N : Type 0} (w : N → ℕ) (x : Kind → ℕ) where
  abbrev pub load_reply : CellReply N → ℕ
  load_reply (values cs) = load_all w x cs
  load_reply (raised e cs) = load_all w x cs
  load_reply gone = 0

  -- what comes in with an action, and what goes out
  abbrev pub load_coming : CellAction N → ℕ
  load_coming (put None m) = load w x m
  load_coming (take k m) = load w x m
  load_coming (close count left) = load_all w x left
  load_coming (hear call r) = load_reply r
  load_coming action = 0

  abbrev pub load_going : (Name → N) → Frame N → CellWant N → CellAction N → ℕ
  load_going name b (to_put port m) action = load w x m
  load_going name b (to_answer caller call r) action = load_reply r
  load_going name b (new_process code) (make_process code' (Some made)) = load w x (process_inport name made.1 b)
  load_going name b want action = 0

  -- what a process holds, and what it has finalised too, by the names
  abbrev pub load_loops : List (Loop N) → ℕ
  load_loops loops = total (λ (l : Loop N). load_in w x l.rows) loops

  abbrev pub load_held : Frame N → ℕ
  load_held b = load_in w x b.variables + load_loops b.loops + load_all w x b.work

  abbrev pub load_kept : Frame N → ℕ
  load_kept b = load_held b + total w b.finalised

-- By names alone it is the weight of the ledger.
module _ {N : Type 0} (w : N → ℕ) where
  mutual
    pub names-weigh : (c : Cell N) → load w weightless c ≡ weigh w c
    names-weigh (cell n k ps) = omega (arith, names-weigh_in ps)

    pub names-weigh_in : (ps : Parts N) → load_in w weightless ps ≡ weigh_in w ps
    names-weigh_in no_parts = refl
    names-weigh_in (gap ps) = names-weigh_in ps
    names-weigh_in (part c ps) = omega (arith, names-weigh c, names-weigh_in ps)

  names-weigh_all : (cs : List (Cell N)) → load_all w weightless cs ≡ weigh_all w cs
  names-weigh_all [] = refl
  names-weigh_all (c ∷ cs) = omega (arith, names-weigh c, names-weigh_all cs)

  names-weigh_reply : (r : CellReply N) → load_reply w weightless r ≡ weigh_reply w r
  names-weigh_reply (values cs) = names-weigh_all cs
  names-weigh_reply (raised e cs) = names-weigh_all cs
  names-weigh_reply gone = refl

  names-weigh_loops : (loops : List (Loop N)) → load_loops w weightless loops ≡ weigh_loops w loops
  names-weigh_loops [] = refl
  names-weigh_loops (l ∷ loops) = omega (arith, names-weigh_in l.rows, names-weigh_loops loops)

  pub names-kept : (b : Frame N) → load_kept w weightless b ≡ weight_accounted w b
  names-kept b = omega (arith, names-weigh_in b.variables, names-weigh_loops b.loops, names-weigh_all b.work)

  pub names-coming : (a : CellAction N) → load_coming w weightless a ≡ weight_received w a
  names-coming (put None m) = names-weigh m
  names-coming (take k m) = names-weigh m
  names-coming (close count left) = names-weigh_all left
  names-coming (hear call r) = names-weigh_reply r
  names-coming a = refl

  pub names-going : (name : Name → N) (b : Frame N) (want : CellWant N) (a : CellAction N) → load_going w weightless name b want a ≡ weight_sent w name b want a
  names-going name b (to_put port m) a = names-weigh m
  names-going name b (to_answer caller call r) a = names-weigh_reply r
  names-going name b (new_process code) (make_process code' (Some made)) = names-weigh (process_inport name made.1 b)
  names-going name b want a = refl
