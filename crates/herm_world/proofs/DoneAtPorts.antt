-- An action at a port, between values of the language.
use Rattle.std.proofs.Common.{◌≡◌, ℕ, suc, max, List, [], ◌∷◌, ◌++◌, Option, Some, None, option_map, inl, inr, refl, sym, ap, subst, ◌∙◌}
use Rattle.std.specs.Prelude.{slice_get, slice_set, ⊤}
use Rattle.herm_model.proofs.Options.{map-some, none-not_some}
use Rattle.herm_model.specs.Values.{Cell}
use Rattle.herm_journal.specs.Entries.{Place, port, reply_cell, book, Entry, recorded}
use Rattle.herm_journal.specs.Messages.{CellReply}
use Rattle.herm_journal.specs.PlaceStates.{PlaceState, a_port, after}
use Rattle.herm_waking.specs.Unnamed.{set_bare}
use Rattle.herm_code_machine.specs.CodeStates.{CodeState}
use Rattle.herm_queue.specs.CellStates.{CellState, CellAction, IsActed}
use Rattle.herm_queue.specs.PortStates.{PortState, port_cell}
use Rattle.herm_queue.specs.SeenCells.{seen, seen_action}
use Rattle.herm_world.specs.Counted.{PortActs}
use Rattle.herm_world.specs.Places.{Places, port_seen, seen_of, cell_at, waiters_of}
use Rattle.herm_world.specs.Doing.{AreRecorded}
use Rattle.herm_world.proofs.CellsGrow.{IsBehind, acted, stays, cells-grow}
use Rattle.herm_world.proofs.ListCases.{set-cases, set-none}
use Rattle.herm_world.proofs.PlacesSeen.{set-map}
use Rattle.herm_world.proofs.Recording.{actions-lead}

option-none : {X Y : Type 0} (f : X → Y) (o : Option X) → option_map f o ≡ None → o ≡ None
option-none f None e = refl
option-none f (Some x) e = none-not_some (sym e)

module _ (process clock n : ℕ) (a : CellAction) (noted : Option ℕ → Option ℕ) (old : Places) (s behind : PortState) (there : slice_get old.ports n ≡ Some s) (acts : PortActs process clock a noted s behind) where
  abbrev pub ports_then : Places
  ports_then = record old { ports = slice_set old.ports n behind }

  held : a_port (port_seen behind) ≡ after (seen_action a) (seen (a_port s.held))
  held = ap seen (ap (λ (c : CellState). c.holding) acts.acted.after) ∙ actions-lead (a_port s.held) a

  pub port-left : (qs : List (CodeState ⊤)) → set_bare (port n) (after (seen_action a) (seen (a_port s.held))) (seen_of qs old) ≡ seen_of qs ports_then
  port-left qs =
      ap (λ (h : PlaceState (Cell ⊤) (CellReply ⊤)). set_bare (port n) h (seen_of qs old)) (sym held)
      ∙ ap (λ ps. record (seen_of qs old) { ports = ps }) (sym (set-map port_seen old.ports n behind))

  pub port-noted : waiters_of ports_then ≡ slice_set (waiters_of old) n (noted s.waiter)
  port-noted = set-map (λ (p : PortState). p.waiter) old.ports n behind ∙ ap (slice_set (waiters_of old) n) acts.noted_there

  found-there : cell_at (port n) old ≡ Some (port_cell s)
  found-there = ap (option_map port_cell) there

  behind-ports : (other : Place) (c : CellState) → cell_at other ports_then ≡ Some c → IsBehind process clock (port n) (port_cell s) a old other c
  behind-ports (port m) c e =
      let found = map-some port_cell (slice_get (slice_set old.ports n behind) m) c e in
      elim (set-cases old.ports n m behind found.0 found.1) [
        | inl h ↦ acted acts.spare h.0 (subst (IsActed process clock a (record (port_cell s) { spare = acts.spare })) (ap port_cell h.1 ∙ found.2) acts.acted)
        | inr h ↦ stays h.0 (ap (option_map port_cell) h.1 ∙ ap (λ c. Some c) found.2)
      ]
  behind-ports (reply_cell p) c e = stays refl e
  behind-ports book c e = stays refl e

  absent-ports : (other : Place) → cell_at other ports_then ≡ None → cell_at other old ≡ None
  absent-ports (port m) e = ap (option_map port_cell) (set-none old.ports n m behind (option-none port_cell (slice_get (slice_set old.ports n behind) m) e))
  absent-ports (reply_cell p) e = e
  absent-ports book e = none-not_some (sym e)

  pub port-records : (journal : List Entry) → AreRecorded journal old
      → AreRecorded (journal ++ record { stamp = suc (max clock s.clock); process = process; place = port n; action = recorded (seen_action a) } ∷ []) ports_then
  port-records journal are = cells-grow process clock (port n) (port_cell s) a old ports_then found-there behind-ports absent-ports journal are
