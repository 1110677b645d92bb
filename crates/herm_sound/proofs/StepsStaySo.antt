-- What is so of each process and stays so is so of each behind an event.
use Rattle.std.proofs.Common.{◌≡◌, ◌⊎◌, inl, inr, ℕ, List, Some, sym, subst}
use Rattle.herm_model.specs.Values.{Name}
use Rattle.herm_model.proofs.Options.{some-injective, map-some}
use Rattle.herm_journal.specs.Actions.{make_port, make_process}
use Rattle.herm_journal.specs.PlaceStates.{after}
use Rattle.herm_journal.specs.Messages.{CellAction}
use Rattle.herm_system.specs.Machines.{Machine, inport_of}
use Rattle.herm_system.specs.Systems.{System, Moved, steps, acts, set_holding, numbered_from_one, set_from_one, with_made, set_process, number_of}
use Rattle.herm_runs.specs.Throughout.{StaysSo}
use Rattle.herm_runs.proofs.SystemLedger.{processes-stay}
use Rattle.herm_runs.proofs.Numbered.{set-found_from_one, more-found_from_one}
use Rattle.herm_runs.proofs.ActionParts.{action-parts, step-parts}
use Rattle.herm_sound.specs.laws.SoundLaws.{EventsKeepAll}

module _ {P : Type 0} (machine : Machine Name P) (Is : P → Type 0) (stays : StaysSo machine Is) where
  abbrev AreSo : List P → Type 0
  AreSo xs = (p : ℕ) (x : P) → numbered_from_one p xs ≡ Some x → Is x

  -- a process is one that is new, or was there
  either : {A : Type 0} (xs : List P) (q : ℕ) (y z : P) → Is y → AreSo xs → (A × (y ≡ z)) ⊎ (numbered_from_one q xs ≡ Some z) → Is z
  either xs q y z is all (inl e) = subst Is e.1 is
  either xs q y z is all (inr e) = all q z e

  made-so : (maker : P) (a : CellAction Name) (s t : System P) → with_made machine maker a s ≡ Some t → AreSo s.processes → AreSo t.processes
  made-so maker (make_port (Some n)) s t e all = subst (λ (x : System P). AreSo x.processes) (some-injective e) all
  made-so maker (make_process code (Some made)) s t e all =
      let m = map-some _ (machine.begin code made.0 (inport_of machine made.1 maker)) t e in
      subst (λ (x : System P). AreSo x.processes) m.2
      (λ q z found. either s.processes q m.0 z (stays.begins code made.0 (inport_of machine made.1 maker) m.0 m.1) all (more-found_from_one s.processes q m.0 z found))
  made-so maker a s t e all = subst (λ (x : System P). AreSo x.processes) (some-injective e) all

  pub events-keep-all : EventsKeepAll machine Is
  events-keep-all (steps p) s m e all =
      let parts = step-parts machine p s m e in
      let is = stays.local_steps parts.state parts.left.0 parts.left.1 (all p parts.state parts.is) in
      subst (λ (x : Moved P). AreSo x.system.processes) parts.moved (λ q z found. either s.processes q parts.left.0 z is all (set-found_from_one s.processes p q parts.left.0 z found))
  events-keep-all (acts p place) s m e all =
      let parts = action-parts machine p place s m e in
      let is = stays.answers parts.state parts.left.0 (number_of place) parts.did.0 parts.left.1 (all p parts.state parts.is) in
      let h = after parts.did.0 parts.at.0 in
      let there : AreSo (set_holding place h s).processes = subst AreSo (sym (processes-stay place h s)) all in
      let set : AreSo (set_from_one p parts.left.0 (set_holding place h s).processes) =
      (λ q z found. either (set_holding place h s).processes q parts.left.0 z is there (set-found_from_one (set_holding place h s).processes p q parts.left.0 z found)) in
      subst (λ (x : Moved P). AreSo x.system.processes) parts.moved (made-so parts.state parts.did.0 (set_process p parts.left.0 (set_holding place h s)) parts.makes.0 parts.makes.1 set)
