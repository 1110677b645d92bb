-- What is so of a process as it begins and stays so is so of every process in every state of a run.
use Rattle.std.proofs.Common.{◌≡◌, ◌⊎◌, inl, inr, ℕ, zero, suc, List, [], ◌∷◌, ◌++◌, Option, Some, None, refl, sym, subst}
use Rattle.herm_model.specs.Lists.{list_of}
use Rattle.herm_model.specs.Values.{Name}
use Rattle.herm_model.proofs.Options.{some-injective, none-not_some, chain-some, map-some}
use Rattle.herm_journal.specs.Actions.{make_port, make_process}
use Rattle.herm_journal.specs.NextNumbers.{Limits}
use Rattle.herm_journal.specs.PlaceStates.{after}
use Rattle.herm_journal.specs.Entries.{Text}
use Rattle.herm_journal.specs.Messages.{CellAction}
use Rattle.herm_system.specs.Machines.{Machine, inport_of}
use Rattle.herm_system.specs.Systems.{System, Moved, Event, steps, acts, Run, run, run_on, step, start, opening, main_port, set_holding, numbered_from_one, set_from_one, with_made, set_process, number_of}
use Rattle.herm_system.specs.Reports.{IsSoOfAll}
use Rattle.herm_runs.specs.Throughout.{StaysSo}
use Rattle.herm_runs.proofs.SystemLedger.{processes-stay}
use Rattle.herm_runs.proofs.Numbered.{set-found_from_one, more-found_from_one}
use Rattle.herm_runs.proofs.ActionParts.{action-parts, step-parts}

module _ {P : Type 0} (machine : Machine Name P) (Is : P → Type 0) (stays : StaysSo machine Is) where
  abbrev AreSo : List P → Type 0
  AreSo xs = (p : ℕ) (x : P) → numbered_from_one p xs ≡ Some x → Is x

  set-so : (xs : List P) (p : ℕ) (y : P) → Is y → AreSo xs → AreSo (set_from_one p y xs)
  set-so xs p y is all q z found = by_place (set-found_from_one xs p q y z found)
    where
      by_place : {X : Type 0} → (X × (y ≡ z)) ⊎ (numbered_from_one q xs ≡ Some z) → Is z
      by_place (inl e) = subst Is e.1 is
      by_place (inr e) = all q z e

  more-so : (xs : List P) (y : P) → Is y → AreSo xs → AreSo (xs ++ y ∷ [])
  more-so xs y is all q z found = by_place (more-found_from_one xs q y z found)
    where
      by_place : {X : Type 0} → (X × (y ≡ z)) ⊎ (numbered_from_one q xs ≡ Some z) → Is z
      by_place (inl e) = subst Is e.1 is
      by_place (inr e) = all q z e

  made-so : (maker : P) (a : CellAction Name) (s t : System P) → with_made machine maker a s ≡ Some t → AreSo s.processes → AreSo t.processes
  made-so maker (make_port (Some n)) s t e all = subst (λ (x : System P). AreSo x.processes) (some-injective e) all
  made-so maker (make_process code (Some made)) s t e all =
      let m = map-some _ (machine.begin code made.0 (inport_of machine made.1 maker)) t e in
      subst (λ (x : System P). AreSo x.processes) m.2 (more-so s.processes m.0 (stays.begins code made.0 (inport_of machine made.1 maker) m.0 m.1) all)
  made-so maker a s t e all = subst (λ (x : System P). AreSo x.processes) (some-injective e) all

  step-so : (e : Event) (s : System P) (m : Moved P) → step machine e s ≡ Some m → AreSo s.processes → AreSo m.system.processes
  step-so (steps p) s m e all =
      let parts = step-parts machine p s m e in
      subst (λ (x : Moved P). AreSo x.system.processes) parts.moved (set-so s.processes p parts.left.0 (stays.local_steps parts.state parts.left.0 parts.left.1 (all p parts.state parts.is)) all)
  step-so (acts p place) s m e all =
      let parts = action-parts machine p place s m e in
      let set : AreSo (set_from_one p parts.left.0 (set_holding place (after parts.did.0 parts.at.0) s).processes) =
      set-so (set_holding place (after parts.did.0 parts.at.0) s).processes p parts.left.0 (stays.answers parts.state parts.left.0 (number_of place) parts.did.0 parts.left.1 (all p parts.state parts.is)) (subst AreSo (sym (processes-stay place (after parts.did.0 parts.at.0) s)) all) in
      subst (λ (x : Moved P). AreSo x.system.processes) parts.moved
      (made-so parts.state parts.did.0 (set_process p parts.left.0 (set_holding place (after parts.did.0 parts.at.0) s)) parts.makes.0 parts.makes.1 set)

  run-so : (events : List Event) (r t : Run P) → run machine events r ≡ Some t → AreSo r.system.processes → AreSo t.system.processes
  run-so [] r t e all = subst (λ (x : Run P). AreSo x.system.processes) (some-injective e) all
  run-so (e ∷ events) r t is all =
      let b = chain-some (run machine events) (run_on machine e r) t is in
      let m = map-some _ (step machine e r.system) b.0 b.1 in
      run-so events b.0 t b.2 (subst (λ (x : Run P). AreSo x.system.processes) m.2 (step-so e r.system m.0 m.1 all))

  no-process : (p : ℕ) (x : P) → numbered_from_one p [] ≡ Some x → Is x
  no-process zero x e = none-not_some e
  no-process (suc p) x e = none-not_some e

  opening-so : (limits : Limits) (argument : Text) → AreSo (opening machine limits argument).processes
  opening-so limits argument = by_main (machine.begin machine.main 1 main_port) refl
    where
      by_main : (o : Option P) → machine.begin machine.main 1 main_port ≡ o → AreSo (list_of (λ x. x ∷ []) o)
      by_main None main = no-process
      by_main (Some x) main = more-so [] x (stays.begins machine.main 1 main_port x main) no-process

  pub so-throughout : (limits : Limits) (argument : Text) (events : List Event) (r : Run P) → run machine events (start machine limits argument) ≡ Some r → IsSoOfAll Is r.system
  so-throughout limits argument events r e = run-so events (start machine limits argument) r e (opening-so limits argument)
