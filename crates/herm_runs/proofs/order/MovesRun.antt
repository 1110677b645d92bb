-- An entry's move is a run of local steps and an action.
use Rattle.std.proofs.Common.{◌≡◌, ℕ, zero, suc, List, [], ◌∷◌, ◌++◌, true, Some, None, is_some, option_map, option_and_then, slice_get, slice_set, refl, sym, ap, subst, ◌∙◌}
use Rattle.herm_model.specs.Lists.{any_pass}
use Rattle.herm_model.specs.Values.{Cell, Name}
use Rattle.herm_model.proofs.Options.{some-injective}
use Rattle.herm_journal.specs.PlaceStates.{PlaceState, after}
use Rattle.herm_journal.specs.Entries.{Place, same_place, Entry, recorded}
use Rattle.herm_journal.specs.Stamps.{entry_behind}
use Rattle.herm_journal.specs.Messages.{CellReply, CellWant, CellAction}
use Rattle.herm_system.specs.Systems.{System, Moved, Event, steps, acts, run_on, step, with_entry, with_made, set_process, set_holding, holding_at, numbered_from_one, set_from_one, places_for, done_at, done_in, can, number_of, stands, standing, can_be_done, seen_as}
use Rattle.herm_system.specs.Machines.{Machine, acting, is_local, is_acting}
use Rattle.herm_runs.proofs.Stands.{stands-as, seen-local}
use Rattle.herm_runs.proofs.Events.{IsRunBetween, both-runs, one-run}
use Rattle.herm_runs.proofs.order.Commuting.{Growth, grown, changed, change-lost, set-again_from_one}
use Rattle.herm_runs.proofs.Histories.{get-set_from_one, held-with_process}
use Rattle.herm_runs.proofs.ActionParts.{action-of, step-of}
use Rattle.herm_runs.proofs.order.EntryMoves.{found-passes, Walks, IsMove}

-- a list with an element set to what it is
set-same : {X : Type 0} (xs : List X) (i : ℕ) (x : X) → slice_get xs i ≡ Some x → slice_set xs i x ≡ xs
set-same [] i x e = refl
set-same (z ∷ xs) zero x e = ap (λ y. y ∷ xs) (sym (some-injective e))
set-same (z ∷ xs) (suc i) x e = ap (z ∷◌) (set-same xs i x e)

set-same_from_one : {X : Type 0} (xs : List X) (p : ℕ) (x : X) → numbered_from_one p xs ≡ Some x → set_from_one p x xs ≡ xs
set-same_from_one xs zero x e = refl
set-same_from_one xs (suc i) x e = set-same xs i x e

-- a run between two systems with their journals
abbrev pub RunsBetween : {P : Type 0} → Machine Name P → System P → List Entry → System P → List Entry → Type 0
RunsBetween machine s j t k = IsRunBetween machine (record { system = s; journal = j }) (record { system = t; journal = k })

pub runs-join : {P : Type 0} (machine : Machine Name P) (s t u : System P) (i j k : List Entry) → RunsBetween machine s i t j → RunsBetween machine t j u k → RunsBetween machine s i u k
runs-join machine s t u i j k a b = both-runs machine (record { system = s; journal = i }) (record { system = t; journal = j }) (record { system = u; journal = k }) a b

module _ {P : Type 0} (machine : Machine Name P) (limit : ℕ) where
  pub local-happens : (p : ℕ) (s : System P) (x y : P) → s.book.limits.steps ≡ limit → numbered_from_one p s.processes ≡ Some x →
      is_local (machine.ready limit x) ≡ true → machine.local_step x ≡ Some y → step machine (steps p) s ≡ Some (record { system = set_process p y s; done = None })
  local-happens p s x y same is locals does =
      let stays : stands is_local machine s p ≡ true =
      stands-as is_local machine s p x is ∙ seen-local (machine.ready s.book.limits.steps x) (can_be_done (can s p) (machine.wanted x)) ∙ ap (λ l. is_local (machine.ready l x)) same ∙ locals in
      step-of machine p s x y stays is does

  pub action-happens : (p : ℕ) (place : Place) (s : System P) (x y : P) (w : CellWant Name) (h : PlaceState (Cell Name) (CellReply Name)) (a : CellAction Name) (g : Growth P) → s.book.limits.steps ≡ limit →
      numbered_from_one p s.processes ≡ Some x → machine.ready limit x ≡ acting → machine.wanted x ≡ Some w →
      any_pass (same_place place) (places_for p w) ≡ true → holding_at place s ≡ Some h → done_at w h ≡ Some a → machine.answered x (number_of place) a ≡ Some y →
      ((u : System P) → with_made machine x a u ≡ Some (grown g u)) → step machine (acts p place) s ≡ Some (record { system = changed p y place (after a h) g s; done = Some a })
  action-happens p place s x y w h a g same is ready wants among there does leaves grows =
      let possible : can s p w ≡ true = found-passes place (λ q. is_some (done_in w s q)) (places_for p w) among (ap is_some (ap (option_and_then (done_at w)) there ∙ does)) in
      let able : can_be_done (can s p) (machine.wanted x) ≡ true = ap (can_be_done (can s p)) wants ∙ possible in
      let stays : stands is_acting machine s p ≡ true =
      stands-as is_acting machine s p x is ∙ ap (λ l. is_acting (standing machine l (can s p) x)) same ∙ ap (λ r. is_acting (seen_as r (can_be_done (can s p) (machine.wanted x)))) ready ∙ ap (λ b. is_acting (seen_as acting b)) able in
      action-of machine p place s (changed p y place (after a h) g s) x y w h a stays is wants among there does leaves (grows (set_process p y (set_holding place (after a h) s)))

  -- an event that happens is the first of a run
  event-runs : (e : Event) (s : System P) (m : Moved P) (journal : List Entry) → step machine e s ≡ Some m → run_on machine e (record { system = s; journal = journal }) ≡ Some (record { system = m.system; journal = with_entry journal e m.done })
  event-runs e s m journal is = ap (option_map (λ (m : Moved _). record { system = m.system; journal = with_entry journal e m.done })) is

  pub local-run : (p : ℕ) (s : System P) (x y : P) (journal : List Entry) → s.book.limits.steps ≡ limit → numbered_from_one p s.processes ≡ Some x →
      is_local (machine.ready limit x) ≡ true → machine.local_step x ≡ Some y → RunsBetween machine s journal (set_process p y s) journal
  local-run p s x y journal same is locals does =
      one-run machine (steps p) (record { system = s; journal = journal }) (record { system = set_process p y s; journal = journal }) (event-runs (steps p) s (record { system = set_process p y s; done = None }) journal (local-happens p s x y same is locals does))

  pub walk-run : (n : ℕ) (p : ℕ) (s : System P) (x y : P) (journal : List Entry) → s.book.limits.steps ≡ limit → numbered_from_one p s.processes ≡ Some x →
      Walks machine limit n x y → RunsBetween machine s journal (set_process p y s) journal
  walk-run zero p s x y journal same is w =
      ([], ap (λ xs. Some (record { system = record s { processes = xs }; journal = journal })) (sym (ap (λ z. set_from_one p z s.processes) (sym w) ∙ set-same_from_one s.processes p x is)))
  walk-run (suc n) p s x y journal same is w =
      let z = w.0 in
      let rest = walk-run n p (set_process p z s) z y journal same (get-set_from_one s.processes p x z is) w.3 in
      runs-join machine s (set_process p z s) (set_process p y s) journal journal journal (local-run p s x z journal same is w.1 w.2)
      (subst (λ xs. RunsBetween machine (set_process p z s) journal (record s { processes = xs }) journal) (set-again_from_one s.processes p z y) rest)

  pub move-run : (e : Entry) (s t : System P) (journal : List Entry) → s.book.limits.steps ≡ limit → IsMove machine limit e s t → RunsBetween machine s journal t (journal ++ entry_behind journal e.process e.place e.action ∷ [])
  move-run e s t journal same m =
      let u = set_process e.process m.ready s in
      let walked = walk-run m.count e.process s m.before m.ready journal same m.is m.walks in
      let happens = action-happens e.process e.place u m.ready m.behind m.want m.held m.done m.growth same (get-set_from_one s.processes e.process m.before m.ready m.is) m.acts m.wants m.among
      (held-with_process e.place e.process m.ready s ∙ m.there) m.does m.leaves m.grows in
      let v = changed e.process m.behind e.place (after m.done m.held) m.growth u in
      let one : RunsBetween machine u journal v (journal ++ entry_behind journal e.process e.place (recorded m.done) ∷ []) =
      one-run machine (acts e.process e.place) (record { system = u; journal = journal }) (record { system = v; journal = journal ++ entry_behind journal e.process e.place (recorded m.done) ∷ [] }) (event-runs (acts e.process e.place) u (record { system = v; done = Some m.done }) journal happens) in
      let ends : v ≡ t = change-lost e.process m.ready m.behind e.place (after m.done m.held) m.growth s ∙ sym m.leads in
      runs-join machine s u t journal journal (journal ++ entry_behind journal e.process e.place e.action ∷ []) walked
      (subst (λ x. RunsBetween machine u journal x (journal ++ entry_behind journal e.process e.place e.action ∷ [])) ends
      (subst (λ r. RunsBetween machine u journal v (journal ++ entry_behind journal e.process e.place r ∷ [])) m.records one))
