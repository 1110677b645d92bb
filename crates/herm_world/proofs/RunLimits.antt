-- Along a run the limits stay.
use Rattle.std.proofs.Common.{◌≡◌, List, [], ◌∷◌, Some, sym, ap, ◌∙◌}
use Rattle.herm_model.proofs.Options.{chain-some, map-some, some-injective}
use Rattle.herm_model.specs.Values.{Name}
use Rattle.herm_journal.specs.PlaceStates.{after}
use Rattle.herm_system.specs.Machines.{Machine}
use Rattle.herm_system.specs.Systems.{System, Moved, Event, steps, acts, step, Run, run, run_on, set_process, set_holding}
use Rattle.herm_runs.proofs.ActionParts.{action-parts, step-parts}
use Rattle.herm_runs.proofs.RoundsEnd.{made-book}
use Rattle.herm_runs.proofs.Stands.{place-limits}

module _ {P : Type 0} (machine : Machine Name P) where
  step-limits : (e : Event) (s : System P) (m : Moved P) → step machine e s ≡ Some m → m.system.book.limits ≡ s.book.limits
  step-limits (steps p) s m e = let parts = step-parts machine p s m e in ap (λ (m : Moved P). m.system.book.limits) (sym parts.moved)
  step-limits (acts p place) s m e =
      let parts = action-parts machine p place s m e in
      ap (λ (m : Moved P). m.system.book.limits) (sym parts.moved)
      ∙ ap (λ (b : Rattle.herm_journal.specs.NextNumbers.Book). b.limits) (made-book machine parts.state parts.did.0 (set_process p parts.left.0 (set_holding place (after parts.did.0 parts.at.0) s)) parts.makes.0 parts.makes.1)
      ∙ place-limits place parts.at.0 parts.did.0 s parts.at.1

  on-limits : (e : Event) (r t : Run P) → run_on machine e r ≡ Some t → t.system.book.limits ≡ r.system.book.limits
  on-limits e r t is = let m = map-some _ (step machine e r.system) t is in ap (λ (r : Run P). r.system.book.limits) (sym m.2) ∙ step-limits e r.system m.0 m.1

  pub run-limits : (events : List Event) (r t : Run P) → run machine events r ≡ Some t → t.system.book.limits ≡ r.system.book.limits
  run-limits [] r t is = ap (λ (r : Run P). r.system.book.limits) (sym (some-injective is))
  run-limits (e ∷ events) r t is = let m = chain-some (run machine events) (run_on machine e r) t is in run-limits events m.0 t m.2 ∙ on-limits e r m.0 m.1
