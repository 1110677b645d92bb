-- A path's moves can be done in the order of their entries.
use Rattle.std.proofs.Common.{◌≡◌, ℕ, List, [], ◌∷◌, ◌++◌, Bool, true, false, cond, Some, refl}
use Rattle.herm_model.specs.Values.{Cell, Name}
use Rattle.herm_journal.specs.PlaceStates.{PlaceState}
use Rattle.herm_journal.specs.Entries.{Entry}
use Rattle.herm_journal.specs.Journals.{is_before, with_next, ordered}
use Rattle.herm_journal.specs.Stamps.{IsStampedFrom}
use Rattle.herm_journal.specs.Messages.{CellReply}
use Rattle.herm_system.specs.Sound.{IsNumbered}
use Rattle.herm_system.specs.Systems.{System, holding_at, numbered_from_one}
use Rattle.herm_runs.proofs.order.EntryMoves.{IsMove}
use Rattle.herm_runs.proofs.order.EntryPaths.{IsPath}
use Rattle.herm_runs.proofs.order.Swapped.{other-process, other-place, places-differ, processes-differ, process-before, swap-moves, swap-stamps}
use Rattle.herm_system.specs.Machines.{Machine}

-- where a fact of states says that numbers agree, stays along moves, and gives each move its place
module _ {P : Type 0} (machine : Machine Name P) (limit : ℕ) (Holds : System P → Type 0) (numbers : (s : System P) → Holds s → IsNumbered machine s)
    (stays : (e : Entry) (s u : System P) → Holds s → IsMove machine limit e s u → Holds u)
    (there : (f : Entry) (s u v : System P) → Holds s → (n : IsMove machine limit f u v) → numbered_from_one f.process s.processes ≡ Some n.before → (j : PlaceState (Cell Name) (CellReply Name)) × (holding_at f.place s ≡ Some j)) where
  -- the entries are a path with their stamps behind a journal
  abbrev pub IsStampedPath : List Entry → List Entry → System P → System P → Type 0
  IsStampedPath journal es s t = IsPath machine limit es s t × IsStampedFrom journal es

  path-with : (fs : List Entry) (e : Entry) (s u t : System P) (journal : List Entry) → Holds s → IsMove machine limit e s u → IsPath machine limit fs u t → IsStampedFrom journal (e ∷ fs) → IsStampedPath journal (with_next e fs) s t
  path-with [] e s u t journal holds m k stamps = ((u, m, k), stamps)
  path-with (f ∷ fs) e s u t journal holds m k stamps = by_order (is_before e f) refl (path-with fs e)
    where
      by_order : (b : Bool) → is_before e f ≡ b → ((s u t : System P) (journal : List Entry) → Holds s → IsMove machine limit e s u → IsPath machine limit fs u t → IsStampedFrom journal (e ∷ fs) → IsStampedPath journal (with_next e fs) s t) →
          IsStampedPath journal (cond b (e ∷ f ∷ fs) (f ∷ with_next e fs)) s t
      by_order true is again = ((u, m, k), stamps)
      by_order false wrong again =
          let process = other-process journal e f stamps.1.0 wrong in
          let place = other-place journal e f stamps.1.0 wrong in
          let before = process-before machine limit e f.process k.1.before s u (numbers s holds) m process k.1.is in
          let at = there f s u k.0 holds k.1 before in
          let n = swap-moves machine limit e f s u k.0 k.1.before at.0 (processes-differ e f process) (places-differ e.place f.place place) m k.1 before at.1 in
          let now = swap-stamps machine limit e f s u k.0 n.0 journal fs (numbers s holds) m k.1 n.1 wrong stamps in
          let rest = again n.0 k.0 t (journal ++ f ∷ []) (stays f s n.0 holds n.1) n.2 k.2 now.1 in
          ((n.0, n.1, rest.0), (now.0, rest.1))

  pub path-ordered : (es : List Entry) (s t : System P) (journal : List Entry) → Holds s → IsPath machine limit es s t → IsStampedFrom journal es → IsStampedPath journal (ordered es) s t
  path-ordered [] s t journal holds k stamps = (k, stamps)
  path-ordered (e ∷ es) s t journal holds k stamps =
      let rest = path-ordered es k.0 t (journal ++ e ∷ []) (stays e s k.0 holds k.1) k.2 stamps.1 in
      path-with (ordered es) e s k.0 t journal holds k.1 rest.0 (stamps.0, rest.1)
