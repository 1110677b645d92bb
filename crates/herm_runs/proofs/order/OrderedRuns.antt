-- The entries of a run in order are the journal of a run.
use Rattle.std.proofs.Common.{◌≡◌, ℕ, zero, suc, ◌<◌, ◌≤◌, List, [], ◌∷◌, map, Bool, true, false, ◌||◌, Some, option_map, slice_get, length, refl, sym, ap, subst, ◌∙◌, arith, true≢false}
use Rattle.herm_model.specs.Lists.{any_pass, list_of}
use Rattle.herm_model.specs.Values.{Kind, Cell, Name}
use Rattle.herm_model.proofs.Options.{some-injective, none-not_some}
use Rattle.herm_journal.specs.Actions.{new_port, new_process, to_put, to_take, to_close, to_answer, to_hear}
use Rattle.herm_journal.specs.NextNumbers.{Limits, first_book, Book}
use Rattle.herm_journal.specs.PlaceStates.{PlaceState, a_port, replies, a_book}
use Rattle.herm_journal.specs.Entries.{Text, Place, port, reply_cell, book, same_place, Entry}
use Rattle.herm_journal.specs.Journals.{ordered}
use Rattle.herm_journal.specs.Stamps.{entry_behind}
use Rattle.herm_journal.specs.Messages.{CellReply, CellWant}
use Rattle.herm_system.specs.Sound.{IsNumbered}
use Rattle.herm_system.specs.Systems.{System, Run, opening, main_port, holding_at, numbered_from_one, places_for}
use Rattle.herm_runs.proofs.Histories.{place-same}
use Rattle.herm_runs.proofs.Numbered.{run-numbered, opening-numbered}
use Rattle.herm_journal.specs.Kinds.{AllPorts, WantKinds}
use Rattle.herm_runs.proofs.KnownPlaces.{HoldingKinds, HasOnly, run-knows}
use Rattle.herm_runs.specs.laws.ProcessLaws.{IsKnown, Knows}
use Rattle.herm_runs.proofs.order.EntryMoves.{Walks, IsMove}
use Rattle.herm_runs.proofs.order.MovesRun.{move-run}
use Rattle.herm_runs.proofs.order.EntryPaths.{move-limits, run-path, path-run}
use Rattle.herm_runs.proofs.order.SortedPaths.{path-ordered}
use Rattle.herm_system.specs.Machines.{Machine}
use Rattle.herm_runs.specs.laws.OrderLaws.{OrderedJournalsAreRuns}
use Rattle.herm_runs.specs.laws.ProcessLaws.{KnowsPlaces, KeepsNumbers}

-- what is counted is there
within-there : {X : Type 0} (xs : List X) (i : ℕ) → i < length xs → (x : X) × (slice_get xs i ≡ Some x)
within-there [] i lt = absurd (omega (arith, lt))
within-there (x ∷ xs) zero lt = (x, refl)
within-there (x ∷ xs) (suc i) lt = within-there xs i (omega (arith, lt))

within-there_from_one : {X : Type 0} (xs : List X) (p : ℕ) → 1 ≤ p → p ≤ length xs → (x : X) × (numbered_from_one p xs ≡ Some x)
within-there_from_one xs zero one le = absurd (omega (arith, one))
within-there_from_one xs (suc i) one le = within-there xs i (omega (arith, le))

one-place : (place q : Place) → (same_place place q || false) ≡ true → place ≡ q
one-place place q e = place-same place q (by_test (same_place place q) e)
  where
    by_test : (t : Bool) → (t || false) ≡ true → t ≡ true
    by_test true e = refl
    by_test false e = e

module _ {P : Type 0} (machine : Machine Name P) (s : System P) (numbered : IsNumbered machine s) where
  abbrev IsThereAt : Place → Type 0
  IsThereAt place = (h : PlaceState (Cell Name) (CellReply Name)) × (holding_at place s ≡ Some h)

  port-there : (n : ℕ) → n ≤ s.book.ports → IsThereAt (port n)
  port-there n le = let f = within-there s.ports n (omega (arith, le, numbered.book.1)) in (a_port f.0, ap (option_map a_port) f.1)

  cell-there : (p : ℕ) → 1 ≤ p → p ≤ s.book.processes → IsThereAt (reply_cell p)
  cell-there p one le = let f = within-there_from_one s.replies p one (omega (arith, le, numbered.reply_cells, numbered.book.0)) in (replies f.0, ap (option_map replies) f.1)

  ports-there : (ports : List ℕ) (place : Place) → AllPorts (IsKnown s.book) ports → any_pass (same_place place) (map port ports) ≡ true → IsThereAt place
  ports-there [] place h e = absurd (true≢false (sym e))
  ports-there (n ∷ ports) place h e = by_test (same_place place (port n)) refl e (ports-there ports place h.1)
    where
      by_test : (t : Bool) → same_place place (port n) ≡ t → (t || any_pass (same_place place) (map port ports)) ≡ true → (any_pass (same_place place) (map port ports) ≡ true → IsThereAt place) → IsThereAt place
      by_test true is e again = subst IsThereAt (sym (place-same place (port n) is)) (port-there n h.0)
      by_test false is e again = again e

  pub places-there : (w : CellWant Name) (p : ℕ) (place : Place) → WantKinds (IsKnown s.book) w → 1 ≤ p → p ≤ s.book.processes → any_pass (same_place place) (places_for p w) ≡ true → IsThereAt place
  places-there new_port p place k one le e = subst IsThereAt (sym (one-place place book e)) (a_book s.book, refl)
  places-there (new_process code) p place k one le e = subst IsThereAt (sym (one-place place book e)) (a_book s.book, refl)
  places-there (to_put n m) p place k one le e = subst IsThereAt (sym (one-place place (port n) e)) (port-there n k.0)
  places-there (to_take ports) p place k one le e = ports-there ports place k e
  places-there (to_close n) p place k one le e = subst IsThereAt (sym (one-place place (port n) e)) (port-there n k)
  places-there (to_answer caller call r) p place k one le e = subst IsThereAt (sym (one-place place (reply_cell caller) e)) (cell-there caller k.0.0 k.0.1)
  places-there to_hear p place k one le e = subst IsThereAt (sym (one-place place (reply_cell p) e)) (cell-there p one le)

-- what is known at the start
first-knows : {P : Type 0} (machine : Machine Name P) (beside : P → List Kind) → KnowsPlaces machine beside → (limits : Limits) (main : P) → machine.begin machine.main 1 main_port ≡ Some main → (p : ℕ) (x : P) → numbered_from_one p (main ∷ []) ≡ Some x → Knows machine beside (first_book limits) x
first-knows machine beside known limits main is zero x e = none-not_some e
first-knows machine beside known limits main is (suc zero) x e =
    subst (Knows machine beside (first_book limits)) (some-injective e) (known.begins (first_book limits) machine.main 1 main_port main (omega arith, tt) (omega arith) (omega arith) is)
first-knows machine beside known limits main is (suc (suc p)) x e = none-not_some e

first-holds : {P : Type 0} (machine : Machine Name P) (limits : Limits) (argument : Text) (q : Place) (h : PlaceState (Cell Name) (CellReply Name)) → holding_at q (opening machine limits argument) ≡ Some h → HoldingKinds (IsKnown (first_book limits)) h
first-holds machine limits argument (port zero) h e = subst (HoldingKinds (IsKnown (first_book limits))) (some-injective e) tt
first-holds machine limits argument (port (suc zero)) h e = subst (HoldingKinds (IsKnown (first_book limits))) (some-injective e) ((tt, ((tt, tt), ((omega arith, tt), tt))), tt)
first-holds machine limits argument (port (suc (suc n))) h e = none-not_some e
first-holds machine limits argument (reply_cell zero) h e = none-not_some e
first-holds machine limits argument (reply_cell (suc zero)) h e = subst (HoldingKinds (IsKnown (first_book limits))) (some-injective e) tt
first-holds machine limits argument (reply_cell (suc (suc p))) h e = none-not_some e
first-holds machine limits argument book h e = subst (HoldingKinds (IsKnown (first_book limits))) (some-injective e) tt

pub opening-knows : {P : Type 0} (machine : Machine Name P) (beside : P → List Kind) → KnowsPlaces machine beside → (limits : Limits) (argument : Text) (main : P) → machine.begin machine.main 1 main_port ≡ Some main → HasOnly machine beside (first_book limits) (opening machine limits argument)
opening-knows machine beside known limits argument main is =
    let alone : (opening machine limits argument).processes ≡ main ∷ [] = ap (list_of (λ x. x ∷ [])) is in
    record {
      processes = λ p x found. first-knows machine beside known limits main is p x (sym (ap (numbered_from_one p) alone) ∙ found);
      places = first-holds machine limits argument;
    }

module _ {P : Type 0} (machine : Machine Name P) (keeps : KeepsNumbers machine) (beside : P → List Kind) (known : KnowsPlaces machine beside) (limit : ℕ) where
  -- what holds of every state along a run
  record IsRegular (s : System P) : Type 0 where
    numbered : IsNumbered machine s
    knows : HasOnly machine beside s.book s
    limited : s.book.limits.steps ≡ limit

  regular-move : (e : Entry) (s u : System P) → IsRegular s → IsMove machine limit e s u → IsRegular u
  regular-move e s u k m =
      let r = move-run machine limit e s u [] k.limited m in
      let first : Run P = record { system = s; journal = [] } in
      let last : Run P = record { system = u; journal = entry_behind [] e.process e.place e.action ∷ [] } in
      record {
        numbered = run-numbered machine keeps r.0 first last r.1 k.numbered;
        knows = run-knows machine beside known r.0 first last r.1 k.knows;
        limited = ap (λ (l : Limits). l.steps) (move-limits machine limit e s u m) ∙ k.limited;
      }

  walk-knows : (b : Book) (n : ℕ) (x y : P) → Walks machine limit n x y → Knows machine beside b x → Knows machine beside b y
  walk-knows b zero x y w k = subst (Knows machine beside b) w k
  walk-knows b (suc n) x y w k = walk-knows b n w.0 y w.3 (known.local_steps b x w.0 k w.2)

  regular-there : (f : Entry) (s u v : System P) → IsRegular s → (n : IsMove machine limit f u v) → numbered_from_one f.process s.processes ≡ Some n.before →
      (j : PlaceState (Cell Name) (CellReply Name)) × (holding_at f.place s ≡ Some j)
  regular-there f s u v k n is =
      let knows = k.knows.processes f.process n.before is in
      let ready = walk-knows s.book n.count n.before n.ready n.walks knows in
      let wants = known.wants s.book n.ready n.want ready n.wants in
      let number = (k.numbered.processes f.process n.before is).0 in
      places-there machine s k.numbered n.want f.process f.place wants (omega (arith, knows.1, number)) (omega (arith, knows.2, number)) n.among

pub ordered-runs : {P : Type 0} (machine : Machine Name P) (beside : P → List Kind) → KeepsNumbers machine → KnowsPlaces machine beside → OrderedJournalsAreRuns machine
ordered-runs machine beside keeps known limits argument main events r is runs =
    let limit = limits.steps in
    let s = opening machine limits argument in
    let p = run-path machine limit events s [] r refl runs in
    let regular : IsRegular machine keeps beside known limit s = record { numbered = opening-numbered machine keeps limits argument main is; knows = opening-knows machine beside known limits argument main is; limited = refl } in
    let o = path-ordered machine limit (IsRegular machine keeps beside known limit) (λ s k. k.numbered) (regular-move machine keeps beside known limit) (regular-there machine keeps beside known limit) p.entries s r.system [] regular p.path p.stamped in
    let runs_there = path-run machine limit (ordered p.entries) s r.system [] refl o.0 o.1 in
    (runs_there.0, runs_there.1 ∙ ap (λ j. Some (record { system = r.system; journal = ordered j })) (sym p.are))
