-- In runs a process waits for a message or for a reply alone.
use Rattle.std.proofs.Common.{◌≡◌, ℕ, ◌≤◌, List, false, ◌||◌, option_map, option_and_then, slice_get, sym, ap, ◌∙◌, arith, true≢false}
use Rattle.std.specs.Prelude.{is_some}
use Rattle.herm_model.specs.Values.{Kind, Name, Cell}
use Rattle.herm_model.proofs.Options.{map-some}
use Rattle.herm_journal.specs.Actions.{new_port, new_process, to_put, to_take, to_close, to_answer, to_hear}
use Rattle.herm_journal.specs.PlaceStates.{a_port, replies}
use Rattle.herm_journal.specs.Entries.{port, reply_cell}
use Rattle.herm_journal.specs.Kinds.{WantKinds}
use Rattle.herm_journal.specs.Messages.{CellReply, CellWant}
use Rattle.herm_system.specs.Machines.{Machine}
use Rattle.herm_system.specs.Systems.{System, start, done_at, can, numbered_from_one}
use Rattle.herm_system.specs.Sound.{IsNumbered}
use Rattle.herm_runs.specs.laws.ProcessLaws.{KeepsNumbers, KnowsPlaces, IsKnown}
use Rattle.herm_runs.specs.laws.RunLaws.{MayWait, OnlyTakesAndHearsWait}
use Rattle.herm_runs.proofs.Numbered.{runs-numbered}
use Rattle.herm_runs.proofs.KnownPlaces.{run-knows}
use Rattle.herm_journal.proofs.Rising.{same-true}
use Rattle.herm_runs.proofs.order.OrderedRuns.{places-there, opening-knows}

-- what is wanted of a place that is there can be done, unless it has to come
can-wait : {P : Type 0} (machine : Machine Name P) (s : System P) (numbered : IsNumbered machine s) (p : ℕ) → 1 ≤ p → p ≤ s.book.processes → (w : CellWant Name) → WantKinds (IsKnown s.book) w → can s p w ≡ false → MayWait w
can-wait machine s numbered p least most new_port known e = absurd (true≢false e)
can-wait machine s numbered p least most (new_process code) known e = absurd (true≢false e)
can-wait machine s numbered p least most (to_put n m) known e =
    let h = places-there machine s numbered (to_put n m) p (port n) known least most (ap (λ b. b || false) (same-true n)) in
    let q = map-some a_port (slice_get s.ports n) h.0 h.1 in
    absurd (true≢false (sym (ap (λ o. is_some (option_and_then (done_at {M = Cell Name} {R = CellReply Name} (to_put n m)) (option_map a_port o)) || false) q.1) ∙ e))
can-wait machine s numbered p least most (to_take ports) known e = tt
can-wait machine s numbered p least most (to_close n) known e =
    let h = places-there machine s numbered (to_close n) p (port n) known least most (ap (λ b. b || false) (same-true n)) in
    let q = map-some a_port (slice_get s.ports n) h.0 h.1 in
    absurd (true≢false (sym (ap (λ o. is_some (option_and_then (done_at {M = Cell Name} {R = CellReply Name} (to_close n)) (option_map a_port o)) || false) q.1) ∙ e))
can-wait machine s numbered p least most (to_answer caller call r) known e =
    let h = places-there machine s numbered (to_answer caller call r) p (reply_cell caller) known least most (ap (λ b. b || false) (same-true caller)) in
    let q = map-some replies (numbered_from_one caller s.replies) h.0 h.1 in
    absurd (true≢false (sym (ap (λ o. is_some (option_and_then (done_at {M = Cell Name} {R = CellReply Name} (to_answer caller call r)) (option_map replies o)) || false) q.1) ∙ e))
can-wait machine s numbered p least most to_hear known e = tt

pub only-takes-wait : {P : Type 0} (machine : Machine Name P) (beside : P → List Kind) → KeepsNumbers machine → KnowsPlaces machine beside → OnlyTakesAndHearsWait machine
only-takes-wait machine beside keeps known limits argument first events r main is p x want found wants e =
    let numbered = runs-numbered machine keeps limits argument first events r main is in
    let all = run-knows machine beside known events (start machine limits argument) r is (opening-knows machine beside known limits argument first main) in
    let knows = all.processes p x found in
    let number = (numbered.processes p x found).0 in
    can-wait machine r.system numbered p (omega (arith, knows.1, number)) (omega (arith, knows.2, number)) want (known.wants r.system.book x want knows wants) e
