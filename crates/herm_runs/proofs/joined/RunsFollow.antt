-- Each run of one of two joined machines is one of the other, where what can be done there would suit.
use Rattle.std.proofs.Common.{◌≡◌, ℕ, List, [], ◌∷◌, Some, option_map, option_and_then, refl, sym, ap, ap₂, subst, ◌∙◌}
use Rattle.herm_model.specs.Values.{Name}
use Rattle.herm_model.proofs.Options.{some-injective, map-some}
use Rattle.herm_journal.specs.NextNumbers.{Limits}
use Rattle.herm_journal.specs.Entries.{Text, Place}
use Rattle.herm_system.specs.Machines.{Machine}
use Rattle.herm_system.specs.Systems.{System, Moved, Event, steps, acts, Run, run, run_on, step, start, main_port, with_entry, number_of, numbered_from_one}
use Rattle.herm_system.specs.Sound.{IsNumbered}
use Rattle.herm_runs.specs.laws.ProcessLaws.{KeepsNumbers}
use Rattle.herm_runs.specs.laws.DiaryLaws.{EventSuits, SuitsAlong, WouldSuit}
use Rattle.herm_runs.specs.Joining.{AreJoined, Correspond, turned, RunsFollow}
use Rattle.herm_runs.proofs.ActionParts.{action-parts}
use Rattle.herm_runs.proofs.Numbered.{step-numbered, opening-numbered}
use Rattle.herm_runs.proofs.joined.Turned.{both-turned, suits-same, joined-turned, each-turned}
use Rattle.herm_runs.proofs.joined.SameOutside.{each-found, holding-same}
use Rattle.herm_runs.proofs.joined.StepsTogether.{there, step-together}
use Rattle.herm_runs.proofs.joined.RunsTogether.{runs-together, opening-together}

module _ {P Q : Type 0} (a : Machine Name P) (b : Machine Name Q) (R : P → Q → Type 0) (j : AreJoined a b R) (keeps : KeepsNumbers b) where
  pub back : (s : System P) (t : System Q) → Correspond R s t → Correspond (turned R) t s
  back s t c = record { processes = each-turned R s.processes t.processes c.processes; ports = sym c.ports; replies = sym c.replies; book = sym c.book }

  forth : (s : System P) (t : System Q) → Correspond (turned R) t s → Correspond R s t
  forth s t c = record { processes = each-turned (turned R) t.processes s.processes c.processes; ports = sym c.ports; replies = sym c.replies; book = sym c.book }

  -- what would suit in the one would suit in the other
  would-follow : (s : System P) (t : System Q) → Correspond R s t → WouldSuit a s → WouldSuit b t
  would-follow s t c would p y w place h action is wants among at does =
      let x = there (turned R) (numbered_from_one p t.processes) (numbered_from_one p s.processes) y (both-turned R (numbered_from_one p s.processes) (numbered_from_one p t.processes) (each-found R s.processes t.processes p c.processes)) is in
      let shows = j.shows x.0 y x.2 in
      suits-same a b j.types x.0 y shows (number_of place) action (would p x.0 w place h action x.1 (shows.wanted ∙ wants) among (holding-same R s t c place ∙ at) does)

  -- so what comes in with an event of the other suits there
  action-follows : (p : ℕ) (place : Place) (s : System P) (t : System Q) → Correspond R s t → WouldSuit a s → EventSuits b (acts p place) t
  action-follows p place s t c would y m act is e done =
      let parts = action-parts b p place t m e in
      let here : parts.state ≡ y = some-injective (sym parts.is ∙ is) in
      let same : parts.did.0 ≡ act = some-injective (ap (λ (x : Moved Q). x.done) parts.moved ∙ done) in
      would-follow s t c would p y parts.want.0 place parts.at.0 act is (ap b.wanted (sym here) ∙ parts.want.1) parts.there parts.at.1 (parts.did.1 ∙ ap (λ v. Some v) same)

  event-follows : (e : Event) (s : System P) (t : System Q) → Correspond R s t → WouldSuit a s → EventSuits b e t
  event-follows (steps p) s t c would = tt
  event-follows (acts p place) s t c would = action-follows p place s t c would

  -- Runs of the two that correspond, where whatever can be done on from the one would suit.
  pub record AreAlong (r : Run P) (q : Run Q) : Type 0 where
    pub numbered : IsNumbered b q.system
    pub systems : Correspond R r.system q.system
    pub journal : r.journal ≡ q.journal
    pub would : (more : List Event) (t : Run P) → run a more r ≡ Some t → WouldSuit a t.system

  along-suits : (e : Event) (r : Run P) (q : Run Q) → AreAlong r q → EventSuits b e q.system
  along-suits e r q h = event-follows e r.system q.system h.systems (h.would [] r refl)

  -- an event of the other is one of the one
  pub event-along : (e : Event) (r : Run P) (q v : Run Q) → AreAlong r q → run_on b e q ≡ Some v → (u : Run P) × (run_on a e r ≡ Some u) × AreAlong u v
  event-along e r q v h is =
      let m = map-some (λ (m : Moved Q). record { system = m.system; journal = with_entry q.journal e m.done }) (step b e q.system) v is in
      let n = step-together b a (turned R) (joined-turned a b R j) e q.system r.system m.0 (back r.system q.system h.systems) (along-suits e r q h) (λ p x found. (h.numbered.processes p x found).0) m.1 in
      let u : Run P = record { system = n.0.system; journal = with_entry r.journal e n.0.done } in
      let on : run_on a e r ≡ Some u = ap (λ o. option_map (λ (m : Moved P). record { system = m.system; journal = with_entry r.journal e m.done }) o) n.1 in
      let here : Run Q = record { system = m.0.system; journal = with_entry q.journal e m.0.done } in
      let along : AreAlong u here = record {
        numbered = step-numbered b keeps e q.system m.0 m.1 h.numbered;
        systems = forth n.0.system m.0.system n.2;
        journal = ap₂ (λ es done. with_entry es e done) h.journal (sym n.3);
        would = λ more t runs. h.would (e ∷ more) t (ap (option_and_then (run a more)) on ∙ runs);
      } in (u, on, subst (AreAlong u) m.2 along)

  -- so what comes in suits along each run of the other
  suits-follow : (events : List Event) (r : Run P) (q : Run Q) → AreAlong r q → SuitsAlong b events q
  suits-follow [] r q h = tt
  suits-follow (e ∷ events) r q h = (along-suits e r q h, λ v is. let u = event-along e r q v h is in suits-follow events u.0 v u.2)

  pub opening-along : (limits : Limits) (argument : Text) (main : P) (first : Q) → a.begin a.main 1 main_port ≡ Some main → b.begin b.main 1 main_port ≡ Some first
      → ((events : List Event) (r : Run P) → run a events (start a limits argument) ≡ Some r → WouldSuit a r.system) → AreAlong (start a limits argument) (start b limits argument)
  opening-along limits argument main first is begins would = record {
    numbered = opening-numbered b keeps limits argument first begins;
    systems = opening-together a b R j limits argument main is;
    journal = refl;
    would = would;
  }

  pub first-of : (main : P) → a.begin a.main 1 main_port ≡ Some main → (first : Q) × (b.begin b.main 1 main_port ≡ Some first)
  first-of main is =
      let n = there R (a.begin a.main 1 main_port) (b.begin a.main 1 main_port) main (j.begins a.main 1 1 (0, 1)) is in (n.0, ap (λ i. b.begin i 1 main_port) (sym j.main) ∙ n.1)

  pub runs-follow : RunsFollow a b R
  runs-follow limits argument main is would events q runs =
      let first = first-of main is in
      let suits = suits-follow events (start a limits argument) (start b limits argument) (opening-along limits argument main first.0 is first.1 would) in
      let k = runs-together b a (turned R) (joined-turned a b R j) keeps limits argument first.0 events q first.1 runs suits in
      (k.0, k.1, k.2, k.3, suits, would-follow k.0.system q.system (forth k.0.system q.system k.2.systems) (would events k.0 k.1))
