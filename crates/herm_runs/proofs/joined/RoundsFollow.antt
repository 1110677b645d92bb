-- The rounds of one of two joined machines are those of the other, where what can be done there would suit.
use Rattle.std.proofs.Common.{◌≡◌, ℕ, zero, suc, List, [], ◌∷◌, Bool, true, false, cond, Option, Some, None, option_map, option_and_then, refl, sym, ap, ap₂, subst, ◌∙◌}
use Rattle.std.specs.Prelude.{is_some, find}
use Rattle.herm_model.specs.Values.{Name}
use Rattle.herm_model.proofs.Options.{some-injective, none-not_some, map-some}
use Rattle.herm_journal.specs.NextNumbers.{Book}
use Rattle.herm_journal.specs.Entries.{Place}
use Rattle.herm_journal.specs.Messages.{CellWant}
use Rattle.herm_system.specs.Machines.{Machine, is_local, is_acting}
use Rattle.herm_system.specs.Systems.{System, Event, steps, acts, Run, run_on, start, done_in, done_at, places_for, numbered_from_one}
use Rattle.herm_system.specs.Rounds.{Round, first_place, place_or_book, turn, after_turn, turns, one_round, rounds}
use Rattle.herm_runs.specs.laws.ProcessLaws.{KeepsNumbers}
use Rattle.herm_runs.specs.Joining.{BothOrNone, AreJoined, Correspond, LookAlike, turned, RoundsFollow}
use Rattle.herm_runs.proofs.RoundsEnd.{elim-some}
use Rattle.herm_runs.proofs.joined.Turned.{joined-turned}
use Rattle.herm_runs.proofs.joined.SameOutside.{each-found, holding-same, stands-same, alike}
use Rattle.herm_runs.proofs.joined.RunsFollow.{back, AreAlong, event-along, opening-along, first-of}

module _ {P Q : Type 0} (a : Machine Name P) (b : Machine Name Q) (R : P → Q → Type 0) (j : AreJoined a b R) where
  -- where a process can act first
  done-same : (s : System P) (t : System Q) → Correspond R s t → (w : CellWant Name) (place : Place) → is_some (done_in w s place) ≡ is_some (done_in w t place)
  done-same s t c w place = ap (λ h. is_some (option_and_then (done_at w) h)) (holding-same R s t c place)

  find-same : (s : System P) (t : System Q) → Correspond R s t → (w : CellWant Name) (places : List Place) → find (λ place. is_some (done_in w s place)) places ≡ find (λ place. is_some (done_in w t place)) places
  find-same s t c w [] = refl
  find-same s t c w (place ∷ places) = ap₂ (λ (is : Bool) (more : Option Place). cond is (Some place) more) (done-same s t c w place) (find-same s t c w places)

  first-want : (s : System P) (t : System Q) (p : ℕ) → Correspond R s t → (o : Option (CellWant Name))
      → option_and_then (λ w. find (λ place. is_some (done_in w s place)) (places_for p w)) o ≡ option_and_then (λ w. find (λ place. is_some (done_in w t place)) (places_for p w)) o
  first-want s t p c None = refl
  first-want s t p c (Some w) = find-same s t c w (places_for p w)

  first-process : (s : System P) (t : System Q) (p : ℕ) → Correspond R s t → (o : Option P) (q : Option Q) → BothOrNone R o q
      → option_and_then (λ x. option_and_then (λ w. find (λ place. is_some (done_in w s place)) (places_for p w)) (a.wanted x)) o
      ≡ option_and_then (λ y. option_and_then (λ w. find (λ place. is_some (done_in w t place)) (places_for p w)) (b.wanted y)) q
  first-process s t p c None None h = refl
  first-process s t p c None (Some y) h = absurd h
  first-process s t p c (Some x) None h = absurd h
  first-process s t p c (Some x) (Some y) h =
      ap (option_and_then (λ w. find (λ place. is_some (done_in w s place)) (places_for p w))) (j.shows x y h).wanted ∙ first-want s t p c (b.wanted y)

  first-same : (s : System P) (t : System Q) (p : ℕ) → Correspond R s t → first_place a s p ≡ first_place b t p
  first-same s t p c = first-process s t p c (numbered_from_one p s.processes) (numbered_from_one p t.processes) (each-found R s.processes t.processes p c.processes)

  turn-same : (s : System P) (t : System Q) (p : ℕ) → Correspond R s t → turn a s p ≡ turn b t p
  turn-same s t p c =
      ap₂ (λ (is : Bool) (more : Option Event). cond is (Some (steps p)) more) (stands-same a b R j s t c is_local p)
      (ap₂ (λ (is : Bool) (place : Option Place). cond is (Some (acts p (place_or_book place))) None) (stands-same a b R j s t c is_acting p) (first-same s t p c))

module _ {P Q : Type 0} (a : Machine Name P) (b : Machine Name Q) (R : P → Q → Type 0) (j : AreJoined a b R) (keeps : KeepsNumbers b) where
  -- rounds that have come as far
  record SameRound (x : Round P) (y : Round Q) : Type 0 where
    along : AreAlong a b R j keeps x.run y.run
    moved : x.moved ≡ y.moved

  abbrev Reaches : Option (Round P) → Round Q → Type 0
  Reaches o z = (w : Round P) × (o ≡ Some w) × SameRound w z

  after-along : (o : Option Event) (x : Round P) (y z : Round Q) → SameRound x y → after_turn b o y ≡ Some z → Reaches (after_turn a o x) z
  after-along None x y z h e = (x, refl, subst (SameRound x) (some-injective e) h)
  after-along (Some e) x y z h is =
      let k = map-some _ (run_on b e y.run) z is in
      let u = event-along a b R j keeps e x.run y.run k.0 h.along k.1 in
      let w : Round P = record { run = u.0; moved = true } in
      (w, ap (option_map (λ next. record { run = next; moved = true })) u.1, subst (SameRound w) k.2 (record { along = u.2; moved = refl }))

  turns-along : (n p : ℕ) (x : Round P) (y z : Round Q) → SameRound x y → turns n b p y ≡ Some z → Reaches (turns n a p x) z
  turns-along zero p x y z h e = (x, refl, subst (SameRound x) (some-injective e) h)
  turns-along (suc n) p x y z h e =
      let k = elim-some (after_turn b (turn b y.run.system p) y) (turns n b (suc p)) z e in
      let same : turn a x.run.system p ≡ turn b y.run.system p = turn-same a b R j x.run.system y.run.system p h.along.systems in
      let w = after-along (turn b y.run.system p) x y k.0 h k.1 in
      let rest = turns-along n (suc p) w.0 k.0 z w.2 k.2 in
      let first : after_turn a (turn a x.run.system p) x ≡ Some w.0 = ap (λ o. after_turn a o x) same ∙ w.1 in
      (rest.0, ap (λ o. elim o [ None ↦ None | Some next ↦ turns n a (suc p) next ]) first ∙ rest.1, rest.2)

  abbrev Leads : Option (Run P) → Run Q → Type 0
  Leads o v = (u : Run P) × (o ≡ Some u) × AreAlong a b R j keeps u v

  -- a round that made nothing is the last
  by-moved : (moved : Bool) (r : Run P) (q v : Run Q) (o : Option (Run P)) (more : Option (Run Q)) → AreAlong a b R j keeps r q → (more ≡ Some v → Leads o v) → elim moved [ false ↦ Some q | true ↦ more ] ≡ Some v → Leads (elim moved [ false ↦ Some r | true ↦ o ]) v
  by-moved false r q v o more h goes_on e = (r, refl, subst (AreAlong a b R j keeps r) (some-injective e) h)
  by-moved true r q v o more h goes_on e = goes_on e

  round-along : (n : ℕ) (r : Run P) (q v : Run Q) → AreAlong a b R j keeps r q → rounds n b q ≡ Some v → Leads (rounds n a r) v
  round-along zero r q v h e = none-not_some e
  round-along (suc n) r q v h e =
      let k = elim-some (one_round b q) (λ round. elim (round.moved) [ false ↦ Some round.run | true ↦ rounds n b round.run ]) v e in
      let begins : SameRound (record { run = r; moved = false }) (record { run = q; moved = false }) = record { along = h; moved = refl } in
      let w = turns-along q.system.book.limits.processes 1 (record { run = r; moved = false }) (record { run = q; moved = false }) k.0 begins k.1 in
      let one : one_round a r ≡ Some w.0 = ap (λ (x : Book). turns x.limits.processes a 1 (record { run = r; moved = false })) h.systems.book ∙ w.1 in
      let u = by-moved k.0.moved w.0.run k.0.run v (rounds n a w.0.run) (rounds n b k.0.run) w.2.along (round-along n w.0.run k.0.run v w.2.along) k.2 in
      let last : elim (w.0.moved) [ false ↦ Some w.0.run | true ↦ rounds n a w.0.run ] ≡ Some u.0 = ap (λ m. elim m [ false ↦ Some w.0.run | true ↦ rounds n a w.0.run ]) w.2.moved ∙ u.1 in
      (u.0, ap (λ o. elim o [ None ↦ None | Some round ↦ elim (round.moved) [ false ↦ Some round.run | true ↦ rounds n a round.run ] ]) one ∙ last, u.2)

  pub rounds-follow : RoundsFollow a b R
  rounds-follow limits argument main is would most q e =
      let first = first-of a b R j keeps main is in
      let u = round-along most (start a limits argument) (start b limits argument) q (opening-along a b R j keeps limits argument main first.0 is first.1 would) e in
      let k = u.2 in
      let same : record { system = u.0.system; journal = q.journal } ≡ u.0 = ap (λ es. record { system = u.0.system; journal = es }) (sym k.journal) in
      (u.0, u.1, subst (LookAlike b a (turned R) q) same (alike b a (turned R) (joined-turned a b R j) q.system u.0.system (back a b R j keeps u.0.system q.system k.systems) q.journal))
