-- What an event leads to in one of two joined machines, it leads to in the other.
use Rattle.std.proofs.Common.{◌≡◌, ℕ, zero, suc, List, [], ◌∷◌, ◌++◌, true, Option, Some, None, option_map, slice_set, refl, sym, ap, ap₂, subst, ◌∙◌}
use Rattle.std.specs.Prelude.{IsTrue}
use Rattle.herm_model.specs.Lists.{any_pass}
use Rattle.herm_model.specs.Values.{Name, Cell, cell, an_inport, no_parts}
use Rattle.herm_model.proofs.Options.{some-injective, none-not_some, map-some}
use Rattle.herm_journal.specs.Actions.{make_port, make_process, put, take, close, answer, hear}
use Rattle.herm_journal.specs.Ports.{empty_port}
use Rattle.herm_journal.specs.PlaceStates.{PlaceState, a_port, replies, a_book, after}
use Rattle.herm_journal.specs.Entries.{Place, port, reply_cell, book, same_place}
use Rattle.herm_journal.specs.Messages.{CellReply, CellAction}
use Rattle.herm_system.specs.Machines.{Machine, is_local, is_acting, inport_of}
use Rattle.herm_system.specs.Systems.{System, Moved, Event, steps, acts, step, can, can_be_done, stands, with_made, set_process, set_holding, local_event, action_event, numbered_from_one, set_from_one, places_for, number_of}
use Rattle.herm_system.specs.Suiting.{Fulfils}
use Rattle.herm_runs.specs.laws.DiaryLaws.{EventSuits}
use Rattle.herm_runs.specs.Joining.{BothOrNone, AreJoined, EachOf, Correspond, turned}
use Rattle.herm_runs.proofs.Stands.{seen-local, stands-as}
use Rattle.herm_runs.proofs.ActionParts.{action-parts, step-parts, action-of, step-of}
use Rattle.herm_runs.proofs.DiariesTold.{done-fulfils}
use Rattle.herm_runs.proofs.joined.Turned.{both-turned, suits-same}
use Rattle.herm_runs.proofs.joined.SameOutside.{each-found, holding-same, stands-same}

-- what corresponds to what is there
pub there : {X Y : Type 0} (R : X → Y → Type 0) (o : Option X) (q : Option Y) (x : X) → BothOrNone R o q → o ≡ Some x → (y : Y) × (q ≡ Some y) × R x y
there R None q x h e = none-not_some e
there R (Some z) None x h e = absurd h
there R (Some z) (Some y) x h e = (y, refl, subst (λ v. R v y) (some-injective e) h)

module _ {P Q : Type 0} (R : P → Q → Type 0) where
  each-set : (xs : List P) (ys : List Q) (i : ℕ) (x : P) (y : Q) → R x y → EachOf R xs ys → EachOf R (slice_set xs i x) (slice_set ys i y)
  each-set [] [] i x y r h = tt
  each-set [] (v ∷ ys) i x y r h = absurd h
  each-set (u ∷ xs) [] i x y r h = absurd h
  each-set (u ∷ xs) (v ∷ ys) zero x y r h = (r, h.1)
  each-set (u ∷ xs) (v ∷ ys) (suc i) x y r h = (h.0, each-set xs ys i x y r h.1)

  each-set_from_one : (p : ℕ) (xs : List P) (ys : List Q) (x : P) (y : Q) → R x y → EachOf R xs ys → EachOf R (set_from_one p x xs) (set_from_one p y ys)
  each-set_from_one zero xs ys x y r h = h
  each-set_from_one (suc i) xs ys x y r h = each-set xs ys i x y r h

  each-more : (xs : List P) (ys : List Q) (x : P) (y : Q) → R x y → EachOf R xs ys → EachOf R (xs ++ x ∷ []) (ys ++ y ∷ [])
  each-more [] [] x y r h = (r, tt)
  each-more [] (v ∷ ys) x y r h = absurd h
  each-more (u ∷ xs) [] x y r h = absurd h
  each-more (u ∷ xs) (v ∷ ys) x y r h = (h.0, each-more xs ys x y r h.1)

  pub process-together : (p : ℕ) (x : P) (y : Q) (s : System P) (t : System Q) → R x y → Correspond R s t → Correspond R (set_process p x s) (set_process p y t)
  process-together p x y s t r c = record { processes = each-set_from_one p s.processes t.processes x y r c.processes; ports = c.ports; replies = c.replies; book = c.book }

  place-together : (place : Place) (h : PlaceState (Cell Name) (CellReply Name)) (s : System P) (t : System Q) → Correspond R s t → Correspond R (set_holding place h s) (set_holding place h t)
  place-together (port n) (a_port q) s t c = record { processes = c.processes; ports = ap (λ ps. slice_set ps n q) c.ports; replies = c.replies; book = c.book }
  place-together (reply_cell p) (replies rs) s t c = record { processes = c.processes; ports = c.ports; replies = ap (set_from_one p rs) c.replies; book = c.book }
  place-together book (a_book b) s t c = record { processes = c.processes; ports = c.ports; replies = c.replies; book = refl }
  place-together (port n) (replies x) s t c = c
  place-together (port n) (a_book x) s t c = c
  place-together (reply_cell p) (a_port x) s t c = c
  place-together (reply_cell p) (a_book x) s t c = c
  place-together book (a_port x) s t c = c
  place-together book (replies x) s t c = c

module _ {P Q : Type 0} (a : Machine Name P) (b : Machine Name Q) (R : P → Q → Type 0) (j : AreJoined a b R) where
  -- what an action makes
  made-together : (x : P) (y : Q) (act : CellAction Name) (s : System P) (t : System Q) (s' : System P) → R x y → Correspond R s t → with_made a x act s ≡ Some s' → (t' : System Q) × (with_made b y act t ≡ Some t') × Correspond R s' t'
  made-together x y (make_port (Some n)) s t s' r c e = (
    record t { ports = t.ports ++ empty_port ∷ [] },
    refl,
    subst (λ (z : System P). Correspond R z (record t { ports = t.ports ++ empty_port ∷ [] })) (some-injective e) (record { processes = c.processes; ports = ap (λ ps. ps ++ empty_port ∷ []) c.ports; replies = c.replies; book = c.book }),
  )
  made-together x y (make_process code (Some made)) s t s' r c e =
      let m = map-some _ (a.begin code made.0 (inport_of a made.1 x)) s' e in
      let shows = j.shows x y r in
      let same : inport_of a made.1 x ≡ inport_of b made.1 y = ap₂ (λ (number serial : ℕ). cell (number, serial) (an_inport made.1) no_parts) shows.number shows.serial in
      let n = there R (a.begin code made.0 (inport_of a made.1 x)) (b.begin code made.0 (inport_of a made.1 x)) m.0 (j.begins code made.0 made.1 (a.number x, a.serial x)) m.1 in
      let began : b.begin code made.0 (inport_of b made.1 y) ≡ Some n.0 = ap (b.begin code made.0) (sym same) ∙ n.1 in
      let t' : System Q = record t { processes = t.processes ++ n.0 ∷ []; ports = t.ports ++ empty_port ∷ []; replies = t.replies ++ [] ∷ [] } in (
        t',
        ap (option_map (λ (z : Q). record t { processes = t.processes ++ z ∷ []; ports = t.ports ++ empty_port ∷ []; replies = t.replies ++ [] ∷ [] })) began,
        subst (λ (z : System P). Correspond R z t') m.2 (record {
          processes = each-more R s.processes t.processes m.0 n.0 n.2 c.processes;
          ports = ap (λ ps. ps ++ empty_port ∷ []) c.ports;
          replies = ap (λ rs. rs ++ [] ∷ []) c.replies;
          book = c.book;
        }),
      )
  made-together x y (make_port None) s t s' r c e = (t, refl, subst (λ (z : System P). Correspond R z t) (some-injective e) c)
  made-together x y (make_process code None) s t s' r c e = (t, refl, subst (λ (z : System P). Correspond R z t) (some-injective e) c)
  made-together x y (put number m) s t s' r c e = (t, refl, subst (λ (z : System P). Correspond R z t) (some-injective e) c)
  made-together x y (take number m) s t s' r c e = (t, refl, subst (λ (z : System P). Correspond R z t) (some-injective e) c)
  made-together x y (close count left) s t s' r c e = (t, refl, subst (λ (z : System P). Correspond R z t) (some-injective e) c)
  made-together x y (answer call k) s t s' r c e = (t, refl, subst (λ (z : System P). Correspond R z t) (some-injective e) c)
  made-together x y (hear call k) s t s' r c e = (t, refl, subst (λ (z : System P). Correspond R z t) (some-injective e) c)

  -- an event of the one is one of the other, with the same done
  abbrev pub Together : Event → System Q → Moved P → Type 0
  Together e t m = (n : Moved Q) × (step b e t ≡ Some n) × Correspond R m.system n.system × (m.done ≡ n.done)

  local-together : (p : ℕ) (s : System P) (t : System Q) (m : Moved P) → Correspond R s t → local_event a p s ≡ Some m → Together (steps p) t m
  local-together p s t m c e =
      let x = step-parts a p s m e in
      let y = there R (numbered_from_one p s.processes) (numbered_from_one p t.processes) x.state (each-found R s.processes t.processes p c.processes) x.is in
      let now : is_local (a.ready s.book.limits.steps x.state) ≡ true =
      sym (seen-local (a.ready s.book.limits.steps x.state) (can_be_done (can s p) (a.wanted x.state))) ∙ sym (stands-as is_local a s p x.state x.is) ∙ x.stands in
      let z = there R (a.local_step x.state) (b.local_step y.0) x.left.0 (j.local_steps s.book.limits.steps x.state y.0 y.2 now) x.left.1 in
      let stays : stands is_local b t p ≡ true = sym (stands-same a b R j s t c is_local p) ∙ x.stands in (
        record { system = set_process p z.0 t; done = None },
        step-of b p t y.0 z.0 stays y.1 z.1,
        subst (λ (k : Moved P). Correspond R k.system (set_process p z.0 t)) x.moved (process-together R p x.left.0 z.0 s t z.2 c),
        sym (ap (λ (k : Moved P). k.done) x.moved),
      )

  action-together : (p : ℕ) (place : Place) (s : System P) (t : System Q) (m : Moved P) → Correspond R s t → EventSuits a (acts p place) s → ((x : P) → numbered_from_one p s.processes ≡ Some x → a.number x ≡ p)
      → action_event a p place s ≡ Some m → Together (acts p place) t m
  action-together p place s t m c suits numbers e =
      let x = action-parts a p place s m e in
      let y = there R (numbered_from_one p s.processes) (numbered_from_one p t.processes) x.state (each-found R s.processes t.processes p c.processes) x.is in
      let shows = j.shows x.state y.0 y.2 in
      let suit = suits x.state m x.did.0 x.is e (sym (ap (λ (k : Moved P). k.done) x.moved)) in
      let own : IsTrue (any_pass (same_place place) (places_for (a.number x.state) x.want.0)) = subst (λ q. IsTrue (any_pass (same_place place) (places_for q x.want.0))) (sym (numbers x.state x.is)) x.there in
      let fulfils : Fulfils a x.state place x.did.0 = (x.want.0, x.want.1, own, done-fulfils x.want.0 x.at.0 x.did.0 x.did.1) in
      let z = there R (a.answered x.state (number_of place) x.did.0) (b.answered y.0 (number_of place) x.did.0) x.left.0 (j.answers x.state y.0 place x.did.0 y.2 fulfils suit) x.left.1 in
      let moved = process-together R p x.left.0 z.0 (set_holding place (after x.did.0 x.at.0) s) (set_holding place (after x.did.0 x.at.0) t) z.2 (place-together R place (after x.did.0 x.at.0) s t c) in
      let made = made-together x.state y.0 x.did.0 (set_process p x.left.0 (set_holding place (after x.did.0 x.at.0) s)) (set_process p z.0 (set_holding place (after x.did.0 x.at.0) t)) x.makes.0 y.2 moved x.makes.1 in
      let stays : stands is_acting b t p ≡ true = sym (stands-same a b R j s t c is_acting p) ∙ x.stands in (
        record { system = made.0; done = Some x.did.0 },
        action-of b p place t made.0 y.0 z.0 x.want.0 x.at.0 x.did.0 stays y.1 (sym shows.wanted ∙ x.want.1) x.there (sym (holding-same R s t c place) ∙ x.at.1) x.did.1 z.1 made.1,
        subst (λ (k : Moved P). Correspond R k.system made.0) x.moved made.2,
        sym (ap (λ (k : Moved P). k.done) x.moved),
      )

  pub step-together : (e : Event) (s : System P) (t : System Q) (m : Moved P) → Correspond R s t → EventSuits a e s → ((p : ℕ) (x : P) → numbered_from_one p s.processes ≡ Some x → a.number x ≡ p) → step a e s ≡ Some m → Together e t m
  step-together (steps p) s t m c suits numbers e = local-together p s t m c e
  step-together (acts p place) s t m c suits numbers e = action-together p place s t m c suits (numbers p) e

  -- and what comes in with it suits there
  action-suits : (p : ℕ) (place : Place) (s : System P) (t : System Q) (m : Moved P) (n : Moved Q) → Correspond R s t → EventSuits a (acts p place) s → step a (acts p place) s ≡ Some m → step b (acts p place) t ≡ Some n → m.done ≡ n.done
      → EventSuits b (acts p place) t
  action-suits p place s t m n c suits does too same y k act is makes done =
      let back = both-turned R (numbered_from_one p s.processes) (numbered_from_one p t.processes) (each-found R s.processes t.processes p c.processes) in
      let x = there (turned R) (numbered_from_one p t.processes) (numbered_from_one p s.processes) y back is in
      let one : n ≡ k = some-injective (sym too ∙ makes) in
      let did : m.done ≡ Some act = same ∙ ap (λ (z : Moved Q). z.done) one ∙ done in
      suits-same a b j.types x.0 y (j.shows x.0 y x.2) (number_of place) act (suits x.0 m act x.1 does did)

  pub event-suits : (e : Event) (s : System P) (t : System Q) (m : Moved P) (n : Moved Q) → Correspond R s t → EventSuits a e s → step a e s ≡ Some m → step b e t ≡ Some n → m.done ≡ n.done → EventSuits b e t
  event-suits (steps p) s t m n c suits does too same = tt
  event-suits (acts p place) s t m n c suits does too same = action-suits p place s t m n c suits does too same
