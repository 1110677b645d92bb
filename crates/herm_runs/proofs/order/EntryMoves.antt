-- An entry's move: local steps of its process, and then its action; and what of it depends on the system.
use Rattle.std.proofs.Common.{◌≡◌, ℕ, zero, suc, List, [], ◌∷◌, Bool, true, false, ◌||◌, ◌⊎◌, inl, inr, Some, option_map, slice_get, refl, sym, ap, ◌∙◌, true≢false}
use Rattle.herm_model.specs.Lists.{any_pass}
use Rattle.herm_model.specs.Values.{Cell, Name}
use Rattle.herm_model.proofs.Options.{some-injective, none-not_some, map-some}
use Rattle.herm_journal.specs.Actions.{to_put, to_take, to_close, to_answer, to_hear, make_port, make_process}
use Rattle.herm_journal.specs.PlaceStates.{PlaceState, a_port, replies, Replies, after}
use Rattle.herm_journal.specs.Ports.{Port, first_of}
use Rattle.herm_journal.specs.Entries.{Place, port, reply_cell, book, same_place, Entry, recorded}
use Rattle.herm_journal.specs.Messages.{CellReply, CellWant, CellAction}
use Rattle.herm_system.specs.Machines.{Machine, acting, is_local, is_acting, inport_of}
use Rattle.herm_system.specs.Systems.{can_be_done, System, Moved, acts, step, with_made, set_process, set_holding, holding_at, numbered_from_one, places_for, done_at, can, number_of}
use Rattle.herm_runs.proofs.Histories.{place-same}
use Rattle.herm_runs.proofs.Stands.{stands-as, seen-acting}
use Rattle.herm_runs.proofs.ActionParts.{action-parts}
use Rattle.herm_runs.proofs.order.Commuting.{Growth, no_growth, one_port, one_process, grown, changed}

-- a list has an element that passes where it has this one
pub found-passes : (place : Place) (test : Place → Bool) (places : List Place) → any_pass (same_place place) places ≡ true → test place ≡ true → any_pass test places ≡ true
found-passes place test [] e is = absurd (true≢false (sym e))
found-passes place test (q ∷ places) e is = by_test (same_place place q) refl e (found-passes place test places)
  where
    either : (a : Bool) → a || true ≡ true
    either true = refl
    either false = refl

    by_test : (t : Bool) → same_place place q ≡ t → (t || any_pass (same_place place) places) ≡ true → (any_pass (same_place place) places ≡ true → test place ≡ true → any_pass test places ≡ true) → (test q || any_pass test places) ≡ true
    by_test true same e again = ap (λ r. test r || any_pass test places) (sym (place-same place q same)) ∙ ap (λ t. t || any_pass test places) is
    by_test false same e again = ap (λ t. test q || t) (again e is) ∙ either (test q)

-- the actions that make something
abbrev pub makes_more : CellAction Name → Bool
makes_more (make_port made) = true
makes_more (make_process code made) = true
makes_more a = false

-- what an action adds, whatever the system; elsewhere than at the book it adds nothing
record Grows {P : Type 0} (machine : Machine Name P) (maker : P) (a : CellAction Name) (s t : System P) : Type 0 where
  growth : Growth P
  grows : (u : System P) → with_made machine maker a u ≡ Some (grown growth u)
  only : makes_more a ≡ false → growth ≡ no_growth
  is : t ≡ grown growth s

made-grows : {P : Type 0} (machine : Machine Name P) (maker : P) (a : CellAction Name) (s t : System P) → with_made machine maker a s ≡ Some t → Grows machine maker a s t
made-grows machine maker (make_port (Some n)) s t e = record { growth = one_port; grows = λ u. refl; only = λ f. absurd (true≢false f); is = sym (some-injective e) }
made-grows machine maker (make_process code (Some made)) s t e =
    let m = map-some _ (machine.begin code made.0 (inport_of machine made.1 maker)) t e in
    record { growth = one_process m.0; grows = λ u. ap (option_map _) m.1; only = λ f. absurd (true≢false f); is = sym m.2 }
made-grows machine maker a s t e = record { growth = no_growth; grows = λ u. refl; only = λ f. refl; is = sym (some-injective e) }

port-makes : (w : CellWant Name) (p : Port (Cell Name)) (a : CellAction Name) → done_at w (a_port p) ≡ Some a → makes_more a ≡ false
port-makes (to_put n m) p a e = ap makes_more (sym (some-injective e))
port-makes (to_take ports) p a e = let m = map-some _ (first_of p.queue) a e in ap makes_more (sym m.2)
port-makes (to_close n) p a e = ap makes_more (sym (some-injective e))
port-makes w p a e = none-not_some e

cell-makes : (w : CellWant Name) (rs : Replies (CellReply Name)) (a : CellAction Name) → done_at w (replies rs) ≡ Some a → makes_more a ≡ false
cell-makes (to_answer caller call r) rs a e = ap makes_more (sym (some-injective e))
cell-makes to_hear rs a e = let m = map-some _ (first_of rs) a e in ap makes_more (sym m.2)
cell-makes w rs a e = none-not_some e

elsewhere-makes : {P : Type 0} → (place : Place) (s : System P) (h : PlaceState (Cell Name) (CellReply Name)) (w : CellWant Name) (a : CellAction Name) → holding_at place s ≡ Some h → done_at w h ≡ Some a →
    (place ≡ book) ⊎ (makes_more a ≡ false)
elsewhere-makes (port n) s h w a at does = let m = map-some a_port (slice_get s.ports n) h at in inr (port-makes w m.0 a (ap (done_at w) m.2 ∙ does))
elsewhere-makes (reply_cell p) s h w a at does = let m = map-some replies (numbered_from_one p s.replies) h at in inr (cell-makes w m.0 a (ap (done_at w) m.2 ∙ does))
elsewhere-makes book s h w a at does = inl refl

module _ {P : Type 0} (machine : Machine Name P) (limit : ℕ) where
  -- so many local steps lead from one state of a process to another
  abbrev pub Walks : ℕ → P → P → Type 0
  Walks zero x y = x ≡ y
  Walks (suc n) x y = (z : P) × (is_local (machine.ready limit x) ≡ true) × (machine.local_step x ≡ Some z) × Walks n z y

  -- The process of an entry makes so many local steps, and then the action: what was there before, what it leaves, and
  -- what of it does not depend on the rest of the system.
  pub record IsMove (e : Entry) (s t : System P) : Type 0 where
    pub count : ℕ
    pub before : P
    pub ready : P
    pub behind : P
    pub want : CellWant Name
    pub held : PlaceState (Cell Name) (CellReply Name)
    pub done : CellAction Name
    pub growth : Growth P
    pub is : numbered_from_one e.process s.processes ≡ Some before
    pub walks : Walks count before ready
    pub acts : machine.ready limit ready ≡ acting
    pub wants : machine.wanted ready ≡ Some want
    pub among : any_pass (same_place e.place) (places_for e.process want) ≡ true
    pub there : holding_at e.place s ≡ Some held
    pub does : done_at want held ≡ Some done
    pub leaves : machine.answered ready (number_of e.place) done ≡ Some behind
    pub grows : (u : System P) → with_made machine ready done u ≡ Some (grown growth u)
    pub only : (e.place ≡ book) ⊎ (growth ≡ no_growth)
    pub makes : (e.place ≡ book) ⊎ (makes_more done ≡ false)
    pub records : recorded done ≡ e.action
    pub leads : t ≡ changed e.process behind e.place (after done held) growth s

  -- What of a move does not depend on the rest of the system makes it a move in another one, where as many local steps of its
  -- process lead to the same state, and the place holds the same.
  pub move-elsewhere : (e : Entry) (s t u v : System P) (m : IsMove e s t) (count : ℕ) (before : P) → numbered_from_one e.process u.processes ≡ Some before → Walks count before m.ready → holding_at e.place u ≡ Some m.held
      → v ≡ changed e.process m.behind e.place (after m.done m.held) m.growth u → IsMove e u v
  move-elsewhere e s t u v m count before is walks there leads = record {
    count = count;
    before = before;
    ready = m.ready;
    behind = m.behind;
    want = m.want;
    held = m.held;
    done = m.done;
    growth = m.growth;
    is = is;
    walks = walks;
    acts = m.acts;
    wants = m.wants;
    among = m.among;
    there = there;
    does = m.does;
    leaves = m.leaves;
    grows = m.grows;
    only = m.only;
    makes = m.makes;
    records = m.records;
    leads = leads;
  }

  -- an action of a run is an entry's move, without local steps
  pub act-moves : (p : ℕ) (place : Place) (s : System P) (m : Moved P) → s.book.limits.steps ≡ limit → step machine (acts p place) s ≡ Some m →
      (a : CellAction Name) × (m.done ≡ Some a) × ((stamp : ℕ) → IsMove (record { stamp = stamp; process = p; place = place; action = recorded a }) s m.system)
  act-moves p place s m same e =
      let parts = action-parts machine p place s m e in
      let acting_now = sym (stands-as is_acting machine s p parts.state parts.is) ∙ parts.stands in
      let free = (seen-acting (machine.ready s.book.limits.steps parts.state) (can_be_done (can s p) (machine.wanted parts.state)) acting_now).0 in
      let grow = made-grows machine parts.state parts.did.0 (set_process p parts.left.0 (set_holding place (after parts.did.0 parts.at.0) s)) parts.makes.0 parts.makes.1 in
      let only : (place ≡ book) ⊎ (grow.growth ≡ no_growth) = elim (elsewhere-makes place s parts.at.0 parts.want.0 parts.did.0 parts.at.1 parts.did.1) [ inl q ↦ inl q | inr f ↦ inr (grow.only f) ] in (
        parts.did.0,
        sym (ap (λ (m : Moved P). m.done) parts.moved),
        λ stamp. record {
          count = 0;
          before = parts.state;
          ready = parts.state;
          behind = parts.left.0;
          want = parts.want.0;
          held = parts.at.0;
          done = parts.did.0;
          growth = grow.growth;
          is = parts.is;
          walks = refl;
          acts = ap (λ l. machine.ready l parts.state) (sym same) ∙ free;
          wants = parts.want.1;
          among = parts.there;
          there = parts.at.1;
          does = parts.did.1;
          leaves = parts.left.1;
          grows = grow.grows;
          only = only;
          makes = elsewhere-makes place s parts.at.0 parts.want.0 parts.did.0 parts.at.1 parts.did.1;
          records = refl;
          leads = sym (ap (λ (m : Moved P). m.system) parts.moved) ∙ grow.is;
        },
      )
