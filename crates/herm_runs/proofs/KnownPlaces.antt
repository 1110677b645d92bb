-- In every state of a run a process knows only ports and callers that are there: so each place that it wants is there.
use Rattle.std.proofs.Common.{◌≡◌, ℕ, suc, ◌≤◌, List, [], ◌∷◌, ◌++◌, map, Bool, true, false, cond, ◌⊎◌, inl, inr, Option, Some, None, option_map, slice_get, slice_set, sym, ap, subst, ◌∙◌, arith}
use Rattle.std.specs.Prelude.{nat_lt, ◌&&◌}
use Rattle.herm_model.specs.Values.{Kind, a_callmessage, an_inport, an_outport, Cell, Name}
use Rattle.herm_model.proofs.Options.{some-injective, none-not_some, chain-some, map-some}
use Rattle.herm_journal.specs.Actions.{new_port, new_process, to_put, to_take, to_close, to_answer, to_hear, make_port, make_process, put, take, close, answer, hear}
use Rattle.herm_journal.specs.NextNumbers.{Book, next_port, next_process}
use Rattle.herm_journal.specs.Ports.{Port, empty_port, first_of, behind_first}
use Rattle.herm_journal.specs.PlaceStates.{Replies, PlaceState, a_port, replies, a_book, after}
use Rattle.herm_journal.specs.Entries.{Place, port, reply_cell, book}
use Rattle.herm_journal.specs.Messages.{CellReply, CellWant, CellAction}
use Rattle.herm_system.specs.Systems.{System, Moved, Event, steps, acts, Run, run, run_on, step, with_entry, with_made, set_process, set_holding, holding_at, numbered_from_one, set_from_one, done_at, number_of}
use Rattle.herm_runs.proofs.SystemLedger.{processes-stay}
use Rattle.herm_runs.proofs.Histories.{held-with_process}
use Rattle.herm_runs.proofs.RoundsEnd.{made-book}
use Rattle.herm_runs.proofs.Numbered.{BookMoves, book-moves, set-found, more-found, set-found_from_one, more-found_from_one}
use Rattle.herm_journal.specs.Kinds.{HasKinds, AllKinds, ReplyKinds, AllPorts, WantKinds, ActionKinds}
use Rattle.herm_journal.proofs.MoreKinds.{more-kinds, more-kinds_all}
use Rattle.herm_system.specs.Machines.{Held, Machine, inport_of}
use Rattle.herm_runs.specs.laws.ProcessLaws.{IsKnown, HeldKinds, AreAmong, Knows, KnowsPlaces}
use Rattle.herm_runs.proofs.DiariesTold.{done-fulfils}
use Rattle.herm_runs.proofs.ActionParts.{action-parts, step-parts}

known-more : (b c : Book) → b.ports ≤ c.ports → b.processes ≤ c.processes → (k : Kind) → IsKnown b k → IsKnown c k
known-more b c ports processes (an_inport n) h = omega (arith, ports, h)
known-more b c ports processes (an_outport n) h = omega (arith, ports, h)
known-more b c ports processes (a_callmessage caller call) h = (h.0, omega (arith, processes, h.1))
known-more b c ports processes k h = tt

-- what is at a place is of the kinds
abbrev pub QueueKinds : (Kind → Type 0) → List (ℕ × Cell Name) → Type 0
QueueKinds of [] = Unit {0}
QueueKinds of (q ∷ queue) = HasKinds of q.1 × QueueKinds of queue

abbrev pub RepliesKinds : (Kind → Type 0) → Replies (CellReply Name) → Type 0
RepliesKinds of [] = Unit {0}
RepliesKinds of (r ∷ rs) = ReplyKinds of r.1 × RepliesKinds of rs

abbrev pub HoldingKinds : (Kind → Type 0) → PlaceState (Cell Name) (CellReply Name) → Type 0
HoldingKinds of (a_port p) = QueueKinds of p.queue
HoldingKinds of (replies rs) = RepliesKinds of rs
HoldingKinds of (a_book b) = Unit {0}

-- kinds that are among more kinds
module _ (f g : Kind → Type 0) (more : (k : Kind) → f k → g k) where
  more-held : (hs : List (Held Name)) → HeldKinds f hs → HeldKinds g hs
  more-held [] h = tt
  more-held (x ∷ hs) h = (more-kinds f g more x.value h.0, more-held hs h.1)

  more-among : (ks : List Kind) → AreAmong f ks → AreAmong g ks
  more-among [] h = tt
  more-among (k ∷ ks) h = (more k h.0, more-among ks h.1)

  more-reply : (r : CellReply Name) → ReplyKinds f r → ReplyKinds g r
  more-reply (Rattle.herm_journal.specs.Actions.values cs) h = more-kinds_all f g more cs h
  more-reply (Rattle.herm_journal.specs.Actions.raised e cs) h = more-kinds_all f g more cs h
  more-reply Rattle.herm_journal.specs.Actions.gone h = tt

  more-queue : (q : List (ℕ × Cell Name)) → QueueKinds f q → QueueKinds g q
  more-queue [] h = tt
  more-queue (m ∷ q) h = (more-kinds f g more m.1 h.0, more-queue q h.1)

  more-replies : (rs : Replies (CellReply Name)) → RepliesKinds f rs → RepliesKinds g rs
  more-replies [] h = tt
  more-replies (r ∷ rs) h = (more-reply r.1 h.0, more-replies rs h.1)

  more-holding : (h : PlaceState (Cell Name) (CellReply Name)) → HoldingKinds f h → HoldingKinds g h
  more-holding (a_port p) h = more-queue p.queue h
  more-holding (replies rs) h = more-replies rs h
  more-holding (a_book b) h = tt

  more-ports : (ports : List ℕ) → AllPorts f ports → AllPorts g ports
  more-ports [] h = tt
  more-ports (n ∷ ports) h = (more (an_inport n) h.0, more-ports ports h.1)

  more-want : (w : CellWant Name) → WantKinds f w → WantKinds g w
  more-want new_port h = tt
  more-want (new_process code) h = tt
  more-want (to_put n m) h = (more (an_outport n) h.0, more-kinds f g more m h.1)
  more-want (to_take ports) h = more-ports ports h
  more-want (to_close n) h = more (an_inport n) h
  more-want (to_answer caller call r) h = (more (a_callmessage caller call) h.0, more-reply r h.1)
  more-want to_hear h = tt

-- what is made is counted
abbrev MadeKinds : Book → CellAction Name → Type 0
MadeKinds c (make_port (Some n)) = n ≤ c.ports
MadeKinds c (make_process code (Some made)) = (1 ≤ made.0) × (made.0 ≤ c.processes) × (made.1 ≤ c.ports)
MadeKinds c a = Unit {0}

-- the book counts no less, and what was made
abbrev Counted : Book → Book → CellAction Name → Type 0
Counted b c a = (b.ports ≤ c.ports) × (b.processes ≤ c.processes) × MadeKinds c a

port-counted : (b : Book) (t : Bool) (made : Option ℕ) → cond t (Some (suc b.ports)) None ≡ made → Counted b (cond t (record b { ports = suc b.ports }) b) (make_port made)
port-counted b true made e = subst (λ o. Counted b (record b { ports = suc b.ports }) (make_port o)) e (omega arith, omega arith, omega arith)
port-counted b false made e = subst (λ o. Counted b b (make_port o)) e (omega arith, omega arith, tt)

process-counted : (b : Book) (code : ℕ) (t : Bool) (made : Option (ℕ × ℕ)) → cond {A = Option (ℕ × ℕ)} t (Some (suc b.processes, suc b.ports)) None ≡ made →
    Counted b (cond t (record b { ports = suc b.ports; processes = suc b.processes }) b) (make_process code made)
process-counted b code true made e = subst (λ o. Counted b (record b { ports = suc b.ports; processes = suc b.processes }) (make_process code o)) e (omega arith, omega arith, (omega arith, omega arith, omega arith))
process-counted b code false made e = subst (λ o. Counted b b (make_process code o)) e (omega arith, omega arith, tt)

counted-same : (b c : Book) (a : CellAction Name) → c ≡ b → MadeKinds b a → Counted b c a
counted-same b c a e h = subst (λ x. Counted b x a) (sym e) (omega arith, omega arith, h)

book-counted : (a : CellAction Name) (b c : Book) → BookMoves a b c → Counted b c a
book-counted (make_port made) b c m = subst (λ x. Counted b x (make_port made)) (sym m.1) (port-counted b (nat_lt b.ports b.limits.ports) made m.0)
book-counted (make_process code made) b c m = subst (λ x. Counted b x (make_process code made)) (sym m.1) (process-counted b code (nat_lt b.processes b.limits.processes && nat_lt b.ports b.limits.ports) made m.0)
book-counted (put number x) b c m = counted-same b c (put number x) m tt
book-counted (take number x) b c m = counted-same b c (take number x) m tt
book-counted (close count left) b c m = counted-same b c (close count left) m tt
book-counted (answer call r) b c m = counted-same b c (answer call r) m tt
book-counted (hear call r) b c m = counted-same b c (hear call r) m tt

-- what an action brings, and what it leaves at its place
module _ (c : Book) where
  left-kinds : (q : List (ℕ × Cell Name)) → QueueKinds (IsKnown c) q → AllKinds (IsKnown c) (map (λ (m : ℕ × Cell Name). m.1) q)
  left-kinds [] h = tt
  left-kinds (m ∷ q) h = (h.0, left-kinds q h.1)

  port-kinds : (o : Option ℕ) → MadeKinds c (make_port o) → ActionKinds {N = Name} (IsKnown c) (make_port o)
  port-kinds None h = tt
  port-kinds (Some n) h = h

  process-kinds : (code : ℕ) (o : Option (ℕ × ℕ)) → MadeKinds c (make_process code o) → ActionKinds {N = Name} (IsKnown c) (make_process code o)
  process-kinds code None h = tt
  process-kinds code (Some made) h = h.2

  take-kinds : (q : List (ℕ × Cell Name)) (a : CellAction Name) → QueueKinds (IsKnown c) q → option_map (λ m. take m.0 m.1) (first_of q) ≡ Some a → ActionKinds (IsKnown c) a
  take-kinds [] a h e = none-not_some e
  take-kinds (m ∷ q) a h e = subst (ActionKinds (IsKnown c)) (some-injective e) h.0

  hear-kinds : (rs : Replies (CellReply Name)) (a : CellAction Name) → RepliesKinds (IsKnown c) rs → option_map (λ r. hear r.0 r.1) (first_of rs) ≡ Some a → ActionKinds (IsKnown c) a
  hear-kinds [] a h e = none-not_some e
  hear-kinds (r ∷ rs) a h e = subst (ActionKinds (IsKnown c)) (some-injective e) h.0

  action-kinds : (w : CellWant Name) (h : PlaceState (Cell Name) (CellReply Name)) (a : CellAction Name) → done_at w h ≡ Some a → WantKinds (IsKnown c) w → HoldingKinds (IsKnown c) h → MadeKinds c a → ActionKinds (IsKnown c) a
  action-kinds new_port (a_book b) a e k g m = subst (ActionKinds (IsKnown c)) (some-injective e) (port-kinds (next_port b) (subst (MadeKinds c) (sym (some-injective e)) m))
  action-kinds (new_process code) (a_book b) a e k g m = subst (ActionKinds (IsKnown c)) (some-injective e) (process-kinds code (next_process b) (subst (MadeKinds c) (sym (some-injective e)) m))
  action-kinds (to_put n x) (a_port p) a e k g m = subst (ActionKinds (IsKnown c)) (some-injective e) k.1
  action-kinds (to_take ports) (a_port p) a e k g m = take-kinds p.queue a g e
  action-kinds (to_close n) (a_port p) a e k g m = subst (ActionKinds (IsKnown c)) (some-injective e) (left-kinds p.queue g)
  action-kinds (to_answer caller call r) (replies rs) a e k g m = subst (ActionKinds (IsKnown c)) (some-injective e) k.1
  action-kinds to_hear (replies rs) a e k g m = hear-kinds rs a g e
  action-kinds w h a e k g m = none-not_some e

  queue-more : (q : List (ℕ × Cell Name)) (n : ℕ) (m : Cell Name) → QueueKinds (IsKnown c) q → HasKinds (IsKnown c) m → QueueKinds (IsKnown c) (q ++ (n, m) ∷ [])
  queue-more [] n m h k = (k, tt)
  queue-more (x ∷ q) n m h k = (h.0, queue-more q n m h.1 k)

  replies-more : (rs : Replies (CellReply Name)) (n : ℕ) (r : CellReply Name) → RepliesKinds (IsKnown c) rs → ReplyKinds (IsKnown c) r → RepliesKinds (IsKnown c) (rs ++ (n, r) ∷ [])
  replies-more [] n r h k = (k, tt)
  replies-more (x ∷ rs) n r h k = (h.0, replies-more rs n r h.1 k)

  put-leaves : (b : Bool) (q : List (ℕ × Cell Name)) (n : ℕ) (m : Cell Name) → QueueKinds (IsKnown c) q → HasKinds (IsKnown c) m →
      QueueKinds (IsKnown c) (cond {A = Port (Cell Name)} b (record { is_open = true; queue = q ++ (n, m) ∷ []; placed = suc n }) (record { is_open = b; queue = q; placed = n })).queue
  put-leaves true q n m h k = queue-more q n m h k
  put-leaves false q n m h k = h

  queue-behind : (q : List (ℕ × Cell Name)) → QueueKinds (IsKnown c) q → QueueKinds (IsKnown c) (behind_first q)
  queue-behind [] h = tt
  queue-behind (m ∷ q) h = h.1

  replies-behind : (rs : Replies (CellReply Name)) → RepliesKinds (IsKnown c) rs → RepliesKinds (IsKnown c) (behind_first rs)
  replies-behind [] h = tt
  replies-behind (r ∷ rs) h = h.1

  after-kinds : (a : CellAction Name) (h : PlaceState (Cell Name) (CellReply Name)) → ActionKinds (IsKnown c) a → HoldingKinds (IsKnown c) h → HoldingKinds (IsKnown c) (after a h)
  after-kinds (put number m) (a_port p) k g = put-leaves p.is_open p.queue p.placed m g k
  after-kinds (take number m) (a_port p) k g = queue-behind p.queue g
  after-kinds (close count left) (a_port p) k g = tt
  after-kinds (answer call r) (replies rs) k g = replies-more rs call r g k
  after-kinds (hear call r) (replies rs) k g = replies-behind rs g
  after-kinds (make_port made) (a_book b) k g = tt
  after-kinds (make_process code made) (a_book b) k g = tt
  after-kinds a h k g = g

-- a change of a process and of a place
found-place : {P : Type 0} → (place q : Place) (k j : PlaceState (Cell Name) (CellReply Name)) (s : System P) → holding_at q (set_holding place k s) ≡ Some j → (k ≡ j) ⊎ (holding_at q s ≡ Some j)
found-place (port m) (port n) (a_port p) j s e =
    let f = map-some a_port (slice_get (slice_set s.ports m p) n) j e in
    elim (set-found s.ports m n p f.0 f.1) [ inl same ↦ inl (ap a_port same.1 ∙ f.2) | inr old ↦ inr (ap (option_map a_port) old ∙ ap (λ h. Some h) f.2) ]
found-place (reply_cell m) (reply_cell n) (replies rs) j s e =
    let f = map-some replies (numbered_from_one n (set_from_one m rs s.replies)) j e in
    elim (set-found_from_one s.replies m n rs f.0 f.1) [ inl same ↦ inl (ap replies same.1 ∙ f.2) | inr old ↦ inr (ap (option_map replies) old ∙ ap (λ h. Some h) f.2) ]
found-place book book (a_book b) j s e = inl (some-injective e)
found-place (port m) q (replies x) j s e = inr e
found-place (port m) q (a_book x) j s e = inr e
found-place (reply_cell m) q (a_port x) j s e = inr e
found-place (reply_cell m) q (a_book x) j s e = inr e
found-place book q (a_port x) j s e = inr e
found-place book q (replies x) j s e = inr e
found-place place q k j s e = inr e

-- each process knows only what this book has counted, and so does what is at each place
pub record HasOnly {P : Type 0} (machine : Machine Name P) (beside : P → List Kind) (b : Book) (s : System P) : Type 0 where
  pub processes : (p : ℕ) (x : P) → numbered_from_one p s.processes ≡ Some x → Knows machine beside b x
  pub places : (q : Place) (h : PlaceState (Cell Name) (CellReply Name)) → holding_at q s ≡ Some h → HoldingKinds (IsKnown b) h

module _ {P : Type 0} (machine : Machine Name P) (beside : P → List Kind) where
  -- the same of a book that counts no less
  knows-more : (b c : Book) → b.ports ≤ c.ports → b.processes ≤ c.processes → (x : P) → Knows machine beside b x → Knows machine beside c x
  knows-more b c ports processes x h = (more-held (IsKnown b) (IsKnown c) (known-more b c ports processes) (machine.held x) h.0, h.1, omega (arith, processes, h.2), more-among (IsKnown b) (IsKnown c) (known-more b c ports processes) (beside x) h.3)

  more-only : (b c : Book) → b.ports ≤ c.ports → b.processes ≤ c.processes → (s : System P) → HasOnly machine beside b s → HasOnly machine beside c s
  more-only b c ports processes s k = record {
    processes = λ p x is. knows-more b c ports processes x (k.processes p x is);
    places = λ q h at. more-holding (IsKnown b) (IsKnown c) (known-more b c ports processes) h (k.places q h at);
  }

  set-only : (b : Book) (p : ℕ) (y : P) (s : System P) → Knows machine beside b y → HasOnly machine beside b s → HasOnly machine beside b (set_process p y s)
  set-only b p y s new k = record {
    processes = λ q x is. by_place x (set-found_from_one s.processes p q y x is) (k.processes q x);
    places = λ q h at. k.places q h (sym (held-with_process q p y s) ∙ at);
  }
    where
      by_place : {Y Z : Type 0} (x : P) → (Y × (y ≡ x)) ⊎ Z → (Z → Knows machine beside b x) → Knows machine beside b x
      by_place x (inl e) old = subst (Knows machine beside b) e.1 new
      by_place x (inr e) old = old e

  place-only : (b : Book) (place : Place) (k : PlaceState (Cell Name) (CellReply Name)) (s : System P) → HoldingKinds (IsKnown b) k → HasOnly machine beside b s → HasOnly machine beside b (set_holding place k s)
  place-only b place k s new o = record {
    processes = λ q x is. o.processes q x (ap (numbered_from_one q) (sym (processes-stay place k s)) ∙ is);
    places = λ q h at. by_place h (found-place place q k h s at) (o.places q h);
  }
    where
      by_place : {Z : Type 0} (h : PlaceState (Cell Name) (CellReply Name)) → (k ≡ h) ⊎ Z → (Z → HoldingKinds (IsKnown b) h) → HoldingKinds (IsKnown b) h
      by_place h (inl e) old = subst (HoldingKinds (IsKnown b)) e new
      by_place h (inr e) old = old e

  -- with what was made
  module _ (b : Book) (s : System P) (k : HasOnly machine beside b s) where
    more-port : (n : ℕ) (h : PlaceState (Cell Name) (CellReply Name)) → option_map a_port (slice_get (s.ports ++ empty_port ∷ []) n) ≡ Some h → HoldingKinds (IsKnown b) h
    more-port n h at =
        let f = map-some a_port (slice_get (s.ports ++ empty_port ∷ []) n) h at in
        subst (HoldingKinds (IsKnown b)) f.2 (by_place f.0 (more-found s.ports n empty_port f.0 f.1) (λ old. k.places (port n) (a_port f.0) (ap (option_map a_port) old)))
      where
        by_place : {Y Z : Type 0} (p : Port (Cell Name)) → (Y × (empty_port ≡ p)) ⊎ Z → (Z → QueueKinds (IsKnown b) p.queue) → QueueKinds (IsKnown b) p.queue
        by_place p (inl e) old = subst (λ (r : Port (Cell Name)). QueueKinds (IsKnown b) r.queue) e.1 tt
        by_place p (inr e) old = old e

    more-cell : (q : ℕ) (h : PlaceState (Cell Name) (CellReply Name)) → option_map replies (numbered_from_one q (s.replies ++ [] ∷ [])) ≡ Some h → HoldingKinds (IsKnown b) h
    more-cell q h at =
        let f = map-some replies (numbered_from_one q (s.replies ++ [] ∷ [])) h at in
        subst (HoldingKinds (IsKnown b)) f.2 (by_place f.0 (more-found_from_one s.replies q [] f.0 f.1) (λ old. k.places (reply_cell q) (replies f.0) (ap (option_map replies) old)))
      where
        by_place : {Y Z : Type 0} (rs : Replies (CellReply Name)) → (Y × ([] ≡ rs)) ⊎ Z → (Z → RepliesKinds (IsKnown b) rs) → RepliesKinds (IsKnown b) rs
        by_place rs (inl e) old = subst (RepliesKinds (IsKnown b)) e.1 tt
        by_place rs (inr e) old = old e

    port-only : HasOnly machine beside b (record s { ports = s.ports ++ empty_port ∷ [] })
    port-only = record { processes = k.processes; places = at }
      where
        at : (q : Place) (h : PlaceState (Cell Name) (CellReply Name)) → holding_at q (record s { ports = s.ports ++ empty_port ∷ [] }) ≡ Some h → HoldingKinds (IsKnown b) h
        at (port n) h e = more-port n h e
        at (reply_cell p) h e = k.places (reply_cell p) h e
        at book h e = k.places book h e

    process-only : (y : P) → Knows machine beside b y → HasOnly machine beside b (record s { processes = s.processes ++ y ∷ []; ports = s.ports ++ empty_port ∷ []; replies = s.replies ++ [] ∷ [] })
    process-only y new = record { processes = λ q x is. by_place x (more-found_from_one s.processes q y x is) (k.processes q x); places = at }
      where
        by_place : {Y Z : Type 0} (x : P) → (Y × (y ≡ x)) ⊎ Z → (Z → Knows machine beside b x) → Knows machine beside b x
        by_place x (inl e) old = subst (Knows machine beside b) e.1 new
        by_place x (inr e) old = old e

        at : (q : Place) (h : PlaceState (Cell Name) (CellReply Name)) → holding_at q (record s { processes = s.processes ++ y ∷ []; ports = s.ports ++ empty_port ∷ []; replies = s.replies ++ [] ∷ [] }) ≡ Some h → HoldingKinds (IsKnown b) h
        at (port n) h e = more-port n h e
        at (reply_cell p) h e = more-cell p h e
        at book h e = k.places book h e

  module _ (known : KnowsPlaces machine beside) where
    made-only : (maker : P) (a : CellAction Name) (b : Book) (s t : System P) → with_made machine maker a s ≡ Some t → MadeKinds b a → HasOnly machine beside b s → HasOnly machine beside b t
    made-only maker (make_port (Some n)) b s t e m k = subst (HasOnly machine beside b) (some-injective e) (port-only b s k)
    made-only maker (make_process code (Some made)) b s t e m k =
        let f = map-some _ (machine.begin code made.0 (inport_of machine made.1 maker)) t e in
        subst (HasOnly machine beside b) f.2 (process-only b s k f.0 (known.begins b code made.0 (inport_of machine made.1 maker) f.0 (m.2, tt) m.0 m.1 f.1))
    made-only maker a b s t e m k = subst (HasOnly machine beside b) (some-injective e) k

    step-knows : (e : Event) (s : System P) (m : Moved P) → step machine e s ≡ Some m → HasOnly machine beside s.book s → HasOnly machine beside m.system.book m.system
    step-knows (steps p) s m is k =
        let parts = step-parts machine p s m is in
        subst (λ (m : Moved P). HasOnly machine beside m.system.book m.system) parts.moved (set-only s.book p parts.left.0 s (known.local_steps s.book parts.state parts.left.0 (k.processes p parts.state parts.is) parts.left.1) k)
    step-knows (acts p place) s m is k =
        let parts = action-parts machine p place s m is in
        let t = set_process p parts.left.0 (set_holding place (after parts.did.0 parts.at.0) s) in
        let b = s.book in
        let c = t.book in
        let counted = book-counted parts.did.0 b c (book-moves parts.want.0 place s parts.at.0 parts.did.0 parts.at.1 parts.did.1) in
        let more = known-more b c counted.0 counted.1 in
        let knows = k.processes p parts.state parts.is in
        let wants = more-want (IsKnown b) (IsKnown c) more parts.want.0 (known.wants b parts.state parts.want.0 knows parts.want.1) in
        let held = more-holding (IsKnown b) (IsKnown c) more parts.at.0 (k.places place parts.at.0 parts.at.1) in
        let brings = action-kinds c parts.want.0 parts.at.0 parts.did.0 parts.did.1 wants held counted.2 in
        let behind = known.answers c parts.state parts.left.0 parts.want.0 (number_of place) parts.did.0 (knows-more b c counted.0 counted.1 parts.state knows) parts.want.1 (done-fulfils parts.want.0 parts.at.0 parts.did.0 parts.did.1) brings parts.left.1 in
        let old = more-only b c counted.0 counted.1 s k in
        let now = made-only parts.state parts.did.0 c t parts.makes.0 parts.makes.1 counted.2 (set-only c p parts.left.0 (set_holding place (after parts.did.0 parts.at.0) s) behind (place-only c place (after parts.did.0 parts.at.0) s (after-kinds c parts.did.0 parts.at.0 brings held) old)) in
        subst (λ (m : Moved P). HasOnly machine beside m.system.book m.system) parts.moved (subst (λ d. HasOnly machine beside d parts.makes.0) (sym (made-book machine parts.state parts.did.0 t parts.makes.0 parts.makes.1)) now)

    pub run-knows : (events : List Event) (r t : Run P) → run machine events r ≡ Some t → HasOnly machine beside r.system.book r.system → HasOnly machine beside t.system.book t.system
    run-knows [] r t is k = subst (λ (x : Run P). HasOnly machine beside x.system.book x.system) (some-injective is) k
    run-knows (e ∷ events) r t is k =
        let b = chain-some (run machine events) (run_on machine e r) t is in
        let m = map-some (λ (m : Moved P). record { system = m.system; journal = with_entry r.journal e m.done }) (step machine e r.system) b.0 b.1 in
        run-knows events b.0 t b.2 (subst (λ (x : Run P). HasOnly machine beside x.system.book x.system) m.2 (step-knows e r.system m.0 m.1 k))
