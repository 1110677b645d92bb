-- In every state of a run the numbers of processes, reply cells and the book agree, and no name was made twice.
use Rattle.std.proofs.Common.{◌≡◌, ℕ, zero, suc, ◌+◌, ◌<◌, ◌≤◌, List, [], ◌∷◌, ◌++◌, Bool, true, false, cond, ◌⊎◌, inl, inr, Option, Some, None, option_map, slice_get, slice_set, length, refl, sym, ap, subst, ◌∙◌, arith}
use Rattle.std.proofs.lemmas.Bool.{eqb-true}
use Rattle.std.specs.Prelude.{nat_eq, nat_lt, ◌&&◌}
use Rattle.std.proofs.lemmas.Bool.Decides.{nat_tests}
use Rattle.herm_model.specs.Lists.{list_of, total}
use Rattle.herm_model.specs.Values.{Cell, Name}
use Rattle.herm_model.proofs.Options.{some-injective, none-not_some, chain-some, map-some}
use Rattle.herm_journal.specs.Actions.{new_port, new_process, to_put, to_take, to_close, to_answer, to_hear, make_port, make_process, take, hear}
use Rattle.herm_journal.specs.NextNumbers.{Book, Limits, next_port, next_process, after_port, after_process}
use Rattle.herm_journal.specs.Ports.{Port, empty_port, first_of}
use Rattle.herm_journal.specs.PlaceStates.{Replies, PlaceState, a_port, replies, a_book, after}
use Rattle.herm_journal.specs.Entries.{Text, Place, port, reply_cell, book}
use Rattle.herm_journal.specs.Messages.{CellReply, CellWant, CellAction}
use Rattle.herm_journal.specs.Weights.{only, weigh_serials}
use Rattle.herm_system.specs.Systems.{System, Moved, Event, steps, acts, Run, run, run_on, step, start, opening, main_port, done_at, holding_at, set_holding, numbered_from_one, set_from_one, with_made, set_process, local_event, action_event, number_of}
use Rattle.herm_system.specs.Ledger.{made_in, IsMadeOnce, made_by}
use Rattle.herm_system.specs.Sound.{IsNumbered, RunsModule}
use Rattle.herm_runs.proofs.SystemLedger.{processes-stay}
use Rattle.herm_system.specs.Machines.{Machine, inport_of}
use Rattle.herm_runs.specs.laws.ProcessLaws.{KeepsNumbers}
use Rattle.herm_runs.proofs.ActionParts.{action-parts, step-parts}

-- what is found in a list with one element set, and with one more
pub set-found : {X : Type 0} (xs : List X) (i j : ℕ) (y z : X) → slice_get (slice_set xs i y) j ≡ Some z → ((i ≡ j) × (y ≡ z)) ⊎ (slice_get xs j ≡ Some z)
set-found [] i j y z e = inr e
set-found (x ∷ xs) zero zero y z e = inl (refl, some-injective e)
set-found (x ∷ xs) zero (suc j) y z e = inr e
set-found (x ∷ xs) (suc i) zero y z e = inr e
set-found (x ∷ xs) (suc i) (suc j) y z e = next (set-found xs i j y z e)
  where
    next : ((i ≡ j) × (y ≡ z)) ⊎ (slice_get xs j ≡ Some z) → ((suc i ≡ suc j) × (y ≡ z)) ⊎ (slice_get xs j ≡ Some z)
    next (inl p) = inl (ap suc p.0, p.1)
    next (inr q) = inr q

pub more-found : {X : Type 0} (xs : List X) (j : ℕ) (y z : X) → slice_get (xs ++ y ∷ []) j ≡ Some z → ((j ≡ length xs) × (y ≡ z)) ⊎ (slice_get xs j ≡ Some z)
more-found [] zero y z e = inl (refl, some-injective e)
more-found [] (suc j) y z e = none-not_some e
more-found (x ∷ xs) zero y z e = inr e
more-found (x ∷ xs) (suc j) y z e = next (more-found xs j y z e)
  where
    next : ((j ≡ length xs) × (y ≡ z)) ⊎ (slice_get xs j ≡ Some z) → ((suc j ≡ length (x ∷ xs)) × (y ≡ z)) ⊎ (slice_get xs j ≡ Some z)
    next (inl p) = inl (omega (arith, p.0), p.1)
    next (inr q) = inr q

pub set-length : {X : Type 0} (xs : List X) (i : ℕ) (y : X) → length (slice_set xs i y) ≡ length xs
set-length [] i y = refl
set-length (x ∷ xs) zero y = refl
set-length (x ∷ xs) (suc i) y = omega (arith, set-length xs i y)

pub set-length_from_one : {X : Type 0} (p : ℕ) (y : X) (xs : List X) → length (set_from_one p y xs) ≡ length xs
set-length_from_one zero y xs = refl
set-length_from_one (suc i) y xs = set-length xs i y

pub more-length : {X : Type 0} (xs : List X) (y : X) → length (xs ++ y ∷ []) ≡ suc (length xs)
more-length [] y = refl
more-length (x ∷ xs) y = omega (arith, more-length xs y)

pub set-found_from_one : {X : Type 0} (xs : List X) (p q : ℕ) (y z : X) → numbered_from_one q (set_from_one p y xs) ≡ Some z → ((p ≡ q) × (y ≡ z)) ⊎ (numbered_from_one q xs ≡ Some z)
set-found_from_one xs zero q y z e = inr e
set-found_from_one xs (suc p) zero y z e = none-not_some e
set-found_from_one xs (suc p) (suc q) y z e = next (set-found xs p q y z e)
  where
    next : ((p ≡ q) × (y ≡ z)) ⊎ (slice_get xs q ≡ Some z) → ((suc p ≡ suc q) × (y ≡ z)) ⊎ (slice_get xs q ≡ Some z)
    next (inl r) = inl (ap suc r.0, r.1)
    next (inr r) = inr r

pub more-found_from_one : {X : Type 0} (xs : List X) (q : ℕ) (y z : X) → numbered_from_one q (xs ++ y ∷ []) ≡ Some z → ((q ≡ suc (length xs)) × (y ≡ z)) ⊎ (numbered_from_one q xs ≡ Some z)
more-found_from_one xs zero y z e = none-not_some e
more-found_from_one xs (suc q) y z e = next (more-found xs q y z e)
  where
    next : ((q ≡ length xs) × (y ≡ z)) ⊎ (slice_get xs q ≡ Some z) → ((suc q ≡ suc (length xs)) × (y ≡ z)) ⊎ (slice_get xs q ≡ Some z)
    next (inl r) = inl (ap suc r.0, r.1)
    next (inr r) = inr r

-- a process has its number, and its module is there
abbrev HasNumber : {P : Type 0} → Machine Name P → ℕ → P → Type 0
HasNumber machine p x = (machine.number x ≡ p) × RunsModule machine p x

abbrev HaveNumbers : {P : Type 0} → Machine Name P → List P → Type 0
HaveNumbers machine xs = (p : ℕ) (x : _) → numbered_from_one p xs ≡ Some x → HasNumber machine p x

set-numbers : {P : Type 0} (machine : Machine Name P) (xs : List P) (p : ℕ) (x y : P) → numbered_from_one p xs ≡ Some x → (machine.number y ≡ machine.number x) × (machine.module_number y ≡ machine.module_number x) → HaveNumbers machine xs → HaveNumbers machine (set_from_one p y xs)
set-numbers machine xs p x y is same have q z found = by_place (set-found_from_one xs p q y z found)
  where
    by_place : ((p ≡ q) × (y ≡ z)) ⊎ (numbered_from_one q xs ≡ Some z) → HasNumber machine q z
    by_place (inl e) =
        let before = have p x is in
        let number : machine.number y ≡ q = same.0 ∙ before.0 ∙ e.0 in
        let runs : RunsModule machine q y = subst (λ n. RunsModule machine n y) e.0 (before.1.0, before.1.1, ap (λ c. machine.begin c p before.1.0) same.1 ∙ before.1.2) in
        subst (HasNumber machine q) e.1 (number, runs)
    by_place (inr e) = have q z e

more-numbers : {P : Type 0} (machine : Machine Name P) (xs : List P) (y : P) → HasNumber machine (suc (length xs)) y → HaveNumbers machine xs → HaveNumbers machine (xs ++ y ∷ [])
more-numbers machine xs y new have q z found = by_place (more-found_from_one xs q y z found)
  where
    by_place : ((q ≡ suc (length xs)) × (y ≡ z)) ⊎ (numbered_from_one q xs ≡ Some z) → HasNumber machine q z
    by_place (inl e) = subst (λ k. HasNumber machine k z) (sym e.0) (subst (HasNumber machine (suc (length xs))) e.1 new)
    by_place (inr e) = have q z e

-- what an action does to the book
abbrev pub BookMoves : CellAction Name → Book → Book → Type 0
BookMoves (make_port made) b c = (next_port b ≡ made) × (c ≡ after_port b)
BookMoves (make_process code made) b c = (next_process b ≡ made) × (c ≡ after_process b)
BookMoves a b c = c ≡ b

-- with what is at a place after an action
abbrev pub MovedAt : {P : Type 0} → Place → System P → PlaceState (Cell Name) (CellReply Name) → CellAction Name → Type 0
MovedAt place s h a = BookMoves a s.book (set_holding place (after a h) s).book

take-book : {P : Type 0} → (n : ℕ) (s : System P) (b : Bool) (q : List (ℕ × Cell Name)) (k : ℕ) (a : CellAction Name) → option_map (λ x. take x.0 x.1) (first_of q) ≡ Some a → MovedAt (port n) s (a_port (record { is_open = b; queue = q; placed = k })) a
take-book n s b [] k a e = none-not_some e
take-book n s b (x ∷ q) k a e = subst (MovedAt (port n) s (a_port (record { is_open = b; queue = x ∷ q; placed = k }))) (some-injective e) refl

port-book : {P : Type 0} → (want : CellWant Name) (n : ℕ) (p : Port (Cell Name)) (s : System P) (a : CellAction Name) → done_at want (a_port p) ≡ Some a → MovedAt (port n) s (a_port p) a
port-book (to_put m c) n p s a e = subst (MovedAt (port n) s (a_port p)) (some-injective e) refl
port-book (to_take ports) n p s a e = take-book n s p.is_open p.queue p.placed a e
port-book (to_close m) n p s a e = subst (MovedAt (port n) s (a_port p)) (some-injective e) refl
port-book want n p s a e = none-not_some e

hear-book : {P : Type 0} → (p : ℕ) (s : System P) (rs : List (ℕ × CellReply Name)) (a : CellAction Name) → option_map (λ x. hear x.0 x.1) (first_of rs) ≡ Some a → MovedAt (reply_cell p) s (replies rs) a
hear-book p s [] a e = none-not_some e
hear-book p s (x ∷ rs) a e = subst (MovedAt (reply_cell p) s (replies (x ∷ rs))) (some-injective e) refl

reply-book : {P : Type 0} → (want : CellWant Name) (p : ℕ) (rs : Replies (CellReply Name)) (s : System P) (a : CellAction Name) → done_at want (replies rs) ≡ Some a → MovedAt (reply_cell p) s (replies rs) a
reply-book (to_answer caller call r) p rs s a e = subst (MovedAt (reply_cell p) s (replies rs)) (some-injective e) refl
reply-book to_hear p rs s a e = hear-book p s rs a e
reply-book want p rs s a e = none-not_some e

book-book : {P : Type 0} → (want : CellWant Name) (s : System P) (a : CellAction Name) → done_at want (a_book s.book) ≡ Some a → MovedAt book s (a_book s.book) a
book-book new_port s a e = subst (MovedAt book s (a_book s.book)) (some-injective e) (refl, refl)
book-book (new_process code) s a e = subst (MovedAt book s (a_book s.book)) (some-injective e) (refl, refl)
book-book want s a e = none-not_some e

pub book-moves : {P : Type 0} → (want : CellWant Name) (place : Place) (s : System P) (h : PlaceState (Cell Name) (CellReply Name)) (a : CellAction Name) → holding_at place s ≡ Some h → done_at want h ≡ Some a → MovedAt place s h a
book-moves want (port n) s h a at does =
    let m = map-some a_port (slice_get s.ports n) h at in
    subst (λ k. MovedAt (port n) s k a) m.2 (port-book want n m.0 s a (ap (done_at want) m.2 ∙ does))
book-moves want (reply_cell p) s h a at does =
    let m = map-some replies (numbered_from_one p s.replies) h at in
    subst (λ k. MovedAt (reply_cell p) s k a) m.2 (reply-book want p m.0 s a (ap (done_at want) m.2 ∙ does))
book-moves want book s h a at does =
    subst (λ k. MovedAt book s k a) (some-injective at) (book-book want s a (ap (done_at want) (some-injective at) ∙ does))

-- lists stay as long
pub lengths-stay : {P : Type 0} → (place : Place) (h : PlaceState (Cell Name) (CellReply Name)) (s : System P) → (length (set_holding place h s).replies ≡ length s.replies) × (length (set_holding place h s).ports ≡ length s.ports)
lengths-stay (port n) (a_port p) s = (refl, set-length s.ports n p)
lengths-stay (reply_cell p) (replies rs) s = (set-length_from_one p rs s.replies, refl)
lengths-stay book (a_book b) s = (refl, refl)
lengths-stay place h s = (refl, refl)

-- the book's counts behind a port or a process that was made, and behind one that was not
port-counts : (b : Book) (t : Bool) (n : ℕ) → cond t (Some (suc b.ports)) None ≡ Some n → ((cond t (record b { ports = suc b.ports }) b).ports ≡ suc b.ports) × ((cond t (record b { ports = suc b.ports }) b).processes ≡ b.processes)
port-counts b true n e = (refl, refl)
port-counts b false n e = none-not_some e

no-port-counts : (b : Book) (t : Bool) → cond t (Some (suc b.ports)) None ≡ None → cond t (record b { ports = suc b.ports }) b ≡ b
no-port-counts b true e = none-not_some (sym e)
no-port-counts b false e = refl

pub process-counts : (b : Book) (t : Bool) (made : ℕ × ℕ) → cond {A = Option (ℕ × ℕ)} t (Some (suc b.processes, suc b.ports)) None ≡ Some made →
    (made.0 ≡ suc b.processes) × ((cond t (record b { ports = suc b.ports; processes = suc b.processes }) b).ports ≡ suc b.ports) × ((cond t (record b { ports = suc b.ports; processes = suc b.processes }) b).processes ≡ suc b.processes)
process-counts b true made e = (sym (ap (λ (x : ℕ × ℕ). x.0) (some-injective e)), refl, refl)
process-counts b false made e = none-not_some e

no-process-counts : (b : Book) (t : Bool) → cond {A = Option (ℕ × ℕ)} t (Some (suc b.processes, suc b.ports)) None ≡ None → cond t (record b { ports = suc b.ports; processes = suc b.processes }) b ≡ b
no-process-counts b true e = none-not_some (sym e)
no-process-counts b false e = refl

-- a system that counts as this book says
record Counts {P : Type 0} (machine : Machine Name P) (b : Book) (s : System P) : Type 0 where
  numbers : HaveNumbers machine s.processes
  cells : length s.replies ≡ length s.processes
  processes : length s.processes ≡ b.processes
  ports : length s.ports ≡ suc b.ports

numbered-of : {P : Type 0} (machine : Machine Name P) (s : System P) → Counts machine s.book s → IsNumbered machine s
numbered-of machine s k = record { processes = k.numbers; reply_cells = k.cells; book = (k.processes, k.ports) }

counts-of : {P : Type 0} (machine : Machine Name P) (s : System P) → IsNumbered machine s → Counts machine s.book s
counts-of machine s k = record { numbers = k.processes; cells = k.reply_cells; processes = k.book.0; ports = k.book.1 }

counts-same : {P : Type 0} (machine : Machine Name P) (s : System P) (b : Book) → s.book ≡ b → Counts machine b s → Counts machine s.book s
counts-same machine s b e k = subst (λ x. Counts machine x s) (sym e) k

made-counts : {P : Type 0} (machine : Machine Name P) (keeps : KeepsNumbers machine) (maker : P) (a : CellAction Name) (b : Book) (s t : System P) → Counts machine b s → BookMoves a b s.book → with_made machine maker a s ≡ Some t → Counts machine t.book t
made-counts machine keeps maker (make_port (Some n)) b s t k moves e =
    let c = port-counts b (nat_lt b.ports b.limits.ports) n moves.0 in
    subst (λ (x : System _). Counts machine x.book x) (some-injective e) (record {
      numbers = k.numbers;
      cells = k.cells;
      processes = k.processes ∙ sym (ap (λ (x : Book). x.processes) moves.1 ∙ c.1);
      ports = more-length s.ports empty_port ∙ ap suc k.ports ∙ ap suc (sym (ap (λ (x : Book). x.ports) moves.1 ∙ c.0));
    })
made-counts machine keeps maker (make_port None) b s t k moves e =
    subst (λ (x : System _). Counts machine x.book x) (some-injective e) (counts-same machine s b (moves.1 ∙ no-port-counts b (nat_lt b.ports b.limits.ports) moves.0) k)
made-counts machine keeps maker (make_process code (Some made)) b s t k moves e =
    let c = process-counts b (nat_lt b.processes b.limits.processes && nat_lt b.ports b.limits.ports) made moves.0 in
    let inport = inport_of machine made.1 maker in
    let m = map-some _ (machine.begin code made.0 inport) t e in
    let y = m.0 in
    let began = keeps.begins code made.0 inport y m.1 in
    let next : made.0 ≡ suc (length s.processes) = c.0 ∙ ap suc (sym k.processes) in
    let runs : RunsModule machine (suc (length s.processes)) y = subst (λ n. RunsModule machine n y) next (inport, y, ap (λ i. machine.begin i made.0 inport) began.1 ∙ m.1) in
    subst (λ (x : System _). Counts machine x.book x) m.2 (record {
      numbers = more-numbers machine s.processes y (began.0 ∙ next, runs) k.numbers;
      cells = more-length s.replies [] ∙ ap suc k.cells ∙ sym (more-length s.processes y);
      processes = more-length s.processes y ∙ ap suc k.processes ∙ sym (ap (λ (x : Book). x.processes) moves.1 ∙ c.2);
      ports = more-length s.ports empty_port ∙ ap suc k.ports ∙ ap suc (sym (ap (λ (x : Book). x.ports) moves.1 ∙ c.1));
    })
made-counts machine keeps maker (make_process code None) b s t k moves e =
    subst (λ (x : System _). Counts machine x.book x) (some-injective e) (counts-same machine s b (moves.1 ∙ no-process-counts b (nat_lt b.processes b.limits.processes && nat_lt b.ports b.limits.ports) moves.0) k)
made-counts machine keeps maker a b s t k moves e =
    subst (λ (x : System _). Counts machine x.book x) (some-injective e) (counts-same machine s b moves k)

local-numbered : {P : Type 0} (machine : Machine Name P) (keeps : KeepsNumbers machine) (p : ℕ) (s : System P) (m : Moved P) → local_event machine p s ≡ Some m → IsNumbered machine s → IsNumbered machine m.system
local-numbered machine keeps p s m e k =
    let parts = step-parts machine p s m e in
    let c = counts-of machine s k in
    subst (λ (x : Moved _). IsNumbered machine x.system) parts.moved (numbered-of machine (set_process p parts.left.0 s) (record {
      numbers = set-numbers machine s.processes p parts.state parts.left.0 parts.is (keeps.local_steps parts.state parts.left.0 parts.left.1) c.numbers;
      cells = c.cells ∙ sym (set-length_from_one p parts.left.0 s.processes);
      processes = set-length_from_one p parts.left.0 s.processes ∙ c.processes;
      ports = c.ports;
    }))

moved-counts : {P : Type 0} (machine : Machine Name P) (p : ℕ) (place : Place) (s : System P) (x y : P) (h : PlaceState (Cell Name) (CellReply Name)) → numbered_from_one p s.processes ≡ Some x →
    (machine.number y ≡ machine.number x) × (machine.module_number y ≡ machine.module_number x) → Counts machine s.book s → Counts machine s.book (set_process p y (set_holding place h s))
moved-counts machine p place s x y h is same c =
    let stay = processes-stay place h s in
    let lengths = lengths-stay place h s in
    record {
      numbers = subst (λ xs. HaveNumbers machine (set_from_one p y xs)) (sym stay) (set-numbers machine s.processes p x y is same c.numbers);
      cells = lengths.0 ∙ c.cells ∙ sym (ap length stay) ∙ sym (set-length_from_one p y (set_holding place h s).processes);
      processes = set-length_from_one p y (set_holding place h s).processes ∙ ap length stay ∙ c.processes;
      ports = lengths.1 ∙ c.ports;
    }

action-numbered : {P : Type 0} (machine : Machine Name P) (keeps : KeepsNumbers machine) (p : ℕ) (place : Place) (s : System P) (m : Moved P) → action_event machine p place s ≡ Some m → IsNumbered machine s → IsNumbered machine m.system
action-numbered machine keeps p place s m e k =
    let parts = action-parts machine p place s m e in
    let held = after parts.did.0 parts.at.0 in
    subst (λ (x : Moved _). IsNumbered machine x.system) parts.moved (numbered-of machine parts.makes.0
    (made-counts machine keeps parts.state parts.did.0 s.book (set_process p parts.left.0 (set_holding place held s)) parts.makes.0
    (moved-counts machine p place s parts.state parts.left.0 held parts.is (keeps.answers parts.state parts.left.0 (number_of place) parts.did.0 parts.left.1) (counts-of machine s k))
    (book-moves parts.want.0 place s parts.at.0 parts.did.0 parts.at.1 parts.did.1) parts.makes.1))

pub step-numbered : {P : Type 0} (machine : Machine Name P) (keeps : KeepsNumbers machine) (e : Event) (s : System P) (m : Moved P) → step machine e s ≡ Some m → IsNumbered machine s → IsNumbered machine m.system
step-numbered machine keeps (steps p) s m e k = local-numbered machine keeps p s m e k
step-numbered machine keeps (acts p place) s m e k = action-numbered machine keeps p place s m e k

pub run-numbered : {P : Type 0} (machine : Machine Name P) (keeps : KeepsNumbers machine) (events : List Event) (r t : Run P) → run machine events r ≡ Some t → IsNumbered machine r.system → IsNumbered machine t.system
run-numbered machine keeps [] r t e k = subst (λ (x : Run _). IsNumbered machine x.system) (some-injective e) k
run-numbered machine keeps (e ∷ events) r t is k =
    let b = chain-some (run machine events) (run_on machine e r) t is in
    let m = map-some _ (step machine e r.system) b.0 b.1 in
    run-numbered machine keeps events b.0 t b.2 (subst (λ (x : Run _). IsNumbered machine x.system) m.2 (step-numbered machine keeps e r.system m.0 m.1 k))

first-number : {P : Type 0} (machine : Machine Name P) (x : P) → HasNumber machine 1 x → HaveNumbers machine (x ∷ [])
first-number machine x is zero z e = none-not_some e
first-number machine x is (suc zero) z e = subst (HasNumber machine 1) (some-injective e) is
first-number machine x is (suc (suc q)) z e = none-not_some e

pub opening-numbered : {P : Type 0} (machine : Machine Name P) (keeps : KeepsNumbers machine) (limits : Limits) (argument : Text) (first : P) → machine.begin machine.main 1 main_port ≡ Some first → IsNumbered machine (opening machine limits argument)
opening-numbered machine keeps limits argument first is =
    let began = keeps.begins machine.main 1 main_port first is in
    let runs : RunsModule machine 1 first = (main_port, first, ap (λ c. machine.begin c 1 main_port) began.1 ∙ is) in
    let numbered : IsNumbered machine (record (opening machine limits argument) { processes = first ∷ [] }) =
    record { processes = first-number machine first (began.0, runs); reply_cells = refl; book = (refl, refl) } in
    subst (λ o. IsNumbered machine (record (opening machine limits argument) { processes = list_of (λ x. x ∷ []) o })) (sym is) numbered

pub runs-numbered : {P : Type 0} (machine : Machine Name P) (keeps : KeepsNumbers machine) (limits : Limits) (argument : Text) (first : P) (events : List Event) (r : Run P) →
    machine.begin machine.main 1 main_port ≡ Some first → run machine events (start machine limits argument) ≡ Some r → IsNumbered machine r.system
runs-numbered machine keeps limits argument first events r is e = run-numbered machine keeps events (start machine limits argument) r e (opening-numbered machine keeps limits argument first is)

-- no name is made twice
pub other-number : (m n : ℕ) → nat_eq m n ≡ false → m ≡ n → ⊥
other-number m n e f = grind (arith, nat_tests)

module _ (m k : ℕ) where
  one-serial : (q s : ℕ) → (only (m, k) (q, s) ≡ 0) ⊎ ((q ≡ m) × (s ≡ k) × (only (m, k) (q, s) ≡ 1))
  one-serial q s = by_tests (nat_eq m q) (nat_eq k s) refl refl
    where
      by_tests : (a b : Bool) → nat_eq m q ≡ a → nat_eq k s ≡ b → (cond {A = ℕ} (a && b) 1 0 ≡ 0) ⊎ ((q ≡ m) × (s ≡ k) × (cond {A = ℕ} (a && b) 1 0 ≡ 1))
      by_tests true true e f = inr (sym (eqb-true m q e), sym (eqb-true k s f), refl)
      by_tests true false e f = inl refl
      by_tests false b e f = inl refl

  abbrev serials : ℕ → ℕ → ℕ → ℕ
  serials q s n = weigh_serials (only (m, k)) (λ x. (q, x)) s n

  none-if : (q s n : ℕ) → ((x : ℕ) → s ≤ x → (q ≡ m) × (x ≡ k) → ⊥) → serials q s n ≡ 0
  none-if q s zero never = refl
  none-if q s (suc n) never = by_first (one-serial q s) (none-if q (suc s) n (λ x le. never x (omega (arith, le))))
    where
      by_first : (only (m, k) (q, s) ≡ 0) ⊎ ((q ≡ m) × (s ≡ k) × (only (m, k) (q, s) ≡ 1)) → serials q (suc s) n ≡ 0 → serials q s (suc n) ≡ 0
      by_first (inl z) rest = omega (arith, z, rest)
      by_first (inr o) rest = absurd (never s (omega arith) (o.0, o.1))

  at-most-one : (q s n : ℕ) → serials q s n ≤ 1
  at-most-one q s zero = omega arith
  at-most-one q s (suc n) = by_first (one-serial q s) (at-most-one q (suc s) n)
    where
      by_first : (only (m, k) (q, s) ≡ 0) ⊎ ((q ≡ m) × (s ≡ k) × (only (m, k) (q, s) ≡ 1)) → serials q (suc s) n ≤ 1 → serials q s (suc n) ≤ 1
      by_first (inl z) rest = omega (arith, z, rest)
      by_first (inr o) rest = let none = none-if q (suc s) n (λ x le e. omega (arith, le, o.1, e.1)) in omega (arith, o.2, none)

module _ {P : Type 0} (machine : Machine Name P) (m k : ℕ) where
  -- processes whose numbers rise by one, from a first one on
  abbrev NumberedFrom : ℕ → List P → Type 0
  NumberedFrom i xs = (j : ℕ) (x : P) → slice_get xs j ≡ Some x → (machine.number x) ≡ i + j

  rest-numbered : (i : ℕ) (x : P) (xs : List P) → NumberedFrom i (x ∷ xs) → NumberedFrom (suc i) xs
  rest-numbered i x xs from j y e = omega (arith, from (suc j) y e)

  first-numbered : (i : ℕ) (x : P) (xs : List P) → NumberedFrom i (x ∷ xs) → (machine.number x) ≡ i
  first-numbered i x xs from = omega (arith, from 0 x refl)

  none-before : (i : ℕ) (xs : List P) → NumberedFrom i xs → m < i → total (made_by (only (m, k)) machine) xs ≡ 0
  none-before i [] from lt = refl
  none-before i (x ∷ xs) from lt =
      let number = first-numbered i x xs from in
      let none = none-if m k (machine.number x) 0 (machine.serial x) (λ y le e. omega (arith, number, lt, e.0)) in
      let rest = none-before (suc i) xs (rest-numbered i x xs from) (omega (arith, lt)) in
      omega (arith, none, rest)

  total-at-most-one : (i : ℕ) (xs : List P) → NumberedFrom i xs → total (made_by (only (m, k)) machine) xs ≤ 1
  total-at-most-one i [] from = omega arith
  total-at-most-one i (x ∷ xs) from = by_test (nat_eq i m) refl (total-at-most-one (suc i) xs (rest-numbered i x xs from))
    where
      by_test : (t : Bool) → nat_eq i m ≡ t → total (made_by (only (m, k)) machine) xs ≤ 1 → total (made_by (only (m, k)) machine) (x ∷ xs) ≤ 1
      by_test true e rest =
          let none = none-before (suc i) xs (rest-numbered i x xs from) (omega (arith, eqb-true i m e)) in
          omega (arith, none, at-most-one m k (machine.number x) 0 (machine.serial x))
      by_test false e rest =
          let number = first-numbered i x xs from in
          let none = none-if m k (machine.number x) 0 (machine.serial x) (λ y le f. other-number i m e (sym number ∙ f.0)) in
          omega (arith, none, rest)

  made-once : (s : System P) → NumberedFrom 1 s.processes → made_in (only (m, k)) machine s ≤ 1
  made-once s from = by_test (nat_eq m 0) refl
    where
      by_test : (t : Bool) → nat_eq m 0 ≡ t → made_in (only (m, k)) machine s ≤ 1
      by_test true e = omega (arith, none-before 1 s.processes from (omega (arith, eqb-true m 0 e)), at-most-one m k 0 0 5)
      by_test false e = omega (arith, none-if m k 0 0 5 (λ x le f. other-number m 0 e (sym f.0)), total-at-most-one 1 s.processes from)

pub numbered-once : {P : Type 0} (machine : Machine Name P) (s : System P) → IsNumbered machine s → IsMadeOnce machine s
numbered-once machine s k n = made-once machine n.0 n.1 s (λ j x e. (k.processes (suc j) x e).0 ∙ omega arith)
