-- Each event of the system keeps the ledger.
use Rattle.std.proofs.Common.{◌≡◌, ℕ, zero, suc, ◌+◌, List, [], ◌∷◌, ◌++◌, Bool, true, false, cond, Option, Some, None, option_map, slice_get, slice_set, refl, sym, ap, subst, arith, map}
use Rattle.herm_model.specs.Lists.{list_of, total}
use Rattle.herm_model.proofs.Lists.{total-append}
use Rattle.herm_model.proofs.Renaming.{map-append}
use Rattle.herm_model.specs.Values.{Cell, Name}
use Rattle.herm_model.proofs.Options.{some-injective, none-not_some, chain-some, map-some}
use Rattle.herm_journal.specs.Actions.{new_port, new_process, to_put, to_take, to_close, to_answer, to_hear, make_port, make_process, put, take, close, answer, hear}
use Rattle.herm_journal.specs.NextNumbers.{Book, Limits, next_process}
use Rattle.herm_journal.specs.Ports.{Port, empty_port, first_of}
use Rattle.herm_journal.specs.PlaceStates.{Replies, PlaceState, a_port, replies, a_book, after}
use Rattle.herm_journal.specs.Entries.{Text, Place, port, reply_cell, book}
use Rattle.herm_journal.specs.Messages.{CellReply, CellWant, CellAction}
use Rattle.herm_journal.specs.Weights.{weigh, weigh_all, weigh_reply, weight_received}
use Rattle.herm_system.specs.Ledger.{made_in, held_in, queued_at, queued_for, queued_in, finalised_in, HasLedger, made_by, goes_out, held_by, finalised_by}
use Rattle.herm_system.specs.Machines.{Machine, inport_of}
use Rattle.herm_system.specs.Systems.{System, Moved, Event, steps, acts, Run, run, run_on, step, start, opening, main_port, done_at, holding_at, set_holding, numbered_from_one, set_from_one, with_made, set_process, local_event, action_event, number_of}
use Rattle.herm_runs.specs.laws.ProcessLaws.{kept_by, KeepsLedger}
use Rattle.herm_runs.proofs.ActionParts.{action-parts, step-parts}

pub total-set : {X : Type 0} (f : X → ℕ) (xs : List X) (i : ℕ) (x y : X) → slice_get xs i ≡ Some x → total f (slice_set xs i y) + f x ≡ total f xs + f y
total-set f [] i x y e = none-not_some e
total-set f (z ∷ xs) zero x y e = let p = ap f (some-injective e) in omega (arith, p)
total-set f (z ∷ xs) (suc i) x y e = omega (arith, total-set f xs i x y e)

pub total-from_one : {X : Type 0} (f : X → ℕ) (xs : List X) (p : ℕ) (x y : X) → numbered_from_one p xs ≡ Some x → total f (set_from_one p y xs) + f x ≡ total f xs + f y
total-from_one f xs zero x y e = none-not_some e
total-from_one f xs (suc i) x y e = total-set f xs i x y e

-- what is queued at a place
abbrev weight_of : (Name → ℕ) → PlaceState (Cell Name) (CellReply Name) → ℕ
weight_of w (a_port p) = queued_at w p
weight_of w (replies rs) = queued_for w rs
weight_of w (a_book b) = 0

-- what a process gives to a place
abbrev given : (Name → ℕ) → CellWant Name → ℕ
given w (to_put n m) = weigh w m
given w (to_answer caller call r) = weigh_reply w r
given w want = 0

-- what is done at a place: what it has afterwards, with what comes in, is what it had, with what was given
abbrev Moves : (Name → ℕ) → PlaceState (Cell Name) (CellReply Name) → CellWant Name → CellAction Name → Type 0
Moves w h want a = weight_of w (after a h) + weight_received w a ≡ weight_of w h + given w want

put-moves : (w : Name → ℕ) (n : ℕ) (m : Cell Name) (b : Bool) (q : List (ℕ × Cell Name)) (k : ℕ) →
    Moves w (a_port (record { is_open = b; queue = q; placed = k })) (to_put n m) (put (cond b (Some k) None) m)
put-moves w n m true q k = omega (arith, ap (weigh_all w) (map-append (λ (x : ℕ × Cell Name). x.1) q ((k, m) ∷ [])), total-append (weigh w) (map (λ (x : ℕ × Cell Name). x.1) q) (m ∷ []))
put-moves w n m false q k = omega arith

take-moves : (w : Name → ℕ) (ports : List ℕ) (b : Bool) (q : List (ℕ × Cell Name)) (k : ℕ) (a : CellAction Name) →
    option_map (λ x. take x.0 x.1) (first_of q) ≡ Some a → Moves w (a_port (record { is_open = b; queue = q; placed = k })) (to_take ports) a
take-moves w ports b [] k a e = none-not_some e
take-moves w ports b (x ∷ q) k a e = subst (Moves w (a_port (record { is_open = b; queue = x ∷ q; placed = k })) (to_take ports)) (some-injective e) (omega arith)

hear-moves : (w : Name → ℕ) (rs : List (ℕ × CellReply Name)) (a : CellAction Name) → option_map (λ x. hear x.0 x.1) (first_of rs) ≡ Some a → Moves w (replies rs) to_hear a
hear-moves w [] a e = none-not_some e
hear-moves w (x ∷ rs) a e = subst (Moves w (replies (x ∷ rs)) to_hear) (some-injective e) (omega arith)

done-moves : (w : Name → ℕ) (want : CellWant Name) (h : PlaceState (Cell Name) (CellReply Name)) (a : CellAction Name) → done_at want h ≡ Some a → Moves w h want a
done-moves w new_port (a_book b) a e = subst (Moves w (a_book b) new_port) (some-injective e) (omega arith)
done-moves w (new_process code) (a_book b) a e = subst (Moves w (a_book b) (new_process code)) (some-injective e) (omega arith)
done-moves w (to_put n m) (a_port p) a e = subst (Moves w (a_port p) (to_put n m)) (some-injective e) (put-moves w n m p.is_open p.queue p.placed)
done-moves w (to_take ports) (a_port p) a e = take-moves w ports p.is_open p.queue p.placed a e
done-moves w (to_close n) (a_port p) a e = subst (Moves w (a_port p) (to_close n)) (some-injective e) (omega arith)
done-moves w (to_answer caller call r) (replies rs) a e = subst (Moves w (replies rs) (to_answer caller call r)) (some-injective e) (omega (arith, total-append (λ (x : ℕ × CellReply Name). weigh_reply w x.1) rs ((call, r) ∷ [])))
done-moves w to_hear (replies rs) a e = hear-moves w rs a e
done-moves w want h a e = none-not_some e

-- the same kind of thing is there afterwards
pub port-stays : (a : CellAction Name) (p : Port (Cell Name)) → (q : Port (Cell Name)) × (after a (a_port p) ≡ a_port q)
port-stays (put number m) p = (_, refl)
port-stays (take number m) p = (_, refl)
port-stays (close count left) p = (_, refl)
port-stays a p = (p, refl)

pub replies-stay : (a : CellAction Name) (rs : Replies (CellReply Name)) → (qs : Replies (CellReply Name)) × (after a (replies rs) ≡ replies qs)
replies-stay (answer call r) rs = (_, refl)
replies-stay (hear call r) rs = (_, refl)
replies-stay a rs = (rs, refl)

pub book-stays : (a : CellAction Name) (b : Book) → (c : Book) × (after a (a_book b) ≡ a_book c)
book-stays (make_port made) b = (_, refl)
book-stays (make_process code made) b = (_, refl)
book-stays a b = (b, refl)

-- what is queued in the system, with another thing at a place
abbrev PlaceChanges : {P : Type 0} → (Name → ℕ) → Place → System P → PlaceState (Cell Name) (CellReply Name) → PlaceState (Cell Name) (CellReply Name) → Type 0
PlaceChanges w place s h h' = queued_in w (set_holding place h' s) + weight_of w h ≡ queued_in w s + weight_of w h'

place-changes : {P : Type 0} → (w : Name → ℕ) (place : Place) (s : System P) (h : PlaceState (Cell Name) (CellReply Name)) (a : CellAction Name) → holding_at place s ≡ Some h → PlaceChanges w place s h (after a h)
place-changes w (port n) s h a e =
    let m = map-some a_port (slice_get s.ports n) h e in
    let k = port-stays a m.0
    in subst (λ x. PlaceChanges w (port n) s x (after a x)) m.2
    (subst (PlaceChanges w (port n) s (a_port m.0)) (sym k.1) (omega (arith, total-set (queued_at w) s.ports n m.0 k.0 m.1)))
place-changes w (reply_cell p) s h a e =
    let m = map-some replies (numbered_from_one p s.replies) h e in
    let k = replies-stay a m.0
    in subst (λ x. PlaceChanges w (reply_cell p) s x (after a x)) m.2
    (subst (PlaceChanges w (reply_cell p) s (replies m.0)) (sym k.1) (omega (arith, total-from_one (queued_for w) s.replies p m.0 k.0 m.1)))
place-changes w book s h a e =
    let k = book-stays a s.book
    in subst (λ x. PlaceChanges w book s x (after a x)) (some-injective e) (subst (PlaceChanges w book s (a_book s.book)) (sym k.1) (omega arith))

pub processes-stay : {P : Type 0} → (place : Place) (h : PlaceState (Cell Name) (CellReply Name)) (s : System P) → (set_holding place h s).processes ≡ s.processes
processes-stay (port n) (a_port p) s = refl
processes-stay (reply_cell p) (replies rs) s = refl
processes-stay book (a_book b) s = refl
processes-stay place h s = refl

-- what a process that is made takes with it
abbrev born_of : {P : Type 0} → (Name → ℕ) → Machine Name P → P → CellAction Name → ℕ
born_of w machine x (make_process code (Some made)) = weigh w (inport_of machine made.1 x)
born_of w machine x a = 0

module _ {P : Type 0} (w : Name → ℕ) (machine : Machine Name P) (x : P) where
  abbrev GoesOut : CellWant Name → CellAction Name → Type 0
  GoesOut want a = goes_out w machine x want a ≡ given w want + born_of w machine x a

  made-gone : (code : ℕ) (made : Option (ℕ × ℕ)) → GoesOut (new_process code) (make_process code made)
  made-gone code None = omega arith
  made-gone code (Some made) = omega arith

  take-gone : (ports : List ℕ) (o : Option (ℕ × Cell Name)) (a : CellAction Name) → option_map (λ x. take x.0 x.1) o ≡ Some a → GoesOut (to_take ports) a
  take-gone ports None a e = none-not_some e
  take-gone ports (Some x) a e = subst (GoesOut (to_take ports)) (some-injective e) (omega arith)

  hear-gone : (o : Option (ℕ × CellReply Name)) (a : CellAction Name) → option_map (λ x. hear x.0 x.1) o ≡ Some a → GoesOut to_hear a
  hear-gone None a e = none-not_some e
  hear-gone (Some x) a e = subst (GoesOut to_hear) (some-injective e) (omega arith)

  done-gone : (want : CellWant Name) (h : PlaceState (Cell Name) (CellReply Name)) (a : CellAction Name) → done_at want h ≡ Some a → GoesOut want a
  done-gone new_port (a_book k) a e = subst (GoesOut new_port) (some-injective e) (omega arith)
  done-gone (new_process code) (a_book k) a e = subst (GoesOut (new_process code)) (some-injective e) (made-gone code (next_process k))
  done-gone (to_put n m) (a_port p) a e = subst (GoesOut (to_put n m)) (some-injective e) (omega arith)
  done-gone (to_take ports) (a_port p) a e = take-gone ports (first_of p.queue) a e
  done-gone (to_close n) (a_port p) a e = subst (GoesOut (to_close n)) (some-injective e) (omega arith)
  done-gone (to_answer caller call r) (replies rs) a e = subst (GoesOut (to_answer caller call r)) (some-injective e) (omega arith)
  done-gone to_hear (replies rs) a e = hear-gone (first_of rs) a e
  done-gone want h a e = none-not_some e

pub cond-some : {X : Type 0} (b : Bool) (o : Option X) (y : X) → cond b o None ≡ Some y → o ≡ Some y
cond-some true o y e = e
cond-some false o y e = none-not_some e

-- what each event leaves, by one weight
module _ {P : Type 0} (machine : Machine Name P) (w : Name → ℕ) where
  abbrev pub Balance : System P → Type 0
  Balance s = made_in w machine s ≡ held_in w machine s + queued_in w s + finalised_in w machine s

  step-balance : (s : System P) (p : ℕ) (x y : P) → numbered_from_one p s.processes ≡ Some x →
      made_by w machine y + kept_by w machine x ≡ made_by w machine x + kept_by w machine y → Balance s → Balance (set_process p y s)
  step-balance s p x y is keeps balance =
      omega (arith, total-from_one (made_by w machine) s.processes p x y is, total-from_one (held_by w machine) s.processes p x y is, total-from_one (finalised_by w machine) s.processes p x y is, keeps, balance)

  -- a system with one more thing made, which takes with it what was born
  abbrev MadeWith : ℕ → System P → System P → Type 0
  MadeWith born s t =
      (made_in w machine t + (held_in w machine s + finalised_in w machine s + born) ≡ made_in w machine s + (held_in w machine t + finalised_in w machine t)) × (queued_in w t ≡ queued_in w s)

module _ {P : Type 0} (machine : Machine Name P) (keeps : KeepsLedger machine) (w : Name → ℕ) where
  process-made : (s : System P) (code number : ℕ) (inport : Cell Name) (y : P) → machine.begin code number inport ≡ Some y → MadeWith machine w (weigh w inport) s (record s {
    processes = s.processes ++ y ∷ [];
    ports = s.ports ++ empty_port ∷ [];
    replies = s.replies ++ [] ∷ [];
  })
  process-made s code number inport y is = (
    omega (arith, total-append (made_by w machine) s.processes (y ∷ []), total-append (held_by w machine) s.processes (y ∷ []), total-append (finalised_by w machine) s.processes (y ∷ []), keeps.begins w code number inport y is),
    omega (arith, total-append (queued_at w) s.ports (empty_port ∷ []), total-append (queued_for w) s.replies ([] ∷ [])),
  )

  made-with : (maker : P) (a : CellAction Name) (s t : System P) → with_made machine maker a s ≡ Some t → MadeWith machine w (born_of w machine maker a) s t
  made-with maker (make_port (Some n)) s t e = subst (MadeWith machine w 0 s) (some-injective e) (omega arith, omega (arith, total-append (queued_at w) s.ports (empty_port ∷ [])))
  made-with maker (make_process code (Some made)) s t e =
      let m = map-some _ (machine.begin code made.0 (inport_of machine made.1 maker)) t e
      in subst (MadeWith machine w (weigh w (inport_of machine made.1 maker)) s) m.2 (process-made s code made.0 (inport_of machine made.1 maker) m.0 m.1)
  made-with maker a s t e = subst (MadeWith machine w 0 s) (some-injective e) (omega arith, refl)

  -- what an action leaves
  action-balance : (p : ℕ) (place : Place) (s t : System P) (x y : P) (want : CellWant Name) (h : PlaceState (Cell Name) (CellReply Name)) (a : CellAction Name) →
      numbered_from_one p s.processes ≡ Some x → holding_at place s ≡ Some h → machine.wanted x ≡ Some want → done_at want h ≡ Some a →
      machine.answered x (number_of place) a ≡ Some y → with_made machine x a (set_process p y (set_holding place (after a h) s)) ≡ Some t → Balance machine w s → Balance machine w t
  action-balance p place s t x y want h a is at wants does leaves makes balance =
      let s1 = set_holding place (after a h) s in
      let same = processes-stay place (after a h) s in
      let is1 = subst (λ ps. numbered_from_one p ps ≡ Some x) (sym same) is in
      let made_same = ap (total (made_by w machine)) same in
      let held_same = ap (total (held_by w machine)) same in
      let ends_same = ap (total (finalised_by w machine)) same in
      let more = made-with x a (set_process p y s1) t makes in
      let queue = place-changes w place s h a at in
      let moves = done-moves w want h a does in
      let goes = done-gone w machine x want h a does in
      let kept = keeps.answers w x y want (number_of place) a wants leaves in
      let own_set = total-from_one (made_by w machine) s1.processes p x y is1 in
      let held_set = total-from_one (held_by w machine) s1.processes p x y is1 in
      let ends_set = total-from_one (finalised_by w machine) s1.processes p x y is1 in
      omega (arith, made_same, held_same, ends_same, more.0, more.1, queue, moves, goes, kept, own_set, held_set, ends_set, balance)

  local-event : (p : ℕ) (s : System P) (m : Moved P) → local_event machine p s ≡ Some m → Balance machine w s → Balance machine w m.system
  local-event p s m e balance =
      let parts = step-parts machine p s m e in
      subst (λ (x : Moved P). Balance machine w x.system) parts.moved (step-balance machine w s p parts.state parts.left.0 parts.is (keeps.local_steps w parts.state parts.left.0 parts.left.1) balance)

  action-event : (p : ℕ) (place : Place) (s : System P) (m : Moved P) → action_event machine p place s ≡ Some m → Balance machine w s → Balance machine w m.system
  action-event p place s m e balance =
      let parts = action-parts machine p place s m e in
      subst (λ (x : Moved P). Balance machine w x.system) parts.moved
      (action-balance p place s parts.makes.0 parts.state parts.left.0 parts.want.0 parts.at.0 parts.did.0 parts.is parts.at.1 parts.want.1 parts.did.1 parts.left.1 parts.makes.1 balance)

  pub event-balance : (e : Event) (s : System P) (m : Moved P) → step machine e s ≡ Some m → Balance machine w s → Balance machine w m.system
  event-balance (steps p) s m e balance = local-event p s m e balance
  event-balance (acts p place) s m e balance = action-event p place s m e balance

  run-balance : (events : List Event) (r t : Run P) → run machine events r ≡ Some t → Balance machine w r.system → Balance machine w t.system
  run-balance [] r t e balance = subst (λ (x : Run P). Balance machine w x.system) (some-injective e) balance
  run-balance (e ∷ events) r t is balance =
      let b = chain-some (run machine events) (run_on machine e r) t is in
      let m = map-some _ (step machine e r.system) b.0 b.1 in
      run-balance events b.0 t b.2 (subst (λ (x : Run P). Balance machine w x.system) m.2 (event-balance e r.system m.0 m.1 balance))

  pub opening-balance : (limits : Limits) (argument : Text) (first : P) → machine.begin machine.main 1 main_port ≡ Some first → Balance machine w (opening machine limits argument)
  opening-balance limits argument first is =
      let s : System P = record (opening machine limits argument) { processes = list_of (λ x. x ∷ []) (Some first) } in
      let balance : Balance machine w s = omega (arith, keeps.begins w machine.main 1 main_port first is) in
      subst (λ o. Balance machine w (record (opening machine limits argument) { processes = list_of (λ x. x ∷ []) o })) (sym is) balance

pub runs-keep : {P : Type 0} (machine : Machine Name P) (keeps : KeepsLedger machine) (limits : Limits) (argument : Text) (first : P) (events : List Event) (r : Run P) →
    machine.begin machine.main 1 main_port ≡ Some first → run machine events (start machine limits argument) ≡ Some r → HasLedger machine r.system
runs-keep machine keeps limits argument first events r is e w = run-balance machine keeps w events (start machine limits argument) r e (opening-balance machine keeps w limits argument first is)
