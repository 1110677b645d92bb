-- What a process does at the places of a world is its action in the system that the world holds.
use Rattle.std.proofs.Common.{◌≡◌, ℕ, zero, suc, List, [], ◌∷◌, ◌++◌, Option, Some, None, option_map, refl, sym, ap, subst, ◌∙◌}
use Rattle.std.specs.Prelude.{slice_get, slice_set, ⊤}
use Rattle.herm_model.proofs.Options.{none-not_some, some-injective}
use Rattle.herm_model.specs.Values.{Cell, cell, an_inport, no_parts}
use Rattle.herm_journal.specs.Actions.{new_port, new_process, to_put, to_take, to_close, to_answer, to_hear, make_port, make_process, put, take, close, answer, hear}
use Rattle.herm_journal.specs.Entries.{Place, port, reply_cell, book}
use Rattle.herm_journal.specs.Messages.{CellReply, CellWant, CellAction}
use Rattle.herm_journal.specs.PlaceStates.{PlaceState, a_port, replies, a_book, after}
use Rattle.herm_system.specs.Machines.{Machine, acting}
use Rattle.herm_system.specs.Systems.{numbered_from_one, set_from_one, done_at, number_of}
use Rattle.herm_code_machine.specs.CodeStates.{CodeState}
use Rattle.herm_waking.specs.Unnamed.{Unnamed, set_bare, set_bare_process, with_bare, bare_at}
use Rattle.herm_machine.specs.declared.order.Got.{Got}
use Rattle.herm_machine.specs.declared.order.Got.TheVariants as gots
use Rattle.herm_process.specs.Entries.{action_of}
use Rattle.herm_queue.specs.CellStates.{CellState}
use Rattle.herm_queue.specs.SeenCells.{seen, seen_action}
use Rattle.herm_world.specs.Acting.{ActsAt, ActsTo, first_place_for}
use Rattle.herm_world.specs.Doing.{Does, with_places}
use Rattle.herm_world.specs.Orders.{born, made_in}
use Rattle.herm_world.specs.Places.{Places, seen_of}
use Rattle.herm_world.specs.Worlds.{AreAlike}
use Rattle.herm_world.proofs.PlacesSeen.{holds-seen}

-- the process that an action has made
abbrev pub made_by : CellAction ⊤ → Option (ℕ × ℕ × ℕ)
made_by (make_process code (Some m)) = Some (code, m.0, m.1)
made_by a = None

abbrev take_cells : ℕ → Cell ⊤ → CellAction ⊤
take_cells number m = take number m

abbrev hear_cells : ℕ → CellReply ⊤ → CellAction ⊤
hear_cells call r = hear call r

-- what is got tells of the process that is made
made-of-process : (code : ℕ) (got : Got) (a : CellAction ⊤) → action_of got (new_process code) ≡ Some a → born code got ≡ made_by a
made-of-process code (gots.Port made) a e = none-not_some e
made-of-process code (gots.Process None) a e = ap made_by (some-injective e)
made-of-process code (gots.Process (Some m)) a e = ap made_by (some-injective e)
made-of-process code (gots.Placed number trace) a e = none-not_some e
made-of-process code (gots.Back value trace) a e = none-not_some e
made-of-process code (gots.Message n parcel) a e = none-not_some e
made-of-process code (gots.Left left) a e = none-not_some e
made-of-process code gots.Answered a e = none-not_some e
made-of-process code (gots.Heard call reply trace) a e = none-not_some e

pub made-in : (w : CellWant ⊤) (h : PlaceState (Cell ⊤) (CellReply ⊤)) (got : Got) (a : CellAction ⊤) → done_at w h ≡ Some a → action_of got w ≡ Some a → made_in w got ≡ made_by a
made-in (new_process code) h got a e tells = made-of-process code got a tells
made-in new_port (a_book b) got a e tells = ap made_by (some-injective e)
made-in new_port (a_port p) got a e tells = none-not_some e
made-in new_port (replies rs) got a e tells = none-not_some e
made-in (to_put n m) (a_port p) got a e tells = ap made_by (some-injective e)
made-in (to_put n m) (a_book b) got a e tells = none-not_some e
made-in (to_put n m) (replies rs) got a e tells = none-not_some e
made-in (to_take ports) (a_port p) got a e tells = by p.queue e
  where
    by : (queue : List (ℕ × Cell ⊤)) → option_map (λ (q : ℕ × Cell ⊤). take_cells q.0 q.1) (Rattle.herm_journal.specs.Ports.first_of queue) ≡ Some a → None ≡ made_by a
    by [] e = none-not_some e
    by (q ∷ queue) e = ap made_by (some-injective e)
made-in (to_take ports) (a_book b) got a e tells = none-not_some e
made-in (to_take ports) (replies rs) got a e tells = none-not_some e
made-in (to_close n) (a_port p) got a e tells = ap made_by (some-injective e)
made-in (to_close n) (a_book b) got a e tells = none-not_some e
made-in (to_close n) (replies rs) got a e tells = none-not_some e
made-in (to_answer caller call r) (replies rs) got a e tells = ap made_by (some-injective e)
made-in (to_answer caller call r) (a_port p) got a e tells = none-not_some e
made-in (to_answer caller call r) (a_book b) got a e tells = none-not_some e
made-in to_hear (replies rs) got a e tells = by rs e
  where
    by : (rs : List (ℕ × CellReply ⊤)) → option_map (λ (r : ℕ × CellReply ⊤). hear_cells r.0 r.1) (Rattle.herm_journal.specs.Ports.first_of rs) ≡ Some a → None ≡ made_by a
    by [] e = none-not_some e
    by (r ∷ rs) e = ap made_by (some-injective e)
made-in to_hear (a_port p) got a e tells = none-not_some e
made-in to_hear (a_book b) got a e tells = none-not_some e

module _ {Q : Type 0} where
  abbrev with_processes : List Q → Unnamed Q → Unnamed Q
  with_processes qs v = record v { processes = qs }

  -- places do not look at processes
  set-beside : (place : Place) (h : PlaceState (Cell ⊤) (CellReply ⊤)) (qs : List Q) (v : Unnamed Q) → set_bare place h (with_processes qs v) ≡ with_processes qs (set_bare place h v)
  set-beside (port n) (a_port p) qs v = refl
  set-beside (port n) (replies rs) qs v = refl
  set-beside (port n) (a_book b) qs v = refl
  set-beside (reply_cell n) (a_port p) qs v = refl
  set-beside (reply_cell n) (replies rs) qs v = refl
  set-beside (reply_cell n) (a_book b) qs v = refl
  set-beside book (a_port p) qs v = refl
  set-beside book (replies rs) qs v = refl
  set-beside book (a_book b) qs v = refl

  with-beside : (a : CellAction ⊤) (qs : List Q) (v : Unnamed Q) → with_places a (with_processes qs v) ≡ with_processes qs (with_places a v)
  with-beside (make_port None) qs v = refl
  with-beside (make_port (Some n)) qs v = refl
  with-beside (make_process code None) qs v = refl
  with-beside (make_process code (Some made)) qs v = refl
  with-beside (put number m) qs v = refl
  with-beside (take number m) qs v = refl
  with-beside (close count left) qs v = refl
  with-beside (answer call r) qs v = refl
  with-beside (hear call r) qs v = refl

  -- with what an action has made: the places, and a process if it made one
  pub made-none : (machine : Machine ⊤ Q) (a : CellAction ⊤) (v : Unnamed Q) → made_by a ≡ None → with_bare machine a v ≡ Some (with_places a v)
  made-none machine (make_port None) v e = refl
  made-none machine (make_port (Some n)) v e = refl
  made-none machine (make_process code None) v e = refl
  made-none machine (make_process code (Some made)) v e = none-not_some (sym e)
  made-none machine (put number m) v e = refl
  made-none machine (take number m) v e = refl
  made-none machine (close count left) v e = refl
  made-none machine (answer call r) v e = refl
  made-none machine (hear call r) v e = refl

  pub made-some : (machine : Machine ⊤ Q) (a : CellAction ⊤) (v : Unnamed Q) (code number n : ℕ) (x : Q) → made_by a ≡ Some (code, number, n) → machine.begin code number (cell tt (an_inport n) no_parts) ≡ Some x
      → with_bare machine a v ≡ Some (with_processes (v.processes ++ x ∷ []) (with_places a v))
  made-some machine (make_process code (Some made)) v c number n x e begins =
      ap (option_map (λ x. record v { processes = v.processes ++ x ∷ []; ports = v.ports ++ Rattle.herm_journal.specs.Ports.empty_port ∷ []; replies = v.replies ++ [] ∷ [] }))
      (ap (λ (t : ℕ × ℕ × ℕ). machine.begin t.0 t.1 (cell tt (an_inport t.2) no_parts)) (some-injective e) ∙ begins)
  made-some machine (make_process code None) v c number n x e begins = none-not_some e
  made-some machine (make_port made) v c number n x e begins = none-not_some e
  made-some machine (put k m) v c number n x e begins = none-not_some e
  made-some machine (take k m) v c number n x e begins = none-not_some e
  made-some machine (close count left) v c number n x e begins = none-not_some e
  made-some machine (answer call r) v c number n x e begins = none-not_some e
  made-some machine (hear call r) v c number n x e begins = none-not_some e

  same-processes : (place : Place) (h : PlaceState (Cell ⊤) (CellReply ⊤)) (v : Unnamed Q) → (set_bare place h v).processes ≡ v.processes
  same-processes place h v = ap (λ (v : Unnamed Q). v.processes) (set-beside place h v.processes v)

-- element by element
pub alike-at : {X Y : Type 0} (R : X → Y → Type 0) (xs : List X) (ys : List Y) → AreAlike R xs ys → (i : ℕ) (x : X) → slice_get xs i ≡ Some x → (y : Y) × (slice_get ys i ≡ Some y) × R x y
alike-at R [] [] h i x e = none-not_some e
alike-at R [] (y ∷ ys) h i x e = absurd h
alike-at R (x ∷ xs) [] h i z e = absurd h
alike-at R (x ∷ xs) (y ∷ ys) h zero z e = (y, refl, subst (λ x. R x y) (some-injective e) h.0)
alike-at R (x ∷ xs) (y ∷ ys) h (suc i) z e = alike-at R xs ys h.1 i z e

pub alike-set : {X Y : Type 0} (R : X → Y → Type 0) (xs : List X) (ys : List Y) → AreAlike R xs ys → (i : ℕ) (x : X) (y : Y) → R x y → AreAlike R (slice_set xs i x) (slice_set ys i y)
alike-set R [] [] h i x y r = tt
alike-set R [] (v ∷ ys) h i x y r = absurd h
alike-set R (u ∷ xs) [] h i x y r = absurd h
alike-set R (u ∷ xs) (v ∷ ys) h zero x y r = (r, h.1)
alike-set R (u ∷ xs) (v ∷ ys) h (suc i) x y r = (h.0, alike-set R xs ys h.1 i x y r)

pub alike-push : {X Y : Type 0} (R : X → Y → Type 0) (xs : List X) (ys : List Y) → AreAlike R xs ys → (x : X) (y : Y) → R x y → AreAlike R (xs ++ x ∷ []) (ys ++ y ∷ [])
alike-push R [] [] h x y r = (r, tt)
alike-push R [] (v ∷ ys) h x y r = absurd h
alike-push R (u ∷ xs) [] h x y r = absurd h
alike-push R (u ∷ xs) (v ∷ ys) h x y r = (h.0, alike-push R xs ys h.1 x y r)

pub alike-one : {X Y : Type 0} (R : X → Y → Type 0) (xs : List X) (ys : List Y) → AreAlike R xs ys → (p : ℕ) (x : X) (y : Y) → R x y → AreAlike R (set_from_one p x xs) (set_from_one p y ys)
alike-one R xs ys h zero x y r = h
alike-one R xs ys h (suc i) x y r = alike-set R xs ys h i x y r

-- The action of a process in the system that a world holds, where it makes no process, and where it makes one.
module _ (machine : Machine ⊤ (CodeState ⊤)) (p clock : ℕ) (v : Unnamed (CodeState ⊤)) (s new : Places) (held : seen_of v.processes s ≡ v) (w : CellWant ⊤) (got : Got) (stamp : ℕ) (woken : List ℕ) (does : Does p clock w s new got stamp woken)
    (x y : CodeState ⊤) (its : numbered_from_one p v.processes ≡ Some x) (next : machine.ready v.book.limits.steps x ≡ acting) (wants : machine.wanted x ≡ Some w) (answered : machine.answered x (number_of does.place) (seen_action does.action) ≡ Some y) where
  abbrev a : CellAction ⊤
  a = seen_action does.action

  abbrev h : PlaceState (Cell ⊤) (CellReply ⊤)
  h = seen does.cell.holding

  holds-there : bare_at does.place v ≡ Some h
  holds-there = ap (bare_at does.place) (sym held) ∙ holds-seen v.processes s does.place ∙ ap (option_map (λ (c : CellState). seen c.holding)) does.there

  first-there : first_place_for v p w ≡ Some does.place
  first-there = ap (λ v. first_place_for v p w) (sym held) ∙ does.first v.processes

  -- the places that the action leaves, beside whatever processes
  places-left : (qs : List (CodeState ⊤)) → with_processes qs (with_places a (set_bare does.place (after a h) v)) ≡ seen_of qs new
  places-left qs = ap (λ v. with_processes qs (with_places a (set_bare does.place (after a h) v))) (sym held) ∙ ap (with_processes qs) (does.left v.processes)

  abbrev set_then : Unnamed (CodeState ⊤)
  set_then = set_bare_process p y (set_bare does.place (after a h) v)

  abbrev qs_then : List (CodeState ⊤)
  qs_then = set_from_one p y v.processes

  set-is : set_then ≡ with_processes qs_then (set_bare does.place (after a h) v)
  set-is = ap (λ qs. with_processes (set_from_one p y qs) (set_bare does.place (after a h) v)) (same-processes does.place (after a h) v)

  with-is : with_places a set_then ≡ seen_of qs_then new
  with-is = ap (with_places a) set-is ∙ with-beside a qs_then (set_bare does.place (after a h) v) ∙ places-left qs_then

  pub acts-at : ActsAt machine p v x w does.place h a y
  acts-at = record { its = its; next = next; wants = wants; first = first-there; holds = holds-there; does = does.does; answered = answered }

  pub acts-alone : made_in w got ≡ None → ActsTo machine p v x w does.place h a y (seen_of qs_then new)
  acts-alone none = record { acts = acts-at; left = made-none machine a set_then (sym (made-in w h got a does.does does.tells) ∙ none) ∙ ap (λ v. Some v) with-is }

  pub acts-making : (code number n : ℕ) (z : CodeState ⊤) → made_in w got ≡ Some (code, number, n) → machine.begin code number (cell tt (an_inport n) no_parts) ≡ Some z
      → ActsTo machine p v x w does.place h a y (seen_of (qs_then ++ z ∷ []) new)
  acts-making code number n z some begins = record {
    acts = acts-at;
    left =
        made-some machine a set_then code number n z (sym (made-in w h got a does.does does.tells) ∙ some) begins
        ∙ ap (λ (u : Unnamed (CodeState ⊤)). Some (with_processes (set_then.processes ++ z ∷ []) u)) with-is
        ∙ ap (λ (u : Unnamed (CodeState ⊤)). Some (with_processes (u.processes ++ z ∷ []) (seen_of qs_then new))) set-is;
  }
