-- A system without names steps as the system of the language does.
use Rattle.std.proofs.Common.{◌≡◌, ℕ, zero, suc, List, [], ◌∷◌, ◌++◌, map, find, length, Bool, true, false, cond, ◌||◌, Option, Some, None, is_some, option_map, option_and_then, slice_get, slice_set, refl, sym, ap, ◌∙◌}
use mathlib.Core.Path.{fun_ext}
use Rattle.std.specs.Prelude.{⊤}
use Rattle.herm_model.specs.CellNames.{rename}
use Rattle.herm_model.specs.Lists.{any_pass, list_of}
use Rattle.herm_model.specs.Values.{Name, Cell}
use Rattle.herm_model.proofs.Lists.{slice_get-map, length-map}
use Rattle.herm_model.proofs.Options.{is_some-map}
use Rattle.herm_model.proofs.Renaming.{map-append}
use Rattle.herm_journal.specs.Actions.{new_port, new_process, to_put, to_take, to_close, to_answer, to_hear, make_port, make_process, put, close, answer}
use Rattle.herm_journal.specs.Entries.{Place, port, reply_cell, book, same_place, map_port, map_holding}
use Rattle.herm_journal.specs.Messages.{CellReply, CellWant, CellAction}
use Rattle.herm_journal.specs.PlaceStates.{Replies, PlaceState, a_port, replies, a_book, after}
use Rattle.herm_journal.specs.Ports.{Port, empty_port}
use Rattle.herm_journal.specs.Renaming.{rename_reply, rename_action, rename_want, forget_name}
use Rattle.herm_system.specs.Machines.{Machine, Standing, ended, out_of_steps, out_of_actions, waiting, local, acting, is_local, is_acting, inport_of}
use Rattle.herm_system.specs.Kinds.{is_open_port}
use Rattle.herm_system.specs.ProcessFates.{fate_as, fate_of}
use Rattle.herm_system.specs.Rounds.{first_place, place_or_book}
use Rattle.herm_system.specs.Systems.{System, Event, steps, acts, numbered_from_one, set_from_one, holding_at, set_holding, set_process, places_for, done_at, done_in, can, can_be_done, can_step, seen_as, standing, stands, with_made, act_at, behind_action, number_of}
use Rattle.herm_runs.specs.laws.ProcessLaws.{ForgetsNames}
use Rattle.herm_runs.proofs.Events.{after-map}
use Rattle.herm_waking.specs.Unnamed.{unnamed, bare_replies, bare_at, set_bare, bare_can, bare_stands, bare_can_step, ports_of_want, ports_as, bare_awaited, bare_open, bare_place, with_bare, set_bare_process, bare_behind, bare_act}
use Rattle.herm_waking.specs.Waking.{Kept, ports_of_wait, awaited, woken_by, waiters_behind, kept_by, all_looked_by}
use Rattle.herm_waking.specs.laws.UnnamedLaws.{bare_moved, StandingsForgetNames, AwaitedForgetsNames, TurnsForgetNames, StepsForgetNames, KeptForgetsNames}
use Rattle.herm_waking.proofs.OthersStand.{any-same}

-- lists of what a function makes
from-one-map : {X Y : Type 0} (f : X → Y) (xs : List X) (p : ℕ) → numbered_from_one p (map f xs) ≡ option_map f (numbered_from_one p xs)
from-one-map f xs zero = refl
from-one-map f xs (suc i) = slice_get-map f xs i

set-map : {X Y : Type 0} (f : X → Y) (xs : List X) (i : ℕ) (x : X) → slice_set (map f xs) i (f x) ≡ map f (slice_set xs i x)
set-map f [] i x = refl
set-map f (z ∷ xs) zero x = refl
set-map f (z ∷ xs) (suc i) x = ap (f z ∷◌) (set-map f xs i x)

set-from-one-map : {X Y : Type 0} (f : X → Y) (xs : List X) (p : ℕ) (x : X) → set_from_one p (f x) (map f xs) ≡ map f (set_from_one p x xs)
set-from-one-map f xs zero x = refl
set-from-one-map f xs (suc i) x = set-map f xs i x

find-same : {X : Type 0} (f g : X → Bool) (xs : List X) → ((x : X) → f x ≡ g x) → find f xs ≡ find g xs
find-same f g [] all = refl
find-same f g (x ∷ xs) all = ap (λ b. cond b (Some x) (find f xs)) (all x) ∙ ap (λ o. cond (g x) (Some x) o) (find-same f g xs all)

-- what is at a place, without names
abbrev bare : PlaceState (Cell Name) (CellReply Name) → PlaceState (Cell ⊤) (CellReply ⊤)
bare h = map_holding (rename forget_name) (rename_reply forget_name) h

places-same : (p : ℕ) (w : CellWant Name) → places_for p (rename_want forget_name w) ≡ places_for p w
places-same p new_port = refl
places-same p (new_process code) = refl
places-same p (to_put n m) = refl
places-same p (to_take ports) = refl
places-same p (to_close n) = refl
places-same p (to_answer caller call r) = refl
places-same p to_hear = refl

taken-same : (ports : List ℕ) (b : Bool) (q : List (ℕ × Cell Name)) (k : ℕ)
    → done_at (rename_want forget_name (to_take ports)) (bare (a_port (record { is_open = b; queue = q; placed = k }))) ≡ option_map (rename_action forget_name) (done_at {R = CellReply Name} (to_take ports) (a_port (record { is_open = b; queue = q; placed = k })))
taken-same ports b [] k = refl
taken-same ports b (x ∷ q) k = refl

heard-same : (rs : Replies (CellReply Name)) → done_at (rename_want forget_name to_hear) (bare (replies rs)) ≡ option_map (rename_action forget_name) (done_at {M = Cell Name} to_hear (replies rs))
heard-same [] = refl
heard-same (r ∷ rs) = refl

left-same : (q : List (ℕ × Cell Name)) → map (λ (x : ℕ × Cell ⊤). x.1) (map (λ (x : ℕ × Cell Name). (x.0, rename forget_name x.1)) q) ≡ map (rename forget_name) (map (λ (x : ℕ × Cell Name). x.1) q)
left-same [] = refl
left-same (x ∷ q) = ap (rename forget_name x.1 ∷◌) (left-same q)

done-same : (w : CellWant Name) (h : PlaceState (Cell Name) (CellReply Name)) → done_at (rename_want forget_name w) (bare h) ≡ option_map (rename_action forget_name) (done_at w h)
done-same new_port (a_book b) = refl
done-same (new_process code) (a_book b) = refl
done-same (to_put n m) (a_port p) = refl
done-same (to_take ports) (a_port p) = taken-same ports p.is_open p.queue p.placed
done-same (to_close n) (a_port p) =
    ap (λ n. Some (close n (map (λ (x : ℕ × Cell ⊤). x.1) (map (λ (x : ℕ × Cell Name). (x.0, rename forget_name x.1)) p.queue)))) (length-map (λ (x : ℕ × Cell Name). (x.0, rename forget_name x.1)) p.queue)
    ∙ ap (λ left. Some (close (length p.queue) left)) (left-same p.queue)
done-same (to_answer caller call r) (replies rs) = refl
done-same to_hear (replies rs) = heard-same rs
done-same w h = refl

module _ {P Q : Type 0} (machine : Machine Name P) (nameless : Machine ⊤ Q) (without : P → Q) (forgets : ForgetsNames machine nameless without) where
  there-same : (place : Place) (s : System P) → bare_at place (unnamed without s) ≡ option_map bare (holding_at place s)
  there-same (port n) s = ap (option_map a_port) (slice_get-map (map_port (rename forget_name)) s.ports n) ∙ by (slice_get s.ports n)
    where
      by : (o : Option (Port (Cell Name))) → option_map a_port (option_map (map_port (rename forget_name)) o) ≡ option_map bare (option_map a_port o)
      by None = refl
      by (Some p) = refl
  there-same (reply_cell p) s = ap (option_map replies) (from-one-map bare_replies s.replies p) ∙ by (numbered_from_one p s.replies)
    where
      by : (o : Option (Replies (CellReply Name))) → option_map replies (option_map bare_replies o) ≡ option_map bare (option_map replies o)
      by None = refl
      by (Some rs) = refl
  there-same book s = refl

  done-there : (w : CellWant Name) (place : Place) (s : System P) → option_and_then (done_at (rename_want forget_name w)) (bare_at place (unnamed without s)) ≡ option_map (rename_action forget_name) (done_in w s place)
  done-there w place s = ap (option_and_then (done_at (rename_want forget_name w))) (there-same place s) ∙ by (holding_at place s)
    where
      by : (o : Option (PlaceState (Cell Name) (CellReply Name))) → option_and_then (done_at (rename_want forget_name w)) (option_map bare o) ≡ option_map (rename_action forget_name) (option_and_then (done_at w) o)
      by None = refl
      by (Some h) = done-same w h

  some-there : (w : CellWant Name) (s : System P) (place : Place) → is_some (option_and_then (done_at (rename_want forget_name w)) (bare_at place (unnamed without s))) ≡ is_some (done_in w s place)
  some-there w s place = ap is_some (done-there w place s) ∙ is_some-map (rename_action forget_name) (done_in w s place)

  can-same : (s : System P) (p : ℕ) (w : CellWant Name) → bare_can (unnamed without s) p (rename_want forget_name w) ≡ can s p w
  can-same s p w =
      ap (any_pass (λ place. is_some (option_and_then (done_at (rename_want forget_name w)) (bare_at place (unnamed without s))))) (places-same p w)
      ∙ any-same _ _ (places_for p w) (λ place member. some-there w s place)

  pub standing-same : (s : System P) (p : ℕ) (x : P) → standing nameless s.book.limits.steps (bare_can (unnamed without s) p) (without x) ≡ standing machine s.book.limits.steps (can s p) x
  standing-same s p x =
      ap (λ r. seen_as r (can_be_done (bare_can (unnamed without s) p) (nameless.wanted (without x)))) (forgets.ready s.book.limits.steps x)
      ∙ ap (λ o. seen_as (machine.ready s.book.limits.steps x) (can_be_done (bare_can (unnamed without s) p) o)) (forgets.wants x)
      ∙ ap (seen_as (machine.ready s.book.limits.steps x)) (by (machine.wanted x))
    where
      by : (o : Option (CellWant Name)) → can_be_done (bare_can (unnamed without s) p) (option_map (rename_want forget_name) o) ≡ can_be_done (can s p) o
      by None = refl
      by (Some w) = can-same s p w

  pub standings-forget : StandingsForgetNames machine nameless without
  standings-forget s p = ap (option_map (standing nameless s.book.limits.steps (bare_can (unnamed without s) p))) (from-one-map without s.processes p) ∙ by (numbered_from_one p s.processes)
    where
      by : (o : Option P) → option_map (standing nameless s.book.limits.steps (bare_can (unnamed without s) p)) (option_map without o) ≡ option_map (standing machine s.book.limits.steps (can s p)) o
      by None = refl
      by (Some x) = ap (λ r. Some r) (standing-same s p x)

  stands-same : (test : Standing → Bool) (s : System P) (p : ℕ) → bare_stands test nameless (unnamed without s) p ≡ stands test machine s p
  stands-same test s p = ap (λ o. any_pass test (list_of (λ x. x ∷ []) o)) (standings-forget s p)

  can_step-same : (s : System P) (p : ℕ) → bare_can_step nameless (unnamed without s) p ≡ can_step machine s p
  can_step-same s p = ap (λ o. any_pass is_local (list_of (λ x. x ∷ []) o) || any_pass is_acting (list_of (λ x. x ∷ []) o)) (standings-forget s p)

  ports-same : (r : Standing) (limit : ℕ) (exception : Option ℕ) (o : Option (CellWant Name)) → ports_as r (ports_of_want (option_map (rename_want forget_name) o)) ≡ ports_of_wait (fate_as r limit exception o)
  ports-same waiting limit exception None = refl
  ports-same waiting limit exception (Some new_port) = refl
  ports-same waiting limit exception (Some (new_process code)) = refl
  ports-same waiting limit exception (Some (to_put n m)) = refl
  ports-same waiting limit exception (Some (to_take ports)) = refl
  ports-same waiting limit exception (Some (to_close n)) = refl
  ports-same waiting limit exception (Some (to_answer caller call r)) = refl
  ports-same waiting limit exception (Some to_hear) = refl
  ports-same ended limit None o = refl
  ports-same ended limit (Some e) o = refl
  ports-same out_of_steps limit exception o = refl
  ports-same out_of_actions limit exception o = refl
  ports-same local limit exception o = refl
  ports-same acting limit exception o = refl

  pub awaited-forgets : AwaitedForgetsNames machine nameless without
  awaited-forgets s p =
      ap (list_of (λ y. ports_as (standing nameless s.book.limits.steps (bare_can (unnamed without s) p) y) (ports_of_want (nameless.wanted y)))) (from-one-map without s.processes p) ∙ by (numbered_from_one p s.processes)
    where
      by : (o : Option P) → list_of (λ y. ports_as (standing nameless s.book.limits.steps (bare_can (unnamed without s) p) y) (ports_of_want (nameless.wanted y))) (option_map without o) ≡ list_of (λ x. ports_of_wait (fate_of machine s (p, x))) o
      by None = refl
      by (Some x) =
          ap (λ r. ports_as r (ports_of_want (nameless.wanted (without x)))) (standing-same s p x)
          ∙ ap (λ o. ports_as (standing machine s.book.limits.steps (can s p) x) (ports_of_want o)) (forgets.wants x)
          ∙ ports-same (standing machine s.book.limits.steps (can s p) x) s.book.limits.steps (machine.exception x) (machine.wanted x)

  place-same : (s : System P) (p : ℕ) → bare_place nameless (unnamed without s) p ≡ first_place machine s p
  place-same s p =
      ap (option_and_then (λ y. option_and_then (λ w. find (λ place. is_some (option_and_then (done_at w) (bare_at place (unnamed without s)))) (places_for p w)) (nameless.wanted y))) (from-one-map without s.processes p)
      ∙ by (numbered_from_one p s.processes)
    where
      of-want : (o : Option (CellWant Name)) → option_and_then (λ w. find (λ place. is_some (option_and_then (done_at w) (bare_at place (unnamed without s)))) (places_for p w)) (option_map (rename_want forget_name) o)
          ≡ option_and_then (λ w. find (λ place. is_some (done_in w s place)) (places_for p w)) o
      of-want None = refl
      of-want (Some w) =
          ap (find (λ place. is_some (option_and_then (done_at (rename_want forget_name w)) (bare_at place (unnamed without s))))) (places-same p w)
          ∙ find-same _ _ (places_for p w) (λ place. some-there w s place)

      by : (o : Option P) → option_and_then (λ y. option_and_then (λ w. find (λ place. is_some (option_and_then (done_at w) (bare_at place (unnamed without s)))) (places_for p w)) (nameless.wanted y)) (option_map without o)
          ≡ option_and_then (λ x. option_and_then (λ w. find (λ place. is_some (done_in w s place)) (places_for p w)) (machine.wanted x)) o
      by None = refl
      by (Some x) =
          ap (option_and_then (λ w. find (λ place. is_some (option_and_then (done_at w) (bare_at place (unnamed without s)))) (places_for p w))) (forgets.wants x)
          ∙ of-want (machine.wanted x)

  pub turns-forget : TurnsForgetNames machine nameless without
  turns-forget s p =
      ap (λ b. cond b (Some (steps p)) (cond (bare_stands is_acting nameless (unnamed without s) p) (Some (acts p (place_or_book (bare_place nameless (unnamed without s) p)))) None)) (stands-same is_local s p)
      ∙ ap (λ b. cond (stands is_local machine s p) (Some (steps p)) (cond b (Some (acts p (place_or_book (bare_place nameless (unnamed without s) p)))) None)) (stands-same is_acting s p)
      ∙ ap (λ o. cond (stands is_local machine s p) (Some (steps p)) (cond (stands is_acting machine s p) (Some (acts p (place_or_book o))) None)) (place-same s p)

  -- changes without names
  process-set : (p : ℕ) (y : P) (s : System P) → set_bare_process p (without y) (unnamed without s) ≡ unnamed without (set_process p y s)
  process-set p y s = ap (λ xs. record (unnamed without s) { processes = xs }) (set-from-one-map without s.processes p y)

  holding-set : (place : Place) (h : PlaceState (Cell Name) (CellReply Name)) (s : System P) → set_bare place (bare h) (unnamed without s) ≡ unnamed without (set_holding place h s)
  holding-set (port n) (a_port p) s = ap (λ xs. record (unnamed without s) { ports = xs }) (set-map (map_port (rename forget_name)) s.ports n p)
  holding-set (reply_cell p) (replies rs) s = ap (λ xs. record (unnamed without s) { replies = xs }) (set-from-one-map bare_replies s.replies p rs)
  holding-set book (a_book b) s = refl
  holding-set place h s = refl

  made-same : (x : P) (a : CellAction Name) (u : System P) → with_bare nameless (rename_action forget_name a) (unnamed without u) ≡ option_map (unnamed without) (with_made machine x a u)
  made-same x (make_port (Some n)) u = ap (λ ps. Some (record (unnamed without u) { ports = ps })) (sym (map-append (map_port (rename forget_name)) u.ports (empty_port ∷ [])))
  made-same x (make_process code (Some made)) u =
      ap (option_map (λ y. record (unnamed without u) {
        processes = map without u.processes ++ y ∷ [];
        ports = map (map_port (rename forget_name)) u.ports ++ empty_port ∷ [];
        replies = map bare_replies u.replies ++ [] ∷ [];
      })) (forgets.begins code made.0 (inport_of machine made.1 x))
      ∙ by (machine.begin code made.0 (inport_of machine made.1 x))
    where
      by : (o : Option P) → option_map (λ y. record (unnamed without u) {
        processes = map without u.processes ++ y ∷ [];
        ports = map (map_port (rename forget_name)) u.ports ++ empty_port ∷ [];
        replies = map bare_replies u.replies ++ [] ∷ [];
      }) (option_map without o) ≡ option_map (unnamed without) (option_map (λ x. record u {
        processes = u.processes ++ x ∷ [];
        ports = u.ports ++ empty_port ∷ [];
        replies = u.replies ++ [] ∷ [];
      }) o)
      by None = refl
      by (Some z) =
          ap (λ xs. Some (record (unnamed without u) { processes = xs; ports = map (map_port (rename forget_name)) u.ports ++ empty_port ∷ []; replies = map bare_replies u.replies ++ [] ∷ [] })) (sym (map-append without u.processes (z ∷ [])))
          ∙ ap (λ ps. Some (record (unnamed without u) { processes = map without (u.processes ++ z ∷ []); ports = ps; replies = map bare_replies u.replies ++ [] ∷ [] })) (sym (map-append (map_port (rename forget_name)) u.ports (empty_port ∷ [])))
          ∙ ap (λ rs. Some (record (unnamed without u) { processes = map without (u.processes ++ z ∷ []); ports = map (map_port (rename forget_name)) (u.ports ++ empty_port ∷ []); replies = rs })) (sym (map-append bare_replies u.replies ([] ∷ [])))
  made-same x a u = refl

  moved-same : (a : CellAction Name) (o : Option (System P)) → option_map (λ t. record { system = t; done = Some (rename_action forget_name a) }) (option_map (unnamed without) o) ≡ option_map (bare_moved without) (option_map (λ t. record { system = t; done = Some a }) o)
  moved-same a None = refl
  moved-same a (Some t) = refl

  behind-same : (p : ℕ) (place : Place) (s : System P) (x : P) (h : PlaceState (Cell Name) (CellReply Name)) (a : CellAction Name)
      → bare_behind nameless p place (unnamed without s) (without x) (bare h) (rename_action forget_name a) ≡ option_map (bare_moved without) (behind_action machine p place s x h a)
  behind-same p place s x h a =
      ap (option_and_then (λ y. option_map (λ t. record { system = t; done = Some (rename_action forget_name a) }) (with_bare nameless (rename_action forget_name a) (set_bare_process p y (set_bare place (after (rename_action forget_name a) (bare h)) (unnamed without s))))))
      (forgets.answers x (number_of place) a)
      ∙ by (machine.answered x (number_of place) a)
    where
      system : (y : P) → set_bare_process p (without y) (set_bare place (after (rename_action forget_name a) (bare h)) (unnamed without s)) ≡ unnamed without (set_process p y (set_holding place (after a h) s))
      system y =
          ap (λ k. set_bare_process p (without y) (set_bare place k (unnamed without s))) (sym (after-map (rename forget_name) (rename_reply forget_name) h a))
          ∙ ap (set_bare_process p (without y)) (holding-set place (after a h) s)
          ∙ process-set p y (set_holding place (after a h) s)

      by : (o : Option P)
          → option_and_then (λ y. option_map (λ t. record { system = t; done = Some (rename_action forget_name a) }) (with_bare nameless (rename_action forget_name a) (set_bare_process p y (set_bare place (after (rename_action forget_name a) (bare h)) (unnamed without s))))) (option_map without o)
          ≡ option_map (bare_moved without) (option_and_then (λ y. option_map (λ t. record { system = t; done = Some a }) (with_made machine x a (set_process p y (set_holding place (after a h) s)))) o)
      by None = refl
      by (Some y) =
          ap (λ v. option_map (λ t. record { system = t; done = Some (rename_action forget_name a) }) (with_bare nameless (rename_action forget_name a) v)) (system y)
          ∙ ap (option_map (λ t. record { system = t; done = Some (rename_action forget_name a) })) (made-same x a (set_process p y (set_holding place (after a h) s)))
          ∙ moved-same a (with_made machine x a (set_process p y (set_holding place (after a h) s)))

  act-same : (p : ℕ) (place : Place) (s : System P) (x : P) (w : CellWant Name) → bare_act nameless p place (unnamed without s) (without x) (rename_want forget_name w) ≡ option_map (bare_moved without) (act_at machine p place s x w)
  act-same p place s x w =
      ap (λ ps. cond (any_pass (same_place place) ps) (option_and_then (λ h. option_and_then (bare_behind nameless p place (unnamed without s) (without x) h) (done_at (rename_want forget_name w) h)) (bare_at place (unnamed without s))) None) (places-same p w)
      ∙ ap (λ o. cond (any_pass (same_place place) (places_for p w)) (option_and_then (λ h. option_and_then (bare_behind nameless p place (unnamed without s) (without x) h) (done_at (rename_want forget_name w) h)) o) None) (there-same place s)
      ∙ by (any_pass (same_place place) (places_for p w)) (holding_at place s)
    where
      of-done : (h : PlaceState (Cell Name) (CellReply Name)) (o : Option (CellAction Name)) → option_and_then (bare_behind nameless p place (unnamed without s) (without x) (bare h)) (option_map (rename_action forget_name) o) ≡ option_map (bare_moved without) (option_and_then (behind_action machine p place s x h) o)
      of-done h None = refl
      of-done h (Some a) = behind-same p place s x h a

      by : (b : Bool) (o : Option (PlaceState (Cell Name) (CellReply Name))) → cond b (option_and_then (λ h. option_and_then (bare_behind nameless p place (unnamed without s) (without x) h) (done_at (rename_want forget_name w) h)) (option_map bare o)) None
          ≡ option_map (bare_moved without) (cond b (option_and_then (λ h. option_and_then (behind_action machine p place s x h) (done_at w h)) o) None)
      by false o = refl
      by true None = refl
      by true (Some h) = ap (option_and_then (bare_behind nameless p place (unnamed without s) (without x) (bare h))) (done-same w h) ∙ of-done h (done_at w h)

  pub steps-forget : StepsForgetNames machine nameless without
  steps-forget (steps p) s =
      ap (λ b. cond b (option_and_then (λ x. option_map (λ y. record { system = set_bare_process p y (unnamed without s); done = None }) (nameless.local_step x)) (numbered_from_one p (map without s.processes))) None) (stands-same is_local s p)
      ∙ ap (λ o. cond (stands is_local machine s p) (option_and_then (λ x. option_map (λ y. record { system = set_bare_process p y (unnamed without s); done = None }) (nameless.local_step x)) o) None) (from-one-map without s.processes p)
      ∙ by (stands is_local machine s p) (numbered_from_one p s.processes)
    where
      of-step : (o : Option P) → option_map (λ y. record { system = set_bare_process p y (unnamed without s); done = None }) (option_map without o) ≡ option_map (bare_moved without) (option_map (λ y. record { system = set_process p y s; done = None }) o)
      of-step None = refl
      of-step (Some y) = ap (λ v. Some (record { system = v; done = None })) (process-set p y s)

      by : (b : Bool) (o : Option P) → cond b (option_and_then (λ x. option_map (λ y. record { system = set_bare_process p y (unnamed without s); done = None }) (nameless.local_step x)) (option_map without o)) None
          ≡ option_map (bare_moved without) (cond b (option_and_then (λ x. option_map (λ y. record { system = set_process p y s; done = None }) (machine.local_step x)) o) None)
      by false o = refl
      by true None = refl
      by true (Some x) = ap (option_map (λ y. record { system = set_bare_process p y (unnamed without s); done = None })) (forgets.local_steps x) ∙ of-step (machine.local_step x)
  steps-forget (acts p place) s =
      ap (λ b. cond b (option_and_then (λ x. option_and_then (bare_act nameless p place (unnamed without s) x) (nameless.wanted x)) (numbered_from_one p (map without s.processes))) None) (stands-same is_acting s p)
      ∙ ap (λ o. cond (stands is_acting machine s p) (option_and_then (λ x. option_and_then (bare_act nameless p place (unnamed without s) x) (nameless.wanted x)) o) None) (from-one-map without s.processes p)
      ∙ by (stands is_acting machine s p) (numbered_from_one p s.processes)
    where
      of-want : (x : P) (o : Option (CellWant Name)) → option_and_then (bare_act nameless p place (unnamed without s) (without x)) (option_map (rename_want forget_name) o) ≡ option_map (bare_moved without) (option_and_then (act_at machine p place s x) o)
      of-want x None = refl
      of-want x (Some w) = act-same p place s x w

      by : (b : Bool) (o : Option P) → cond b (option_and_then (λ x. option_and_then (bare_act nameless p place (unnamed without s) x) (nameless.wanted x)) (option_map without o)) None
          ≡ option_map (bare_moved without) (cond b (option_and_then (λ x. option_and_then (act_at machine p place s x) (machine.wanted x)) o) None)
      by false o = refl
      by true None = refl
      by true (Some x) = ap (option_and_then (bare_act nameless p place (unnamed without s) (without x))) (forgets.wants x) ∙ of-want x (machine.wanted x)

  -- the same is kept
  open-same : (s : System P) (n : ℕ) → bare_open (unnamed without s) n ≡ is_open_port s n
  open-same s n = ap (λ o. any_pass (λ (p : Port (Cell ⊤)). p.is_open) (list_of (λ p. p ∷ []) o)) (slice_get-map (map_port (rename forget_name)) s.ports n) ∙ by (slice_get s.ports n)
    where
      by : (o : Option (Port (Cell Name))) → any_pass (λ (p : Port (Cell ⊤)). p.is_open) (list_of (λ p. p ∷ []) (option_map (map_port (rename forget_name)) o)) ≡ any_pass (λ (p : Port (Cell Name)). p.is_open) (list_of (λ p. p ∷ []) o)
      by None = refl
      by (Some p) = refl

  woken-same : (place : Place) (a : CellAction Name) (ws : List (Option ℕ)) → woken_by place (rename_action forget_name a) ws ≡ woken_by place a ws
  woken-same (port n) (put (Some number) m) ws = refl
  woken-same (reply_cell caller) (answer call r) ws = refl
  woken-same book (make_process code (Some made)) ws = refl
  woken-same place a ws = refl

  waiters-same : (place : Place) (a : CellAction Name) (ws : List (Option ℕ)) → waiters_behind place (rename_action forget_name a) ws ≡ waiters_behind place a ws
  waiters-same (port n) (put (Some number) m) ws = refl
  waiters-same (port n) (close count left) ws = refl
  waiters-same book (make_port (Some n)) ws = refl
  waiters-same book (make_process code (Some made)) ws = refl
  waiters-same place a ws = refl

  pub kept-forgets : KeptForgetsNames machine nameless without
  kept-forgets e t a k =
      ap (λ can. kept_by can (bare_awaited nameless (unnamed without t)) (bare_open (unnamed without t)) e (option_map (rename_action forget_name) a) k) (fun_ext (can_step-same t))
      ∙ ap (λ awaits. kept_by (can_step machine t) awaits (bare_open (unnamed without t)) e (option_map (rename_action forget_name) a) k) (fun_ext (awaited-forgets t))
      ∙ ap (λ opened. kept_by (can_step machine t) (awaited machine t) opened e (option_map (rename_action forget_name) a) k) (fun_ext (open-same t))
      ∙ by e a
    where
      by : (e : Event) (a : Option (CellAction Name)) → kept_by (can_step machine t) (awaited machine t) (is_open_port t) e (option_map (rename_action forget_name) a) k ≡ kept_by (can_step machine t) (awaited machine t) (is_open_port t) e a k
      by (steps p) None = refl
      by (steps p) (Some a) = refl
      by (acts p place) None = refl
      by (acts p place) (Some a) =
          ap (λ qs. all_looked_by (can_step machine t) (awaited machine t) (is_open_port t) (p ∷ qs) (record { ready = k.ready; waiters = waiters_behind place (rename_action forget_name a) k.waiters })) (woken-same place a k.waiters)
          ∙ ap (λ ws. all_looked_by (can_step machine t) (awaited machine t) (is_open_port t) (p ∷ woken_by place a k.waiters) (record { ready = k.ready; waiters = ws })) (waiters-same place a k.waiters)

  pub looked-forgets : (t : System P) (qs : List ℕ) (k : Kept)
      → all_looked_by (bare_can_step nameless (unnamed without t)) (bare_awaited nameless (unnamed without t)) (bare_open (unnamed without t)) qs k ≡ all_looked_by (can_step machine t) (awaited machine t) (is_open_port t) qs k
  looked-forgets t qs k =
      ap (λ can. all_looked_by can (bare_awaited nameless (unnamed without t)) (bare_open (unnamed without t)) qs k) (fun_ext (can_step-same t))
      ∙ ap (λ awaits. all_looked_by (can_step machine t) awaits (bare_open (unnamed without t)) qs k) (fun_ext (awaited-forgets t))
      ∙ ap (λ opened. all_looked_by (can_step machine t) (awaited machine t) opened qs k) (fun_ext (open-same t))
