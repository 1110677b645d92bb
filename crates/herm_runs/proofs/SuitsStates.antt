-- In a sound state what comes in with an event suits its process.
use Rattle.std.proofs.Common.{◌≡◌, ◌⊎◌, inl, inr, ℕ, zero, suc, ◌+◌, List, [], ◌∷◌, map, filter, flat_map, length, Bool, true, false, cond, Option, Some, None, option_and_then, refl, sym, ap, ◌∙◌, subst, arith}
use Rattle.std.proofs.lemmas.Bool.{eqb-true}
use Rattle.std.proofs.Math.Bool.{or-false}
use Rattle.std.specs.Prelude.{nat_eq, slice_get, IsTrue}
use mathlib.Core.Bool.{false≢true}
use Rattle.herm_model.specs.Lists.{IsIn, all_pass, any_pass, list_of, numbered}
use Rattle.herm_model.specs.Values.{Kind, an_inport, Cell, Name}
use Rattle.herm_model.proofs.Lists.{in-map, in-append_left, in-flat_map, or-either}
use Rattle.herm_model.proofs.FactTests.{numbered-IsIn}
use Rattle.herm_model.proofs.Options.{some-injective, none-not_some, map-some}
use Rattle.herm_journal.specs.Actions.{new_port, new_process, to_put, to_take, to_close, to_answer, to_hear, make_port, make_process, put, take, close, answer, hear}
use Rattle.herm_journal.specs.Ports.{Port, first_of, left_in}
use Rattle.herm_journal.specs.PlaceStates.{Replies, PlaceState, a_port, replies, a_book}
use Rattle.herm_journal.specs.Entries.{Place, port, reply_cell, book, same_place}
use Rattle.herm_journal.proofs.Rising.{same-true}
use Rattle.herm_journal.specs.Messages.{CellReply, CellWant, CellAction}
use Rattle.herm_system.specs.Systems.{System, numbered_from_one, holding_at, places_for, done_at, number_of}
use Rattle.herm_system.specs.Summary.{how_many}
use Rattle.herm_model.specs.WellMade.{is_well_made}
use Rattle.herm_system.specs.Machines.{OpenCall, Machine}
use Rattle.herm_system.specs.Suiting.{Suits}
use Rattle.herm_system.specs.Kinds.{typed_held, typed_replies, typed_process, typed_port, typed_cells, replies_of, open_number, has_open, is_callmessage_of, unfinalised}
use Rattle.herm_system.specs.Sound.{one_if, IsSoundWith}
use Rattle.herm_runs.specs.laws.SuitsLaws.{LooksAtHeld}
use Rattle.herm_runs.proofs.SuitsMessages.{messages-well_made}

-- the first element is in the list
first-in : {X : Type 0} (x : X) (xs : List X) → first_of xs ≡ Some x → IsIn x xs
first-in x [] e = none-not_some e
first-in x (y ∷ xs) e = inl (sym (some-injective e))

-- the message that an action takes, and the reply that it hears
abbrev taken_of : CellAction Name → Option (ℕ × Cell Name)
taken_of (take k m) = Some (k, m)
taken_of a = None

abbrev heard_of : CellAction Name → Option (ℕ × CellReply Name)
heard_of (hear k r) = Some (k, r)
heard_of a = None

-- a message is taken where a take is wanted, and is the first at a port
record TakenAt (w : CellWant Name) (h : PlaceState (Cell Name) (CellReply Name)) (k : ℕ) (m : Cell Name) : Type 0 where
  ports : List ℕ
  from : Port (Cell Name)
  wants : w ≡ to_take ports
  holds : h ≡ a_port from
  first : first_of from.queue ≡ Some (k, m)

does-take : (w : CellWant Name) (h : PlaceState (Cell Name) (CellReply Name)) (k : ℕ) (m : Cell Name) → done_at w h ≡ Some (take k m) → TakenAt w h k m
does-take (to_take ports) (a_port p) k m e =
    let x = map-some (λ (q : ℕ × Cell Name). take q.0 q.1) (first_of p.queue) (take k m) e in
    record { ports = ports; from = p; wants = refl; holds = refl; first = x.1 ∙ ap taken_of x.2 }
does-take to_hear (replies rs) k m e =
    let x = map-some (λ (q : ℕ × CellReply Name). hear q.0 q.1) (first_of rs) (take k m) e in none-not_some (ap taken_of x.2)
does-take new_port (a_book b) k m e = none-not_some (ap (option_and_then taken_of) e)
does-take (new_process code) (a_book b) k m e = none-not_some (ap (option_and_then taken_of) e)
does-take (to_put n x) (a_port p) k m e = none-not_some (ap (option_and_then taken_of) e)
does-take (to_close n) (a_port p) k m e = none-not_some (ap (option_and_then taken_of) e)
does-take (to_answer caller call x) (replies rs) k m e = none-not_some (ap (option_and_then taken_of) e)
does-take w h k m e = none-not_some e

-- a reply is heard where a hearing is wanted, and is the first in a reply cell
record HeardAt (w : CellWant Name) (h : PlaceState (Cell Name) (CellReply Name)) (k : ℕ) (r : CellReply Name) : Type 0 where
  all : Replies (CellReply Name)
  wants : w ≡ to_hear
  holds : h ≡ replies all
  first : first_of all ≡ Some (k, r)

does-hear : (w : CellWant Name) (h : PlaceState (Cell Name) (CellReply Name)) (k : ℕ) (r : CellReply Name) → done_at w h ≡ Some (hear k r) → HeardAt w h k r
does-hear (to_take ports) (a_port p) k r e =
    let x = map-some (λ (q : ℕ × Cell Name). take q.0 q.1) (first_of p.queue) (hear k r) e in none-not_some (ap heard_of x.2)
does-hear to_hear (replies rs) k r e =
    let x = map-some (λ (q : ℕ × CellReply Name). hear q.0 q.1) (first_of rs) (hear k r) e in
    record { all = rs; wants = refl; holds = refl; first = x.1 ∙ ap heard_of x.2 }
does-hear new_port (a_book b) k r e = none-not_some (ap (option_and_then heard_of) e)
does-hear (new_process code) (a_book b) k r e = none-not_some (ap (option_and_then heard_of) e)
does-hear (to_put n x) (a_port p) k r e = none-not_some (ap (option_and_then heard_of) e)
does-hear (to_close n) (a_port p) k r e = none-not_some (ap (option_and_then heard_of) e)
does-hear (to_answer caller call x) (replies rs) k r e = none-not_some (ap (option_and_then heard_of) e)
does-hear w h k r e = none-not_some e

-- what is left with a close is what the port there has
abbrev left_of : CellAction Name → Option (List (Cell Name))
left_of (close count left) = Some left
left_of a = None

record ClosedAt (h : PlaceState (Cell Name) (CellReply Name)) (left : List (Cell Name)) : Type 0 where
  from : Port (Cell Name)
  holds : h ≡ a_port from
  all : left_in from ≡ left

does-close : (w : CellWant Name) (h : PlaceState (Cell Name) (CellReply Name)) (count : ℕ) (left : List (Cell Name)) → done_at w h ≡ Some (close count left) → ClosedAt h left
does-close (to_take ports) (a_port p) count left e =
    let x = map-some (λ (q : ℕ × Cell Name). take q.0 q.1) (first_of p.queue) (close count left) e in none-not_some (ap left_of x.2)
does-close to_hear (replies rs) count left e =
    let x = map-some (λ (q : ℕ × CellReply Name). hear q.0 q.1) (first_of rs) (close count left) e in none-not_some (ap left_of x.2)
does-close new_port (a_book b) count left e = none-not_some (ap (option_and_then left_of) e)
does-close (new_process code) (a_book b) count left e = none-not_some (ap (option_and_then left_of) e)
does-close (to_put n x) (a_port p) count left e = none-not_some (ap (option_and_then left_of) e)
does-close (to_close n) (a_port p) count left e = record { from = p; holds = refl; all = some-injective (ap (option_and_then left_of) e) }
does-close (to_answer caller call x) (replies rs) count left e = none-not_some (ap (option_and_then left_of) e)
does-close w h count left e = none-not_some e

-- an element is there where a list of the same length has one
there-too : {X Y : Type 0} (xs : List X) (ys : List Y) (n : ℕ) (y : Y) → length xs ≡ length ys → slice_get ys n ≡ Some y → (x : X) × (slice_get xs n ≡ Some x)
there-too xs [] n y same e = none-not_some e
there-too [] (z ∷ ys) n y same e = let no : ⊥ = omega (arith, same) in absurd no
there-too (x ∷ xs) (z ∷ ys) zero y same e = (x, refl)
there-too (x ∷ xs) (z ∷ ys) (suc n) y same e = there-too xs ys n y (let p : length xs ≡ length ys = omega (arith, same) in p) e

-- the port, and the replies, that are at a place
abbrev port_of : PlaceState (Cell Name) (CellReply Name) → Option (Port (Cell Name))
port_of (a_port p) = Some p
port_of h = None

abbrev replies_at : PlaceState (Cell Name) (CellReply Name) → Option (Replies (CellReply Name))
replies_at (replies rs) = Some rs
replies_at h = None

-- a place among ports is one of them
among-ports : (n : ℕ) (ports : List ℕ) → any_pass (same_place (port n)) (map port ports) ≡ true → IsIn n ports
among-ports n [] e = absurd (false≢true e)
among-ports n (k ∷ ports) e = by_place (or-either (nat_eq n k) (any_pass (same_place (port n)) (map port ports)) e) (among-ports n ports)
  where
    by_place : (nat_eq n k ≡ true) ⊎ (any_pass (same_place (port n)) (map port ports) ≡ true) → (any_pass (same_place (port n)) (map port ports) ≡ true → IsIn n ports) → IsIn n (k ∷ ports)
    by_place (inl same) later = inl (eqb-true n k same)
    by_place (inr more) later = inr (later more)

-- a count of what is there is not zero
counted : {X : Type 0} (test : X → Bool) (x : X) (xs : List X) → IsIn x xs → test x ≡ true → (n : ℕ) × (how_many test xs ≡ suc n)
counted test x [] h e = absurd h
counted test x (y ∷ xs) (inl is) e = (how_many test xs, ap (λ b. length (cond b (y ∷ filter test xs) (filter test xs))) (subst (λ z. test z ≡ true) is e))
counted {X} test x (y ∷ xs) (inr is) e = by_test (test y) (counted test x xs is e)
  where
    by_test : (b : Bool) → (n : ℕ) × (how_many test xs ≡ suc n) → (n : ℕ) × (length (cond b (y ∷ filter test xs) (filter test xs)) ≡ suc n)
    by_test true h = (how_many test xs, refl)
    by_test false h = h

only-open : (m n k : ℕ) (b : Bool) → k ≡ suc n → m + k ≡ one_if b → b ≡ true
only-open m n k true is e = refl
only-open m n k false is e = let no : ⊥ = omega (arith, is, e) in absurd no

-- what a process has is among the typed cells of the system
numbered-process : {X : Type 0} (p : ℕ) (xs : List X) (x : X) → numbered_from_one p xs ≡ Some x → IsIn (p, x) (numbered 1 xs)
numbered-process zero xs x e = none-not_some e
numbered-process {X} (suc i) xs x e = let p : 1 + i ≡ suc i = omega arith in subst (λ n. IsIn {X = ℕ × X} (n, x) (numbered 1 xs)) p (numbered-IsIn xs 1 i x e)

-- the number of an open call
pub is-some_of : (n : ℕ) (o : Option ℕ) → any_pass (nat_eq n) (list_of (λ k. k ∷ []) o) ≡ true → o ≡ Some n
is-some_of n None e = absurd (false≢true e)
is-some_of n (Some k) e = ap (λ i. Some i) (sym (eqb-true n k (sym (or-false (nat_eq n k)) ∙ e)))

module _ {P : Type 0} (machine : Machine Name P) (s : System P) (p : ℕ) (x : P) (is : numbered_from_one p s.processes ≡ Some x) where
  in-process : (types : List ℕ) (k : ℕ × Kind) → IsIn k (flat_map (typed_held machine.types) (machine.held x)) → IsIn k (typed_cells machine types s)
  in-process types k h =
      let mine : IsIn k (typed_process machine s (p, x)) = in-append_left k (flat_map (typed_held machine.types) (machine.held x)) (typed_replies machine.types (machine.open_call x) (replies_of s p)) h in
      in-append_left k (flat_map (typed_process machine s) (numbered 1 s.processes)) (flat_map (typed_port machine.types types) (numbered 0 s.ports))
      (in-flat_map (typed_process machine s) (p, x) k (numbered 1 s.processes) (numbered-process p s.processes x is) mine)

  module _ (IsSoundWithin : P → Type 0) (looks : LooksAtHeld machine IsSoundWithin) (types : List ℕ) (sound : IsSoundWith machine IsSoundWithin types s) where
    -- a message that is taken at a port
    take-suits : (ports : List ℕ) (n : ℕ) (q : Port (Cell Name)) (k : ℕ) (m : Cell Name) → machine.wanted x ≡ Some (to_take ports) → IsIn n ports → slice_get s.ports n ≡ Some q
        → first_of q.queue ≡ Some (k, m) → Suits machine x n (take k m)
    take-suits ports n q k m wants member at first =
        let t = looks x ports n (sound.processes p x is) wants member in
        let type = sound.ports.inports_stand t.0 n (in-process types (t.0, an_inport n) t.2) in
        (t.0, t.1, sound.messages n t.0 q m type at (in-map (λ (x : ℕ × Cell Name). x.1) (k, m) q.queue (first-in (k, m) q.queue first)))

    -- a reply that is heard
    open-call : (k : ℕ) → has_open machine s p k ≡ true → open_number machine x ≡ Some k
    open-call k e =
        let here : any_pass (λ x. any_pass (nat_eq k) (list_of (λ call. call ∷ []) (open_number machine x))) (x ∷ []) ≡ true
        = sym (ap (λ o. any_pass (λ x. any_pass (nat_eq k) (list_of (λ call. call ∷ []) (open_number machine x))) (list_of (λ x. x ∷ []) o)) is) ∙ e in
        is-some_of k (open_number machine x) (sym (or-false _) ∙ here)

    hear-suits : (rs : Replies (CellReply Name)) (at k : ℕ) (r : CellReply Name) → numbered_from_one p s.replies ≡ Some rs → first_of rs ≡ Some (k, r) → Suits machine x at (hear k r)
    hear-suits rs at k r there first =
        let all : replies_of s p ≡ rs = ap (list_of (λ rs. rs)) there in
        let member : IsIn (k, r) (replies_of s p) = subst (IsIn (k, r)) (sym all) (first-in (k, r) rs first) in
        let some = counted (λ (x : ℕ × CellReply Name). nat_eq x.0 k) (k, r) (replies_of s p) member (same-true k) in
        let number = open-call k (only-open (how_many (is_callmessage_of p k) (unfinalised machine s)) some.0 (how_many (λ (x : ℕ × CellReply Name). nat_eq x.0 k) (replies_of s p)) (has_open machine s p k) some.1 (sound.calls.answers p k)) in
        let call = map-some (λ (call : OpenCall). call.number) (machine.open_call x) k number in
        (call.0, call.1, call.2, sound.replies p x call.0 (k, r) is call.1 member)

    take-at : (place : Place) (ports : List ℕ) (q : Port (Cell Name)) (k : ℕ) (m : Cell Name) → machine.wanted x ≡ Some (to_take ports) → any_pass (same_place place) (map port ports) ≡ true
        → holding_at place s ≡ Some (a_port q) → first_of q.queue ≡ Some (k, m) → Suits machine x (number_of place) (take k m)
    take-at (port n) ports q k m wants among at first =
        let x = map-some a_port (slice_get s.ports n) (a_port q) at in
        take-suits ports n q k m wants (among-ports n ports among) (x.1 ∙ ap port_of x.2) first
    take-at (reply_cell r) ports q k m wants among at first = let x = map-some replies (numbered_from_one r s.replies) (a_port q) at in none-not_some (ap port_of x.2)
    take-at book ports q k m wants among at first = none-not_some (ap (option_and_then port_of) at)

    hear-at : (place : Place) (rs : Replies (CellReply Name)) (k : ℕ) (r : CellReply Name) → any_pass (same_place place) (reply_cell p ∷ []) ≡ true → holding_at place s ≡ Some (replies rs) → first_of rs ≡ Some (k, r)
        → Suits machine x (number_of place) (hear k r)
    hear-at (port n) rs k r among at first = absurd (false≢true among)
    hear-at book rs k r among at first = absurd (false≢true among)
    hear-at (reply_cell q) rs k r among at first =
        let x = map-some replies (numbered_from_one q s.replies) (replies rs) at in
        let own : q ≡ p = eqb-true q p (sym (or-false (nat_eq q p)) ∙ among) in
        hear-suits rs q k r (sym (ap (λ i. numbered_from_one i s.replies) own) ∙ x.1 ∙ ap replies_at x.2) first

    -- what is left with a close
    close-suits : (n : ℕ) (q : Port (Cell Name)) → slice_get s.ports n ≡ Some q → IsTrue (all_pass is_well_made (left_in q))
    close-suits n q at =
        let t = there-too types s.ports n q sound.ports.types at in
        messages-well_made machine.types t.0 (left_in q) (λ m member. sound.messages n t.0 q m t.1 at member)

    close-at : (place : Place) (q : Port (Cell Name)) → holding_at place s ≡ Some (a_port q) → IsTrue (all_pass is_well_made (left_in q))
    close-at (port n) q at = let x = map-some a_port (slice_get s.ports n) (a_port q) at in close-suits n q (x.1 ∙ ap port_of x.2)
    close-at (reply_cell r) q at = let x = map-some replies (numbered_from_one r s.replies) (a_port q) at in none-not_some (ap port_of x.2)
    close-at book q at = none-not_some (ap (option_and_then port_of) at)

    pub done-suits : (place : Place) (w : CellWant Name) (h : PlaceState (Cell Name) (CellReply Name)) (a : CellAction Name) → machine.wanted x ≡ Some w → any_pass (same_place place) (places_for p w) ≡ true
        → holding_at place s ≡ Some h → done_at w h ≡ Some a → Suits machine x (number_of place) a
    done-suits place w h (take k m) wants among at e =
        let x = does-take w h k m e in
        take-at place x.ports x.from k m (wants ∙ ap (λ v. Some v) x.wants) (sym (ap (λ v. any_pass (same_place place) (places_for p v)) x.wants) ∙ among) (at ∙ ap (λ v. Some v) x.holds) x.first
    done-suits place w h (hear k r) wants among at e =
        let x = does-hear w h k r e in
        hear-at place x.all k r (sym (ap (λ v. any_pass (same_place place) (places_for p v)) x.wants) ∙ among) (at ∙ ap (λ v. Some v) x.holds) x.first
    done-suits place w h (make_port made) wants among at e = tt
    done-suits place w h (make_process code made) wants among at e = tt
    done-suits place w h (put number m) wants among at e = tt
    done-suits place w h (close count left) wants among at e =
        let x = does-close w h count left e in
        subst (λ ms. IsTrue (all_pass is_well_made ms)) x.all (close-at place x.from (at ∙ ap (λ v. Some v) x.holds))
    done-suits place w h (answer call r) wants among at e = tt
