-- Answers and hearings are what is wanted, and what they leave.
use Rattle.std.proofs.Common.{◌≡◌, ℕ, zero, suc, max, List, [], ◌∷◌, ◌++◌, map, true, false, Option, Some, None, option_map, inl, inr, refl, sym, ap, subst, ◌∙◌, nat_eq, arith}
use Rattle.std.proofs.lemmas.Bool.Decides.{nat_tests}
use Rattle.std.specs.Prelude.{◌⊎◌, ⊤}
use Rattle.herm_model.proofs.Options.{map-some, none-not_some, some-injective}
use Rattle.herm_model.specs.Values.{Cell}
use Rattle.herm_journal.specs.Actions.{to_answer, to_hear, answer, hear}
use Rattle.herm_journal.specs.Entries.{Place, port, reply_cell, book, map_reply, texts_of, recorded}
use Rattle.herm_journal.specs.Messages.{CellReply, CellWant, CellAction}
use Rattle.herm_journal.specs.PlaceStates.{PlaceState, replies, after}
use Rattle.herm_journal.specs.Ports.{first_of}
use Rattle.herm_system.specs.Systems.{places_for, done_at, numbered_from_one, set_from_one}
use Rattle.herm_code_machine.specs.CodeStates.{CodeState}
use Rattle.herm_waking.specs.Unnamed.{Unnamed, bare_at, set_bare}
use Rattle.herm_waking.specs.Waking.{woken_by, waiters_behind}
use Rattle.herm_events.specs.View.{reply_trace_view}
use Rattle.herm_events.specs.declared.entry.ReplyTrace.{ReplyTrace}
use Rattle.herm_letters.specs.Letters.{IsWholeReply}
use Rattle.herm_letters.specs.View.{reply_view}
use Rattle.herm_letters.specs.declared.reply.Reply.{Reply}
use Rattle.herm_queue.specs.CellStates as queue
use Rattle.herm_queue.specs.CellStates.{CellState, IsActed}
use Rattle.herm_queue.specs.ReplyStates.{ReplyState, reply_cell_of}
use Rattle.herm_queue.specs.SeenCells.{seen, seen_action}
use Rattle.herm_machine.specs.Gots.{FitsWant, IsWholeGot}
use Rattle.herm_machine.specs.declared.order.Got.{Got}
use Rattle.herm_machine.specs.declared.order.Got.TheVariants as gots
use Rattle.herm_process.specs.Entries.{action_of, place_of}
use Rattle.herm_world.specs.Counted.{ReplyActs}
use Rattle.herm_world.specs.Doing.{Does, with_places, AreRecorded}
use Rattle.herm_world.specs.Places.{Places, replies_seen, seen_of, cell_at, waiters_of}
use Rattle.herm_world.proofs.CellsGrow.{IsBehind, acted, stays, cells-grow}
use Rattle.herm_world.proofs.DoesAtPorts.{first-single}
use Rattle.herm_world.proofs.ListCases.{next-same, set-cases, set-none}
use Rattle.herm_world.proofs.PlacesSeen.{number-set-map, holds-seen}
use Rattle.herm_world.proofs.Recording.{actions-lead}

option-none : {X Y : Type 0} (f : X → Y) (o : Option X) → option_map f o ≡ None → o ≡ None
option-none f None e = refl
option-none f (Some x) e = none-not_some (sym e)

-- by number from 1 on
pub number-cases : {X : Type 0} (xs : List X) (p q : ℕ) (y z : X) → numbered_from_one q (set_from_one p y xs) ≡ Some z → ((nat_eq p q ≡ true) × (y ≡ z)) ⊎ ((nat_eq p q ≡ false) × (numbered_from_one q xs ≡ Some z))
number-cases xs p zero y z e = none-not_some e
number-cases xs zero (suc q) y z e = inr (grind (arith, nat_tests), e)
number-cases xs (suc p) (suc q) y z e = elim (set-cases xs p q y z e) [ inl h ↦ inl (next-same p q true h.0, h.1) | inr h ↦ inr (next-same p q false h.0, h.1) ]

pub number-none : {X : Type 0} (xs : List X) (p q : ℕ) (y : X) → numbered_from_one q (set_from_one p y xs) ≡ None → numbered_from_one q xs ≡ None
number-none xs p zero y e = refl
number-none xs zero (suc q) y e = e
number-none xs (suc p) (suc q) y e = set-none xs p q y e

module _ (process clock owner : ℕ) (a : queue.CellAction) (old : Places) (s behind : ReplyState) (there : numbered_from_one owner old.replies ≡ Some s) (acts : ReplyActs process clock a s behind) where
  abbrev pub replies_then : Places
  replies_then = record old { replies = set_from_one owner behind old.replies }

  held : replies (replies_seen behind) ≡ after (seen_action a) (seen (replies s.waiting))
  held = ap seen (ap (λ (c : CellState). c.holding) acts.acted.after) ∙ actions-lead (replies s.waiting) a

  reply-left : (qs : List (CodeState ⊤)) → set_bare (reply_cell owner) (after (seen_action a) (seen (replies s.waiting))) (seen_of qs old) ≡ seen_of qs replies_then
  reply-left qs =
      ap (λ (h : PlaceState (Cell ⊤) (CellReply ⊤)). set_bare (reply_cell owner) h (seen_of qs old)) (sym held)
      ∙ ap (λ rs. record (seen_of qs old) { replies = rs }) (sym (number-set-map replies_seen old.replies owner behind))

  found-there : cell_at (reply_cell owner) old ≡ Some (reply_cell_of s)
  found-there = ap (option_map reply_cell_of) there

  behind-replies : (other : Place) (c : CellState) → cell_at other replies_then ≡ Some c → IsBehind process clock (reply_cell owner) (reply_cell_of s) a old other c
  behind-replies (reply_cell q) c e =
      let found = map-some reply_cell_of (numbered_from_one q (set_from_one owner behind old.replies)) c e in
      elim (number-cases old.replies owner q behind found.0 found.1) [
        | inl h ↦ acted acts.spare h.0 (subst (IsActed process clock a (record (reply_cell_of s) { spare = acts.spare })) (ap reply_cell_of h.1 ∙ found.2) acts.acted)
        | inr h ↦ stays h.0 (ap (option_map reply_cell_of) h.1 ∙ ap (λ c. Some c) found.2)
      ]
  behind-replies (port n) c e = stays refl e
  behind-replies book c e = stays refl e

  absent-replies : (other : Place) → cell_at other replies_then ≡ None → cell_at other old ≡ None
  absent-replies (reply_cell q) e = ap (option_map reply_cell_of) (number-none old.replies owner q behind (option-none reply_cell_of (numbered_from_one q (set_from_one owner behind old.replies)) e))
  absent-replies (port n) e = e
  absent-replies book e = none-not_some (sym e)

  held-there : (qs : List (CodeState ⊤)) → bare_at (reply_cell owner) (seen_of qs old) ≡ Some (seen (replies s.waiting))
  held-there qs = holds-seen qs old (reply_cell owner) ∙ ap (option_map (λ (c : CellState). seen c.holding)) found-there

  clock-then : behind.clock ≡ suc (max clock s.clock)
  clock-then = ap (λ (c : CellState). c.clock) acts.acted.after

  does-there : (want : CellWant ⊤) (got : Got) (stamp : ℕ) (woken : List ℕ) → places_for process want ≡ reply_cell owner ∷ []
      → done_at want (seen (replies s.waiting)) ≡ Some (seen_action a) → action_of got want ≡ Some (seen_action a) → place_of process got want ≡ reply_cell owner → FitsWant got want → IsWholeGot got → stamp ≡ behind.clock
      → ((v : Unnamed (CodeState ⊤)) → with_places (seen_action a) v ≡ v)
      → waiters_of old ≡ waiters_behind (reply_cell owner) (seen_action a) (waiters_of old)
      → woken ≡ woken_by (reply_cell owner) (seen_action a) (waiters_of old)
      → Does process clock want old replies_then got stamp woken
  does-there want got stamp woken single does tells at fits whole stamped makes noted_ok wakes = record {
    place = reply_cell owner;
    cell = reply_cell_of s;
    there = found-there;
    action = a;
    first = λ qs. first-single (seen_of qs old) process want (reply_cell owner) (seen (replies s.waiting)) (seen_action a) single (held-there qs) does;
    does = does;
    tells = tells;
    at = at;
    fits = fits;
    whole = whole;
    stamped = stamped ∙ clock-then;
    left = λ qs. makes _ ∙ reply-left qs;
    noted = noted_ok;
    wakes = wakes;
    records = λ journal are.
        subst (λ stamp. AreRecorded (journal ++ record { stamp = stamp; process = process; place = reply_cell owner; action = recorded (seen_action a) } ∷ []) replies_then) (sym (stamped ∙ clock-then))
        (cells-grow process clock (reply_cell owner) (reply_cell_of s) a old replies_then found-there behind-replies absent-replies journal are);
  }

module _ (process clock owner : ℕ) (old : Places) (s behind : ReplyState) (there : numbered_from_one owner old.replies ≡ Some s) where
  pub answer-does : (call : ℕ) (reply : Reply) (stamp : ℕ) (acts : ReplyActs process clock (answer call reply) s behind) → stamp ≡ behind.clock
      → Does process clock (to_answer owner call (reply_view reply)) old (record old { replies = set_from_one owner behind old.replies }) gots.Answered stamp (owner ∷ [])
  answer-does call reply stamp acts stamped =
      does-there process clock owner (answer call reply) old s behind there acts (to_answer owner call (reply_view reply)) gots.Answered stamp (owner ∷ []) refl refl refl refl tt tt stamped (λ v. refl) refl refl

abbrev hear_cells : ℕ → CellReply ⊤ → CellAction ⊤
hear_cells call r = hear call r

module _ (process clock : ℕ) (old : Places) (s behind : ReplyState) (there : numbered_from_one process old.replies ≡ Some s) where
  pub hear-does : (call : ℕ) (reply : Reply) (trace : ReplyTrace) (stamp : ℕ) (acts : ReplyActs process clock (hear call reply) s behind) → stamp ≡ behind.clock → IsWholeReply reply
      → reply_trace_view trace ≡ map_reply texts_of (reply_view reply)
      → Does process clock to_hear old (record old { replies = set_from_one process behind old.replies }) (gots.Heard call reply trace) stamp []
  hear-does call reply trace stamp acts stamped whole told =
      does-there process clock process (hear call reply) old s behind there acts to_hear (gots.Heard call reply trace) stamp [] refl (heard s.waiting acts.acted.enabled) refl refl told whole stamped (λ v. refl) refl refl
    where
      heard : (waiting : List (ℕ × Reply)) → first_of waiting ≡ Some (call, reply)
          → option_map (λ (r : ℕ × CellReply ⊤). hear_cells r.0 r.1) (first_of (map {B = ℕ × CellReply ⊤} (λ (r : ℕ × Reply). (r.0, reply_view r.1)) waiting)) ≡ Some (hear_cells call (reply_view reply))
      heard [] e = none-not_some e
      heard (r ∷ rs) e = ap (λ (r : ℕ × Reply). Some (hear_cells r.0 (reply_view r.1))) (some-injective e)
