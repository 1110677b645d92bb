-- Whether what is wanted can be done, by what is told of it.
use Rattle.std.proofs.lemmas.Bool.{cases_lt}
use Rattle.std.proofs.Common.{◌≡◌, ℕ, zero, suc, ◌+◌, ◌<◌, List, [], ◌∷◌, length, map, find, is_some, Bool, true, false, cond, ◌||◌, Option, Some, None, option_map, option_and_then, refl, sym, ap, ◌∙◌, arith, inl, inr}
use Rattle.std.specs.Prelude.{slice_get, ⊤}
use Rattle.herm_model.proofs.Options.{none-not_some, some-injective}
use Rattle.herm_model.specs.Lists.{any_pass, list_of}
use Rattle.herm_model.specs.Values.{Cell}
use Rattle.herm_journal.specs.Actions.{new_port, new_process, to_put, to_take, to_close, to_answer, to_hear, take, hear}
use Rattle.herm_journal.specs.Entries.{Place, port, reply_cell}
use Rattle.herm_journal.specs.Messages.{CellReply, CellWant, CellAction}
use Rattle.herm_journal.specs.PlaceStates.{a_port, replies}
use Rattle.herm_journal.specs.Ports.{first_of}
use Rattle.herm_system.specs.Systems.{done_at, numbered_from_one}
use Rattle.herm_exchanges.specs.Told.{Told, a_take, told}
use Rattle.herm_code_machine.specs.CodeStates.{CodeState}
use Rattle.herm_waking.specs.Unnamed.{Unnamed, bare_at, bare_can}
use Rattle.herm_letters.specs.View.{reply_view}
use Rattle.herm_letters.specs.declared.reply.Reply.{Reply}
use Rattle.herm_values.specs.View.{value_view}
use Rattle.herm_values.specs.declared.value.Value.{Value}
use Rattle.herm_queue.specs.PortStates.{PortState}
use Rattle.herm_queue.specs.ReplyStates.{ReplyState}
use Rattle.herm_exchanges.specs.declared.wants.PortList.{PortList}
use Rattle.herm_exchanges.specs.declared.wants.Want.TheVariants as wants
use Rattle.herm_world.specs.Looks.{can_as, IsToldWant, Takes}
use Rattle.herm_world.specs.Places.{Places, port_seen, replies_seen, seen_of, holds_some, has_port, has_replies, is_filled, is_answered}
use Rattle.herm_world.proofs.PlacesSeen.{get-map, number-map}

abbrev put_of : ℕ → Cell ⊤ → CellWant ⊤
put_of n m = to_put n m

abbrev close_of : ℕ → CellWant ⊤
close_of n = to_close n

abbrev answer_of : ℕ → ℕ → CellReply ⊤ → CellWant ⊤
answer_of caller call r = to_answer caller call r

abbrev take_of : List ℕ → CellWant ⊤
take_of ports = to_take ports

abbrev hear_of : CellWant ⊤
hear_of = to_hear

abbrev as_take : ℕ → Cell ⊤ → CellAction ⊤
as_take number m = take number m

abbrev as_hear : ℕ → CellReply ⊤ → CellAction ⊤
as_hear call r = hear call r

or-false : (b : Bool) → (b || false) ≡ b
or-false true = refl
or-false false = refl

module _ (qs : List (CodeState ⊤)) (s : Places) (p : ℕ) where
  abbrev v : Unnamed (CodeState ⊤)
  v = seen_of qs s

  abbrev can_at : CellWant ⊤ → Place → Bool
  can_at w place = is_some (option_and_then (done_at w) (bare_at place v))

  put-at : (n : ℕ) (m : Cell ⊤) → can_at (to_put n m) (port n) ≡ has_port s n
  put-at n m = ap (λ o. is_some (option_and_then (done_at (put_of n m)) (option_map a_port o))) (get-map port_seen s.ports n) ∙ by (slice_get s.ports n)
    where
      by : (o : Option PortState) → is_some (option_and_then (done_at (put_of n m)) (option_map a_port (option_map port_seen o))) ≡ is_some o
      by None = refl
      by (Some x) = refl

  close-at : (n : ℕ) → can_at (to_close n) (port n) ≡ has_port s n
  close-at n = ap (λ o. is_some (option_and_then (done_at (close_of n)) (option_map a_port o))) (get-map port_seen s.ports n) ∙ by (slice_get s.ports n)
    where
      by : (o : Option PortState) → is_some (option_and_then (done_at (close_of n)) (option_map a_port (option_map port_seen o))) ≡ is_some o
      by None = refl
      by (Some x) = refl

  answer-at : (caller call : ℕ) (r : CellReply ⊤) → can_at (to_answer caller call r) (reply_cell caller) ≡ has_replies s caller
  answer-at caller call r = ap (λ o. is_some (option_and_then (done_at (answer_of caller call r)) (option_map replies o))) (number-map replies_seen s.replies caller) ∙ by (numbered_from_one caller s.replies)
    where
      by : (o : Option ReplyState) → is_some (option_and_then (done_at (answer_of caller call r)) (option_map replies (option_map replies_seen o))) ≡ is_some o
      by None = refl
      by (Some x) = refl

  pub take-at : (ports : List ℕ) (n : ℕ) → can_at (to_take ports) (port n) ≡ is_filled s n
  take-at ports n = ap (λ o. is_some (option_and_then (done_at (take_of ports)) (option_map a_port o))) (get-map port_seen s.ports n) ∙ by (slice_get s.ports n)
    where
      of-queue : (queue : List (ℕ × Value)) → is_some (option_map (λ (q : ℕ × Cell ⊤). as_take q.0 q.1) (first_of (map {B = ℕ × Cell ⊤} (λ (q : ℕ × Value). (q.0, value_view q.1)) queue))) ≡ (holds_some queue || false)
      of-queue [] = refl
      of-queue (q ∷ queue) = refl

      by : (o : Option PortState) → is_some (option_and_then (done_at (take_of ports)) (option_map a_port (option_map port_seen o))) ≡ any_pass (λ (p : PortState). holds_some p.held.queue) (list_of (λ p. p ∷ []) o)
      by None = refl
      by (Some x) = of-queue x.held.queue

  hear-at : can_at to_hear (reply_cell p) ≡ is_answered s p
  hear-at = ap (λ o. is_some (option_and_then (done_at hear_of) (option_map replies o))) (number-map replies_seen s.replies p) ∙ by (numbered_from_one p s.replies)
    where
      of-replies : (rs : List (ℕ × Reply)) → is_some (option_map (λ (r : ℕ × CellReply ⊤). as_hear r.0 r.1) (first_of (map {B = ℕ × CellReply ⊤} (λ (r : ℕ × Reply). (r.0, reply_view r.1)) rs))) ≡ (holds_some rs || false)
      of-replies [] = refl
      of-replies (r ∷ rs) = refl

      by : (o : Option ReplyState) → is_some (option_and_then (done_at hear_of) (option_map replies (option_map replies_seen o))) ≡ any_pass (λ (r : ReplyState). holds_some r.waiting) (list_of (λ r. r ∷ []) o)
      by None = refl
      by (Some x) = of-replies x.waiting

  pub take-any : (whole ports : List ℕ) → any_pass (can_at (to_take whole)) (map port ports) ≡ is_some (find (is_filled s) ports)
  take-any whole [] = refl
  take-any whole (n ∷ ports) = ap (λ b. b || any_pass (can_at (to_take whole)) (map port ports)) (take-at whole n) ∙ by (is_filled s n) (take-any whole ports)
    where
      by : (b : Bool) → any_pass (can_at (to_take whole)) (map port ports) ≡ is_some (find (is_filled s) ports) → (b || any_pass (can_at (to_take whole)) (map port ports)) ≡ is_some (cond b (Some n) (find (is_filled s) ports))
      by true rest = refl
      by false rest = rest

  -- the first port that has a message is the first place
  pub first-taken : (whole ports : List ℕ) (n : ℕ) → find (is_filled s) ports ≡ Some n → find (can_at (to_take whole)) (map port ports) ≡ Some (port n)
  first-taken whole [] n e = none-not_some e
  first-taken whole (m ∷ ports) n e = ap (λ b. cond b (Some (port m)) (find (can_at (to_take whole)) (map port ports))) (take-at whole m) ∙ by (is_filled s m) e (first-taken whole ports n)
    where
      by : (b : Bool) → cond b (Some m) (find (is_filled s) ports) ≡ Some n → (find (is_filled s) ports ≡ Some n → find (can_at (to_take whole)) (map port ports) ≡ Some (port n)) → cond b (Some (port m)) (find (can_at (to_take whole)) (map port ports)) ≡ Some (port n)
      by true e rest = ap (λ m. Some (port m)) (some-injective e)
      by false e rest = rest e

  pub can-told : (w : CellWant ⊤) (t : Told) (filled : Bool) → told w ≡ Some t → ((ports : List ℕ) → w ≡ to_take ports → filled ≡ is_some (find (is_filled s) ports)) → can_as s p filled t ≡ bare_can v p w
  can-told new_port t filled e takes = ap (can_as s p filled) (sym (some-injective e))
  can-told (new_process code) t filled e takes = ap (can_as s p filled) (sym (some-injective e))
  can-told (to_put n m) t filled e takes = ap (can_as s p filled) (sym (some-injective e)) ∙ sym (or-false (can_at (to_put n m) (port n)) ∙ put-at n m)
  can-told (to_take []) t filled e takes = none-not_some e
  can-told (to_take (n ∷ ports)) t filled e takes = ap (can_as s p filled) (sym (some-injective e)) ∙ takes (n ∷ ports) refl ∙ sym (take-any (n ∷ ports) (n ∷ ports))
  can-told (to_close n) t filled e takes = ap (can_as s p filled) (sym (some-injective e)) ∙ sym (or-false (can_at (to_close n) (port n)) ∙ close-at n)
  can-told (to_answer caller call r) t filled e takes = ap (can_as s p filled) (sym (some-injective e)) ∙ sym (or-false (can_at (to_answer caller call r) (reply_cell caller)) ∙ answer-at caller call r)
  can-told to_hear t filled e takes = ap (can_as s p filled) (sym (some-injective e)) ∙ sym (or-false (can_at to_hear (reply_cell p)) ∙ hear-at)

  pub can-by-told : (w : CellWant ⊤) (t : Told) → told w ≡ Some t → can_as s p (bare_can v p w) t ≡ bare_can v p w
  can-by-told w t e = can-told w t (bare_can v p w) e (λ ports is. ap (bare_can v p) is ∙ take-any ports ports)

-- what is told of a want to take
abbrev count_of : Told → Option ℕ
count_of (a_take first count) = Some count
count_of t = None

abbrev first_told : Told → Option ℕ
first_told (a_take first count) = Some first
first_told t = None

pub take-told : (w : CellWant ⊤) (first count : ℕ) → told w ≡ Some (a_take first count) → (ports : List ℕ) × (w ≡ to_take ports) × (length ports ≡ count)
take-told new_port first count e = none-not_some (ap (option_and_then count_of) e)
take-told (new_process code) first count e = none-not_some (ap (option_and_then count_of) e)
take-told (to_put n m) first count e = none-not_some (ap (option_and_then count_of) e)
take-told (to_take []) first count e = none-not_some e
take-told (to_take (n ∷ ports)) first count e = (n ∷ ports, refl, some-injective (ap (option_and_then count_of) e))
take-told (to_close n) first count e = none-not_some (ap (option_and_then count_of) e)
take-told (to_answer caller call r) first count e = none-not_some (ap (option_and_then count_of) e)
take-told to_hear first count e = none-not_some (ap (option_and_then count_of) e)

pub told-takes : (o : Option (CellWant ⊤)) (ports : PortList) → IsToldWant (wants.Take ports) o → Takes ports.count o
told-takes o ports h = let t = take-told h.0 ports.first.number ports.count h.2 in (t.0, h.1 ∙ ap (λ w. Some w) t.1, t.2)

-- where one is told, it is the port that is told
pub one-port : (o : Option (CellWant ⊤)) (list : PortList) (ports : List ℕ) → IsToldWant (wants.Take list) o → o ≡ Some (to_take ports) → list.count ≡ 1 → ports ≡ list.first.number ∷ []
one-port o list ports h is one = by ports (ap told (some-injective (sym is ∙ h.1)) ∙ h.2)
  where
    by : (ports : List ℕ) → told (take_of ports) ≡ Some (a_take list.first.number list.count) → ports ≡ list.first.number ∷ []
    by [] e = none-not_some e
    by (n ∷ []) e = ap (λ n. n ∷ []) (some-injective (ap (option_and_then first_told) e))
    by (n ∷ m ∷ ports) e = absurd (let long = some-injective (ap (option_and_then count_of) e) in let k : ⊥ = omega (arith, long, one) in k)

-- the first that passes, found one by one
abbrev pub NoneBefore : (ℕ → Bool) → List ℕ → ℕ → Type 0
NoneBefore test ns i = (j n : ℕ) → j < i → slice_get ns j ≡ Some n → test n ≡ false

pub found-first : (test : ℕ → Bool) (ns : List ℕ) (i n : ℕ) → NoneBefore test ns i → slice_get ns i ≡ Some n → test n ≡ true → find test ns ≡ Some n
found-first test [] i n none e passes = none-not_some e
found-first test (m ∷ ns) zero n none e passes = ap (λ b. cond b (Some m) (find test ns)) (ap test (some-injective e) ∙ passes) ∙ e
found-first test (m ∷ ns) (suc i) n none e passes = ap (λ b. cond b (Some m) (find test ns)) (none 0 m (omega arith) refl) ∙ found-first test ns i n (λ j k lt there. none (suc j) k (omega (arith, lt)) there) e passes

pub found-none : (test : ℕ → Bool) (ns : List ℕ) (i : ℕ) → NoneBefore test ns i → length ns ≡ i → find test ns ≡ None
found-none test [] i none e = refl
found-none test (m ∷ ns) zero none e = absurd (omega (arith, e))
found-none test (m ∷ ns) (suc i) none e = ap (λ b. cond b (Some m) (find test ns)) (none 0 m (omega arith) refl) ∙ found-none test ns i (λ j k lt there. none (suc j) k (omega (arith, lt)) there) (omega (arith, e))

pub next-none : (test : ℕ → Bool) (ns : List ℕ) (i m : ℕ) → NoneBefore test ns i → slice_get ns i ≡ Some m → test m ≡ false → NoneBefore test ns (i + 1)
next-none test ns i m none at fails j n lt there = elim (cases_lt j i) [ inl before ↦ none j n before there | inr here ↦ ap test (some-injective (sym there ∙ ap (slice_get ns) (omega (arith, here, lt)) ∙ at)) ∙ fails ]

-- the ports of a want to take
abbrev ports_in : CellWant ⊤ → List ℕ
ports_in (to_take ports) = ports
ports_in w = []

pub to_take-injective : {ports others : List ℕ} → take_of ports ≡ take_of others → ports ≡ others
to_take-injective e = ap ports_in e

pub find-passes : (test : ℕ → Bool) (ns : List ℕ) (n : ℕ) → find test ns ≡ Some n → test n ≡ true
find-passes test [] n e = none-not_some e
find-passes test (m ∷ ns) n e = by (test m) refl e (find-passes test ns n)
  where
    by : (b : Bool) → test m ≡ b → cond b (Some m) (find test ns) ≡ Some n → (find test ns ≡ Some n → test n ≡ true) → test n ≡ true
    by true passes e rest = ap test (sym (some-injective e)) ∙ passes
    by false fails e rest = rest e
