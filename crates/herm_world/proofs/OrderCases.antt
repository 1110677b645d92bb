-- What is wanted where an order is known.
use Rattle.std.proofs.Common.{◌≡◌, ℕ, zero, suc, ◌<◌, ◌≤◌, List, [], ◌∷◌, length, find, is_some, true, Some, refl, sym, ap, ap₂, subst, ◌∙◌, arith, true≢false}
use Rattle.std.specs.Prelude.{slice_get, ⊤}
use Rattle.herm_model.proofs.Options.{some-injective}
use Rattle.herm_base.specs.declared.numbers.PortNo.{PortNo}
use Rattle.herm_base.specs.declared.numbers.ProcNo.{ProcNo}
use Rattle.herm_journal.specs.Actions.{new_port, new_process, to_put, to_take, to_close, to_answer, to_hear}
use Rattle.herm_journal.specs.Messages.{CellWant}
use Rattle.herm_system.specs.Systems.{numbered_from_one}
use Rattle.herm_waking.specs.Unnamed.{bare_can}
use Rattle.herm_letters.specs.View.{reply_view}
use Rattle.herm_letters.specs.declared.reply.Reply.{Reply}
use Rattle.herm_events.specs.declared.entry.ReplyTrace.{ReplyTrace}
use Rattle.herm_values.specs.View.{value_view}
use Rattle.herm_values.specs.declared.value.Value.{Value}
use Rattle.herm_exchanges.specs.Told.{Told, told}
use Rattle.herm_exchanges.specs.declared.wants.PortList.{PortList}
use Rattle.herm_machine.specs.Machines.{nameless}
use Rattle.herm_machine.specs.declared.order.Order.{Order}
use Rattle.herm_machine.specs.declared.order.Order.TheVariants as orders
use Rattle.herm_process.specs.Entries.{IsOrderOf}
use Rattle.herm_process.specs.Processes.{ProcessState}
use Rattle.herm_world.specs.Looks.{can_as}
use Rattle.herm_world.specs.Orders.{CanBeDone, CanBeServed, CanTake, IsTaking}
use Rattle.herm_world.specs.Places.{Places, seen_of, is_answered, is_filled}
use Rattle.herm_world.proofs.Looking.{can-by-told, take-told, take-any}

pub order-port : (w : CellWant ⊤) → IsOrderOf orders.MakePort w → w ≡ new_port
order-port new_port h = refl
order-port (new_process code) h = absurd h
order-port (to_put n m) h = absurd h
order-port (to_take ports) h = absurd h
order-port (to_close n) h = absurd h
order-port (to_answer caller call r) h = absurd h
order-port to_hear h = absurd h

pub order-process : (code : ℕ) (w : CellWant ⊤) → IsOrderOf (orders.MakeProcess code) w → w ≡ new_process code
order-process code new_port h = absurd h
order-process code (new_process c) h = ap (λ c. new_process c) h
order-process code (to_put n m) h = absurd h
order-process code (to_take ports) h = absurd h
order-process code (to_close n) h = absurd h
order-process code (to_answer caller call r) h = absurd h
order-process code to_hear h = absurd h

pub order-put : (p : PortNo) (letter : Value) (w : CellWant ⊤) → IsOrderOf (orders.Put p letter) w → w ≡ to_put p.number (value_view letter)
order-put p letter new_port h = absurd h
order-put p letter (new_process code) h = absurd h
order-put p letter (to_put n m) h = ap₂ (λ n m. to_put n m) h.0 h.1
order-put p letter (to_take ports) h = absurd h
order-put p letter (to_close n) h = absurd h
order-put p letter (to_answer caller call r) h = absurd h
order-put p letter to_hear h = absurd h

pub order-take : (ports : PortList) (w : CellWant ⊤) → IsOrderOf (orders.Take ports) w → (ns : List ℕ) × (w ≡ to_take ns) × (length ns ≡ ports.count)
order-take ports new_port h = absurd h
order-take ports (new_process code) h = absurd h
order-take ports (to_put n m) h = absurd h
order-take ports (to_take ns) h = take-told (to_take ns) ports.first.number ports.count h
order-take ports (to_close n) h = absurd h
order-take ports (to_answer caller call r) h = absurd h
order-take ports to_hear h = absurd h

pub order-close : (p : PortNo) (w : CellWant ⊤) → IsOrderOf (orders.Close p) w → w ≡ to_close p.number
order-close p new_port h = absurd h
order-close p (new_process code) h = absurd h
order-close p (to_put n m) h = absurd h
order-close p (to_take ports) h = absurd h
order-close p (to_close n) h = ap (λ n. to_close n) h
order-close p (to_answer caller call r) h = absurd h
order-close p to_hear h = absurd h

pub order-answer : (p : ProcNo) (k : ℕ) (reply : Reply) (a b : ReplyTrace) (w : CellWant ⊤) → IsOrderOf (orders.Answer p k reply a b) w → w ≡ to_answer p.number k (reply_view reply)
order-answer p k reply a b new_port h = absurd h
order-answer p k reply a b (new_process code) h = absurd h
order-answer p k reply a b (to_put n m) h = absurd h
order-answer p k reply a b (to_take ports) h = absurd h
order-answer p k reply a b (to_close n) h = absurd h
order-answer p k reply a b (to_answer caller call r) h = ap₂ (λ caller call. to_answer caller call r) h.0 h.1 ∙ ap (λ r. to_answer p.number k r) h.2
order-answer p k reply a b to_hear h = absurd h

pub order-hear : (w : CellWant ⊤) → IsOrderOf orders.Hear w → w ≡ to_hear
order-hear new_port h = absurd h
order-hear (new_process code) h = absurd h
order-hear (to_put n m) h = absurd h
order-hear (to_take ports) h = absurd h
order-hear (to_close n) h = absurd h
order-hear (to_answer caller call r) h = absurd h
order-hear to_hear h = refl

is-within : {X : Type 0} (xs : List X) (i : ℕ) → is_some (slice_get xs i) ≡ true → i < length xs
is-within [] i e = absurd (true≢false (sym e))
is-within (x ∷ xs) zero e = omega arith
is-within (x ∷ xs) (suc i) e = let h = is-within xs i e in omega (arith, h)

number-within : {X : Type 0} (xs : List X) (p : ℕ) → is_some (numbered_from_one p xs) ≡ true → (1 ≤ p) × (p ≤ length xs)
number-within xs zero e = absurd (true≢false (sym e))
number-within xs (suc i) e = let h = is-within xs i e in (omega arith, omega (arith, h))

module _ (p : ProcessState) (s : Places) (who : ℕ) (order : Order) (served : CanBeServed p s who order) where
  abbrev can : CanBeDone p s who
  can = served.0

  its-order : IsOrderOf order can.want
  its-order = served.1

  can-want : (w : CellWant ⊤) (t : Told) → can.want ≡ w → told w ≡ Some t → can_as s who (bare_can (seen_of can.beside s) who w) t ≡ true
  can-want w t is e = can-by-told can.beside s who w t e ∙ sym (ap (bare_can (seen_of can.beside s) who) is) ∙ can.can

  pub put-within : (n : PortNo) (letter : Value) → order ≡ orders.Put n letter → n.number < length s.ports
  put-within n letter is = is-within s.ports n.number (can-want (to_put n.number (value_view letter)) _ (order-put n letter can.want (subst (λ o. IsOrderOf o can.want) is its-order)) refl)

  pub close-within : (n : PortNo) → order ≡ orders.Close n → n.number < length s.ports
  close-within n is = is-within s.ports n.number (can-want (to_close n.number) _ (order-close n can.want (subst (λ o. IsOrderOf o can.want) is its-order)) refl)

  pub answer-within : (c : ProcNo) (k : ℕ) (reply : Reply) (a b : ReplyTrace) → order ≡ orders.Answer c k reply a b → (1 ≤ c.number) × (c.number ≤ length s.replies)
  answer-within c k reply a b is = number-within s.replies c.number (can-want (to_answer c.number k (reply_view reply)) _ (order-answer c k reply a b can.want (subst (λ o. IsOrderOf o can.want) is its-order)) refl)

  pub hear-there : order ≡ orders.Hear → is_answered s who ≡ true
  hear-there is = can-want to_hear _ (order-hear can.want (subst (λ o. IsOrderOf o can.want) is its-order)) refl

  pub can-take-now : (ports : PortList) → order ≡ orders.Take ports → CanTake p s who
  can-take-now ports is = let t = order-take ports can.want (subst (λ o. IsOrderOf o can.want) is its-order) in (can, t.0, t.1)

pub is-taking : (p : ProcessState) (s : Places) (who : ℕ) → CanTake p s who → IsTaking p
is-taking p s who t = (t.0.image, t.0.main, t.0.state, t.1, t.0.stands, t.0.next, t.0.wanted ∙ ap (λ w. Some w) t.2)

-- some port has a message
pub can-take : (p : ProcessState) (s : Places) (who : ℕ) (can : CanBeDone p s who) (ns : List ℕ) → (nameless can.image can.main).wanted can.state ≡ Some (to_take ns) → is_some (find (is_filled s) ns) ≡ true
can-take p s who can ns wanted = sym (take-any can.beside s who ns ns) ∙ sym (ap (bare_can (seen_of can.beside s) who) (some-injective (sym can.wanted ∙ wanted))) ∙ can.can
