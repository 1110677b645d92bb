-- In a sound state ports that are closed were open, and calls that are answered are open and have no answer yet.
use Rattle.std.proofs.Common.{◌≡◌, ◌⊎◌, inl, inr, ℕ, ◌+◌, List, [], ◌∷◌, length, Bool, true, false, cond, Option, Some, None, refl, sym, ap, ◌∙◌, arith}
use Rattle.std.specs.Prelude.{nat_eq, ◌&&◌}
use Rattle.herm_sound.proofs.ReplyCells.{heard_of, replied}
use Rattle.herm_model.specs.Lists.{IsIn}
use Rattle.herm_model.specs.Values.{Name, a_callmessage, an_inport}
use Rattle.herm_model.proofs.Options.{some-injective, none-not_some}
use Rattle.herm_journal.proofs.Rising.{same-true}
use Rattle.herm_journal.specs.Actions.{gone, to_close, to_answer, close, answer}
use Rattle.herm_journal.specs.Entries.{Place, port, reply_cell}
use Rattle.herm_journal.specs.Messages.{CellReply, CellWant, CellAction, IsReplyTo}
use Rattle.herm_system.specs.Machines.{Machine}
use Rattle.herm_system.specs.Kinds.{kinds_by, unfinalised, replies_of, has_open, is_open_port, is_inport_of, is_callmessage_of}
use Rattle.herm_system.specs.Sound.{one_if}
use Rattle.herm_system.specs.Summary.{how_many}
use Rattle.herm_system.specs.Systems.{System, Moved, numbered_from_one}
use Rattle.herm_runs.specs.Counting.{kinds_made, kinds_ended}
use Rattle.herm_runs.proofs.ActionParts.{action-parts}
use Rattle.herm_sound.specs.Standing.{typed_places}
use Rattle.herm_sound.specs.SoundMachines.{KeepsSound}
use Rattle.herm_sound.specs.laws.SoundLaws.{ClosesOpenPorts, AnswersOpenCalls}
use Rattle.herm_sound.proofs.Acted.{Holding, IsAct, port_made, port_refused, process_made, process_refused, placed, came_back, taken, closed, answered, heard, acted}
use Rattle.herm_sound.proofs.ActionChanges.{action-change}
use Rattle.herm_sound.proofs.OpenCalls.{counted, only-one}
use Rattle.herm_sound.proofs.OpenPorts.{open_at}
use Rattle.herm_sound.proofs.TypedCells.{in-held, in-places, typed-unfinalised}
use Rattle.herm_sound.proofs.KeptSound.{callmessages-wait, to-close-open}

-- the port of a place, and the process of a reply cell
abbrev port_number : Place → Option ℕ
port_number (port n) = Some n
port_number place = None

abbrev cell_number : Place → Option ℕ
cell_number (reply_cell q) = Some q
cell_number place = None

abbrev is_closing : CellAction Name → Option ℕ
is_closing (close count left) = Some count
is_closing a = None

abbrev answer_of : CellAction Name → Option (ℕ × CellReply Name)
answer_of (answer k r) = Some (k, r)
answer_of a = None

-- a close and an answer are of what was wanted
closed-wanted : (p : ℕ) (w : CellWant Name) (place : Place) (h : Holding) (a : CellAction Name) → IsAct p w place h a → (n count : ℕ) → port_number place ≡ Some n → is_closing a ≡ Some count → w ≡ to_close n
closed-wanted p w place h a (closed i b q k) n count e f = ap (λ n. to_close n) (some-injective e)
closed-wanted p w place h a (port_made b i e') n count e f = none-not_some e
closed-wanted p w place h a (port_refused b e') n count e f = none-not_some e
closed-wanted p w place h a (process_made code b made e') n count e f = none-not_some e
closed-wanted p w place h a (process_refused code b e') n count e f = none-not_some e
closed-wanted p w place h a (placed i m q k) n count e f = none-not_some f
closed-wanted p w place h a (came_back i m q k) n count e f = none-not_some f
closed-wanted p w place h a (taken ports i among b j m q k) n count e f = none-not_some f
closed-wanted p w place h a (answered caller call r rs) n count e f = none-not_some e
closed-wanted p w place h a (heard k r rs) n count e f = none-not_some e

answer-wanted : (p : ℕ) (w : CellWant Name) (place : Place) (h : Holding) (a : CellAction Name) → IsAct p w place h a → (q : ℕ) (r : ℕ × CellReply Name) → cell_number place ≡ Some q → answer_of a ≡ Some r → w ≡ to_answer q r.0 r.1
answer-wanted p w place h a (answered caller call v rs) q r e f = ap (λ q. to_answer q call v) (some-injective e) ∙ ap (λ (r : ℕ × CellReply Name). to_answer q r.0 r.1) (some-injective f)
answer-wanted p w place h a (closed i b qs k) q r e f = none-not_some e
answer-wanted p w place h a (port_made b i e') q r e f = none-not_some e
answer-wanted p w place h a (port_refused b e') q r e f = none-not_some e
answer-wanted p w place h a (process_made code b made e') q r e f = none-not_some e
answer-wanted p w place h a (process_refused code b e') q r e f = none-not_some e
answer-wanted p w place h a (placed i m qs k) q r e f = none-not_some e
answer-wanted p w place h a (came_back i m qs k) q r e f = none-not_some e
answer-wanted p w place h a (taken ports i among b j m qs k) q r e f = none-not_some e
answer-wanted p w place h a (heard k v rs) q r e f = none-not_some f

module _ {P : Type 0} (machine : Machine Name P) (Is : P → Type 0) (keeps : KeepsSound machine Is) where
  -- a callmessage that is answered was there
  pub held : (types : List ℕ) (s : System P) (p : ℕ) (x : P) → numbered_from_one p s.processes ≡ Some x → (q k : ℕ) (r : CellReply Name)
      → (IsIn (a_callmessage q k) (kinds_by machine x) × (r ≡ gone)) ⊎ ((t : ℕ) × IsIn (t, a_callmessage q k) (typed_places machine x) × IsReplyTo machine.types (Some t) r) → IsIn (a_callmessage q k) (unfinalised machine s)
  held types s p x is q k r (inl h) = in-held machine types s (a_callmessage q k) p x is h.0
  held types s p x is q k r (inr h) = typed-unfinalised machine types s h.0 (a_callmessage q k) (in-places machine types s p x h.0 (a_callmessage q k) is h.1)

  shut : (b : Bool) → one_if b + 1 ≡ 1 → b ≡ false
  shut true e = let no_more : ⊥ = omega (arith, e) in absurd no_more
  shut false e = refl

  pub closes-open : ClosesOpenPorts machine Is
  closes-open s p n count left m sound e done =
      let parts = action-parts machine p (port n) s m e in
      let change = action-change machine Is keeps sound.0 s sound.1 p (port n) m parts in
      let did : parts.did.0 ≡ close count left = some-injective (ap (λ (m : Moved P). m.done) parts.moved ∙ done) in
      let wants = closed-wanted p parts.want.0 (port n) parts.at.0 parts.did.0 (acted p parts.want.0 (port n) parts.at.0 parts.did.0 parts.there parts.did.1) n count refl (ap is_closing did) in
      let ready = to-close-open machine Is keeps sound.0 s sound.1 parts.makes.0 p parts.state parts.left.0 (Some parts.want.0) n parts.did.0 change in
      let opened = ready n (ap (λ w. Some w) wants) in
      let moves = change.opens ready n in
      let made : how_many (is_inport_of n) (kinds_made machine parts.left.0 parts.did.0) ≡ 0 = ap (λ a. how_many (is_inport_of n) (kinds_made machine parts.left.0 a)) did in
      let ends : how_many (is_inport_of n) (kinds_ended parts.want.0) ≡ 1 = ap (λ (w : CellWant Name). how_many (is_inport_of n) (kinds_ended w)) wants ∙ ap (λ b. length (cond b (an_inport n ∷ []) [])) (same-true n) in
      let behind : one_if (open_at (parts.makes.0).ports n) + 1 ≡ 1 = omega (arith, moves, made, ends, ap one_if opened) in
      (opened, ap (λ (m : Moved P). is_open_port m.system n) (sym parts.moved) ∙ shut (open_at (parts.makes.0).ports n) behind)

  pub answers-open : AnswersOpenCalls machine Is
  answers-open s p q k r m sound e done =
      let parts = action-parts machine p (reply_cell q) s m e in
      let change = action-change machine Is keeps sound.0 s sound.1 p (reply_cell q) m parts in
      let did : parts.did.0 ≡ answer k r = some-injective (ap (λ (m : Moved P). m.done) parts.moved ∙ done) in
      let wants = answer-wanted p parts.want.0 (reply_cell q) parts.at.0 parts.did.0 (acted p parts.want.0 (reply_cell q) parts.at.0 parts.did.0 parts.there parts.did.1) q (k, r) refl (ap answer_of did) in
      let has = (change.has (to_answer q k r) (ap (λ w. Some w) wants)).0 in
      let there : IsIn (a_callmessage q k) (unfinalised machine s) = held sound.0 s p parts.state parts.is q k r has in
      let self : is_callmessage_of q k (a_callmessage q k) ≡ true = ap (λ b. b && nat_eq k k) (same-true q) ∙ same-true k in
      let some = counted (is_callmessage_of q k) (a_callmessage q k) (unfinalised machine s) there self in
      let waiting = how_many (λ (r : ℕ × CellReply Name). nat_eq r.0 k) (replies_of s q) in
      let all : waiting + how_many (is_callmessage_of q k) (unfinalised machine s) ≡ one_if (has_open machine s q k) = omega (arith, sound.1.calls.answers q k) in
      let opened = only-one waiting some.0 (how_many (is_callmessage_of q k) (unfinalised machine s)) (has_open machine s q k) some.1 all in
      let ends : how_many (is_callmessage_of q k) (kinds_ended parts.want.0) ≡ 1 =
      ap (λ (w : CellWant Name). how_many (is_callmessage_of q k) (kinds_ended w)) wants ∙ ap (λ b. length (cond b (a_callmessage q k ∷ []) [])) self in
      let made : how_many (is_callmessage_of q k) (kinds_made machine parts.left.0 parts.did.0) ≡ 0 = ap (λ a. how_many (is_callmessage_of q k) (kinds_made machine parts.left.0 a)) did in
      let silent : heard_of p parts.did.0 q k ≡ 0 = ap (λ a. heard_of p a q k) did in
      let none : waiting ≡ 0 = omega (arith, all, ap one_if opened, some.1) in
      let one : replied (parts.makes.0).replies q k ≡ 1 = omega (arith, change.replies q k, silent, ends, none) in
      let no_more : how_many (is_callmessage_of q k) (unfinalised machine parts.makes.0) ≡ 0 = omega (arith, change.counts (is_callmessage_of q k) (callmessages-wait q k), ends, made, all, ap one_if opened) in (
        opened,
        none,
        ap (λ (m : Moved P). how_many (λ (r : ℕ × CellReply Name). nat_eq r.0 k) (replies_of m.system q)) (sym parts.moved) ∙ one,
        ap (λ (m : Moved P). how_many (is_callmessage_of q k) (unfinalised machine m.system)) (sym parts.moved) ∙ no_more,
      )
