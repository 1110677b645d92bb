-- What is got for what is wanted: its action, its place and its entry; and what of it may not suit.
use Rattle.std.proofs.Common.{◌≡◌, ℕ, List, [], ◌∷◌, map, length, true, Some, refl, sym, ap, ap₂, subst, ◌∙◌}
use Rattle.std.specs.List.{All, AllByRecursion}
use Rattle.std.specs.Prelude.{IsTrue, ⊤}
use Rattle.std.proofs.lemmas.List.Elements.{All-head, All-tail}
use Rattle.herm_model.specs.Lists.{all_pass}
use Rattle.herm_model.specs.ValueTexts.{text_of}
use Rattle.herm_model.specs.WellMade.{is_well_made}
use Rattle.herm_model.proofs.Lists.{both-and, length-map}
use Rattle.herm_model.proofs.Options.{some-injective}
use Rattle.herm_journal.specs.Actions.{new_port, new_process, to_put, to_take, to_close, to_answer, to_hear, close}
use Rattle.herm_journal.specs.Entries.{Text, Record, recorded}
use Rattle.herm_journal.specs.Messages.{CellAction, CellWant, cells_in}
use Rattle.herm_system.specs.Machines.{Machine}
use Rattle.herm_system.specs.Suiting.{Answers, Suits}
use Rattle.herm_system.specs.Systems.{number_of}
use Rattle.herm_events.specs.declared.entry.Action as code_action
use Rattle.herm_events.specs.declared.entry.Place as code_place
use Rattle.herm_values.specs.View.{value_view}
use Rattle.herm_values.specs.Whole.{IsWhole}
use Rattle.herm_values.specs.declared.value.Value.{Value}
use Rattle.herm_letters.specs.Letters.{IsParcel, IsWholeReply}
use Rattle.herm_letters.specs.LettersInOrder.{QueueState}
use Rattle.herm_letters.specs.View.{reply_view}
use Rattle.herm_letters.specs.declared.parcel.Parcel.{Parcel}
use Rattle.herm_letters.specs.declared.reply.Reply.{Reply}
use Rattle.herm_letters.specs.declared.reply.Reply.TheVariants.{Values, Raised, Gone}
use Rattle.herm_suits.proofs.Made.{whole-made}
use Rattle.herm_machine.specs.Gots.{FitsWant, IsWholeGot, TellsGot}
use Rattle.herm_machine.specs.declared.order.Got.{Got}
use Rattle.herm_machine.specs.declared.order.Got.TheVariants as gots
use Rattle.herm_process.specs.Entries.{ComesWellMade, IsEntryOf, IsFor, action_of, comes_in, place_of}
use Rattle.herm_process.specs.declared.ordered.Ordered.{Ordered}

-- The action of what is got: it answers what is wanted, and is told of by what is got, at the number of its place; what comes in is
-- well made.
pub record GotAction (p : ℕ) (got : Got) (w : CellWant ⊤) : Type 0 where
  pub action : CellAction ⊤
  pub is : action_of got w ≡ Some action
  pub answers : Answers w action
  pub tells : TellsGot got (number_of (place_of p got w)) action
  pub made : ComesWellMade action

left-made : (ps : List Parcel) → All IsParcel ps → IsTrue (all_pass is_well_made (map (λ p. value_view p.value) ps))
left-made [] h = refl
left-made (p ∷ ps) h = both-and (is_well_made (value_view p.value)) _ (whole-made p.value (All-head IsParcel p ps h).whole) (left-made ps (All-tail IsParcel p ps h))

values-made : (vs : List Value) → AllByRecursion IsWhole vs → IsTrue (all_pass is_well_made (map value_view vs))
values-made [] h = refl
values-made (v ∷ vs) h = both-and (is_well_made (value_view v)) _ (whole-made v h.0) (values-made vs h.1)

reply-made : (r : Reply) → IsWholeReply r → IsTrue (all_pass is_well_made (cells_in (reply_view r)))
reply-made (Values vs) h = values-made vs.items h
reply-made (Raised e vs) h = values-made vs.items h
reply-made Gone h = refl

pub got-action : (p : ℕ) (got : Got) (w : CellWant ⊤) → IsWholeGot got → FitsWant got w → GotAction p got w
got-action p (gots.Port made) new_port whole h = record { action = _; is = refl; answers = tt; tells = refl; made = tt }
got-action p (gots.Process made) (new_process code) whole h = record { action = _; is = refl; answers = refl; tells = (code, refl); made = tt }
got-action p (gots.Placed number trace) (to_put n m) whole h = record { action = _; is = refl; answers = refl; tells = (m, refl, h); made = tt }
got-action p (gots.Back value trace) (to_put n m) whole h = record { action = _; is = refl; answers = sym h.0; tells = refl; made = tt }
got-action p (gots.Message n parcel) (to_take ports) whole h = record { action = _; is = refl; answers = tt; tells = (refl, refl); made = whole-made parcel.value whole.whole }
got-action p (gots.Left left) (to_close n) whole h = record { action = _; is = refl; answers = length-map (λ (p : Parcel). value_view p.value) left.parcels; tells = refl; made = left-made left.parcels whole }
got-action p gots.Answered (to_answer caller call r) whole h = record { action = _; is = refl; answers = (refl, refl); tells = (call, r, refl); made = tt }
got-action p (gots.Heard call reply trace) to_hear whole h = record { action = _; is = refl; answers = tt; tells = refl; made = reply-made reply whole }
got-action p got w whole h = absurd h

-- what does not suit is a message or a reply
pub aside-comes_in : {P : Type 0} (machine : Machine ⊤ P) (x : P) (got : Got) (w : CellWant ⊤) → IsWholeGot got → FitsWant got w → ((at : ℕ) (a : CellAction ⊤) → TellsGot got at a → Suits machine x at a → ⊥) → comes_in got ≡ true
aside-comes_in machine x (gots.Port made) w whole h never = absurd (never 0 _ refl tt)
aside-comes_in machine x (gots.Process made) w whole h never = absurd (never 0 _ (0, refl) tt)
aside-comes_in machine x (gots.Placed number trace) (to_put n m) whole h never = absurd (never 0 _ (m, refl, h) tt)
aside-comes_in machine x (gots.Placed number trace) w whole h never = absurd h
aside-comes_in machine x (gots.Back value trace) w whole h never = absurd (never 0 _ refl tt)
aside-comes_in machine x (gots.Message n parcel) w whole h never = refl
aside-comes_in machine x (gots.Left left) w whole h never = absurd (never 0 _ refl (left-made left.parcels whole))
aside-comes_in machine x gots.Answered (to_answer caller call r) whole h never = absurd (never 0 _ (call, r, refl) tt)
aside-comes_in machine x gots.Answered w whole h never = absurd h
aside-comes_in machine x (gots.Heard call reply trace) w whole h never = refl

-- the texts of messages that were left
pub texts-left : (ps : List Parcel) → map (λ (p : Parcel). text_of (value_view p.value)) ps ≡ map text_of (map (λ (p : Parcel). value_view p.value) ps)
texts-left [] = refl
texts-left (p ∷ ps) = ap (λ ts. text_of (value_view p.value) ∷ ts) (texts-left ps)

abbrev closes : ℕ → List Text → Record
closes n texts = close n texts

pub close-recorded : (ps : List Parcel) (count : ℕ) (texts : List Text) (a : CellAction ⊤) → count ≡ length ps → texts ≡ map (λ (p : Parcel). text_of (value_view p.value)) ps
    → Some (close (length ps) (map (λ (p : Parcel). value_view p.value) ps)) ≡ Some a → closes count texts ≡ recorded a
close-recorded ps count texts a n t e = ap₂ closes n (t ∙ texts-left ps) ∙ ap recorded (some-injective e)

-- the entry of a close, by the port of the order
pub left-entry : (o : Ordered) (left : QueueState) (n p : ℕ) (place : code_place.Place) (action : code_action.Action) → ((k : ℕ) → IsFor o (to_close k) → k ≡ n) → IsEntryOf p place action (gots.Left left) (to_close n)
    → (w : CellWant ⊤) → IsFor o w → FitsWant (gots.Left left) w → IsEntryOf p place action (gots.Left left) w
left-entry o left n p place action same entry (to_close k) f h = subst (λ k. IsEntryOf p place action (gots.Left left) (to_close k)) (sym (same k f)) entry
left-entry o left n p place action same entry w f h = absurd h
