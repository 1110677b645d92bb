-- Orders with which a message or a reply goes.
use Rattle.std.proofs.Common.{◌≡◌, inr, ℕ, Option, Some, option_and_then, refl, sym, ap, ◌∙◌}
use Rattle.std.specs.Prelude.{⊤}
use Rattle.herm_base.specs.declared.numbers.PortNo.{PortNo}
use Rattle.herm_base.specs.declared.numbers.ProcNo.{ProcNo}
use Rattle.herm_journal.specs.Actions.{to_put, to_answer}
use Rattle.herm_journal.specs.Entries.{map_reply, texts_of}
use Rattle.herm_events.specs.View.{reply_trace_view}
use Rattle.herm_events.specs.declared.entry.ReplyTrace.{ReplyTrace}
use Rattle.herm_instructions.specs.Images.{Image}
use Rattle.herm_code_machine.specs.CodeStates.{CodeState}
use Rattle.herm_values.specs.View.{value_view}
use Rattle.herm_values.specs.declared.value.Value.{Value}
use Rattle.herm_letters.specs.View.{reply_view}
use Rattle.herm_letters.specs.declared.reply.Reply.{Reply}
use Rattle.herm_exchanges.specs.Told.{Told, a_put, an_answer, told}
use Rattle.herm_machine.specs.Machines.{MachineState, HasOut, nameless}
use Rattle.herm_machine.specs.declared.order.Order.TheVariants as orders
use Rattle.herm_process.specs.Processes.{Orders}
use Rattle.herm_process.specs.Sums.{AreSums}
use Rattle.herm_process.specs.declared.ordered.Sums.{Sums}
use Rattle.herm_process.specs.declared.ordered.Ordered.TheVariants as ordered
use Rattle.herm_process.proofs.Standings.{some_want}

abbrev put-in : Option Told → ℕ
put-in (Some (a_put n)) = n
put-in _ = 0

abbrev caller-in : Option Told → ℕ
caller-in (Some (an_answer p k)) = p
caller-in _ = 0

abbrev call-in : Option Told → ℕ
call-in (Some (an_answer p k)) = k
call-in _ = 0

module _ (m : MachineState) (image : Image) (main : ℕ) (s : CodeState ⊤) where
  pub put-given : (p : PortNo) (letter : Value) (sums : Sums) → AreSums (nameless image main) s sums → Some (a_put p.number) ≡ option_and_then told ((nameless image main).wanted s) → (port : ℕ) × ((nameless image main).wanted s ≡ some_want (to_put port (value_view letter)))
      → HasOut image main m s → Orders image main m (orders.Put p letter) (ordered.Put p sums) s
  put-given p letter sums are tells w out =
      let same : w.0 ≡ p.number = ap put-in (sym (ap (option_and_then told) w.1) ∙ sym tells) in
      record { want = to_put w.0 (value_view letter); wanted = w.1; order = (same, refl); remembered = same; sums = are; at = inr out; out = (out.want, out.order) }

  pub answer-given : (p : ProcNo) (k : ℕ) (reply : Reply) (recorded heard text : ReplyTrace) (sums : Sums) → AreSums (nameless image main) s sums → Some (an_answer p.number k) ≡ option_and_then told ((nameless image main).wanted s)
      → (caller call : ℕ) × ((nameless image main).wanted s ≡ some_want (to_answer caller call (reply_view reply))) → reply_trace_view text ≡ map_reply texts_of (reply_view reply) → HasOut image main m s
      → Orders image main m (orders.Answer p k reply recorded heard) (ordered.Answer p k text sums) s
  answer-given p k reply recorded heard text sums are tells w is out =
      let e = sym (ap (option_and_then told) w.2) ∙ sym tells in
      record { want = to_answer w.0 w.1 (reply_view reply); wanted = w.2; order = (ap caller-in e, ap call-in e, refl); remembered = (ap caller-in e, ap call-in e, is); sums = are; at = inr out; out = (out.want, out.order) }
