use Rattle.std.proofs.Common.{◌≡◌, Vec, Global, Option, Some, suc, refl, ap, subst, ◌∙◌}
use Rattle.herm_journal.specs.Renaming.{forget_name}
use Rattle.herm_forms.specs.Callmessages.{with_message}
use Rattle.herm_values.specs.Parts.{parts_from}
use Rattle.herm_values.specs.View.{views_of}
use Rattle.herm_values.specs.declared.value.Value.{Value, Call}
use Rattle.herm_exchanges.specs.Composed.{IsComposed}
use Rattle.herm_exchanges.proofs.Composed.{call_opened}
use Rattle.herm_exchanges.proofs.calling.opened.Goals as goal

pub returns-clause-opened : goal.returns-clause-opened
returns-clause-opened c = λ s h.
    let number : c.new.result.caller.number ≡ c.make_cell.new.self.number = ap (λ n. n.number) c.new.ensures.caller ∙ c.number-number.ensures.number in
    let calls : c.new.result.call ≡ c.make_cell.new.self.calls = c.new.ensures.call ∙ c.calls-call.ensures.calls in
    subst (λ (ps : Vec (Option Value) Global). IsComposed (Some (Call c.new.result)) c.open_call.new.self (Some (with_message forget_name s (parts_from (views_of ps.items))))) c.new.ensures.params
    (call_opened s c.args.frame.now c.open_call.new.self c.new.result (Call c.new.result) refl (number ∙ ap (λ f. f.number) c.make_cell.ensures.frame) (calls ∙ ap (λ f. f.calls) c.make_cell.ensures.frame) h
    (c.open_call.ensures.stands (record s { serial = suc s.serial }) (c.make_cell.ensures.stands s h)))
