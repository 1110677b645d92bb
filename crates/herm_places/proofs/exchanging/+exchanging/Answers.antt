use Rattle.std.proofs.Common.{length, ◌≤◌, sym, ◌∙◌, arith}
use Rattle.herm_places.proofs.Changed.{get_past}
use Rattle.herm_values.specs.Keyed.{keyed_view}
use Rattle.herm_places.proofs.Exchanged.{exchanged_past, exchanged_none, exchanged_some, case_changed, case_unchanged, read_past, read_there}
use Rattle.herm_places.proofs.exchanging.+exchanging.Goals as goal

pub exchange_at-returns-then-place-len-clause-old : goal.exchange_at-returns-then-place-len-clause-old
exchange_at-returns-then-place-len-clause-old t c =
    let past : length c.args.places.now.items ≤ c.args.place = omega (arith, c.args.places.now.ok, c.if-place-len.true) in
    read_past c.args.places.now.items c.args.place c.args.rest.now (sym (get_past c.args.places.now.items c.args.place past))

pub exchange_at-returns-then-place-len-clause-new : goal.exchange_at-returns-then-place-len-clause-new
exchange_at-returns-then-place-len-clause-new t c =
    let past : length c.args.places.now.items ≤ c.args.place = omega (arith, c.args.places.now.ok, c.if-place-len.true) in
    exchanged_past c.args.places.now.items c.args.place c.args.rest.now (keyed_view c.args.v) past

pub exchange_at-returns-in_default-clause-old : goal.exchange_at-returns-in_default-clause-old
exchange_at-returns-in_default-clause-old t c = read_past c.args.places.now.items c.args.place c.args.rest.now (sym c.in_default.is ∙ c.exchange.ensures.old)

pub exchange_at-returns-in_default-clause-new : goal.exchange_at-returns-in_default-clause-new
exchange_at-returns-in_default-clause-new t c = exchanged_none c.args.places.now.items c.exchange.new.places.items c.args.place c.args.rest.now (keyed_view c.args.v) (sym c.in_default.is ∙ c.exchange.ensures.old) c.exchange.ensures.put

pub exchange_at-returns-clause-old : goal.exchange_at-returns-clause-old
exchange_at-returns-clause-old t c = read_there c.args.places.now.items c.args.place c.args.rest.now c.in-Some.outer _ (sym c.in-Some.is ∙ c.exchange.ensures.old) c.exchange_in-outer.ensures.old

pub exchange_at-returns-clause-new : goal.exchange_at-returns-clause-new
exchange_at-returns-clause-new t c = exchanged_some c.args.places.now.items c.exchange.new.places.items c.exchange-none.new.places.items c.args.place c.args.rest.now (keyed_view c.args.v) c.in-Some.outer c.exchange_in-outer.result.0 (sym c.in-Some.is ∙ c.exchange.ensures.old) c.exchange.ensures.put c.exchange-none.ensures.put c.exchange_in-outer.ensures.new

pub exchange_in-returns-then-component-step-clause-new : goal.exchange_in-returns-then-component-step-clause-new
exchange_in-returns-then-component-step-clause-new t c = case_unchanged c.args.held c.in-Case.component c.in-Some.step.now c.in-Case.content c.in-Some.others.now c.args.rest.now (keyed_view c.args.v) c.in-Case.is c.if-component-step.true c.in-Some.ensures.cases.0

pub exchange_in-returns-else-component-step-clause-new : goal.exchange_in-returns-else-component-step-clause-new
exchange_in-returns-else-component-step-clause-new t c =
    case_changed c.args.held c.in-Case.component c.in-Some.step.now c.in-Case.content c.replace-inner.result c.exchange_in-inner.result.0 c.in-Some.others.now c.args.rest.now (keyed_view c.args.v) c.in-Case.is c.if-component-step.false c.in-Some.ensures.cases.0
    (c.replace-inner.ensures.value ∙ c.deref_mut.ensures.value) c.exchange_in-inner.ensures.new
