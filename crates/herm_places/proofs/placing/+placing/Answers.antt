use Rattle.std.proofs.Common.{◌≡◌, ◌∷◌, Some, None, get_or, ◌∙◌}
use Rattle.std.proofs.lemmas.List.{nil_from_length}
use Rattle.herm_places.proofs.Put.{here_put, nowhere_kept, place_within, old_within, within_put, within_kept, fields_put, fields_held, call_put, call_held}
use Rattle.herm_values.specs.Keyed.{keyed_view}
use Rattle.herm_places.proofs.placing.+placing.Goals as goal

pub put_at-returns-in_default-clause-put : goal.put_at-returns-in_default-clause-put
put_at-returns-in_default-clause-put t c = here_put c.args.places.now.items c.exchange-old.new.places.items c.args.place c.args.rest.now c.args.v (nil_from_length c.args.rest.now c.in_default.ensures.cases) c.exchange-old.ensures.put

pub put_at-returns-in_default-exchange-clause-kept : goal.put_at-returns-in_default-exchange-clause-kept
put_at-returns-in_default-exchange-clause-kept t c =
    let none : None ≡ get_or c.args.places.now.items c.args.place None = cc (c.exchange.ensures.old) in
    nowhere_kept c.args.places.now.items c.exchange.new.places.items c.args.place none c.exchange.ensures.put

pub put_at-returns-clause-there : goal.put_at-returns-clause-there
put_at-returns-clause-there t c =
    let some : Some c.in-Some-exchange.outer ≡ get_or c.args.places.now.items c.args.place None = cc (c.exchange.ensures.old) in
    place_within c.args.places.now.items c.args.place _ _ c.args.rest.now c.in-Some-exchange.outer _ c.in-Some.ensures.cases.0 some c.put_inside-outer.ensures.there

pub put_at-returns-clause-old : goal.put_at-returns-clause-old
put_at-returns-clause-old t c =
    let some : Some c.in-Some-exchange.outer ≡ get_or c.args.places.now.items c.args.place None = cc (c.exchange.ensures.old) in
    old_within c.args.places.now.items c.args.place _ _ c.args.rest.now c.in-Some-exchange.outer c.put_inside-outer.result.1 c.in-Some.ensures.cases.0 some c.put_inside-outer.ensures.old

pub put_at-returns-clause-put : goal.put_at-returns-clause-put
put_at-returns-clause-put t c =
    let some : Some c.in-Some-exchange.outer ≡ get_or c.args.places.now.items c.args.place None = cc (c.exchange.ensures.old) in
    within_put c.args.places.now.items c.exchange.new.places.items c.set.new.places.items c.args.place _ _ c.args.rest.now c.in-Some-exchange.outer c.put_inside-outer.result.0 c.args.v c.put_inside-outer.result.1 c.in-Some.ensures.cases.0 some c.exchange.ensures.put c.set.ensures.put c.put_inside-outer.ensures.put

pub put_at-returns-clause-kept : goal.put_at-returns-clause-kept
put_at-returns-clause-kept t c =
    let some : Some c.in-Some-exchange.outer ≡ get_or c.args.places.now.items c.args.place None = cc (c.exchange.ensures.old) in
    within_kept c.args.places.now.items c.exchange.new.places.items c.set.new.places.items c.args.place c.in-Some-exchange.outer c.put_inside-outer.result.0 c.put_inside-outer.result.1 some c.exchange.ensures.put c.set.ensures.put c.put_inside-outer.ensures.kept

pub put_inside-returns-in-Fields-clause-put : goal.put_inside-returns-in-Fields-clause-put
put_inside-returns-in-Fields-clause-put t c = fields_put c.args.held c.in-Fields.fields c.put_at-answer.new.places (c.args.step ∷ c.args.others.now) (keyed_view c.args.v) c.put_at-answer.result c.in-Fields.is c.put_at-answer.ensures.put

pub put_inside-returns-in-Fields-clause-kept : goal.put_inside-returns-in-Fields-clause-kept
put_inside-returns-in-Fields-clause-kept t c = fields_held c.args.held c.in-Fields.fields c.put_at-answer.new.places c.put_at-answer.result c.in-Fields.is c.put_at-answer.ensures.kept

pub put_inside-returns-in-Call-clause-put : goal.put_inside-returns-in-Call-clause-put
put_inside-returns-in-Call-clause-put t c =
    call_put c.args.held c.in-Call.call c.new.result c.into_params-params.result c.put_at-answer-in-Call.new.places (c.args.step ∷ c.args.others.now) (keyed_view c.args.v) c.put_at-answer-in-Call.result
    c.in-Call.is (c.new.ensures.caller ∙ c.caller-caller.ensures.caller) (c.new.ensures.call ∙ c.call-number.ensures.call) c.into_params-params.ensures.params c.new.ensures.params c.put_at-answer-in-Call.ensures.put

pub put_inside-returns-in-Call-clause-kept : goal.put_inside-returns-in-Call-clause-kept
put_inside-returns-in-Call-clause-kept t c =
    call_held c.args.held c.in-Call.call c.new.result c.into_params-params.result c.put_at-answer-in-Call.new.places c.put_at-answer-in-Call.result
    c.in-Call.is (c.new.ensures.caller ∙ c.caller-caller.ensures.caller) (c.new.ensures.call ∙ c.call-number.ensures.call) c.into_params-params.ensures.params c.new.ensures.params c.put_at-answer-in-Call.ensures.kept
