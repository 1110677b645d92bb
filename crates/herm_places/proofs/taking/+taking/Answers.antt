use Rattle.std.proofs.Common.{◌≡◌, ◌∷◌, Option, Some, None, get_or, ap, ◌∙◌, Vec, Global}
use Rattle.std.proofs.lemmas.List.{nil_from_length}
use Rattle.herm_places.proofs.Put.{here_cleared, nowhere_cleared, within_taken, within_cleared}
use Rattle.herm_model.specs.Values.{clear_at}
use Rattle.herm_values.specs.declared.value.Value.{Value}
use Rattle.herm_places.specs.Held.{keyed_places}
use Rattle.herm_places.proofs.Changed.{fields_changed, call_changed}
use Rattle.herm_places.proofs.taking.+taking.Goals as goal

pub take_at-returns-in_default-clause-left : goal.take_at-returns-in_default-clause-left
take_at-returns-in_default-clause-left t c = here_cleared c.args.places.now.items c.exchange-held.new.places.items c.args.place c.args.rest.now (nil_from_length c.args.rest.now c.in_default.ensures.cases) c.exchange-held.ensures.put

pub take_at-returns-in_default-held-clause-left : goal.take_at-returns-in_default-held-clause-left
take_at-returns-in_default-held-clause-left t c =
    let none : None ≡ get_or c.args.places.now.items c.args.place None = cc (c.exchange-held.ensures.old) in
    nowhere_cleared c.args.places.now.items c.exchange-held.new.places.items c.args.place _ _ c.args.rest.now c.in-Some.ensures.cases.0 none c.exchange-held.ensures.put

pub take_at-returns-clause-taken : goal.take_at-returns-clause-taken
take_at-returns-clause-taken t c =
    let some : Some c.in-Some-held.outer ≡ get_or c.args.places.now.items c.args.place None = cc (c.exchange-held.ensures.old) in
    within_taken c.args.places.now.items c.args.place _ _ c.args.rest.now c.in-Some-held.outer _ c.in-Some.ensures.cases.0 some c.take_inside-left.ensures.taken

pub take_at-returns-clause-left : goal.take_at-returns-clause-left
take_at-returns-clause-left t c =
    let some : Some c.in-Some-held.outer ≡ get_or c.args.places.now.items c.args.place None = cc (c.exchange-held.ensures.old) in
    within_cleared c.args.places.now.items c.exchange-held.new.places.items c.set.new.places.items c.args.place _ _ c.args.rest.now c.in-Some-held.outer c.take_inside-left.result.0 c.in-Some.ensures.cases.0 some c.exchange-held.ensures.put c.set.ensures.put c.take_inside-left.ensures.left

pub take_inside-returns-in-Fields-clause-left : goal.take_inside-returns-in-Fields-clause-left
take_inside-returns-in-Fields-clause-left t c = fields_changed c.args.v c.in-Fields.fields c.take_at-taken.new.places (c.args.step ∷ c.args.others.now) None c.in-Fields.is c.take_at-taken.ensures.left

pub take_inside-returns-in-Call-clause-left : goal.take_inside-returns-in-Call-clause-left
take_inside-returns-in-Call-clause-left t c =
    call_changed c.args.v c.in-Call.call c.new.result (c.args.step ∷ c.args.others.now) None c.in-Call.is (c.new.ensures.caller ∙ c.caller-caller.ensures.caller) (c.new.ensures.call ∙ c.call-number.ensures.call)
    (ap (λ (ps : Vec (Option Value) Global). keyed_places ps.items) c.new.ensures.params
    ∙ c.take_at-taken-in-Call.ensures.left
    ∙ ap (λ (ps : Vec (Option Value) Global). clear_at (c.args.step ∷ c.args.others.now) (keyed_places ps.items)) c.into_params-params.ensures.params)
