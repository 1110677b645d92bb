use Rattle.herm_places.proofs.Replaced.{within_done, within_held}
use Rattle.herm_places.proofs.replacing.plain_field.Goals as goal

pub returns-in-Some-clause-done : goal.returns-in-Some-clause-done
returns-in-Some-clause-done c = within_done c.args.places.now c.args.place c.args.field c.in-Some.outer.now _ c.in-Some.ensures.held c.plain_in_record.ensures.done

pub returns-in-Some-clause-held : goal.returns-in-Some-clause-held
returns-in-Some-clause-held c = within_held c.args.places.now c.args.place c.args.field c.in-Some.outer.now c.plain_in_record.result c.in-Some.ensures.held c.plain_in_record.ensures.held
