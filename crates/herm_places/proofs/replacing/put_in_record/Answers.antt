use Rattle.herm_places.proofs.Lent.{lent_field, lent_put, lent_whole}
use Rattle.herm_places.proofs.replacing.put_in_record.Goals as goal

pub set-requires : goal.set-requires
set-requires c = record { within = lent_field c.args.held.now c.in-Fields.fields _ c.in-Fields.fields c.in-Fields.is c.in-Fields.fields-is c.args.field c.requires.there }

pub returns-in-Fields-clause-put : goal.returns-in-Fields-clause-put
returns-in-Fields-clause-put c = lent_put c.args.held.now c.in-Fields.fields _ c.set.new.places c.in-Fields.is c.in-Fields.fields-is c.args.v c.args.field c.set.ensures.put

pub returns-in-Fields-clause-whole : goal.returns-in-Fields-clause-whole
returns-in-Fields-clause-whole c = λ put held. lent_whole c.args.held.now c.in-Fields.fields _ c.set.new.places c.in-Fields.is c.in-Fields.fields-is (λ whole. c.set.ensures.whole whole put) held
