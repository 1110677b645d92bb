use Rattle.std.proofs.Common.{refl}
use Rattle.herm_places.proofs.Replaced.{lent_some, lent_there, lent_none, within_put}
use Rattle.herm_places.proofs.replacing.put_field.Goals as goal

pub put_in_record-requires : goal.put_in_record-requires
put_in_record-requires c = record { there = lent_there c.args.places.now.items c.args.place c.args.field _ c.in-Some.outer c.requires.there c.index_mut.ensures.value c.in-Some.is }

pub returns-in-None-clause-put : goal.returns-in-None-clause-put
returns-in-None-clause-put c = lent_none c.args.places.now.items c.args.place c.args.field _ c.requires.there c.index_mut.ensures.value c.in-None.is

pub returns-in-Some-clause-put : goal.returns-in-Some-clause-put
returns-in-Some-clause-put c =
    let some = lent_some c.args.places.now.items c.args.place c.args.field _ c.in-Some.outer c.requires.there c.index_mut.ensures.value c.in-Some.is in
    within_put c.args.places.now.items _ c.args.place c.args.field c.in-Some.outer c.put_in_record.new.held c.args.v some refl c.put_in_record.ensures.put
