use Rattle.std.proofs.Common.{rules}
use Rattle.herm_gather.proofs.Adding.{own-more, places-more}
use Rattle.herm_gather.proofs.places.add_places.Goals as goal

pub loop-entry-preserved : goal.loop-entry-preserved
loop-entry-preserved c =
    record {
      own = own-more c.args.number c.args.diary.now c.loop-entry.entry-index c.entry-item.result c.loop-entry-test.true c.entry-item.is (search rules) c.loop-entry.invariant.own;
      places = places-more c.args.places.now.items c.loop-entry.places.items c.push.new.self.items c.args.diary.now c.loop-entry.entry-index c.entry-item.result c.short_place_of-place.result c.loop-entry-test.true c.entry-item.is c.short_place_of-place.ensures.place (search rules) c.loop-entry.invariant.places c.in_ok-push.ensures.items;
    }
