use Rattle.herm_frames.proofs.Moved.{empty_record_whole}
use Rattle.herm_frames.proofs.moves.empty_record.Goals as goal

pub returns-clause-whole : goal.returns-clause-whole
returns-clause-whole c = empty_record_whole c.in_ok-places.places c.args.n c.in_ok-places.ensures.places
