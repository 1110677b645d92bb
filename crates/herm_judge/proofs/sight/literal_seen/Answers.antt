use Rattle.herm_typed.specs.View.{typed_literal_view}
use Rattle.herm_judge.specs.View.{kind, table_of, variables_of}
use Rattle.herm_judge.proofs.Sights.{literal_sight}
use Rattle.herm_judge.proofs.sight.literal_seen.Goals as goal

pub returns : goal.returns
returns c = record {
  seen = literal_sight (table_of c.args.frame.now) (variables_of c.args.frame.now) (typed_literal_view c.args.l.now) c.is_literal_there.result c.is_literal_fit.result (kind c.literal_gives.result)
      c.is_literal_there.ensures.there c.is_literal_fit.ensures.fits (c.literal_gives.ensures.gives (table_of c.args.frame.now));
}
