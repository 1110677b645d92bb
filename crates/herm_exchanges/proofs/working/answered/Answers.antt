use Rattle.std.proofs.Common.{sym, subst}
use Rattle.herm_frames.specs.Standing.{Stands}
use Rattle.herm_exchanges.proofs.Worked.{front_done, front_stays}
use Rattle.herm_exchanges.proofs.working.answered.Goals as goal

pub returns : goal.returns
returns c = record {
  settles = λ s item more call r h is.
      let t = front_done c.args.frame.now c.take_work.new.self c.take_work.result s item more c.take_work.ensures.frame c.take_work.ensures.first c.take_work.ensures.none h is in
      front_stays c.finalise_cell.new.self item (record s { work = more }) t.taken t.is
      (c.finalise_cell.ensures.stands (record s { work = more }) (subst (λ f. Stands f (record s { work = more })) (sym c.take_work.ensures.frame) t.stands));
}
