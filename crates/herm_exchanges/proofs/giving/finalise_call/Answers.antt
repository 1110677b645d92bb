use Rattle.herm_forms.specs.Frames.{finalise_name}
use Rattle.herm_exchanges.proofs.TakenOut.{call_done}
use Rattle.herm_exchanges.proofs.giving.finalise_call.Goals as goal

pub returns-in-Call : goal.returns-in-Call
returns-in-Call c = record {
  stands = λ s who h e.
      call_done c.args.message c.in-Call.call c.into_params.result s c.finalise_places.new.frame c.in-Call.is c.into_params.ensures.params
      (c.in_ok-finalise_places-in-Call.ensures.stands (finalise_name tt s) (c.finalise_cell.ensures.stands s h));
}
