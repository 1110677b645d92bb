use Rattle.std.proofs.Common.{sym, ap, option_and_then, ◌∙◌}
use Rattle.herm_model.specs.Outcomes.{ok}
use Rattle.herm_forms.specs.Frames.{cleared, finalise_at_once, goes, if_there}
use Rattle.herm_forms.specs.ReturnForms.{caller_of}
use Rattle.herm_types.specs.View.{path_view}
use Rattle.herm_values.specs.View.{value_view}
use Rattle.herm_exchanges.proofs.giving.given.Goals as goal

pub returns : goal.returns
returns c = record {
  settles = λ s cells who call reply h e.
      let p = path_view c.args.source.now in (
        finalise_at_once (value_view c.in-Some.v) (cleared p s),
        ap (λ o. if_there (λ m. goes ok (finalise_at_once m (cleared p s))) o) (sym (c.in-Some.ensures.taken s h)),
        c.in_ok-finalise_call.ensures.stands (cleared p s) who (c.take.ensures.stands s h) (ap (option_and_then caller_of) (c.in-Some.ensures.taken s h) ∙ e),
      );
}
