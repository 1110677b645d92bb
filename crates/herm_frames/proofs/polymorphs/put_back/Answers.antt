use Rattle.std.proofs.Common.{option_map, sym, ap, ◌∙◌}
use Rattle.herm_types.specs.View.{path_view}
use Rattle.herm_values.specs.View.{value_view}
use Rattle.herm_frames.proofs.PutBack.{put_back_none, put_back_some, put_back_not}
use Rattle.herm_frames.proofs.polymorphs.put_back.Goals as goal

pub returns-in_default : goal.returns-in_default
returns-in_default c = record { back = λ ps at is. put_back_none (path_view c.args.p.now) ps _ (ap (option_map value_view) (sym c.in_default.is) ∙ at) is }

pub returns-in-Ok : goal.returns-in-Ok
returns-in-Ok c = record { back = λ ps at is. put_back_some (path_view c.args.p.now) (value_view c.in-Some.v) ps _ _ (ap (option_map value_view) (sym c.in-Some.is) ∙ at) is c.in-Ok.ensures.put_seen }

pub returns : goal.returns
returns c = record { back = λ ps at is. put_back_not (path_view c.args.p.now) (value_view c.in-Some.v) ps _ (ap (option_map value_view) (sym c.in-Some.is) ∙ at) is c.in-Err.ensures.there }
