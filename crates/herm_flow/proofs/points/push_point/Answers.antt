use Rattle.herm_flow.proofs.KeptPoints.{adds_whole, adds_onward}
use Rattle.herm_flow.proofs.points.push_point.Goals as goal

pub returns-in_ok-push-in-All : goal.returns-in_ok-push-in-All
returns-in_ok-push-in-All c = record { points = adds_whole c.args.kept _ _ _ _ c.in-All.is c.in_ok-push-in-All.ensures.items c.in_ok-point-in-All.ensures.point }

pub returns-in_ok-push-in-Onward : goal.returns-in_ok-push-in-Onward
returns-in_ok-push-in-Onward c = record { points = adds_onward c.args.kept _ _ _ _ c.in-Onward.is c.in_ok-push-in-Onward.ensures.items c.in_ok-point-in-Onward.ensures.point }
