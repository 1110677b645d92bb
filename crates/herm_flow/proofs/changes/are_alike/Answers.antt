use Rattle.herm_flow.proofs.Alike.{makes-alike, kills-alike}
use Rattle.herm_flow.proofs.changes.are_alike.Goals as goal

pub returns-in-Arm-Arm-clause-makes : goal.returns-in-Arm-Arm-clause-makes
returns-in-Arm-Arm-clause-makes c h = makes-alike c.args.frame.now c.args.form.now c.in-Select.arms c.as_slice.result.now c.in-Select.is c.as_slice.ensures.value c.args.a c.args.b c.in-Arm-Arm.a c.in-Arm-Arm.b c.in-Arm-Arm.is-0 c.in-Arm-Arm.is-1 (c.are_arms_alike.ensures.made h)

pub returns-in-Arm-Arm-clause-kills : goal.returns-in-Arm-Arm-clause-kills
returns-in-Arm-Arm-clause-kills c h = kills-alike c.args.frame.now c.args.form.now c.in-Select.arms c.as_slice.result.now c.in-Select.is c.as_slice.ensures.value c.args.a c.args.b c.in-Arm-Arm.a c.in-Arm-Arm.b c.in-Arm-Arm.is-0 c.in-Arm-Arm.is-1 (c.are_arms_alike.ensures.gone h)
