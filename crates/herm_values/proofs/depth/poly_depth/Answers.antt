use Rattle.herm_values.proofs.Shallow.{shallow-told}
use Rattle.herm_values.proofs.depth.poly_depth.Goals as goal

pub returns-clause-few : goal.returns-clause-few
returns-clause-few c = shallow-told c.args.v.now c.depth_of-depth.result c.requires.whole c.depth_of-depth.ensures.depth
