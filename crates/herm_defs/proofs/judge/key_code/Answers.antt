use Rattle.std.proofs.Common.{subst, take}
use Rattle.herm_model.specs.Lists.{IsIn}
use Rattle.herm_graph.specs.Tells.{Tells}
use Rattle.herm_defs.proofs.Roles.{key-role}
use Rattle.herm_defs.proofs.judge.key_code.Goals as goal

pub returns : goal.returns
returns c =
    let told = subst (λ n. Tells c.is_before-is_repeated.result (IsIn n (take c.args.place c.args.names.now))) c.bytes.ensures.bytes c.is_before-is_repeated.ensures in
    key-role c.args.context.now c.args.name.now (take c.args.place c.args.names.now) c.is_before-is_repeated.result told c.args.row.now.text c.type_of.result c.is_bad_key-is_bad.result c.type_of.ensures c.is_bad_key-is_bad.ensures c.first_of_four.result c.first_of_four.ensures
