use Rattle.std.proofs.Common.{◌∙◌}
use Rattle.herm_model.specs.Tables.{key_of}
use Rattle.herm_values.specs.View.{value_view}
use Rattle.herm_suits.proofs.Fields.{begin-alike, begin-apart}
use Rattle.herm_suits.proofs.keys.+is_same_key.Goals as goal

pub returns-then-is_same : goal.returns-then-is_same
returns-then-is_same t c =
    begin-alike (key_of c.args.left.now (value_view c.args.a.now)) (key_of c.args.right.now (value_view c.args.b.now)) (key_of c.in-Some.left_rest.now (value_view c.args.a.now)) (key_of c.in-Some-next_scalar-2.right_rest.now (value_view c.args.b.now))
    (value_view c.in-Some.x.now) (value_view c.in-Some-next_scalar-2.y.now) c.in-Some.ensures.plain c.in-Some-next_scalar-2.ensures.plain c.in-Some.ensures.found c.in-Some-next_scalar-2.ensures.found c.is_same.result c.is_same.ensures
    c.is_same_key.result c.if-is_same.true c.is_same_key.ensures

pub returns-else-is_same : goal.returns-else-is_same
returns-else-is_same t c =
    c.if-is_same.false
    ∙ begin-apart (key_of c.args.left.now (value_view c.args.a.now)) (key_of c.args.right.now (value_view c.args.b.now)) (key_of c.in-Some.left_rest.now (value_view c.args.a.now)) (key_of c.in-Some-next_scalar-2.right_rest.now (value_view c.args.b.now))
    (value_view c.in-Some.x.now) (value_view c.in-Some-next_scalar-2.y.now) c.in-Some.ensures.plain c.in-Some-next_scalar-2.ensures.plain c.in-Some.ensures.found c.in-Some-next_scalar-2.ensures.found c.is_same.result c.is_same.ensures
    c.if-is_same.false
