use Rattle.std.proofs.Common.{nat_eq, sym, ap, ◌∙◌}
use Rattle.herm_model.specs.Lists.{any_pass}
use Rattle.herm_typestate.specs.declared.tree.Mark.TheVariants.{Component}
use Rattle.herm_typestate.proofs.tree.tree_marks_below.Goals as goal

pub returns-then-not-are_among : goal.returns-then-not-are_among
returns-then-not-are_among c =
    let e = c.if-not-are_among.ensures in
    (Component e.0, ap (any_pass (nat_eq e.0)) (sym c.as_slice.ensures.value) ∙ e.1, ap (any_pass (nat_eq e.0)) (sym c.as_slice-2.ensures.value) ∙ e.2)
