use Rattle.std.proofs.Common.{nat_eq, sym, ap, ◌∙◌, get_or}
use Rattle.herm_model.specs.Lists.{any_pass}
use Rattle.herm_typestate.specs.declared.tree.Mark.TheVariants.{Component}
use Rattle.herm_typestate.proofs.Within.{any-read}
use Rattle.herm_typestate.proofs.tree.is_unmarked.Goals as goal

pub returns-in-Some : goal.returns-in-Some
returns-in-Some c =
    let known = c.as_slice.result.now in
    (Component (get_or known 0 0), ap (any_pass (nat_eq (get_or known 0 0))) (sym c.as_slice.ensures.value) ∙ any-read known 0 c.in-Some.ensures.item.3.0)
