use Rattle.std.proofs.Common.{rules, nat_eq, ◌∙◌, ap}
use Rattle.std.proofs.lemmas.Fn.{filter_same}
use Rattle.herm_model.specs.Lists.{any_pass}
use Rattle.herm_typestate.proofs.Within.{kept_common}
use Rattle.herm_typestate.proofs.tree.keep_common.Goals as goal

pub returns : goal.returns
returns c k =
    ap (any_pass (nat_eq k)) (filter_same _ (λ x. any_pass (nat_eq x) c.args.others.now) _ (λ x b f' h. search rules) _ _ c.retain.ensures.filtered)
    ∙ kept_common k c.args.known.now.items c.args.others.now
