use Rattle.std.proofs.Common.{◌≡◌, ℕ, true, nat_eq, take}
use Rattle.herm_model.specs.Lists.{any_pass}
use Rattle.herm_typestate.proofs.tree.are_among.Given as goal

abbrev pub invariant-loop-component : goal.invariant-loop-component
invariant-loop-component l = (c : ℕ) → any_pass (nat_eq c) (take l.component-index l.known) ≡ true → any_pass (nat_eq c) l.others ≡ true
