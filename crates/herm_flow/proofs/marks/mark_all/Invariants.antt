use Rattle.std.proofs.Common.{◌≡◌, ◌||◌, ℕ, length, drop, nat_eq}
use Rattle.herm_model.specs.Lists.{any_pass}
use Rattle.herm_flow.specs.Listed.{is_marked}
use Rattle.herm_flow.proofs.marks.mark_all.Given as goal

abbrev pub invariant-numbers : goal.invariant-numbers
invariant-numbers l = (length l.marks.items ≡ length l.fn.marks.items) × ((i : ℕ) → (is_marked l.marks.items i || any_pass (nat_eq i) (drop l.number-index l.numbers)) ≡ (is_marked l.fn.marks.items i || any_pass (nat_eq i) l.numbers))
