use Rattle.std.proofs.Common.{◌≡◌, ◌||◌, Some, nat_eq, true, subst}
use Rattle.herm_model.specs.Lists.{any_pass}
use Rattle.herm_model.specs.Paths.{Fact, path_of, is_at_or_below}
use Rattle.herm_types.specs.View.{path_view}
use Rattle.herm_facts.specs.FactNumbers.{number_of}
use Rattle.herm_facts.specs.NumberSets.{has_number}
use Rattle.herm_facts.proofs.FactsInSets.{gains_listed, none_before}
use Rattle.herm_facts.proofs.sets_of_facts.insert_below.Goals as goal

pub returns : goal.returns
returns c =
    gains_listed (λ n. (f : Fact) × (number_of c.args.numbers.now f ≡ Some n) × (is_at_or_below (path_view c.args.path.now) (path_of f) ≡ true)) c.below.new.out.items (has_number c.args.set.now) (has_number c.insert_all.new.self)
    (none_before _ c.clear.new.self.items c.below.new.out.items c.clear.ensures.items c.in_ok-below.ensures.below)
    (λ n. subst (λ xs. has_number c.insert_all.new.self n ≡ (any_pass (nat_eq n) xs || has_number c.args.set.now n)) c.as_slice.ensures.value (c.in_ok-insert_all.ensures n))
