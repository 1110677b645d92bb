use Rattle.std.proofs.Common.{rules}
use Rattle.std.proofs.lemmas.List.Sorted.{answers_always, IsNonDecreasingBy-from_sort}
use Rattle.herm_gather.specs.Orders.{place_in_order}
use Rattle.herm_gather.proofs.Merged.{same-place, same-parts}
use Rattle.herm_gather.proofs.merging.sort.Goals as goal

pub returns-clause-sorted : goal.returns-clause-sorted
returns-clause-sorted c =
    let keys = answers_always _ _ _ (λ f a r next called. search rules) in
    IsNonDecreasingBy-from_sort place_in_order c.sort_by_cached_key.new.self.items (c.in_ok-sort_by_cached_key.ensures.sorted place_in_order keys)

pub returns-clause-parts : goal.returns-clause-parts
returns-clause-parts c =
    let keys = answers_always _ _ _ (λ f a r next called. search rules) in
    same-parts place_in_order same-place c.args.entries.now.items c.sort_by_cached_key.new.self.items c.requires.rise (IsNonDecreasingBy-from_sort place_in_order c.sort_by_cached_key.new.self.items (c.in_ok-sort_by_cached_key.ensures.sorted place_in_order keys))
    (c.in_ok-sort_by_cached_key.ensures.stable place_in_order keys)
