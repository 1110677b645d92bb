use Rattle.std.proofs.Common.{◌≡◌, ◌+◌, ◌*◌, ◌-◌, ◌<◌, ℕ, length, Some, slice_get}
use Rattle.herm_model.specs.Paths.{Fact}
use Rattle.herm_flow.specs.OnwardView.{onward_flow_view}
use Rattle.herm_check.specs.declared.search.Search.{Search}
use Rattle.herm_facts.specs.FactNumbers.{number_of}
use Rattle.herm_check.specs.Lists.{AreListsIn}
use Rattle.herm_check.specs.Searched.{IsSearched}
use Rattle.herm_check.proofs.missing.searches_of.Given as goal

abbrev pub invariant-loop-first : goal.invariant-loop-first
invariant-loop-first l = record {
  lists : AreListsIn l.lost l.flow l.lists.items;
  first : l.first ≡ 64 * length l.searches.items;
  searched : (b j : ℕ) (f : Fact) → b < length l.searches.items → j < 64 → number_of l.lost f ≡ Some (64 * b + j) → (s : Search) × (slice_get l.searches.items b ≡ Some s) × IsSearched (onward_flow_view l.flow) f j s;
}

abbrev pub decreases-loop-first : goal.decreases-loop-first
decreases-loop-first l = length l.facts - l.first
