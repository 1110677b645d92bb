use Rattle.std.proofs.Common.{add-one, ◌∙◌, ap, map, List, ℕ}
use Rattle.herm_types.specs.Chosen.{lists}
use Rattle.herm_numbers.specs.Counts.{paths_by}
use Rattle.herm_numbers.proofs.Counting.{counted}
use Rattle.herm_numbers.proofs.counts.path_counts.Goals as goal

pub rounds-preserved : goal.rounds-preserved
rounds-preserved c =
    rw add-one (counted c.rounds.counter (lists c.args.parts.now) c.rounds.counts.items _ c.rounds.invariant (c.in_ok-counts.ensures ∙ ap (λ (counts : List ℕ). map (paths_by counts 1) (lists c.args.parts.now)) c.as_slice.ensures.value))
