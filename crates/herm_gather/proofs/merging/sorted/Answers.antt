use Rattle.std.proofs.Common.{◌∙◌, sym, ap, subst}
use Rattle.herm_journal.specs.Journals.{IsRising, part_of_process}
use Rattle.herm_gather.proofs.Merged.{sorted-rises}
use Rattle.herm_gather.proofs.merging.sorted.Goals as goal

pub returns-clause-rising : goal.returns-clause-rising
returns-clause-rising c =
    subst IsRising (sym c.in_ok-journal.ensures.entries)
    (sorted-rises c.sort.new.entries.items c.in_ok-sort.ensures.sorted
    (λ p. subst IsRising (sym (c.in_ok-sort.ensures.parts p ∙ ap (part_of_process p) c.in_ok-entries.ensures.entries)) (c.requires.rise p)))
