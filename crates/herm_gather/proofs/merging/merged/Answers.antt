use Rattle.std.proofs.Common.{◌≡◌, ◌∙◌, ℕ, sym, ap, subst}
use Rattle.std.specs.List.Sorted.{IsPermutation}
use Rattle.herm_journal.specs.Journals.{IsRising, part_of_process}
use Rattle.herm_events.specs.View.{entries_view}
use Rattle.herm_report.specs.Turns.{in_turn, items_of}
use Rattle.herm_gather.specs.Diaries.{diaries_view}
use Rattle.herm_gather.proofs.InTurn.{in-turn-is}
use Rattle.herm_gather.proofs.Owned.{part-diary, view-joined}
use Rattle.herm_gather.proofs.SortedPlaces.{sorted-places-rise, sorted-turns}
use Rattle.herm_gather.proofs.merging.merged.Goals as goal

pub returns : goal.returns
returns c =
    let lists = items_of c.args.diaries.items in
    let sorted = c.sort_unstable.new.self.items in
    let turns =
    sorted-turns lists sorted c.requires.own (λ p. subst (λ es. IsRising (part_of_process p es)) (view-joined c.args.diaries.items) (c.requires.rise p))
    (subst (λ ns. IsPermutation ns sorted) c.requires.places c.sort_unstable.ensures.permutation) c.sort_unstable.ensures.sorted in
    let all = in-turn-is sorted lists turns in
    let parts : (p : ℕ) → part_of_process p (entries_view (in_turn sorted lists)) ≡ part_of_process p (diaries_view c.args.diaries.items) =
    λ p. all.1 p ∙ sym (part-diary p c.args.diaries.items c.requires.own) in
    record {
      rising =
          subst IsRising (sym c.in_turn.ensures.entries)
          (sorted-places-rise (in_turn sorted lists) sorted all.0 c.sort_unstable.ensures.sorted (λ p. subst IsRising (sym (parts p)) (c.requires.rise p)));
      parts = λ p. ap (part_of_process p) c.in_turn.ensures.entries ∙ parts p;
    }
