use Rattle.std.proofs.Common.{◌∙◌, ◌∷◌, ◌++◌, [], ap, length, replicate}
use Rattle.herm_events.specs.View.{entries_view}
use Rattle.herm_report.specs.Turns.{in_turn, items_of}
use Rattle.herm_report.proofs.Turns.{in-turn-one}
use Rattle.herm_report.proofs.journal.Journal.in_order.Goals as goal

pub returns : goal.returns
returns c =
    record {
      entries =
          c.in_turn.ensures.entries
          ∙ ap (λ ts. entries_view (in_turn ts (items_of c.push.new.self.items))) (c.in_ok-turns.ensures.items_if_clones_equal (λ y e. e) ∙ ap (λ n. replicate n 1) (c.len.ensures ∙ c.args.entries.ok.0))
          ∙ ap (λ ls. entries_view (in_turn (replicate (length c.args.entries.items) 1) (items_of ls))) (c.in_ok-push.ensures.items ∙ ap (λ l. l ++ c.args.entries ∷ []) c.in_ok-lists.ensures.items)
          ∙ ap entries_view (in-turn-one c.args.entries.items);
    }
