use Rattle.std.proofs.Common.{◌++◌, ◌∷◌, [], ◌+◌, None, drop, sym, ap, ◌∙◌, append_assoc}
use Rattle.herm_model.specs.CellNames.{count_in}
use Rattle.herm_values.specs.Parts.{parts_from}
use Rattle.herm_values.specs.View.{views_of}
use Rattle.herm_frames.specs.Counts.{cut}
use Rattle.herm_frames.proofs.CopiedRows.{more_whole, none_next, views_joined}
use Rattle.herm_frames.proofs.rows.copies_of_places.Goals as goal

pub places-preserved-in_default : goal.places-preserved-in_default
places-preserved-in_default c =
    let i = c.places.held-index in
    let rows = c.places.rows.items in
    let next = none_next c.args.places.now i c.held-item.result c.places-test.true c.held-item.is c.in_default.is in
    record {
      small = c.places.invariant.small;
      items =
          ap (λ vs. views_of vs ++ views_of (drop (i + 1) c.args.places.now)) c.in_ok-push_back.ensures.items
          ∙ ap (λ vs. vs ++ views_of (drop (i + 1) c.args.places.now)) (views_joined rows (None ∷ []))
          ∙ append_assoc (views_of rows) (None ∷ []) (views_of (drop (i + 1) c.args.places.now))
          ∙ ap (λ vs. views_of rows ++ views_of vs) (sym next)
          ∙ c.places.invariant.items;
      cells = ap (λ vs. cut (c.places.total + count_in (parts_from (views_of vs)))) (sym next) ∙ c.places.invariant.cells;
      whole = more_whole rows c.push_back.new.self.items None c.in_ok-push_back.ensures.items c.places.invariant.whole tt;
    }
