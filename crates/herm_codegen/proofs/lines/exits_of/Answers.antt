use Rattle.std.proofs.Common.{ℕ, ◌+◌, List, map, ap, ap₂, ◌∙◌}
use Rattle.herm_model.specs.Outcomes.{Outcome}
use Rattle.herm_translated.specs.Layout.{edge_at}
use Rattle.herm_fronts.specs.declared.departures.Departure.{Departure}
use Rattle.herm_fronts.specs.Blocks.{departure_view}
use Rattle.herm_codegen.proofs.lines.exits_of.Goals as goal

abbrev exits_from : ℕ → List Departure → Outcome → ℕ
exits_from n ds o = edge_at n (map departure_view ds) o

pub returns : goal.returns
returns c =
    ap₂ exits_from
    (c.in_ok-first.ensures ∙ ap (λ n. c.args.at + n) (c.in_ok-length.ensures ∙ ap (λ n. 1 + n) c.requires.front))
    c.as_slice.ensures.value
