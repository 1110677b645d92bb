use Rattle.std.proofs.Common.{◌||◌, ◌<◌, ◌≡◌, false, length, get_or, map, sym, ap, subst, ◌∙◌}
use Rattle.std.proofs.lemmas.List.{get_or-replicate, length-replicate}
use Rattle.herm_model.specs.Lists.{any_pass}
use Rattle.herm_translated.specs.BlockLabels.{goes_to_first}
use Rattle.herm_fronts.specs.Blocks.{departure_view}
use Rattle.herm_blocks.specs.Seen.{ways_view}
use Rattle.herm_blocks.specs.Scopes.{SeenWays}
use Rattle.herm_blocks.proofs.led.led_of.Goals as goal

pub returns : goal.returns
returns c = record {
  led = λ i within.
      let many = length c.args.ways.now in
      let first : length c.in_ok-led.led.items ≡ many = ap length c.in_ok-led.ensures ∙ length-replicate many false in
      let there : i < length c.in_ok-led.led.items = subst (λ n. i < n) (sym first) within in
      let again : i < length c.mark.new.led.items = subst (λ n. i < n) (sym c.mark.ensures.many) there in
      c.mark_each.ensures.marked i again
      ∙ ap (λ b. b || any_pass (λ (w : SeenWays). any_pass (λ d. goes_to_first i d.departure.arrival) w.departures) (map ways_view c.args.ways.now))
      (c.mark.ensures.marked i there ∙ ap (λ b. b || goes_to_first i (departure_view c.args.entry.now).arrival) (ap (λ xs. get_or xs i false) c.in_ok-led.ensures ∙ get_or-replicate many i false false within));
}
