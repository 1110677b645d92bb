use Rattle.std.proofs.Common.{◌≡◌, ◌∙◌, ◌&&◌, ◌||◌, map, ap, arith}
use Rattle.std.proofs.lemmas.List.{length-map}
use Rattle.std.proofs.lemmas.Option.{slice_get_within}
use Rattle.herm_model.specs.Paths.{same_fact}
use Rattle.herm_types.specs.View.{fact_view}
use Rattle.herm_typestate.specs.Facts.{has_fact}
use Rattle.herm_facts.specs.NumberSets.{has_number}
use Rattle.herm_facts.proofs.Listed.{facts-apart}
use Rattle.herm_check.proofs.InSets.{below-bound, all-bound}
use Rattle.herm_check.proofs.Making.{at-seen}
use Rattle.herm_check.proofs.label_states.state_of.Goals as goal

pub loop-number-preserved : goal.loop-number-preserved
loop-number-preserved c f =
    let ns = c.args.numbers.now in
    let set = c.args.held.now in
    let facts = c.facts-facts.result.now in
    let n = c.loop-number.number in
    let g = c.index-facts-number.result in
    let at = (c.facts-facts.ensures (fact_view g) n).0 (at-seen fact_view facts n g c.loop-number-test.true c.index-facts-number.is) in
    below-bound ns (facts-apart ns (map fact_view facts) c.facts-facts.ensures) set f (fact_view g) n at (has_fact c.make_held.new.state f)
    (c.in_ok-make_held.ensures f ∙ ap (λ b. (has_number set n && same_fact f (fact_view g)) || b) (c.loop-number.invariant f))

pub returns : goal.returns
returns c f =
    let facts = c.facts-facts.result.now in
    let all = c.loop-number-test.false in
    c.loop-number.invariant f ∙ all-bound c.args.numbers.now c.args.held.now f c.loop-number.number
    (λ k at. let within = slice_get_within (map fact_view facts) k f ((c.facts-facts.ensures f k).1 at) in omega (arith, within, all, length-map facts fact_view))
