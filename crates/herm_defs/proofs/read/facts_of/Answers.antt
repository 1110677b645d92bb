use Rattle.std.proofs.Common.{map, flat_map, sym, ap, arith, ◌∙◌}
use Rattle.herm_model.specs.Facts.{without_repeats}
use Rattle.herm_syntax.specs.View.{dfact_view}
use Rattle.herm_meaning.specs.Meaning.{fact_meant}
use Rattle.herm_defs.proofs.DistinctLaws.{meant-alone, one-item}
use Rattle.herm_defs.proofs.read.facts_of.Goals as goal

pub returns-in_ok-facts-in-len1 : goal.returns-in_ok-facts-in-len1
returns-in_ok-facts-in-len1 c =
    c.in_ok-facts-in-len1.ensures
    ∙ (meant-alone c.args.table.now c.args.message.0 (dfact_view c.fact-item.result)
    ∙ ap (λ ds. without_repeats (flat_map (fact_meant c.args.table.now c.args.message.0) (map dfact_view ds))) (sym (one-item c.args.list.now c.fact-item.result c.fact-item.is (omega (arith, c.in-len1.len_at_least, c.in-len1.len_below)))))
