use Rattle.std.proofs.Common.{◌∙◌, ap, sym, map, slice_get, List}
use Rattle.herm_base.specs.declared.word.Name.{Name}
use Rattle.herm_syntax.specs.View.{name_view, dfact_view}
use Rattle.herm_meaning.specs.Walks.{place_of, walk}
use Rattle.herm_defs.specs.PlainFacts.{walked_as, case_test, differs, fact_key, path_key, bad_fact}
use Rattle.herm_defs.proofs.facts.is_bad_fact.Goals as goal

pub returns-in_ok-is_bad-in-Case : goal.returns-in_ok-is_bad-in-Case
returns-in_ok-is_bad-in-Case c =
    let facts = map dfact_view c.args.facts.now in
    c.in_ok-is_bad-in-Case.ensures
    ∙ (ap (λ (p : List Name). case_test c.args.context.now c.in-Case.component.text (differs c.in-Case.component.text (slice_get facts (place_of (map fact_key facts) (path_key (map name_view p))))) (walked_as (walk c.args.context.now c.args.message (map name_view p)))) c.as_slice-in-Case.ensures.value
    ∙ sym (ap (λ f. bad_fact c.args.context.now c.args.message facts (dfact_view f)) c.in-Case.is))
