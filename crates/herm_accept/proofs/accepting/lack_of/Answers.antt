use Rattle.std.proofs.Common.{List, sym, ap, subst, ◌∙◌}
use Rattle.herm_words.specs.declared.sites.Site.{Site}
use Rattle.herm_accept.specs.Lacking.{start_in, IsLost, IsTold}
use Rattle.herm_accept.proofs.Telling.{told-read, lack-told}
use Rattle.herm_accept.proofs.accepting.lack_of.Goals as goal

pub returns : goal.returns
returns c types p lost found sites facts searches =
    let m = c.args.missing in
    let fact = told-read (IsLost types p) lost c.args.facts.now m.fact c.index-facts-missing.result c.requires.fact c.index-facts-missing.is facts in
    let search = told-read (IsTold types c.args.sites.now) found c.args.searches.now m.search c.index-searches-missing.result c.requires.search c.index-searches-missing.is searches in
    lack-told types c.args.number p lost found m fact.0 c.in_ok-lost.lost.value search.0 c.in_ok-paths.paths.value c.start_of-start.result fact.1
    (subst (IsLost types p fact.0) (sym c.in_ok-lost.ensures.cases) fact.2) search.1
    (subst (λ (all : List Site). IsTold types all search.0 c.in_ok-paths.paths.value) sites (subst (IsTold types c.args.sites.now search.0) (sym c.in_ok-paths.ensures.cases) search.2))
    (c.start_of-start.ensures ∙ ap (λ sites. start_in sites m.stmt.0) sites)
