use Rattle.std.proofs.Common.{◌≡◌, List, subst, ◌∙◌}
use Rattle.herm_check.specs.declared.search.Visit.{Visit}
use Rattle.herm_words.specs.ToldWords.{hops_text, trail_text}
use Rattle.herm_words.proofs.Trails.{nothing-told}
use Rattle.herm_words.proofs.Stretched.{text-told, unlaid-past}
use Rattle.herm_words.proofs.paths.paths_of.Goals as goal

pub returns-clause-text : goal.returns-clause-text
returns-clause-text c place =
    let types = c.args.types.now in
    let sites = c.args.sites.now in
    let paths = c.lay_all.new.paths in
    let visits = paths.visits.items in
    subst (λ (vs : List Visit). trail_text paths place ≡ hops_text types sites vs place) (c.in_ok-lay_all.ensures.visits ∙ c.in_ok-lay_in_order.ensures.visits)
    (text-told (hops_text types sites visits) paths c.in_ok-lay_all.ensures.laid.told (λ k none. nothing-told types sites visits k (unlaid-past visits paths.stretches.items c.in_ok-lay_all.ensures.all k none)) place)
