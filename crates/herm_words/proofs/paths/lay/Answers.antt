use Rattle.std.proofs.Common.{List, length, slice_get, option_and_then, sym, ap, subst, ◌∙◌, arith, length-set, Some}
use Rattle.herm_check.specs.declared.search.Visit.{Visit}
use Rattle.herm_words.specs.ToldWords.{hops_text}
use Rattle.herm_words.specs.Stretches.{AreTold, IsLaid}
use Rattle.herm_words.proofs.Trails.{text-by-link}
use Rattle.herm_words.proofs.Stretched.{told-set, laid-here, laid-kept, laid-of}
use Rattle.herm_words.proofs.paths.lay.Goals as goal

pub returns-clause-laid : goal.returns-clause-laid
returns-clause-laid c =
    let types = c.args.types.now in
    let sites = c.args.sites.now in
    let visits = c.args.paths.now.visits.items in
    let texts = hops_text types sites visits in
    let ss = c.push_link.new.paths.stretches.items in
    let hops = c.push_link.new.paths.hops.items in
    let kept = c.in_ok-stretch.ensures.kept in
    let link = c.link_at-link.ensures ∙ ap (λ (vs : List Visit). option_and_then (λ (v : Visit). v.last) (slice_get vs c.args.place)) c.as_slice.ensures.value in
    let told = c.in_ok-stretch.ensures.told texts c.requires.laid.told (text-by-link types sites visits c.args.place c.link_at-link.result link) in
    laid-of types sites visits _ c.in_ok-stretch.ensures.visits
    (length-set ss c.args.place (Some c.in_ok-stretch.stretch) ∙ (ap length kept ∙ c.requires.laid.many))
    (told-set texts hops ss c.args.place c.in_ok-stretch.stretch (subst (AreTold texts hops) (sym kept) told.0) told.1)

pub returns-clause-here : goal.returns-clause-here
returns-clause-here c =
    let ss = c.push_link.new.paths.stretches.items in
    laid-here ss c.args.place c.in_ok-stretch.stretch (omega (arith, c.requires.within, ap length c.in_ok-stretch.ensures.kept, c.requires.laid.many))

pub returns-clause-kept : goal.returns-clause-kept
returns-clause-kept c k laid =
    let ss = c.push_link.new.paths.stretches.items in
    laid-kept ss c.args.place k c.in_ok-stretch.stretch (omega (arith, c.requires.within, ap length c.in_ok-stretch.ensures.kept, c.requires.laid.many)) (subst (λ xs. IsLaid xs k) (sym c.in_ok-stretch.ensures.kept) laid)
