use Rattle.std.proofs.Common.{sym, ap, subst, ◌∙◌}
use Rattle.herm_check.specs.View.{hop_view}
use Rattle.herm_words.specs.MissingFactWords.{hop_text}
use Rattle.herm_words.specs.Stretches.{text_before, linked_text, EndsText, AreTold}
use Rattle.herm_words.proofs.Stretched.{told-nowhere, told-longer, told-linked}
use Rattle.herm_words.proofs.paths.push_link.Goals as goal

pub returns-in_default-clause-told : goal.returns-in_default-clause-told
returns-in_default-clause-told c texts h is =
    let hops = c.args.paths.now.hops.items in (
      h,
      subst (EndsText texts hops c.args.place (texts c.args.place)) (sym c.at_end.ensures)
          (told-nowhere texts hops c.args.place (is ∙ ap (linked_text c.args.types.now c.args.sites.now texts c.args.place) c.in_default.is)),
    )

pub returns-clause-told : goal.returns-clause-told
returns-clause-told c texts h is =
    let hops = c.args.paths.now.hops.items in
    let ss = c.args.paths.now.stretches.items in
    let link = c.in-Some.link in
    let more = hop_text c.args.types.now c.args.sites.now (hop_view link.hop) in (
      subst (λ xs. AreTold texts xs ss) (sym c.in_ok-push_hop.ensures) (told-longer texts hops more ss h),
      told-linked texts hops more c.push_hop.new.out.items c.args.place (text_before texts c.args.place link) c.stretch_before-before.result c.len.result
          c.in_ok-push_hop.ensures (c.len.ensures ∙ c.push_hop.new.out.ok.0) c.stretch_before-before.ensures.end (c.stretch_before-before.ensures.ends texts h)
          (is ∙ ap (linked_text c.args.types.now c.args.sites.now texts c.args.place) c.in-Some.is),
    )
