use Rattle.std.proofs.Common.{◌≡◌, ◌++◌, ◌∷◌, [], map, reverse, sym, ◌∙◌, ap, append_assoc}
use Rattle.std.proofs.lemmas.List.{reverse-append}
use Rattle.herm_check.specs.View.{hop_view}
use Rattle.herm_check.proofs.Trails.{trail_from, front, front-is}
use Rattle.herm_check.proofs.search.trail.Goals as goal

pub loop-last-preserved : goal.loop-last-preserved
loop-last-preserved c =
    let vs = c.args.visits.now in
    let k = c.loop-last.at in
    let link = c.in-Some.link in
    let items = c.loop-last.hops.items in
    let turned : reverse (items ++ link.hop ∷ []) ≡ link.hop ∷ reverse items = reverse-append items (link.hop ∷ []) in
    c.loop-last.invariant
    ∙ (ap (λ o. trail_from vs k o ++ map hop_view (reverse items)) c.in-Some.is
    ∙ (append_assoc (front vs k link) (hop_view link.hop ∷ []) (map hop_view (reverse items))
    ∙ (ap (λ hs. hs ++ map hop_view (link.hop ∷ reverse items)) (front-is vs k link ∙ ap (trail_from vs link.from) (sym c.link_before-last.ensures))
    ∙ ap (λ xs. trail_from vs link.from c.link_before-last.result ++ map hop_view xs) (sym (ap reverse c.in_ok-push.ensures.items ∙ turned)))))
