use Rattle.std.proofs.Common.{◌++◌, ap, ap₂, ◌∙◌, sym}
use Rattle.herm_words.specs.ToldWords.{trail_text, reason_words}
use Rattle.herm_edge.proofs.Putting.{put-both, put-short, put-as}
use Rattle.herm_refusals.proofs.lines.put_words.Goals as goal

pub returns-in_err-put-in-Missing-clause-put : goal.returns-in_err-put-in-Missing-clause-put
returns-in_err-put-in-Missing-clause-put g c =
    let missing = c.in-Missing.missing in
    put-as _ _ _ _ _ _ _ _ _ (ap (λ head. head ++ trail_text missing.paths.value missing.place) (c.head.ensures ∙ ap (λ lost. lost.head.items) c.deref.ensures) ∙ ap reason_words (sym c.in-Missing.is))
    (put-short _ _ _ _ _ _ _ _ _ _ c.from_residual.ensures.0 c.in_err-put-in-Missing.ensures.put)

pub returns-in_ok-put-in-Missing-clause-put : goal.returns-in_ok-put-in-Missing-clause-put
returns-in_ok-put-in-Missing-clause-put g c =
    let missing = c.in-Missing.missing in
    put-as _ _ _ _ _ _ _ _ _ (ap₂ (λ head text. head ++ text) (c.head.ensures ∙ ap (λ lost. lost.head.items) c.deref.ensures) (ap (λ paths. trail_text paths missing.place) c.deref-in-Missing.ensures) ∙ ap reason_words (sym c.in-Missing.is))
    (put-both _ _ _ _ _ _ _ _ _ _ _ _ c.in_ok-put-in-Missing.ensures.put c.put_trail.ensures.put)
