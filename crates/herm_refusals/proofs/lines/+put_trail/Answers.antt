use Rattle.std.proofs.Common.{◌++◌, ap, ◌∙◌, sym}
use Rattle.herm_model.specs.Lists.{list_of}
use Rattle.herm_words.specs.ToldWords.{trail_text}
use Rattle.herm_edge.proofs.Putting.{put-both, put-short, put-as}
use Rattle.herm_refusals.proofs.lines.+put_trail.Goals as goal

pub returns-in_err-put_trail-in-Some-default-clause-put : goal.returns-in_err-put_trail-in-Some-default-clause-put
returns-in_err-put_trail-in-Some-default-clause-put g t c =
    put-as _ _ _ _ _ _ _ _ _ (ap (λ before. list_of (trail_text c.args.paths.now) before ++ c.last_stretch.result.1.now) (sym c.in-Some-default.is-0) ∙ sym c.last_stretch.ensures.text)
    (put-short _ _ _ _ _ _ _ _ _ _ c.from_residual.ensures.0 c.in_err-put_trail-in-Some-default.ensures.put)

pub returns-in_ok-put_trail-in-Some-default-clause-put : goal.returns-in_ok-put_trail-in-Some-default-clause-put
returns-in_ok-put_trail-in-Some-default-clause-put g t c =
    put-as _ _ _ _ _ _ _ _ _ (ap (λ before. list_of (trail_text c.args.paths.now) before ++ c.last_stretch.result.1.now) (sym c.in-Some-default.is-0) ∙ sym c.last_stretch.ensures.text)
    (put-both _ _ _ _ _ _ _ _ _ _ _ _ c.in_ok-put_trail-in-Some-default.ensures.put c.put-in-Some-default.ensures.put)
