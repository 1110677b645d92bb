use Rattle.std.proofs.Common.{sym, ap, ◌∙◌}
use Rattle.herm_words.specs.ToldWords.{text_within}
use Rattle.herm_words.proofs.Stretched.{text-split}
use Rattle.herm_words.proofs.paths.Paths.last_stretch.Goals as goal

pub returns-clause-text : goal.returns-clause-text
returns-clause-text c =
    let s = c.in-Some.stretch in
    text-split c.args.self.now c.args.place s (sym c.stretch_at.ensures ∙ c.in-Some.is) c.place_before-before.result c.place_before-before.ensures.value c.text_between-text.result.now
    (c.text_between-text.ensures ∙ ap (λ text. text_within text s.begin s.end) c.as_slice.ensures.value)
