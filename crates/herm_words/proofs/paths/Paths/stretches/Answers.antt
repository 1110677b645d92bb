use Rattle.std.proofs.Common.{◌++◌, flat_map, reverse, ap, ◌∙◌}
use Rattle.herm_model.specs.Lists.{list_of}
use Rattle.herm_words.specs.ToldWords.{trail_text, stretch_text}
use Rattle.herm_words.proofs.Stretched.{text-walked}
use Rattle.herm_words.proofs.paths.Paths.stretches.Goals as goal

pub loop-next-preserved : goal.loop-next-preserved
loop-next-preserved c =
    let paths = c.args.self.now in
    c.loop-next.invariant
    ∙ (ap (λ o. list_of (trail_text paths) o ++ flat_map (stretch_text paths) (reverse c.loop-next.places.items)) c.in-Some.is
    ∙ text-walked (trail_text paths) (stretch_text paths) c.in-Some.at c.last_stretch-before.result.0 c.last_stretch-before.result.1.now c.loop-next.places.items c.push.new.self.items
    c.last_stretch-before.ensures.text c.last_stretch-before.ensures.stretch c.in_ok-push.ensures.items)
