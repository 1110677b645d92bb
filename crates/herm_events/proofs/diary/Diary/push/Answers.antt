use Rattle.std.proofs.Common.{sym, ap, ◌∙◌, subst}
use Rattle.herm_events.specs.Rising.{DiaryState, IsAboveLast}
use Rattle.herm_events.specs.View.{entry_view}
use Rattle.herm_events.proofs.Appended.{diary_pushed}
use Rattle.herm_events.proofs.diary.Diary.push.Goals as goal

pub invariant_of-self : goal.invariant_of-self
invariant_of-self c = diary_pushed _ _ _ _ c.push_reserved.ensures.items c.self.invariant
    (c.requires.process ∙ sym (ap (λ (d : DiaryState). d.process) c.self.view_is))
    (subst (λ (d : DiaryState). IsAboveLast (entry_view c.args.entry).stamp d.entries) (sym c.self.view_is) c.requires.above)
