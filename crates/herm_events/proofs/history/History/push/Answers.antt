use Rattle.std.proofs.Common.{sym, ap, ◌∙◌, subst}
use Rattle.herm_events.specs.Rising.{HistoryState, IsAboveLast}
use Rattle.herm_events.specs.View.{entry_view}
use Rattle.herm_events.proofs.Appended.{history_pushed}
use Rattle.herm_events.proofs.history.History.push.Goals as goal

pub invariant_of-self : goal.invariant_of-self
invariant_of-self c = history_pushed _ _ _ _ c.push_reserved.ensures.items c.self.invariant
    (c.requires.place ∙ sym (ap (λ (h : HistoryState). h.place) c.self.view_is))
    (subst (λ (h : HistoryState). IsAboveLast (entry_view c.args.entry).stamp h.entries) (sym c.self.view_is) c.requires.above)
