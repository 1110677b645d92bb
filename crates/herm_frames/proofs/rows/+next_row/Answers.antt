use Rattle.std.proofs.Common.{◌≡◌, ◌∷◌, reverse, sym, ap, subst, ◌∙◌}
use Rattle.herm_frames.specs.HeldFrames.{HeldLoop}
use Rattle.herm_frames.specs.Visits.{IsNext}
use Rattle.herm_frames.proofs.LeftLoops.{last_first, visited}
use Rattle.herm_frames.proofs.rows.+next_row.Goals as goal

pub returns-then-last-slot-clause-next : goal.returns-then-last-slot-clause-next
returns-then-last-slot-clause-next t c =
    let held : HeldLoop = record { slot = c.last.inside.slot; rows = c.last.inside.rows.items } in
    let rest = reverse c.pop.new.self.items in
    let old : reverse c.args.loops.now.items ≡ held ∷ rest = last_first _ _ _ c.in-Some.ensures.items ∙ ap (λ l. l ∷ rest) (sym c.last.view_is) in
    let new : reverse c.push.new.self.items ≡ record held { rows = c.first_row-row.new.rows.items } ∷ rest = last_first _ _ _ c.in_ok-push.ensures.items in
    subst (λ ls. IsNext c.first_row-row.result c.args.slot ls (reverse c.push.new.self.items)) (sym old)
    (subst (λ ls. IsNext c.first_row-row.result c.args.slot (held ∷ rest) ls) (sym new) (visited c.first_row-row.result c.args.slot held c.first_row-row.new.rows.items rest c.if-last-slot.true c.first_row-row.ensures.first))
