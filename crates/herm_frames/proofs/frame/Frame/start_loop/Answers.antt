use Rattle.std.proofs.Common.{◌≡◌, ◌∷◌, ◌+◌, List, map, reverse, refl, sym, ap, subst, ◌∙◌}
use Rattle.std.specs.Prelude.{⊤}
use Rattle.herm_journal.specs.Renaming.{forget_name}
use Rattle.herm_model.specs.CellNames.{count_in}
use Rattle.herm_model.specs.Outcomes.{ok}
use Rattle.herm_model.specs.Values.{Parts, parts_of}
use Rattle.herm_forms.specs.Frames.{Loop, Frame, Completion, goes, if_there, copying_parts}
use Rattle.herm_types.specs.View.{path_view}
use Rattle.herm_values.specs.View.{value_view}
use Rattle.herm_frames.specs.HeldFrames.{HeldLoop}
use Rattle.herm_frames.specs.Standing.{Stands, loop_view}
use Rattle.herm_frames.proofs.LeftLoops.{last_first}
use Rattle.herm_frames.proofs.Moved.{copied_parts}
use Rattle.herm_frames.proofs.Stood.{cut_both, with_made, with_loops}
use Rattle.herm_frames.proofs.frame.Frame.start_loop.Goals as goal

pub returns : goal.returns
returns c = record {
  effect = λ code stack s h.
      let slot = c.args.slot in
      let ps : Parts ⊤ = parts_of (value_view c.in-Some.v.now) in
      let g = subst (λ f. Stands f s) (sym c.self.view_is) h in
      let next : Parts ⊤ → Frame ⊤ → Completion ⊤ = λ rows b. goes ok (record b { loops = record { statement = slot; rows = rows } ∷ b.loops }) in
      let new : HeldLoop = record { slot = slot; rows = c.in_ok-copies.copies.rows.items } in
      let ls : record { statement = slot; rows = ps } ∷ s.loops ≡ map loop_view (reverse c.push.new.self.items) =
      ap (λ rows. record { statement = slot; rows = rows } ∷ s.loops) (sym c.in_ok-copies.ensures.copies)
      ∙ ap (λ ls. loop_view new ∷ ls) g.loops
      ∙ sym (ap (map loop_view) (last_first _ _ new c.in_ok-push.ensures.items)) in (
        refl,
        (
          record s { serial = s.serial + count_in ps; loops = record { statement = slot; rows = ps } ∷ s.loops },
          ap (if_there (λ table. copying_parts forget_name (parts_of table) next s)) (sym (c.in-Some.ensures.stands s h))
              ∙ ap (λ rows. next rows (record s { serial = s.serial + count_in ps })) (copied_parts s.serial ps),
          with_loops _ (record s { serial = s.serial + count_in ps }) _ _
              (with_made _ s _ (s.serial + count_in ps) g (c.sum-self-inside.ensures.sum ∙ cut_both s.serial (count_in ps) c.self.inside.made c.in_ok-copies.copies.cells g.made c.in_ok-copies.ensures.cells))
              ls,
        ),
      );
}
