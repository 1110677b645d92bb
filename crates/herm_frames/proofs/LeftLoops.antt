-- Loops at the end of a vector are the innermost ones.
use Rattle.std.proofs.Common.{◌≡◌, ℕ, List, [], ◌∷◌, ◌++◌, ◌+◌, map, length, filter, reverse, Bool, true, false, cond, not, nat_eq, Option, Some, None, refl, sym, ap, ap₂, subst, ◌∙◌, append_assoc, append-nil}
use Rattle.std.proofs.lemmas.List.{reverse-append}
use Rattle.std.proofs.lemmas.Bool.{eq-eqb}
use Rattle.std.specs.Prelude.{⊤}
use Rattle.herm_model.specs.Values as model
use Rattle.herm_model.specs.Finalising.{finalised_in, pending_in}
use Rattle.herm_forms.specs.Frames.{Frame, finalise_parts}
use Rattle.herm_forms.specs.LeavingLoops.{finalise_loops, leave_loops}
use Rattle.herm_forms.specs.LoopForms.{rows_for, set_rows}
use Rattle.herm_places.specs.Held.{seen_places}
use Rattle.herm_values.specs.Works.{item_view}
use Rattle.herm_values.specs.declared.value.Value.{Value}
use Rattle.herm_values.specs.declared.work.WorkItem.{WorkItem}
use Rattle.herm_frames.specs.Counts.{cut}
use Rattle.herm_frames.specs.Leaving.{lost_pending, lost_finalised}
use Rattle.herm_frames.specs.Standing.{Stands, loop_view}
use Rattle.herm_frames.specs.Visits.{IsFirst, IsNext}
use Rattle.herm_frames.specs.declared.rows.NextRow.{NextRow}
use Rattle.herm_frames.specs.declared.rows.NextRow.TheVariants as next
use Rattle.herm_frames.proofs.Stood.{with_loops, with_finalised}
use Rattle.herm_frames.specs.HeldFrames.{HeldLoop, HeldFrame}

pub last_first : (loops new : List HeldLoop) (l : HeldLoop) → loops ≡ new ++ l ∷ [] → reverse loops ≡ l ∷ reverse new
last_first loops new l is = ap reverse is ∙ reverse-append new (l ∷ [])

-- the loop of the slot is the innermost one
pub visited : (r : NextRow) (slot : ℕ) (l : HeldLoop) (left : List (Option Value)) (rest : List HeldLoop) → l.slot ≡ slot → IsFirst r l.rows left → IsNext r slot (l ∷ rest) (record l { rows = left } ∷ rest)
visited next.NoLoop slot l left rest is h = absurd h
visited next.NoRow slot l left rest is h =
    (ap (λ b. cond b (Some (seen_places l.rows)) (rows_for slot (map loop_view rest))) (eq-eqb l.slot slot is) ∙ ap (λ vs. Some (seen_places vs)) h.0, ap (λ vs. record l { rows = vs } ∷ rest) (h.1 ∙ sym h.0))
visited next.Empty slot l left rest is h =
    (seen_places left, ap (λ b. cond b (Some (seen_places l.rows)) (rows_for slot (map loop_view rest))) (eq-eqb l.slot slot is) ∙ ap (λ vs. Some (seen_places vs)) h)
visited (next.Row v) slot l left rest is h = (
  seen_places left,
  ap (λ b. cond b (Some (seen_places l.rows)) (rows_for slot (map loop_view rest))) (eq-eqb l.slot slot is) ∙ ap (λ vs. Some (seen_places vs)) h,
  ap (λ n. record { statement = n; rows = seen_places left } ∷ map loop_view rest) is
      ∙ sym (ap (λ b. cond b (record { statement = slot; rows = seen_places left } ∷ map loop_view rest) (loop_view l ∷ set_rows slot (seen_places left) (map loop_view rest))) (eq-eqb l.slot slot is)),
)

module _ (kept : ℕ → Bool) where
  one_left : (b : Bool) (l : HeldLoop) (loops : List HeldLoop) (s : Frame ⊤)
      → ((t : Frame ⊤) → finalise_loops kept (map loop_view loops) t ≡ record t { work = t.work ++ lost_pending kept loops; finalised = t.finalised ++ lost_finalised kept loops })
      → finalise_loops kept (map loop_view loops) (cond b s (finalise_parts (seen_places l.rows) s))
      ≡ record s { work = s.work ++ (cond b [] (pending_in (seen_places l.rows)) ++ lost_pending kept loops); finalised = s.finalised ++ (cond b [] (finalised_in (seen_places l.rows)) ++ lost_finalised kept loops) }
  one_left true l loops s again = again s
  one_left false l loops s again =
      again (finalise_parts (seen_places l.rows) s)
      ∙ ap₂ (λ (w : List model.Value) (n : List ⊤). record s { work = w; finalised = n }) (append_assoc s.work (pending_in (seen_places l.rows)) (lost_pending kept loops)) (append_assoc s.finalised (finalised_in (seen_places l.rows)) (lost_finalised kept loops))

  finalised_loops : (loops : List HeldLoop) (s : Frame ⊤) → finalise_loops kept (map loop_view loops) s ≡ record s { work = s.work ++ lost_pending kept loops; finalised = s.finalised ++ lost_finalised kept loops }
  finalised_loops [] s = ap₂ (λ (w : List model.Value) (n : List ⊤). record s { work = w; finalised = n }) (sym (append-nil s.work)) (sym (append-nil s.finalised))
  finalised_loops (l ∷ loops) s = one_left (kept l.slot) l loops s (λ t. finalised_loops loops t)

  kept_loops : (loops : List HeldLoop) → filter (λ l. kept l.statement) (map loop_view loops) ≡ map loop_view (filter (λ l. kept l.slot) loops)
  kept_loops [] = refl
  kept_loops (l ∷ loops) = by (kept l.slot) (kept_loops loops)
    where
      by : (b : Bool) → filter (λ l. kept l.statement) (map loop_view loops) ≡ map loop_view (filter (λ l. kept l.slot) loops) → cond b (loop_view l ∷ filter (λ l. kept l.statement) (map loop_view loops)) (filter (λ l. kept l.statement) (map loop_view loops)) ≡ map loop_view (cond b (l ∷ filter (λ l. kept l.slot) loops) (filter (λ l. kept l.slot) loops))
      by true h = ap (loop_view l ∷◌) h
      by false h = h

  pub left_loops : (f : HeldFrame) (s : Frame ⊤) (loops : List HeldLoop) (work : List WorkItem) (n : ℕ) → Stands f s → loops ≡ filter (λ l. kept l.slot) f.loops → map item_view work ≡ map item_view f.work ++ lost_pending kept f.loops
      → n ≡ cut (f.finalised + length (lost_finalised kept f.loops)) → Stands (record f { loops = loops; work = work; finalised = n }) (leave_loops kept s)
  left_loops f s loops work n h left waits count =
      subst (λ b. Stands (record f { loops = loops; work = work; finalised = n }) b)
      (sym (ap (λ ls. finalise_loops kept ls (record s { loops = filter (λ l. kept l.statement) s.loops })) h.loops ∙ finalised_loops f.loops (record s { loops = filter (λ l. kept l.statement) s.loops })))
      (with_finalised (record f { loops = loops }) (record s { loops = filter (λ l. kept l.statement) s.loops }) work n (lost_finalised kept f.loops) (lost_pending kept f.loops)
      (with_loops f s loops _ h (ap (filter (λ l. kept l.statement)) h.loops ∙ kept_loops f.loops ∙ ap (map loop_view) (sym left))) waits count)

pub ruleset leaving_lemmas = (last_first)
