-- A test of `for` keeps the lists of loops in their order, and puts its own in front where it had none.
use Rattle.std.proofs.Common.{◌≡◌, inl, inr, ℕ, ◌+◌, List, [], ◌∷◌, map, Bool, true, false, cond, nat_eq, Option, Some, None, refl, sym, ap, ◌∙◌}
use Rattle.std.proofs.lemmas.Bool.{eqb-true}
use Rattle.herm_model.specs.Paths.{Path}
use Rattle.herm_model.specs.Outcomes.{Outcome, turn, done}
use Rattle.herm_model.specs.Values.{Cell, Parts, no_parts, gap, part, parts_of, cell_at, read_at, has_place, put_at}
use Rattle.herm_model.specs.CellNames.{count_in, copy_in}
use Rattle.herm_forms.specs.Frames.{Name, Loop, Frame, goes, stuck, if_there, put}
use Rattle.herm_forms.specs.LoopForms.{rows_for, set_rows, next_row, visit}
use Rattle.herm_forms.specs.laws.FormsSound.{AreSameLoops}
use Rattle.herm_forms.proofs.forms.PlainForms.{same_body, never}
use Rattle.herm_forms.proofs.forms.VisitedRows.{old-loops}

abbrev numbers : List (Loop Name) → List ℕ
numbers loops = map (λ (l : Loop Name). l.statement) loops

set-numbers : (s : ℕ) (rs : Parts Name) (loops : List (Loop Name)) → numbers (set_rows s rs loops) ≡ numbers loops
set-numbers s rs [] = refl
set-numbers s rs (k ∷ loops) = by (nat_eq k.statement s) refl (set-numbers s rs loops)
  where
    by : (b : Bool) → nat_eq k.statement s ≡ b → numbers (set_rows s rs loops) ≡ numbers loops → numbers (cond b (record { statement = s; rows = rs } ∷ loops) (k ∷ set_rows s rs loops)) ≡ k.statement ∷ numbers loops
    by true e h = ap (λ n. n ∷ numbers loops) (sym (eqb-true k.statement s e))
    by false e h = ap (λ ns. k.statement ∷ ns) h

module _ (name : Name → Name) (s : ℕ) (r t : Path) (o : Outcome) (b' : Frame Name) where
  next-numbers : (rs : Parts Name) (cut : Frame Name) → next_row s r rs cut ≡ goes o b' → numbers b'.loops ≡ numbers cut.loops
  next-numbers no_parts cut is = ap (λ (b : Frame Name). numbers b.loops) (sym (same_body done o cut b' is))
  next-numbers (gap rs) cut is = never o b' is
  next-numbers (part d rs) cut is = by (has_place cut.variables r) is
    where
      behind : Frame Name
      behind = record cut { loops = set_rows s rs cut.loops }

      by : (p : Bool) → cond p (goes turn (put r d behind)) stuck ≡ goes o b' → numbers b'.loops ≡ numbers cut.loops
      by true is =
          ap (λ (b : Frame Name). numbers b.loops) (sym (same_body turn o (put r d behind) b' is))
          ∙ ap numbers (old-loops (cell_at r cut.variables) (record behind { variables = put_at r d cut.variables })) ∙ set-numbers s rs cut.loops
      by false is = never o b' is

  pub visited-loops : (b : Frame Name) → visit name s r t b ≡ goes o b' → AreSameLoops s b.loops b'.loops
  visited-loops b is = by (rows_for s b.loops) refl is
    where
      begun : Cell Name → Frame Name
      begun d = record b { serial = b.serial + count_in (parts_of d); loops = record { statement = s; rows = copy_in (λ i. name (b.number, i)) b.serial (parts_of d) } ∷ b.loops }

      first : (x : Option (Cell Name)) → if_there (λ d. next_row s r (copy_in (λ i. name (b.number, i)) b.serial (parts_of d)) (begun d)) x ≡ goes o b' → numbers b'.loops ≡ s ∷ numbers b.loops
      first None is = never o b' is
      first (Some d) is = next-numbers (copy_in (λ i. name (b.number, i)) b.serial (parts_of d)) (begun d) is

      by : (x : Option (Parts Name)) → rows_for s b.loops ≡ x
          → elim x [
            | None ↦ if_there (λ d. next_row s r (copy_in (λ i. name (b.number, i)) b.serial (parts_of d)) (begun d)) (read_at t b.variables)
            | Some rs ↦ next_row s r rs b
          ] ≡ goes o b' → AreSameLoops s b.loops b'.loops
      by None e is = inr (e, first (read_at t b.variables) is)
      by (Some rs) e is = inl (next-numbers rs b is)
