-- The lists of rows of a label's slots stand by the types of the slots, as slots come and go.
use Rattle.std.proofs.Common.{◌≡◌, inl, inr, ℕ, List, [], ◌∷◌, map, filter, Bool, true, false, cond, Option, Some, None, option_map, refl, sym, ap, subst, ◌∙◌, true≢false}
use Rattle.std.proofs.lemmas.Bool.{eq-eqb, eqb-true}
use Rattle.std.specs.Prelude.{find, nat_eq, not}
use Rattle.herm_model.specs.Lists.{IsIn}
use Rattle.herm_model.specs.Statements.{Differ}
use Rattle.herm_model.specs.Values.{Name, Kind}
use Rattle.herm_model.proofs.Lists.{in-map}
use Rattle.herm_journal.specs.PartTypes.{all_of, ArePlaced}
use Rattle.herm_forms.specs.Frames.{Loop}
use Rattle.herm_forms.specs.Modules.{Module}
use Rattle.herm_forms.proofs.placed.PlacedForms.{LoopsAre, RowsAre}
use Rattle.herm_forms.proofs.placed.PlacedParts.{Agrees}
use Rattle.herm_instructions.specs.Effects.{without_slot}
use Rattle.herm_instructions.specs.Labels.{Slot}
use Rattle.herm_code_machine.proofs.sound.AtLabels.{numbers}

-- the type of the rows in a slot
abbrev pub row_in : List Slot → ℕ → Option ℕ
row_in slots n = option_map (λ (s : Slot). s.row) (find (λ (s : Slot). nat_eq s.number n) slots)

pub row-found : (slots : List Slot) → Differ (map (λ (s : Slot). s.number) slots) → (slot : Slot) → IsIn slot slots → row_in slots slot.number ≡ Some slot.row
row-found [] d slot h = absurd h
row-found (s ∷ slots) d slot (inl e) =
    ap (λ t. option_map (λ (s : Slot). s.row) (cond t (Some s) (find (λ (s : Slot). nat_eq s.number slot.number) slots))) (eq-eqb s.number slot.number (ap (λ (s : Slot). s.number) (sym e)))
    ∙ ap (λ (s : Slot). Some s.row) (sym e)
row-found (s ∷ slots) d slot (inr h) = by (nat_eq s.number slot.number) refl (row-found slots d.1 slot h)
  where
    by : (t : Bool) → nat_eq s.number slot.number ≡ t → row_in slots slot.number ≡ Some slot.row → option_map (λ (s : Slot). s.row) (cond t (Some s) (find (λ (s : Slot). nat_eq s.number slot.number) slots)) ≡ Some slot.row
    by false e later = later
    by true e later = absurd (d.0 (subst (λ n. IsIn n (map (λ (s : Slot). s.number) slots)) (sym (eqb-true s.number slot.number e)) (in-map (λ (s : Slot). s.number) slot slots h)))

-- a slot more or less leaves the types of the others
row-more : (slot : Slot) (slots : List Slot) (n : ℕ) → nat_eq slot.number n ≡ false → row_in (slot ∷ slots) n ≡ row_in slots n
row-more slot slots n e = ap (λ t. option_map (λ (s : Slot). s.row) (cond t (Some slot) (find (λ (s : Slot). nat_eq s.number n) slots))) e

row-own : (slot : Slot) (slots : List Slot) → row_in (slot ∷ slots) slot.number ≡ Some slot.row
row-own slot slots = ap (λ t. option_map (λ (s : Slot). s.row) (cond t (Some slot) (find (λ (s : Slot). nat_eq s.number slot.number) slots))) (eq-eqb slot.number slot.number refl)

row-less : (gone : ℕ) (slots : List Slot) (n : ℕ) → nat_eq n gone ≡ false → row_in (without_slot gone slots) n ≡ row_in slots n
row-less gone [] n e = refl
row-less gone (s ∷ slots) n e = by (nat_eq s.number gone) (nat_eq s.number n) refl refl (row-less gone slots n e)
  where
    by : (t u : Bool) → nat_eq s.number gone ≡ t → nat_eq s.number n ≡ u → row_in (without_slot gone slots) n ≡ row_in slots n
        → row_in (cond (not t) (s ∷ without_slot gone slots) (without_slot gone slots)) n ≡ option_map (λ (s : Slot). s.row) (cond u (Some s) (find (λ (s : Slot). nat_eq s.number n) slots))
    by false false g m later = ap (λ t. option_map (λ (s : Slot). s.row) (cond t (Some s) (find (λ (s : Slot). nat_eq s.number n) (without_slot gone slots)))) m ∙ later
    by false true g m later = ap (λ t. option_map (λ (s : Slot). s.row) (cond t (Some s) (find (λ (s : Slot). nat_eq s.number n) (without_slot gone slots)))) m
    by true false g m later = later
    by true true g m later = absurd (true≢false (sym (eq-eqb n gone (sym (eqb-true s.number n m) ∙ eqb-true s.number gone g)) ∙ e))

module _ (name : Name → Name) (c : Module) (P : ℕ → Kind → Type 0) (agrees : Agrees c.types P) where
  abbrev Stand : List Slot → List (Loop Name) → Type 0
  Stand slots loops = LoopsAre name c P agrees (row_in slots) loops

  other : (n k : ℕ) (ns : List ℕ) → (IsIn n ns → ⊥) → IsIn k ns → nat_eq n k ≡ false
  other n k ns none h = by (nat_eq n k) refl
    where
      by : (t : Bool) → nat_eq n k ≡ t → t ≡ false
      by false e = refl
      by true e = absurd (none (subst (λ n. IsIn n ns) (sym (eqb-true n k e)) h))

  -- a slot begun, where none of its number is there
  others-stand : (slot : Slot) (slots : List Slot) (loops : List (Loop Name)) → (IsIn slot.number (numbers loops) → ⊥) → Stand slots loops → Stand (slot ∷ slots) loops
  others-stand slot slots [] none h = tt
  others-stand slot slots (l ∷ loops) none h = (
    subst (λ o. RowsAre name c P agrees (row_in slots) o l.rows) (sym (row-more slot slots l.statement (other slot.number l.statement (numbers (l ∷ loops)) none (inl refl)))) h.0,
    others-stand slot slots loops (λ i. none (inr i)) h.1,
  )

  pub begun-stand : (slot : Slot) (slots : List Slot) (l : Loop Name) (loops : List (Loop Name)) → l.statement ≡ slot.number → (IsIn slot.number (numbers loops) → ⊥) → ArePlaced c.types P (all_of slot.row) l.rows → Stand slots loops → Stand (slot ∷ slots) (l ∷ loops)
  begun-stand slot slots l loops same none rows h = (
    subst (λ o. RowsAre name c P agrees (row_in slots) o l.rows) (sym (ap (row_in (slot ∷ slots)) same ∙ row-own slot slots)) rows,
    others-stand slot slots loops none h,
  )

  -- a slot gone
  pub less-stand : (gone : ℕ) (slots : List Slot) (loops : List (Loop Name)) → Stand slots loops → Stand (without_slot gone slots) (filter (λ (l : Loop Name). not (nat_eq l.statement gone)) loops)
  less-stand gone slots [] h = tt
  less-stand gone slots (l ∷ loops) h = by (nat_eq l.statement gone) refl (less-stand gone slots loops h.1)
    where
      by : (t : Bool) → nat_eq l.statement gone ≡ t → Stand (without_slot gone slots) (filter (λ (l : Loop Name). not (nat_eq l.statement gone)) loops)
          → Stand (without_slot gone slots) (cond (not t) (l ∷ filter (λ (l : Loop Name). not (nat_eq l.statement gone)) loops) (filter (λ (l : Loop Name). not (nat_eq l.statement gone)) loops))
      by true e later = later
      by false e later = (subst (λ o. RowsAre name c P agrees (row_in slots) o l.rows) (sym (row-less gone slots l.statement e)) h.0, later)

  -- no slot, no types
  pub none-stand : (loops : List (Loop Name)) → Stand [] loops
  none-stand [] = tt
  none-stand (l ∷ loops) = (tt, none-stand loops)
