-- What a process of good code has at places of their types is what stands at its label.
use Rattle.std.proofs.Common.{◌≡◌, ◌⊎◌, inl, inr, ℕ, List, [], ◌∷◌, ◌++◌, map, flat_map, Option, Some, None, option_and_then, option_map, refl, sym, ap, subst, ◌∙◌, true≢false}
use Rattle.std.specs.Prelude.{slice_get, find, nat_eq}
use mathlib.Core.Path.{fun_ext}
use Rattle.herm_model.specs.Lists.{IsIn, list_of}
use Rattle.herm_model.specs.Statements.{Differ}
use Rattle.herm_model.specs.Types.{TypeTable}
use Rattle.herm_model.specs.Values.{Name, Kind, a_callmessage, an_inport, an_outport, Cell, cell, Parts, no_parts, gap, part, Value}
use Rattle.herm_model.specs.WellFormedTables.{IsWellFormedTable}
use Rattle.herm_model.proofs.Lists.{in-append_left, in-append_right, in-append_cases}
use Rattle.herm_journal.specs.Kinds.{HasKinds, HaveKinds, AllKinds}
use Rattle.herm_journal.specs.Messages.{AreFull}
use Rattle.herm_journal.specs.PartTypes.{PartTypes, each, all_of, part_types_at}
use Rattle.herm_forms.specs.Frames.{Loop, Frame}
use Rattle.herm_forms.proofs.PlainCopies.{IsPlainKind}
use Rattle.herm_forms.proofs.placed.PlacedForms.{LoopsAre, RowsAre}
use Rattle.herm_runs.proofs.HeldParts.{typed-parts}
use Rattle.herm_sound.specs.Standing.{StandsAt, AllStand, OutportsStand, typed_places}
use Rattle.herm_system.specs.Kinds.{typed_of, typed_in, typed_list, typed_held}
use Rattle.herm_instructions.specs.GoodCode.{IsGood}
use Rattle.herm_instructions.specs.Images.{CodeModule, Image}
use Rattle.herm_instructions.specs.Labels.{Slot, Label}
use Rattle.herm_instructions.specs.Places.{label_at}
use Rattle.herm_code_machine.specs.CodeInstance.{own_name, code_at, code_machine}
use Rattle.herm_code_machine.specs.CodeLocal.{AreSlots, slots_at, stack_types, IsLocallySoundCode, typed_stack}
use Rattle.herm_code_machine.specs.CodeSeen.{label_of, slot_row, code_held}
use Rattle.herm_code_machine.specs.CodeStates.{CodeState}
use Rattle.herm_code_machine.specs.ReadyCode.{ReadyCode, ready_code, labelled_image}
use Rattle.herm_code_machine.proofs.counted.CopiedKinds.{stack-plain}
use Rattle.herm_code_machine.proofs.placed.RowsOfSlots.{row_in, row-found}
use Rattle.herm_code_machine.proofs.placed.StandEffects.{Stands, stands-agrees, BodyStands, ValuesStand}
use Rattle.herm_held.proofs.TypedPlaces.{AllAre, variables-placed, rows-placed, are-typed, list-placed, list-typed}
use Rattle.herm_code_machine.proofs.sound.CopiedStacks.{AreCopied}
use Rattle.herm_code_machine.proofs.sound.LoopEffects.{slots-numbers}

from-either : {A B C : Type 0} → A ⊎ B → (A → C) → (B → C) → C
from-either (inl a) f g = f a
from-either (inr b) f g = g b

-- typed cells are of the kinds of the values that they are listed of
module _ (types : TypeTable) (of : Kind → Type 0) where
  mutual
    kinds-typed : {N : Type 0} (t : ℕ) (c : Cell N) → HasKinds of c → (u : ℕ) (j : Kind) → IsIn (u, j) (typed_of types t c) → of j
    kinds-typed t (cell n k ps) h u j (inl e) = subst (λ (x : ℕ × Kind). of x.1) (sym e) h.0
    kinds-typed t (cell n k ps) h u j (inr i) = kinds-in (part_types_at (slice_get types t) k) ps h.1 u j i

    kinds-in : {N : Type 0} (ts : PartTypes) (ps : Parts N) → HaveKinds of ps → (u : ℕ) (j : Kind) → IsIn (u, j) (typed_in types ts ps) → of j
    kinds-in (each []) ps h u j i = absurd i
    kinds-in (each (t ∷ ts)) no_parts h u j i = absurd i
    kinds-in (each (t ∷ ts)) (gap ps) h u j i = kinds-in (each ts) ps h u j i
    kinds-in (each (t ∷ ts)) (part c ps) h u j i = from-either (in-append_cases (u, j) (typed_of types t c) (typed_in types (each ts) ps) i) (λ m. kinds-typed t c h.0 u j m) (λ m. kinds-in (each ts) ps h.1 u j m)
    kinds-in (all_of t) no_parts h u j i = absurd i
    kinds-in (all_of t) (gap ps) h u j i = kinds-in (all_of t) ps h u j i
    kinds-in (all_of t) (part c ps) h u j i = from-either (in-append_cases (u, j) (typed_of types t c) (typed_in types (all_of t) ps) i) (λ m. kinds-typed t c h.0 u j m) (λ m. kinds-in (all_of t) ps h.1 u j m)

  kinds-list : {N : Type 0} (ts : List ℕ) (cs : List (Cell N)) → AllKinds of cs → (u : ℕ) (j : Kind) → IsIn (u, j) (typed_list types ts cs) → of j
  kinds-list [] cs h u j i = absurd i
  kinds-list (t ∷ ts) [] h u j i = absurd i
  kinds-list (t ∷ ts) (c ∷ cs) h u j i = from-either (in-append_cases (u, j) (typed_of types t c) (typed_list types ts cs) i) (λ m. kinds-typed t c h.0 u j m) (λ m. kinds-list ts cs h.1 u j m)

-- of kinds that are finalised at once only outports have numbers
plain-stands : (types : TypeTable) (ports : List ℕ) (calls : ℕ → ℕ → Option ℕ) (xs : List (ℕ × Kind)) (t : ℕ) (k : Kind) → IsPlainKind k → OutportsStand types ports xs → IsIn (t, k) xs → StandsAt types ports calls t k
plain-stands types ports calls xs t (an_inport n) plain outs i = absurd (true≢false plain)
plain-stands types ports calls xs t (a_callmessage caller call) plain outs i = absurd (true≢false plain)
plain-stands types ports calls xs t (an_outport n) plain outs i = outs t n i
plain-stands types ports calls xs t k plain outs i = tt

module _ (exceptions' : ℕ) (image : Image) (main : ℕ) (good : IsGood exceptions' image) (formed : IsWellFormedTable exceptions' image.types) (m : CodeModule) (in-image : IsIn m image.modules) (ports : List ℕ) (calls : ℕ → ℕ → Option ℕ) where
  abbrev c : ReadyCode
  c = ready_code image (label_at image.types image.constants) m

  abbrev At : ℕ → Kind → Type 0
  At = StandsAt image.types ports calls

  abbrev All : List (ℕ × Kind) → Type 0
  All xs = AllAre image.types (StandsAt image.types ports calls) xs

  abbrev Body : List Slot → Frame Name → Type 0
  Body slots b = BodyStands exceptions' image good formed m in-image ports calls slots b

  abbrev Values : List ℕ → List Value → Type 0
  Values ts stack = ValuesStand exceptions' image good formed m in-image ports calls ts stack

  abbrev LoopsStand : List Slot → List (Loop Name) → Type 0
  LoopsStand slots loops = LoopsAre own_name (ready_code image (label_at image.types image.constants) m).scope (Stands image.types ports calls) (stands-agrees image.types ports calls) (row_in slots) loops

  abbrev RowsStand : List Slot → Option ℕ → Parts Name → Type 0
  RowsStand slots o rows = RowsAre own_name (ready_code image (label_at image.types image.constants) m).scope (Stands image.types ports calls) (stands-agrees image.types ports calls) (row_in slots) o rows

  -- the values on a stack
  stack-stands : (ts : List ℕ) (stack : List Value) → AreFull image.types ts stack → AreCopied image.types ts → OutportsStand image.types ports (typed_list image.types ts stack) → Values ts stack
  stack-stands ts stack full copied outs =
      list-placed image.types At ts stack full
      (λ t k i. plain-stands image.types ports calls (typed_list image.types ts stack) t k (kinds-list image.types IsPlainKind ts stack (stack-plain image.types ts stack full copied) t k i) outs i)

  -- the rows of these slots
  abbrev rows_of : List Slot → Loop Name → List (ℕ × Kind)
  rows_of slots l = list_of (λ t. typed_in image.types (all_of t) l.rows) (row_in slots l.statement)

  loops-stand : (every : List Slot) → Differ (map (λ (s : Slot). s.number) every) → (slots : List Slot) (loops : List (Loop Name)) → ((s : Slot) → IsIn s slots → IsIn s every) → AreSlots image.types slots loops → All (flat_map (rows_of every) loops) → LoopsStand every loops
  loops-stand every d [] [] among are all = tt
  loops-stand every d [] (l ∷ loops) among are all = absurd are
  loops-stand every d (s ∷ slots) [] among are all = absurd are
  loops-stand every d (s ∷ slots) (l ∷ loops) among are all =
      let row : row_in every l.statement ≡ Some s.row = ap (row_in every) are.0 ∙ row-found every d s (among s (inl refl)) in
      let first : All (typed_in image.types (all_of s.row) l.rows) = subst (λ o. All (list_of (λ t. typed_in image.types (all_of t) l.rows) o)) row (λ t k i. all t k (in-append_left (t, k) (rows_of every l) (flat_map (rows_of every) loops) i)) in (
        subst (λ o. RowsStand every o l.rows) (sym row) (rows-placed image.types At s.row l.rows are.1 first),
        loops-stand every d slots loops (λ s i. among s (inr i)) are.2 (λ t k i. all t k (in-append_right (t, k) (rows_of every l) (flat_map (rows_of every) loops) i)),
      )

  one-typed : (slots : List Slot) (o : Option ℕ) (rows : Parts Name) → RowsStand slots o rows → All (list_of (λ t. typed_in image.types (all_of t) rows) o)
  one-typed slots None rows h t k i = absurd i
  one-typed slots (Some u) rows h t k i = are-typed image.types At (all_of u) rows h t k i

  loops-typed : (slots : List Slot) (loops : List (Loop Name)) → LoopsStand slots loops → All (flat_map (rows_of slots) loops)
  loops-typed slots [] h t k i = absurd i
  loops-typed slots (l ∷ loops) h t k i =
      from-either (in-append_cases (t, k) (rows_of slots l) (flat_map (rows_of slots) loops) i) (λ i. one-typed slots (row_in slots l.statement) l.rows h.0 t k i) (λ i. loops-typed slots loops h.1 t k i)

  row-same : (o : Option Label) (n : ℕ) → option_and_then (λ (l : Label). option_map (λ (s : Slot). s.row) (find (λ (s : Slot). nat_eq s.number n) l.slots)) o ≡ row_in (list_of (λ (l : Label). l.slots) o) n
  row-same None n = refl
  row-same (Some l) n = refl

  module _ (x : CodeState Name) (coded : code_at (labelled_image image main) x ≡ Some (ready_code image (label_at image.types image.constants) m)) where
    abbrev variables : List (ℕ × Kind)
    variables = typed_in image.types (each m.variables) x.frame.variables

    abbrev loops : List (ℕ × Kind)
    loops = flat_map (rows_of (slots_at c x)) x.frame.loops

    held-is : typed_places (code_machine (labelled_image image main)) x ≡ variables ++ loops
    held-is =
        ap (λ o. flat_map (typed_held image.types) (list_of (λ c. code_held c x) o)) coded
        ∙ typed-parts image.types m.variables x.frame.variables (λ (l : Loop Name). slot_row c x.position l.statement) (λ (l : Loop Name). l.rows) x.frame.loops x.frame.work
        ∙ ap (λ (row : ℕ → Option ℕ). variables ++ flat_map (λ (l : Loop Name). list_of (λ t. typed_in image.types (all_of t) l.rows) (row l.statement)) x.frame.loops) (fun_ext (λ n. row-same (label_of c x.position) n))

    stack-is : typed_stack (labelled_image image main) x ≡ typed_list image.types (stack_types c x) x.stack
    stack-is = ap (list_of (λ c. typed_list image.types (stack_types c x) x.stack)) coded

    abbrev pub StandsNow : Type 0
    StandsNow = Body (slots_at c x) x.frame × Values (stack_types c x) x.stack

    pub to-stand : IsLocallySoundCode c x → AllStand image.types ports calls (typed_places (code_machine (labelled_image image main)) x) → OutportsStand image.types ports (typed_stack (labelled_image image main) x) → StandsNow
    to-stand sound all outs =
        let all' : All (variables ++ loops) = subst All held-is all in (
          (
            variables-placed image.types At m.variables x.frame.variables sound.types (λ t k i. all' t k (in-append_left (t, k) variables loops i)),
            loops-stand (slots_at c x) (subst Differ (slots-numbers image.types (slots_at c x) x.frame.loops sound.slots) sound.slots_differ) (slots_at c x) x.frame.loops (λ s i. i) sound.slots (λ t k i. all' t k (in-append_right (t, k) variables loops i)),
          ),
          stack-stands (stack_types c x) x.stack sound.stack sound.copies (subst (OutportsStand image.types ports) stack-is outs),
        )

    pub from-stand : StandsNow → AllStand image.types ports calls (typed_places (code_machine (labelled_image image main)) x) × OutportsStand image.types ports (typed_stack (labelled_image image main) x)
    from-stand h = (
      subst All (sym held-is) (λ t k i. from-either (in-append_cases (t, k) variables loops i) (λ i. are-typed image.types At (each m.variables) x.frame.variables h.0.0 t k i) (λ i. loops-typed (slots_at c x) x.frame.loops h.0.1 t k i)),
      subst (OutportsStand image.types ports) (sym stack-is) (λ t n i. list-typed image.types At (stack_types c x) x.stack h.1 t (an_outport n) i),
    )
