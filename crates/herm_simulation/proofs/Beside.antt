-- A process of code beside one of the source: where it is, and which lists of rows it has.
use Rattle.std.proofs.Common.{◌≡◌, ℕ, suc, ◌+◌, [], ◌∷◌, Bool, true, cond, nat_eq, Option, Some, None, option_map, slice_get, refl, sym, ap, subst, ◌∙◌, arith}
use Rattle.std.specs.Prelude.{drop, find}
use Rattle.std.proofs.lemmas.Bool.{eq-eqb}
use Rattle.herm_model.specs.Paths.{Path}
use Rattle.herm_model.specs.Nodes.{Node}
use Rattle.herm_model.specs.Statements.{For}
use Rattle.herm_model.specs.Targets.{Target, node, end, end_by}
use Rattle.herm_model.specs.Values.{Name}
use Rattle.herm_model.proofs.Options.{none-not_some, some-injective}
use Rattle.herm_source.specs.States.{State, node_at}
use Rattle.herm_instructions.specs.Images.{instruction_at}
use Rattle.herm_instructions.specs.Instructions.{Step}
use Rattle.herm_instructions.specs.Labels.{Label, ListedLabel, listed_at}
use Rattle.herm_code_machine.specs.CodeLocal.{AreSlots, IsLocallySoundCode}
use Rattle.herm_code_machine.specs.CodeStates.{Position, at_index, at_end, at_end_by, CodeState}
use Rattle.herm_code_machine.specs.CodeSteps.{code_next, call_or_piece, by_piece, by_action, item_or}
use Rattle.herm_code_machine.specs.Pieces.{Met, action_from, piece_by}
use Rattle.herm_code_machine.proofs.sound.Between.{holds-at}
use Rattle.herm_code_machine.proofs.sound.LoopEffects.{slots-numbers}
use Rattle.herm_translated.specs.BlockLabels.{label_with, listed_with, labels_within, comes_again}
use Rattle.herm_translated.specs.CodeBlocks.{CodeBlock, slots_around, slots_within}
use Rattle.herm_translated.specs.Departures.{second_step}
use Rattle.herm_translated.proofs.LabelsStand.{label-where_listed, blocks-labelled}
use Rattle.herm_simulation.specs.Standing.{IsWithin, IsAtPoint}
use Rattle.herm_simulation.specs.laws.EdgeLaws.{AreListsOf}
use Rattle.herm_simulation.proofs.Arrivals.{second-at}
use Rattle.herm_simulation.proofs.InPlace.{Coded, types, variables, constants, source_code, checked_code, blocks, entry, code, ready, nodes, begins_at, block, slots_of, first-labelled, block-here}

module _ (k : Coded) where
  -- It runs the module of the same number, within the block of the point's node, with an empty stack and an equal frame; and in an open
  -- call the lists of rows are those of the slots around the call.
  pub record Beside (x : State Name) (y : CodeState Name) : Type 0 where
    pub module_number : y.module_number ≡ x.module_number
    pub place : IsAtPoint (constants k) (checked_code k) y.frame.call y.position x.point
    pub stack : y.stack ≡ []
    pub frame : y.frame ≡ x.frame
    pub lists : (q i : ℕ) → x.frame.call ≡ Some q → x.point ≡ node i → AreListsOf (slots_around (source_code k) i) x.frame.loops

  -- where it is, at a node
  pub record AtNode (x : State Name) (y : CodeState Name) (n : Node) : Type 0 where
    pub place : ℕ
    pub there : slice_get (nodes k) place ≡ Some n
    pub point : x.point ≡ node place
    pub index : ℕ
    pub position : y.position ≡ at_index index
    pub within : IsWithin (constants k) (checked_code k) (begins_at k place) (comes_again (blocks k) place) (block k place n) y.frame.call index

  pub at-node : (x : State Name) (y : CodeState Name) (n : Node) → Beside x y → node_at (source_code k) x.point ≡ Some n → AtNode x y n
  at-node x y n beside at = by y.position x.point refl refl beside.place at
    where
      by : (p : Position) (t : Target) → y.position ≡ p → x.point ≡ t → IsAtPoint (constants k) (checked_code k) y.frame.call p t → node_at (source_code k) t ≡ Some n → AtNode x y n
      by (at_index j) (node i) position point h there = record {
        place = i;
        there = there;
        point = point;
        index = j;
        position = position;
        within = subst (λ b. IsWithin (constants k) (checked_code k) (begins_at k i) (comes_again (blocks k) i) b y.frame.call j) (some-injective (sym h.1 ∙ block-here k i n there)) h.2;
      }
      by p end position point h there = none-not_some there
      by p (end_by e) position point h there = none-not_some there
      by at_end (node i) position point h there = absurd h
      by (at_end_by e) (node i) position point h there = absurd h

  -- the lists of rows are those of the label's slots
  listed-slots : (y : CodeState Name) (j : ℕ) (l : Label) → y.position ≡ at_index j → y.frame.call ≡ None → IsLocallySoundCode (ready k) y → (ready k).label j ≡ Some l → AreListsOf l.slots y.frame.loops
  listed-slots y j l position idle sound labelled =
      let h = holds-at (ready k) y j position idle sound in
      let same : h.0 ≡ l = some-injective (sym h.1 ∙ labelled) in
      (slots-numbers (types k) l.slots y.frame.loops (subst (λ (l : Label). AreSlots (types k) l.slots y.frame.loops) same (h.2).slots), (h.2).differ)

  module _ (i : ℕ) (n : Node) (at : slice_get (nodes k) i ≡ Some n) (y : CodeState Name) (sound : IsLocallySoundCode (ready k) y) (idle : y.frame.call ≡ None) where
    -- at the first step
    pub lists-first : y.position ≡ at_index (begins_at k i) → AreListsOf (slots_around (source_code k) i) y.frame.loops
    lists-first position =
        listed-slots y (begins_at k i) (label_with (block k i n).facts (slots_around (source_code k) i)) position idle sound
        (first-labelled k i (block k i n) (block-here k i n at))

    -- at the second step of a `for`
    second-listed : (b : CodeBlock) (r t : Path) → slice_get (blocks k) i ≡ Some (record b { form = For r t }) → comes_again (blocks k) i ≡ true
        → listed_at (code k).labels (begins_at k i + second_step) ≡ Some (label_with b.facts (slots_within (types k) (variables k) b.statement (For r t) b.slots))
    second-listed b r t there again =
        (blocks-labelled (types k) (variables k) (constants k) (entry k) (blocks k)).within (begins_at k i + 3) i 3 (record b { form = For r t }) (there, (omega arith), refl) (omega arith) (omega arith)
        ∙ ap (λ (q : Bool). listed_at (labels_within (types k) (variables k) (begins_at k i) q (record b { form = For r t }) (For r t)) (begins_at k i + 3)) again
        ∙ ap (λ (q : Bool). option_map (λ (l : ListedLabel). l.label) (cond q (Some (first_label)) (find (λ (l : ListedLabel). nat_eq l.index (begins_at k i + 3)) (listed_with (begins_at k i + 4) b.facts (slots_within (types k) (variables k) b.statement (For r t) b.slots) ∷ [])))) (eq-eqb (begins_at k i + 3) (begins_at k i + 3) refl)
      where
        first_label : ListedLabel
        first_label = listed_with (begins_at k i + 3) b.facts (slots_within (types k) (variables k) b.statement (For r t) b.slots)

    pub lists-second : y.position ≡ at_index (begins_at k i + second_step) → comes_again (blocks k) i ≡ true → (r t : Path) → n.form ≡ For r t → AreListsOf (slots_of k i n) y.frame.loops
    lists-second position again r t form =
        let there : slice_get (blocks k) i ≡ Some (record (block k i n) { form = For r t }) = block-here k i n at ∙ ap (λ f. Some (record (block k i n) { form = f })) form in
        let l = label_with (block k i n).facts (slots_within (types k) (variables k) n.number (For r t) (slots_around (source_code k) i)) in
        subst (λ f. AreListsOf (slots_within (types k) (variables k) n.number f (slots_around (source_code k) i)) y.frame.loops) (sym form)
        (listed-slots y (begins_at k i + second_step) l position idle sound
        (label-where_listed (types k) (constants k) (code k) (begins_at k i + second_step) Step l (second-at k i (record (block k i n) { form = For r t }) r t there refl) (second-listed (block k i n) r t there again)))

  -- What comes next at a step: a piece with the action that comes at once, or a local one.
  pub next-at_step : (y : CodeState Name) (j : ℕ) (o : Option Met) → y.frame.work ≡ [] → y.frame.call ≡ None → y.position ≡ at_index j → instruction_at (code k) j ≡ Some Step → action_from (types k) (drop (suc j) (code k).code) (suc j) ≡ o
      → code_next (ready k) y ≡ by_action (record { has_step = true; first = suc j }) o
  next-at_step y j o done idle position step acts =
      ap (λ work. item_or work (call_or_piece (ready k) y.position y.frame.call)) done
      ∙ ap (call_or_piece (ready k) y.position) idle
      ∙ ap (λ p. call_or_piece (ready k) p None) position
      ∙ ap (λ x. by_piece (ready k) (piece_by (types k) j x)) step
      ∙ ap (by_action (record { has_step = true; first = suc j })) acts
