-- Blocks that are sound make code that keeps the rules of good code which look at labels.
use Rattle.std.proofs.Common.{◌≡◌, ℕ, zero, suc, ◌+◌, ◌<◌, length, List, [], ◌∷◌, ◌++◌, map, Bool, true, false, cond, Option, Some, None, option_and_then, slice_get, ◌⊎◌, inl, inr, refl, sym, ap, ap₂, subst, ◌∙◌, append_assoc, true≢false, arith}
use Rattle.herm_model.specs.Lists.{IsIn, list_of}
use Rattle.herm_model.specs.Paths.{Path, Fact}
use Rattle.herm_model.specs.Types.{rows}
use Rattle.herm_model.specs.Statements.{Form, Process}
use Rattle.herm_model.specs.Outcomes.{Outcome, ok, is_true, is_false, turn, done, raised, exceptions, outcomes}
use Rattle.herm_model.specs.FactsOfStatements.{present, room_for, needs}
use Rattle.herm_model.specs.TypedStatements.{IsTypedForm}
use Rattle.herm_model.specs.WellFormedTables.{IsWellFormedTable}
use Rattle.herm_model.proofs.Options.{some-injective, none-not_some}
use Rattle.herm_model.proofs.Lists.{cons-head, in-append_left, in-append_right, in-map_from}
use Rattle.herm_model.proofs.TypedCalls.{shape-is}
use Rattle.herm_instructions.specs.Instructions.{Instruction, Step, LoopStart, LoopNext, LoopDrop, Drop, Jump}
use Rattle.herm_instructions.specs.Labels.{Slot, Label, listed_at}
use Rattle.herm_instructions.specs.Images.{CodeModule, Image}
use Rattle.herm_instructions.specs.Effects.{row_type, label_behind}
use Rattle.herm_instructions.specs.Places.{Way, Place, goes_on, label_at_start}
use Rattle.herm_instructions.specs.GoodCode.{Arrives, module_places, processes_of}
use Rattle.herm_translated.specs.Fronts.{front}
use Rattle.herm_translated.specs.Departures.{Arrival, to_block, to_second_step, to_end, to_end_by, Departure, edge_code, edge_length, arrive_by}
use Rattle.herm_translated.specs.CodeBlocks.{CodeBlock, own_slot}
use Rattle.herm_translated.specs.Layout.{landings_by, edges_at, edge_at}
use Rattle.herm_translated.specs.BlockLabels.{label_with, is_named, facts_after, comes_first, edge_slots}
use Rattle.herm_translated.specs.laws.LabelsAlong.{handed_by, handed_on}
use Rattle.herm_translated.specs.laws.LabelsAtEdges.{AreReached, IsTypedBlock}
use Rattle.herm_translated.specs.laws.NamedComponents.{NamesAll}
use Rattle.herm_translated.proofs.Joined.{get-right, got-within, length-joined}
use Rattle.herm_translated.proofs.Lengths.{front-long, edge-long}
use Rattle.herm_translated.proofs.Addresses.{outcome_of, first-here, code-block, edges-there}
use Rattle.herm_translated.proofs.LabelsStand.{blocks-labelled}
use Rattle.herm_translated.proofs.FrontWays.{IsNoFor}
use Rattle.herm_translated.proofs.Handing.{filter-all, fronts-hand_on}
use Rattle.herm_translated.proofs.EdgesLabelled.{got-some, own-none, other-form, onward-ends}
use Rattle.herm_good_images.proofs.blocks.BlockOfNode.{in-got}
use Rattle.herm_good_images.proofs.fronts.GoodInstructions.{closed-more, AreGood, good-at, good-one, good-more, lands-more, handed_to, IsGoodAt}
use Rattle.herm_good_images.proofs.fronts.GoodOperands.{LandsAtExit}
use Rattle.herm_good_images.proofs.fronts.GoodFronts.{HasArm, front-good}
use Rattle.herm_good_images.proofs.blocks.LocatedInstructions.{IsOn, Located, on_entry, on_front, on_loop, on_turn, on_test, on_edge, located, test-listed, test-within}
use Rattle.herm_good_images.proofs.blocks.LocatedInstructions as places

-- a label arrives at itself
pub arrives-itself : (l : Label) → Arrives l l
arrives-itself l = record { stack = refl; slots = refl; values = λ p. ((λ m. m), λ m. m); components = λ p c m. m }

module _ (count : ℕ) (image : Image) (variables : List ℕ) (entry : Departure) (blocks : List CodeBlock) where
  abbrev m : CodeModule
  m = places.m count image variables entry blocks

  abbrev st : ℕ → ℕ
  st n = places.st count image variables entry blocks n

  abbrev exit : ℕ → CodeBlock → Outcome → ℕ
  exit i b o = places.exit count image variables entry blocks i b o

  abbrev as_loop : CodeBlock → Path → Path → CodeBlock
  as_loop b r t = places.as_loop count image variables entry blocks b r t

  abbrev in_loop : CodeBlock → Path → Path → Label
  in_loop b r t = places.in_loop count image variables entry blocks b r t

  abbrev first_row : ℕ → CodeBlock → Path → Path → List Instruction
  first_row i b r t = places.first_row count image variables entry blocks i b r t

  abbrev test_row : ℕ → CodeBlock → Path → Path → List Instruction
  test_row i b r t = places.test_row count image variables entry blocks i b r t

  abbrev processes : List Process
  processes = processes_of image.modules

  -- a way lands where the label that arrives is listed
  abbrev pub LandsListed : Way → Label → Type 0
  LandsListed w after = (l : Label) × (listed_at m.labels w.index ≡ Some l) × Arrives after l

  abbrev pub IsGoodHere : (Outcome → ℕ) → Instruction → Label → Type 0
  IsGoodHere exit_at i l = IsGoodAt image.types variables image.constants count processes exit_at LandsListed i l

  abbrev pub AreGoodHere : (Outcome → ℕ) → List Instruction → Option Label → Type 0
  AreGoodHere exit_at code a = AreGood image.types variables image.constants (IsGoodHere exit_at) code a

  -- A block is sound: it is typed, its facts are closed and have what its form needs, its own slot is not yet there, its edges keep the rules, and where control goes
  -- on to the next block what is held arrives at what is there.
  pub record IsSoundBlock (i : ℕ) (b : CodeBlock) : Type 0 where
    pub typed : IsTypedBlock image.types variables image.constants count processes b
    pub names : NamesAll image.types variables b.form
    pub arm : HasArm b.form
    pub needed : (f : Fact) → IsIn f (needs image.types variables b.form) → IsIn f b.facts
    pub own : (r t : Path) → b.form ≡ Form.For r t → IsIn b.statement (map (λ (s : Slot). s.number) b.slots) → ⊥
    pub onward : b.onward ≡ true → (next : CodeBlock) × (slice_get blocks (suc i) ≡ Some next) × Arrives (label_with (facts_after image.types variables b.form ok b.facts) (edge_slots image.types variables b)) (label_with next.facts next.slots)
    pub edges : (j : ℕ) (d : Departure) → slice_get b.departures j ≡ Some d → AreGoodHere (exit i b) (edge_code st d) (Some (label_with (facts_after image.types variables b.form d.outcome b.facts) (edge_slots image.types variables b)))

  -- what is asked of the way to the next instruction
  abbrev pub GoesOnWell : ℕ → Instruction → Label → Type 0
  GoesOnWell n i l = (o : Outcome) → goes_on i ≡ Some o → (suc n < length m.code) × ((next : Label) → listed_at m.labels (suc n) ≡ Some next → Arrives (label_behind image.types variables image.constants i o l) next)

  -- an instruction that keeps these rules, with its way to the next one
  pub record IsSoundPlace (p : Place) (l : Label) : Type 0 where
    pub exit_at : Outcome → ℕ
    pub landings : p.landings ≡ landings_by image.types variables exit_at p.instruction
    pub good : IsGoodHere exit_at p.instruction l
    pub onward : GoesOnWell p.index p.instruction l

  module _ (formed : IsWellFormedTable count image.types) (reached : AreReached image.types variables entry blocks) (sound : (i : ℕ) (b : CodeBlock) → slice_get blocks i ≡ Some b → IsSoundBlock i b) (entry-good : AreGoodHere (λ o. 0) (edge_code st entry) (Some label_at_start)) where
    typed-here : (i : ℕ) (b : CodeBlock) → slice_get blocks i ≡ Some b → IsTypedBlock image.types variables image.constants count processes b
    typed-here i b at-i = (sound i b at-i).typed

    -- along a row nothing is listed, and at its end this holds
    on-row : (n : ℕ) (code : List Instruction) (exit_at : Outcome → ℕ) (a : Option Label) (p : Place) (l : Label) → IsOn count image variables entry blocks n code exit_at a p → p.label ≡ Some l → AreGoodHere exit_at code a
        → ((k : ℕ) → suc k ≡ length code → p.index ≡ n + k → slice_get code k ≡ Some p.instruction → handed_to image.types variables image.constants code k a ≡ Some l → GoesOnWell p.index p.instruction l) → IsSoundPlace p l
    on-row n code exit_at a p l on e good last = record {
      exit_at = exit_at;
      landings = on.landings;
      good = good-at image.types variables image.constants (IsGoodHere exit_at) code on.far a good p.instruction l on.there (sym on.label ∙ e);
      onward = by (end-or on.far (length code) (got-within code on.far p.instruction on.there));
    }
      where
        end-or : (k size : ℕ) → k < size → (suc k ≡ size) ⊎ (suc k < size)
        end-or zero zero h = absurd (omega (arith, h))
        end-or zero (suc zero) h = inl refl
        end-or zero (suc (suc size)) h = inr (omega arith)
        end-or (suc k) zero h = absurd (omega (arith, h))
        end-or (suc k) (suc size) h = again (end-or k size (omega (arith, h)))
          where
            again : (suc k ≡ size) ⊎ (suc k < size) → (suc (suc k) ≡ suc size) ⊎ (suc (suc k) < suc size)
            again (inl x) = inl (ap suc x)
            again (inr x) = inr (omega (arith, x))

        by : (suc on.far ≡ length code) ⊎ (suc on.far < length code) → GoesOnWell p.index p.instruction l
        by (inl x) = last on.far x on.index on.there (sym on.label ∙ e)
        by (inr x) = λ o q. ((on.next x).1, λ next listed. none-not_some (sym (on.next x).0 ∙ listed))

    -- the last instruction of an edge does not go on
    edge-ends : (d : Departure) (k : ℕ) (i : Instruction) → suc k ≡ length (edge_code st d) → slice_get (edge_code st d) k ≡ Some i → goes_on i ≡ None
    edge-ends d k i long e =
        ap goes_on (some-injective (sym e ∙ ap (λ code. slice_get code k) (sym (append_assoc (map Drop d.drops) (map LoopDrop d.slots) (arrive_by st d.arrival ∷ []))) ∙ get-right before (arrive_by st d.arrival ∷ []) k 0 at-last)) ∙ ends d.arrival
      where
        before : List Instruction
        before = map Drop d.drops ++ map LoopDrop d.slots

        at-last : k ≡ length before + 0
        at-last =
            let j = ap length (append_assoc (map Drop d.drops) (map LoopDrop d.slots) (arrive_by st d.arrival ∷ [])) in
            let l = length-joined before (arrive_by st d.arrival ∷ []) in
            omega (arith, long, j, l)

        ends : (a : Arrival) → goes_on (arrive_by st a) ≡ None
        ends (to_block n) = refl
        ends (to_second_step n) = refl
        ends to_end = refl
        ends (to_end_by x) = refl

    ends-well : (n : ℕ) (i : Instruction) (l : Label) → goes_on i ≡ None → GoesOnWell n i l
    ends-well n i l none o e = none-not_some (sym none ∙ e)

    -- a block with a named outcome has edges
    stays : (i : ℕ) (b : CodeBlock) (o : Outcome) → slice_get blocks i ≡ Some b → IsIn o (outcomes image.types variables b.form) → is_named o ≡ true → b.onward ≡ false
    stays i b o at-i in-o named = by b.onward refl
      where
        only : IsIn o (ok ∷ []) → ⊥
        only (inl e) = true≢false (sym named ∙ ap is_named e)
        only (inr k) = k

        by : (t : Bool) → b.onward ≡ t → b.onward ≡ false
        by false e = e
        by true e = absurd (only (subst (IsIn o) ((typed-here i b at-i).goes_on e).1 in-o))

    -- where an outcome's edge is named, its label is listed
    outcome-listed : (i : ℕ) (b : CodeBlock) (o : Outcome) → slice_get blocks i ≡ Some b → IsIn o (outcomes image.types variables b.form) → is_named o ≡ true
        → listed_at m.labels (exit i b o) ≡ Some (label_with (facts_after image.types variables b.form o b.facts) (edge_slots image.types variables b))
    outcome-listed i b o at-i in-o named =
        let d = in-map_from outcome_of o b.departures (subst (IsIn o) (sym ((typed-here i b at-i).outcomes_in_order (stays i b o at-i in-o named))) in-o) in
        let j = in-got d.0 b.departures d.1 in
        ap (λ o. listed_at m.labels (exit i b o)) d.2
        ∙ (blocks-labelled image.types variables image.constants entry blocks).edges i j.0 b d.0 at-i j.1 (typed-here i b at-i).outcomes_differ
        ∙ ap (λ named. cond named (Some (label_with (facts_after image.types variables b.form d.0.outcome b.facts) (edge_slots image.types variables b))) None) (ap is_named (sym d.2) ∙ named)
        ∙ ap (λ o. Some (label_with (facts_after image.types variables b.form o b.facts) (edge_slots image.types variables b))) (sym d.2)

    -- behind a front whose first edge is not named nothing is listed, and there is an instruction
    first-edge : (i : ℕ) (b : CodeBlock) (o : Outcome) (rest : List Outcome) → slice_get blocks i ≡ Some b → b.onward ≡ false → outcomes image.types variables b.form ≡ o ∷ rest → is_named o ≡ false
        → (listed_at m.labels (edges_at image.types variables image.constants (st i) b) ≡ None) × (edges_at image.types variables image.constants (st i) b < length m.code)
    first-edge i b o rest at-i off e named = by b.departures refl ((typed-here i b at-i).outcomes_in_order off ∙ e)
      where
        by : (ds : List Departure) → b.departures ≡ ds → map outcome_of ds ≡ o ∷ rest → (listed_at m.labels (edges_at image.types variables image.constants (st i) b) ≡ None) × (edges_at image.types variables image.constants (st i) b < length m.code)
        by [] q s = let k : ⊥ = cc in absurd k
        by (d ∷ ds) q s = (
          ap (listed_at m.labels) (sym first)
              ∙ (blocks-labelled image.types variables image.constants entry blocks).edges i 0 b d at-i at-d (typed-here i b at-i).outcomes_differ
              ∙ ap (λ named. cond named (Some (label_with (facts_after image.types variables b.form d.outcome b.facts) (edge_slots image.types variables b))) None) (ap is_named (cons-head s) ∙ named),
          (let l = edge-long st d in
              let x = got-some (edge_code st d) 0 (omega (arith, l)) in
              let w = got-within m.code (exit i b d.outcome + 0) x.0 (edges-there image.types variables image.constants entry blocks i 0 0 b d at-i at-d (typed-here i b at-i).outcomes_differ (omega arith) ∙ x.1) in
              let f = first in
              omega (arith, w, f)),
        )
          where
            at-d : slice_get b.departures 0 ≡ Some d
            at-d = ap (λ ds. slice_get ds 0) q

            first : exit i b d.outcome ≡ edges_at image.types variables image.constants (st i) b
            first = ap (λ ds. edge_at (edges_at image.types variables image.constants (st i) b) ds d.outcome) q ∙ first-here (edges_at image.types variables image.constants (st i) b) d ds

    -- behind the front of a block that goes on, the next block begins
    next-first : (i : ℕ) (b : CodeBlock) → slice_get blocks i ≡ Some b → b.onward ≡ true
        → ((next : Label) → listed_at m.labels (edges_at image.types variables image.constants (st i) b) ≡ Some next → Arrives (label_with (facts_after image.types variables b.form ok b.facts) (edge_slots image.types variables b)) next) × (edges_at image.types variables image.constants (st i) b < length m.code)
    next-first i b at-i on = (
      λ next listed. by (comes_first entry blocks (suc i)) next (sym ((blocks-labelled image.types variables image.constants entry blocks).first (suc i) c.0 c.1) ∙ ap (listed_at m.labels) ends ∙ listed),
      subst (λ n. n < length m.code) ends
          (got-within m.code (st (suc i)) Step (code-block image.types variables image.constants entry blocks (st (suc i)) (suc i) 0 c.0 (c.1, omega arith, omega arith))),
    )
      where
        c : (next : CodeBlock) × (slice_get blocks (suc i) ≡ Some next) × Arrives (label_with (facts_after image.types variables b.form ok b.facts) (edge_slots image.types variables b)) (label_with next.facts next.slots)
        c = (sound i b at-i).onward on

        ends : st (suc i) ≡ edges_at image.types variables image.constants (st i) b
        ends = onward-ends image.types variables image.constants (edge_length entry) blocks i b at-i ((typed-here i b at-i).goes_on on).0

        by : (t : Bool) (next : Label) → cond t (Some (label_with c.0.facts c.0.slots)) None ≡ Some next → Arrives (label_with (facts_after image.types variables b.form ok b.facts) (edge_slots image.types variables b)) next
        by true next e = subst (Arrives (label_with (facts_after image.types variables b.form ok b.facts) (edge_slots image.types variables b))) (some-injective e) c.2
        by false next e = none-not_some e

    -- what the last instruction of a row hands on is what the row does
    handed-last : (code : List Instruction) (k : ℕ) (a : Option Label) (i : Instruction) (l : Label) (o : Outcome) → suc k ≡ length code → slice_get code k ≡ Some i → handed_to image.types variables image.constants code k a ≡ Some l → goes_on i ≡ Some o
        → handed_on image.types variables image.constants code a ≡ Some (label_behind image.types variables image.constants i o l)
    handed-last [] k a i l o long e h q = none-not_some e
    handed-last (x ∷ []) zero a i l o long e h q =
        ap₂ (λ j b. handed_by image.types variables image.constants j b) (some-injective e) h ∙ ap (option_and_then (λ o. Some (label_behind image.types variables image.constants i o l))) q
    handed-last (x ∷ y ∷ code) zero a i l o long e h q = absurd (omega (arith, long))
    handed-last (x ∷ code) (suc k) a i l o long e h q = handed-last code k (handed_by image.types variables image.constants x a) i l o (omega (arith, long)) e h q

    -- a front that goes on at its end goes on to an edge that is not named
    goes-first : (b : CodeBlock) (at : ℕ) (exit_at : Outcome → ℕ) (form : Form) → IsNoFor form → (k : ℕ) (i : Instruction) → suc k ≡ length (Step ∷ front image.types variables image.constants b.facts b.statement at exit_at form)
        → slice_get (Step ∷ front image.types variables image.constants b.facts b.statement at exit_at form) k ≡ Some i → (o : Outcome) → goes_on i ≡ Some o → (first : Outcome) × (rest : List Outcome) × (outcomes image.types variables form ≡ first ∷ rest) × (is_named first ≡ false)
    goes-first b at exit_at (Form.Case v cs) plain k i long e o q =
        let one : k ≡ 1 = omega (arith, long) in none-not_some (sym (ap goes_on (some-injective (sym e ∙ ap (slice_get (Step ∷ front image.types variables image.constants b.facts b.statement at exit_at (Form.Case v cs))) one))) ∙ q)
    goes-first b at exit_at (Form.Select arms) plain k i long e o q =
        let one : k ≡ 1 = omega (arith, long) in none-not_some (sym (ap goes_on (some-injective (sym e ∙ ap (slice_get (Step ∷ front image.types variables image.constants b.facts b.statement at exit_at (Form.Select arms))) one))) ∙ q)
    goes-first b at exit_at (Form.Raise x) plain k i long e o q =
        let one : k ≡ 1 = omega (arith, long) in none-not_some (sym (ap goes_on (some-injective (sym e ∙ ap (slice_get (Step ∷ front image.types variables image.constants b.facts b.statement at exit_at (Form.Raise x))) one))) ∙ q)
    goes-first b at exit_at (Form.For r t) plain k i long e o q = absurd plain
    goes-first b at exit_at (Form.If x) plain k i long e o q = (is_true, is_false ∷ map raised (exceptions image.types variables (Form.If x)), refl, refl)
    goes-first b at exit_at (Form.While x) plain k i long e o q = (is_true, is_false ∷ map raised (exceptions image.types variables (Form.While x)), refl, refl)
    goes-first b at exit_at form plain k i long e o q = (ok, map raised (exceptions image.types variables form), refl, refl)

    -- the way on from the last instruction of a front
    front-onward : (i : ℕ) (b : CodeBlock) → slice_get blocks i ≡ Some b → IsNoFor b.form → (n : ℕ) (x : Instruction) (l : Label) (o : Outcome) → suc n ≡ edges_at image.types variables image.constants (st i) b
        → ((first : Outcome) × (rest : List Outcome) × (outcomes image.types variables b.form ≡ first ∷ rest) × (is_named first ≡ false))
        → (k : ℕ) → suc k ≡ length (Step ∷ places.the_front count image variables entry blocks i b) → slice_get (Step ∷ places.the_front count image variables entry blocks i b) k ≡ Some x
        → handed_to image.types variables image.constants (Step ∷ places.the_front count image variables entry blocks i b) k (Some (label_with b.facts b.slots)) ≡ Some l → goes_on x ≡ Some o
        → (suc n < length m.code) × ((next : Label) → listed_at m.labels (suc n) ≡ Some next → Arrives (label_behind image.types variables image.constants x o l) next)
    front-onward i b at-i plain n x l o here f k long there handed q = by b.onward refl
      where
        the_row : List Instruction
        the_row = Step ∷ places.the_front count image variables entry blocks i b

        behind : b.onward ≡ true → label_with (facts_after image.types variables b.form ok b.facts) (edge_slots image.types variables b) ≡ label_behind image.types variables image.constants x o l
        behind on =
            some-injective
            (ap (λ own. Some (label_with (facts_after image.types variables b.form ok b.facts) (own ++ b.slots))) (own-none image.types variables b.statement b.form plain)
            ∙ sym (fronts-hand_on image.types variables image.constants count processes formed b.facts b.statement (st i + 1) (exit i b) b.slots b.form ok (typed-here i b at-i).typed (typed-here i b at-i).known
            (subst (IsIn ok) (sym ((typed-here i b at-i).goes_on on).1) (inl refl)) refl (other-form b.form plain))
            ∙ sym (ap (λ fs. handed_on image.types variables image.constants (places.the_front count image variables entry blocks i b) (Some (label_with fs b.slots))) (filter-all b.facts))
            ∙ handed-last (Step ∷ places.the_front count image variables entry blocks i b) k (Some (label_with b.facts b.slots)) x l o long there handed q)

        by : (t : Bool) → b.onward ≡ t → (suc n < length m.code) × ((next : Label) → listed_at m.labels (suc n) ≡ Some next → Arrives (label_behind image.types variables image.constants x o l) next)
        by true on =
            let z = next-first i b at-i on in
            (subst (λ n. n < length m.code) (sym here) z.1, λ next listed. subst (λ (y : Label). Arrives y next) (behind on) (z.0 next (ap (listed_at m.labels) (sym here) ∙ listed)))
        by false off =
            let z = first-edge i b f.0 f.1 at-i off f.2 f.3 in
            (subst (λ n. n < length m.code) (sym here) z.1, λ next listed. none-not_some (sym (ap (listed_at m.labels) here ∙ z.0) ∙ listed))

    step-good : (exit_at : Outcome → ℕ) (l : Label) → IsGoodHere exit_at Step l
    step-good exit_at l = record { typed = tt; stack = (l.stack, refl); facts = λ f k. absurd k; slots = tt; trims = tt; leads = λ w k. absurd k }

    front-row_good : (i : ℕ) (b : CodeBlock) → slice_get blocks i ≡ Some b → IsNoFor b.form → AreGoodHere (exit i b) (Step ∷ places.the_front count image variables entry blocks i b) (Some (label_with b.facts b.slots))
    front-row_good i b at-i plain = (
      λ l e. step-good (exit i b) l,
      subst (λ fs. AreGoodHere (exit i b) (places.the_front count image variables entry blocks i b) (Some (label_with fs b.slots))) (sym (filter-all b.facts))
          (good-more image.types variables image.constants _ (IsGoodHere (exit i b))
          (λ x l g. lands-more image.types variables image.constants count processes (exit i b) _ LandsListed lands x l g)
          (places.the_front count image variables entry blocks i b) (Some (label_with b.facts b.slots))
          (front-good image.types variables image.constants count processes formed b.facts b.statement (st i + 1) (exit i b) b.slots b.form here.typed.typed here.typed.known here.names here.arm here.needed plain)),
    )
      where
        here : IsSoundBlock i b
        here = sound i b at-i

        lands : (w : Way) (after : Label) → LandsAtExit image.types variables image.constants count processes (exit i b) b.facts b.slots b.form w after → LandsListed w after
        lands w after h = (
          label_with (facts_after image.types variables b.form w.outcome b.facts) (edge_slots image.types variables b),
          ap (listed_at m.labels) h.2 ∙ outcome-listed i b w.outcome at-i h.0 h.1,
          subst (λ x. Arrives x (label_with (facts_after image.types variables b.form w.outcome b.facts) (edge_slots image.types variables b))) (ap (λ own. label_with (facts_after image.types variables b.form w.outcome b.facts) (own ++ b.slots)) (own-none image.types variables b.statement b.form plain) ∙ sym h.3) (arrives-itself _),
        )

    module _ (i : ℕ) (b : CodeBlock) (r t : Path) (at-i : slice_get blocks i ≡ Some (as_loop b r t)) where
      abbrev here : IsSoundBlock i (as_loop b r t)
      here = sound i (as_loop b r t) at-i

      typed-loop : IsTypedForm image.types variables count processes (Form.For r t)
      typed-loop = here.typed.typed

      -- its slot, with the type of its rows
      own-is : own_slot image.types variables b.statement (Form.For r t) ≡ record { number = b.statement; row = typed-loop.0 } ∷ []
      own-is = ap (λ o. map (λ row. record { number = b.statement; row = row }) (list_of row_type o)) (shape-is image.types variables t (typed-loop.2).0 (rows typed-loop.0 typed-loop.1) ((typed-loop.2).1).0 (typed-loop.2).2)

      start-good : IsGoodHere (exit i (as_loop b r t)) (LoopStart t b.statement) (label_with b.facts b.slots)
      start-good = record {
        typed = (typed-loop.0, typed-loop.1, typed-loop.2, typed-loop.4);
        stack = ([], refl);
        facts = λ f k. here.needed f (closed-more image.types variables (present image.types variables t) _ (λ g j. in-append_right g (room_for image.types variables r) _ j) f k);
        slots = here.own r t refl;
        trims = tt;
        leads = λ w k. absurd k;
      }

      jump-good : IsGoodHere (exit i (as_loop b r t)) (Jump (st i + 1 + 3)) (in_loop b r t)
      jump-good = record { typed = tt; stack = ([], refl); facts = λ f k. absurd k; slots = tt; trims = tt; leads = way }
        where
          way : (w : Way) → IsIn w (record { outcome = ok; index = st i + 1 + 3 } ∷ []) → LandsListed w (label_behind image.types variables image.constants (Jump (st i + 1 + 3)) w.outcome (in_loop b r t))
          way w (inl e) =
              subst (λ (w : Way). LandsListed w (label_behind image.types variables image.constants (Jump (st i + 1 + 3)) w.outcome (in_loop b r t))) (sym e) (
                in_loop b r t,
                ap (listed_at m.labels) (omega arith) ∙ test-listed count image variables entry blocks processes formed reached typed-here i b r t at-i,
                subst (λ fs. Arrives (label_with fs (edge_slots image.types variables (as_loop b r t))) (in_loop b r t)) (sym (filter-all b.facts)) (arrives-itself _),
              )
          way w (inr k) = absurd k

      loop-row_good : AreGoodHere (exit i (as_loop b r t)) (first_row i b r t) (Some (label_with b.facts b.slots))
      loop-row_good = (
        λ l e. step-good (exit i (as_loop b r t)) l,
        subst (λ fs. AreGoodHere (exit i (as_loop b r t)) (LoopStart t b.statement ∷ Jump (st i + 1 + 3) ∷ []) (Some (label_with fs b.slots))) (sym (filter-all b.facts)) (
          (λ l e. subst (IsGoodHere (exit i (as_loop b r t)) (LoopStart t b.statement)) (some-injective e) start-good),
          subst (λ fs. AreGoodHere (exit i (as_loop b r t)) (Jump (st i + 1 + 3) ∷ []) (Some (label_with fs (edge_slots image.types variables (as_loop b r t))))) (sym (filter-all b.facts))
              (good-one image.types variables image.constants (IsGoodHere (exit i (as_loop b r t))) (Jump (st i + 1 + 3)) (in_loop b r t) jump-good),
        ),
      )

      test-good : IsGoodHere (exit i (as_loop b r t)) (LoopNext r b.statement (exit i (as_loop b r t) done)) (in_loop b r t)
      test-good = record {
        typed = tt;
        stack = ([], refl);
        facts = λ f k. here.needed f (closed-more image.types variables (room_for image.types variables r) _ (λ g j. in-append_left g (room_for image.types variables r) _ j) f k);
        slots = (record { number = b.statement; row = typed-loop.0 }, in-append_left _ (own_slot image.types variables b.statement (Form.For r t)) b.slots (subst (IsIn (record { number = b.statement; row = typed-loop.0 })) (sym own-is) (inl refl)), refl, typed-loop.3);
        trims = tt;
        leads = way;
      }
        where
          way : (w : Way) → IsIn w (record { outcome = done; index = exit i (as_loop b r t) done } ∷ []) → LandsListed w (label_behind image.types variables image.constants (LoopNext r b.statement (exit i (as_loop b r t) done)) w.outcome (in_loop b r t))
          way w (inl e) =
              subst (λ (w : Way). LandsListed w (label_behind image.types variables image.constants (LoopNext r b.statement (exit i (as_loop b r t) done)) w.outcome (in_loop b r t))) (sym e)
              (label_with (facts_after image.types variables (Form.For r t) done b.facts) (edge_slots image.types variables (as_loop b r t)), outcome-listed i (as_loop b r t) done at-i (inr (inl refl)) refl, arrives-itself _)
          way w (inr k) = absurd k

    -- each instruction with a label keeps the rules
    pub place-sound : (p : Place) (l : Label) → IsIn p (module_places count image m) → p.label ≡ Some l → IsSoundPlace p l
    place-sound p l member e = by (located count image variables entry blocks processes formed reached typed-here p member)
      where
        by : Located count image variables entry blocks p → IsSoundPlace p l
        by (on_entry on) = on-row 0 (edge_code st entry) (λ o. 0) (Some label_at_start) p l on e entry-good (λ k long at there handed. ends-well p.index p.instruction l (edge-ends entry k p.instruction long there))
        by (on_edge i j b d at-i at-j on) = on-row _ (edge_code st d) (exit i b) _ p l on e ((sound i b at-i).edges j d at-j) (λ k long at there handed. ends-well p.index p.instruction l (edge-ends d k p.instruction long there))
        by (on_front i b at-i plain on) =
            on-row (st i) (Step ∷ places.the_front count image variables entry blocks i b) (exit i b) _ p l on e (front-row_good i b at-i plain)
            (λ k long at there handed o q. (
            let f = goes-first b (st i + 1) (exit i b) b.form plain k p.instruction long there o q in
            let lf = front-long image.types variables image.constants b.facts b.statement (st i + 1) (exit i b) b.form in
            let here : suc p.index ≡ edges_at image.types variables image.constants (st i) b = omega (arith, at, long, lf) in
            front-onward i b at-i plain p.index p.instruction l o here f k long there handed q))
        by (on_loop i b r t at-i on) =
            on-row (st i) (first_row i b r t) (exit i (as_loop b r t)) _ p l on e (loop-row_good i b r t at-i)
            (λ k long at there handed. ends-well p.index p.instruction l (let two : k ≡ 2 = omega (arith, long) in sym (ap goes_on (some-injective (ap (slice_get (first_row i b r t)) (sym two) ∙ there)))))
        by (on_turn i b r t at-i at step lands label) = record {
          exit_at = exit i (as_loop b r t);
          landings = lands ∙ ap (landings_by image.types variables (exit i (as_loop b r t))) (sym step);
          good = subst (λ x. IsGoodHere (exit i (as_loop b r t)) x l) (sym step) (step-good (exit i (as_loop b r t)) l);
          onward = subst (λ x. GoesOnWell p.index x l) (sym step) (λ o q. (next-there, next-arrives o q));
        }
          where
            listed-next : listed_at m.labels (suc p.index) ≡ Some (in_loop b r t)
            listed-next = ap (listed_at m.labels) (omega (arith, at)) ∙ test-listed count image variables entry blocks processes formed reached typed-here i b r t at-i

            next-there : suc p.index < length m.code
            next-there = (let w = test-within count image variables entry blocks processes formed reached typed-here i b r t at-i in omega (arith, at, w))

            next-arrives : (o : Outcome) → Some ok ≡ Some o → (next : Label) → listed_at m.labels (suc p.index) ≡ Some next → Arrives (label_behind image.types variables image.constants Step o l) next
            next-arrives o q next listed =
                subst (λ o. Arrives (label_behind image.types variables image.constants Step o l) next) (some-injective q)
                (subst (λ x. Arrives (label_behind image.types variables image.constants Step ok l) x) (some-injective (sym listed-next ∙ listed))
                (subst (λ x. Arrives (label_behind image.types variables image.constants Step ok x) (in_loop b r t)) (sym (label l e))
                (subst (λ fs. Arrives (label_with fs (edge_slots image.types variables (as_loop b r t))) (in_loop b r t)) (sym (filter-all b.facts)) (arrives-itself _))))
        by (on_test i b r t at-i on) =
            on-row (st i + 4) (test_row i b r t) (exit i (as_loop b r t)) _ p l on e
            (good-one image.types variables image.constants (IsGoodHere (exit i (as_loop b r t))) _ _ (test-good i b r t at-i))
            (λ k long at there handed o q. (
            let x = first-edge i (as_loop b r t) turn (done ∷ []) at-i (stays i (as_loop b r t) done at-i (inr (inl refl)) refl) refl refl in
            let here : suc p.index ≡ edges_at image.types variables image.constants (st i) (as_loop b r t) = omega (arith, at, long) in
            (subst (λ n. n < length m.code) (sym here) x.1, λ next listed. none-not_some (sym (ap (listed_at m.labels) here ∙ x.0) ∙ listed))))
