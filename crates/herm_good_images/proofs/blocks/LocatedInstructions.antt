-- Where each instruction of laid out code stands, and the label there.
use Rattle.std.proofs.Common.{◌≡◌, ℕ, zero, suc, ◌+◌, ◌<◌, length, List, [], ◌∷◌, ◌++◌, map, flat_map, Bool, true, false, Option, Some, None, option_and_then, option_map, slice_get, ◌⊎◌, inl, inr, refl, sym, ap, subst, ◌∙◌, arith}
use Rattle.herm_model.specs.Lists.{IsIn, list_of, total}
use Rattle.herm_model.specs.Paths.{Path}
use Rattle.herm_model.specs.Statements.{Form, Process, Differ}
use Rattle.herm_model.specs.Outcomes.{Outcome, done}
use Rattle.herm_model.specs.WellFormedTables.{IsWellFormedTable}
use Rattle.herm_model.proofs.Options.{some-injective, none-not_some}
use Rattle.herm_model.proofs.Lists.{in-map}
use Rattle.herm_model.proofs.FactTests.{got-IsIn}
use Rattle.herm_instructions.specs.Instructions.{Instruction, Step, LoopStart, LoopNext, Jump}
use Rattle.herm_instructions.specs.Labels.{Label, ListedLabel, listed_at}
use Rattle.herm_instructions.specs.Images.{CodeModule, Image}
use Rattle.herm_instructions.specs.Places.{Place, listed_or, label_at_start, label_at}
use Rattle.herm_instructions.specs.GoodCode.{module_places}
use Rattle.herm_instructions.specs.laws.LabelLaws.{IsPlaceAt}
use Rattle.herm_instructions.proofs.LabelsOfCode.{places-are_instructions}
use Rattle.herm_instructions.proofs.PlacesOfCode.{first-label, instruction-place}
use Rattle.herm_translated.specs.Fronts.{front, front_length}
use Rattle.herm_translated.specs.Departures.{Departure, edge_code, edge_length, second_step}
use Rattle.herm_translated.specs.CodeBlocks.{CodeBlock}
use Rattle.herm_translated.specs.Layout.{edge_at, edges_at, exit_of, landings_by, block_code}
use Rattle.herm_translated.specs.BlockLabels.{label_with, listed_with, comes_again, facts_after, edge_slots, labels_within}
use Rattle.herm_translated.specs.laws.LayoutLaws.{start, IsInBlock}
use Rattle.herm_translated.specs.laws.GoodStructure.{code_module}
use Rattle.herm_translated.specs.laws.LabelsAlong.{handed_by}
use Rattle.herm_translated.specs.laws.LabelsAtEdges.{AreReached, IsTypedBlock}
use Rattle.herm_translated.proofs.Joined.{get-left, place-in, got-within}
use Rattle.herm_translated.proofs.Lengths.{front-long, edge-long}
use Rattle.herm_translated.proofs.Addresses.{outcome_of, first-here, further, code-block, edges-there, laid-out}
use Rattle.herm_translated.proofs.LabelsStand.{label-where_listed, blocks-labelled}
use Rattle.herm_translated.proofs.ListedLabels.{listed-here, listed-on}
use Rattle.herm_translated.proofs.FrontWays.{IsNoFor}
use Rattle.herm_translated.proofs.EdgesLabelled.{label-stretch, within-none, got-some, first-steps_labelled, edges-are_labelled}
use Rattle.herm_good_images.proofs.fronts.GoodInstructions.{handed_to}

-- the edge at a place among edges
edge-found : (at : ℕ) (ds : List Departure) (z : ℕ) → z < total edge_length ds → Differ (map outcome_of ds) → (j k : ℕ) × (d : Departure) × (slice_get ds j ≡ Some d) × (k < edge_length d) × (at + z ≡ edge_at at ds d.outcome + k)
edge-found at [] z low differ = absurd (omega (arith, low))
edge-found at (c ∷ ds) z low differ = by (place-in z (edge_length c) (total edge_length ds) low) (λ k h. edge-found (at + edge_length c) ds k h differ.1)
  where
    by : (z < edge_length c) ⊎ ((k : ℕ) × (z ≡ edge_length c + k) × (k < total edge_length ds))
        → ((k : ℕ) → k < total edge_length ds → (j n : ℕ) × (d : Departure) × (slice_get ds j ≡ Some d) × (n < edge_length d) × (at + edge_length c + k ≡ edge_at (at + edge_length c) ds d.outcome + n))
        → (j k : ℕ) × (d : Departure) × (slice_get (c ∷ ds) j ≡ Some d) × (k < edge_length d) × (at + z ≡ edge_at at (c ∷ ds) d.outcome + k)
    by (inl x) again = (0, z, c, refl, x, let h = first-here at c ds in omega (arith, h))
    by (inr y) again =
        let r = again y.0 y.2 in
        let on = further at c ds r.2.outcome (λ x. differ.0 (subst (λ o. IsIn o (map outcome_of ds)) (sym x) (in-map outcome_of r.2 ds (got-IsIn ds r.0 r.2 r.3)))) in
        let p = y.1 in let q = r.5 in
        (suc r.0, r.1, r.2, r.3, r.4, omega (arith, on, p, q))

module _ (count : ℕ) (image : Image) (variables : List ℕ) (entry : Departure) (blocks : List CodeBlock) where
  abbrev pub m : CodeModule
  m = code_module count image variables entry blocks

  abbrev pub st : ℕ → ℕ
  st n = start image.types variables image.constants entry blocks n

  abbrev pub exit : ℕ → CodeBlock → Outcome → ℕ
  exit i b o = exit_of image.types variables image.constants (st i) b o

  abbrev pub the_front : ℕ → CodeBlock → List Instruction
  the_front i b = front image.types variables image.constants b.facts b.statement (st i + 1) (exit i b) b.form

  abbrev pub label_here : ℕ → Option Label
  label_here n = label_at image.types image.constants m n

  -- along instructions in a row, behind the first of which none is listed
  to-label : (code : List Instruction) (n k : ℕ) (a : Option Label) (i : Instruction) → ((j : ℕ) (x : Instruction) → slice_get code j ≡ Some x → slice_get m.code (n + j) ≡ Some x)
      → ((j : ℕ) → suc j < length code → listed_at m.labels (n + suc j) ≡ None) → label_here n ≡ a → slice_get code k ≡ Some i → label_here (n + k) ≡ handed_to image.types variables image.constants code k a
  to-label [] n k a i there none here e = none-not_some e
  to-label (x ∷ code) n zero a i there none here e = ap label_here (omega arith) ∙ here
  to-label (x ∷ code) n (suc k) a i there none here e =
      ap label_here (omega arith)
      ∙ to-label code (n + 1) k (handed_by image.types variables image.constants x a) i (λ j y q. ap (slice_get m.code) (omega arith) ∙ there (suc j) y q)
      (λ j low. ap (listed_at m.labels) (omega arith) ∙ none (suc j) (omega (arith, low)))
      (label-stretch image.types image.constants m (x ∷ []) n first.0 a one (ap (slice_get m.code) (omega arith) ∙ there 1 first.0 first.1) quiet here) e
    where
      within : k < length code
      within = got-within code k i e

      first : (y : Instruction) × (slice_get code 0 ≡ Some y)
      first = got-some code 0 (let w = within in omega (arith, w))

      one : (j : ℕ) (y : Instruction) → slice_get (x ∷ []) j ≡ Some y → slice_get m.code (n + j) ≡ Some y
      one zero y q = there 0 y q
      one (suc j) y q = none-not_some q

      quiet : (j : ℕ) → j < length (x ∷ []) → listed_at m.labels (n + suc j) ≡ None
      quiet j low = ap (listed_at m.labels) (omega (arith, low)) ∙ none 0 (let w = within in omega (arith, w))

  -- The place is so far along a row of instructions from an index on, to the first of which control goes with this label, and behind that one none is listed.
  pub record IsOn (n : ℕ) (code : List Instruction) (exit_at : Outcome → ℕ) (a : Option Label) (p : Place) : Type 0 where
    pub far : ℕ
    pub index : p.index ≡ n + far
    pub there : slice_get code far ≡ Some p.instruction
    pub landings : p.landings ≡ landings_by image.types variables exit_at p.instruction
    pub label : p.label ≡ handed_to image.types variables image.constants code far a
    pub next : suc far < length code → (listed_at m.labels (suc p.index) ≡ None) × (suc p.index < length m.code)

  -- a row of the code
  record IsRow (n : ℕ) (code : List Instruction) (a : Option Label) : Type 0 where
    there : (j : ℕ) (x : Instruction) → slice_get code j ≡ Some x → slice_get m.code (n + j) ≡ Some x
    none : (j : ℕ) → suc j < length code → listed_at m.labels (n + suc j) ≡ None
    here : label_here n ≡ a

  along-row : (n : ℕ) (code : List Instruction) (exit_at : Outcome → ℕ) (a : Option Label) (p : Place) (k : ℕ) → IsPlaceAt image m p.index p.instruction p → slice_get m.code p.index ≡ Some p.instruction → IsRow n code a → p.index ≡ n + k → k < length code
      → p.landings ≡ landings_by image.types variables exit_at p.instruction → IsOn n code exit_at a p
  along-row n code exit_at a p k at-p code-p row e low lands = record {
    far = k;
    index = e;
    there = there;
    landings = lands;
    label = at-p.label ∙ ap label_here e ∙ to-label code n k a p.instruction row.there row.none row.here there;
    next = λ more. (
      ap (listed_at m.labels) (omega (arith, e)) ∙ row.none k more,
      (let y = got-some code (suc k) more in
          let w = got-within m.code (n + suc k) y.0 (row.there (suc k) y.0 y.1) in omega (arith, e, w)),
    );
  }
    where
      there : slice_get code k ≡ Some p.instruction
      there =
          let x = got-some code k low in
          x.1 ∙ sym (row.there k x.0 x.1) ∙ ap (slice_get m.code) (sym e) ∙ code-p

  -- within a `for`
  abbrev pub as_loop : CodeBlock → Path → Path → CodeBlock
  as_loop b r t = record b { form = Form.For r t }

  abbrev pub in_loop : CodeBlock → Path → Path → Label
  in_loop b r t = label_with b.facts (edge_slots image.types variables (as_loop b r t))

  abbrev pub first_row : ℕ → CodeBlock → Path → Path → List Instruction
  first_row i b r t = Step ∷ LoopStart t b.statement ∷ Jump (st i + 1 + 3) ∷ []

  abbrev pub test_row : ℕ → CodeBlock → Path → Path → List Instruction
  test_row i b r t = LoopNext r b.statement (exit i (as_loop b r t) done) ∷ []

  pub data Located (p : Place) : Type 0 where
    on_entry : IsOn 0 (edge_code st entry) (λ o. 0) (Some label_at_start) p → Located p
    on_front : (i : ℕ) (b : CodeBlock) → slice_get blocks i ≡ Some b → IsNoFor b.form → IsOn (st i) (Step ∷ the_front i b) (exit i b) (Some (label_with b.facts b.slots)) p → Located p
    on_loop : (i : ℕ) (b : CodeBlock) (r t : Path) → slice_get blocks i ≡ Some (as_loop b r t) → IsOn (st i) (first_row i b r t) (exit i (as_loop b r t)) (Some (label_with b.facts b.slots)) p → Located p
    on_turn : (i : ℕ) (b : CodeBlock) (r t : Path) → slice_get blocks i ≡ Some (as_loop b r t) → p.index ≡ st i + 3 → p.instruction ≡ Step → p.landings ≡ [] → ((l : Label) → p.label ≡ Some l → l ≡ in_loop b r t) → Located p
    on_test : (i : ℕ) (b : CodeBlock) (r t : Path) → slice_get blocks i ≡ Some (as_loop b r t) → IsOn (st i + 4) (test_row i b r t) (exit i (as_loop b r t)) (Some (in_loop b r t)) p → Located p
    on_edge : (i j : ℕ) (b : CodeBlock) (d : Departure) → slice_get blocks i ≡ Some b → slice_get b.departures j ≡ Some d → IsOn (exit i b d.outcome) (edge_code st d) (exit i b) (Some (label_with (facts_after image.types variables b.form d.outcome b.facts) (edge_slots image.types variables b))) p → Located p

  module _ (processes : List Process) (formed : IsWellFormedTable count image.types) (reached : AreReached image.types variables entry blocks) (each : (i : ℕ) (b : CodeBlock) → slice_get blocks i ≡ Some b → IsTypedBlock image.types variables image.constants count processes b) where
    edge-row : (i j : ℕ) (b : CodeBlock) (d : Departure) → slice_get blocks i ≡ Some b → slice_get b.departures j ≡ Some d → IsRow (exit i b d.outcome) (edge_code st d) (Some (label_with (facts_after image.types variables b.form d.outcome b.facts) (edge_slots image.types variables b)))
    edge-row i j b d at-i at-j = record {
      there = λ k x e.
          (let w = got-within (edge_code st d) k x e in let l = edge-long st d in
          edges-there image.types variables image.constants entry blocks i j k b d at-i at-j (each i b at-i).outcomes_differ (omega (arith, w, l)) ∙ e);
      none = λ k low. (let l = edge-long st d in (blocks-labelled image.types variables image.constants entry blocks).along i j (suc k) b d at-i at-j (each i b at-i).outcomes_differ (omega arith) (omega (arith, low, l)));
      here = (edges-are_labelled count image.types variables image.constants processes entry blocks formed reached each i j b d at-i at-j).before;
    }

    front-row : (i : ℕ) (b : CodeBlock) → slice_get blocks i ≡ Some b → IsNoFor b.form → IsRow (st i) (Step ∷ the_front i b) (Some (label_with b.facts b.slots))
    front-row i b at-i plain = record {
      there = λ k x e.
          (let w = got-within (Step ∷ the_front i b) k x e in
          let l = front-many in
          code-block image.types variables image.constants entry blocks (st i + k) i k b (at-i, omega (arith, w, l), refl)
          ∙ get-left (Step ∷ the_front i b) (flat_map (edge_code st) b.departures) k w ∙ e);
      none = λ k low.
          (let l = front-many in
          (blocks-labelled image.types variables image.constants entry blocks).within (st i + suc k) i (suc k) b (at-i, omega (arith, low, l), refl) (omega arith) (omega (arith, low, l))
          ∙ ap (λ ls. listed_at ls (st i + suc k)) (within-none image.types variables (st i) (comes_again blocks i) b b.form plain));
      here = first-steps_labelled count image.types variables image.constants processes entry blocks formed reached each i b at-i;
    }
      where
        front-many : length (the_front i b) ≡ front_length image.types variables image.constants b.form
        front-many = front-long image.types variables image.constants b.facts b.statement (st i + 1) (exit i b) b.form

    entry-row : IsRow 0 (edge_code st entry) (Some label_at_start)
    entry-row = record {
      there = λ k x e. (let w = got-within (edge_code st entry) k x e in let l = edge-long st entry in ap (slice_get m.code) (omega arith) ∙ (laid-out image.types variables image.constants entry blocks).entry_first k (omega (arith, w, l)) ∙ e);
      none = λ k low. (let l = edge-long st entry in ap (listed_at m.labels) (omega arith) ∙ (blocks-labelled image.types variables image.constants entry blocks).entry_none (suc k) (omega (arith, low, l)));
      here = at-start;
    }
      where
        first : (x : Instruction) × (slice_get (edge_code st entry) 0 ≡ Some x)
        first = got-some (edge_code st entry) 0 (let l = edge-long st entry in omega (arith, l))

        at-start : label_here 0 ≡ Some label_at_start
        at-start =
            let code : slice_get m.code 0 ≡ Some first.0 = (laid-out image.types variables image.constants entry blocks).entry_first 0 (omega arith) ∙ first.1 in
            let p = instruction-place image.types image.constants m.variables m.labels m.code (Some label_at_start) 0 m.landings 0 first.0 code in
            ap (option_and_then (λ (p : Place). p.label)) p.1
            ∙ first-label image.types image.constants m.variables m.labels m.code (Some label_at_start) 0 m.landings p.0 p.1
            ∙ ap (λ o. listed_or o (Some label_at_start)) ((blocks-labelled image.types variables image.constants entry blocks).entry_none 0 (omega arith))

    module _ (i : ℕ) (b : CodeBlock) (r t : Path) (at-i : slice_get blocks i ≡ Some (as_loop b r t)) where
      in-front : (k : ℕ) → k < 5 → IsInBlock image.types variables image.constants entry blocks (st i + k) i k (as_loop b r t)
      in-front k low = (at-i, omega (arith, low), refl)

      loop-listed : (k : ℕ) → 0 < k → k < 5 → listed_at m.labels (st i + k) ≡ listed_at (labels_within image.types variables (st i) (comes_again blocks i) (as_loop b r t) (Form.For r t)) (st i + k)
      loop-listed k low high = (blocks-labelled image.types variables image.constants entry blocks).within (st i + k) i k (as_loop b r t) (in-front k high) low (omega (arith, high))

      -- the labels within a `for`
      none-before : (k : ℕ) → k < 2 → listed_at m.labels (st i + suc k) ≡ None
      none-before k low = loop-listed (suc k) (omega arith) (omega (arith, low)) ∙ by (comes_again blocks i)
        where
          second : ListedLabel
          second = listed_with (st i + second_step) b.facts (edge_slots image.types variables (as_loop b r t))

          test : ListedLabel
          test = listed_with (st i + (second_step + 1)) b.facts (edge_slots image.types variables (as_loop b r t))

          by : (again : Bool) → listed_at (labels_within image.types variables (st i) again (as_loop b r t) (Form.For r t)) (st i + suc k) ≡ None
          by true = listed-on second (test ∷ []) (st i + suc k) (λ e. absurd (omega (arith, e, low))) ∙ listed-on test [] (st i + suc k) (λ e. absurd (omega (arith, e, low)))
          by false = listed-on test [] (st i + suc k) (λ e. absurd (omega (arith, e, low)))

      pub test-listed : listed_at m.labels (st i + 4) ≡ Some (in_loop b r t)
      test-listed = loop-listed 4 (omega arith) (omega arith) ∙ by (comes_again blocks i)
        where
          second : ListedLabel
          second = listed_with (st i + second_step) b.facts (edge_slots image.types variables (as_loop b r t))

          test : ListedLabel
          test = listed_with (st i + (second_step + 1)) b.facts (edge_slots image.types variables (as_loop b r t))

          by : (again : Bool) → listed_at (labels_within image.types variables (st i) again (as_loop b r t) (Form.For r t)) (st i + 4) ≡ Some (in_loop b r t)
          by true = listed-on second (test ∷ []) (st i + 4) (λ e. absurd (omega (arith, e))) ∙ listed-here test [] (st i + 4) (omega arith)
          by false = listed-here test [] (st i + 4) (omega arith)

      -- the second step, where control comes there
      pub turn-listed : comes_again blocks i ≡ true → listed_at m.labels (st i + second_step) ≡ Some (in_loop b r t)
      turn-listed q =
          loop-listed 3 (omega arith) (omega arith) ∙ ap (λ again. listed_at (labels_within image.types variables (st i) again (as_loop b r t) (Form.For r t)) (st i + 3)) q
          ∙ listed-here (listed_with (st i + second_step) b.facts (edge_slots image.types variables (as_loop b r t))) (listed_with (st i + (second_step + 1)) b.facts (edge_slots image.types variables (as_loop b r t)) ∷ []) (st i + 3) (omega arith)

      loop-row : IsRow (st i) (first_row i b r t) (Some (label_with b.facts b.slots))
      loop-row = record {
        there = λ k x e.
            (let w = got-within (first_row i b r t) k x e in
            code-block image.types variables image.constants entry blocks (st i + k) i k (as_loop b r t) (in-front k (omega (arith, w)))
            ∙ get-left (first_row i b r t) (Step ∷ (test_row i b r t ++ flat_map (edge_code st) b.departures)) k w ∙ e);
        none = λ k low. none-before k (omega (arith, low));
        here = first-steps_labelled count image.types variables image.constants processes entry blocks formed reached each i (as_loop b r t) at-i;
      }

      at-turn : slice_get m.code (st i + 3) ≡ Some Step
      at-turn = code-block image.types variables image.constants entry blocks (st i + 3) i 3 (as_loop b r t) (in-front 3 (omega arith))

      at-test : slice_get m.code (st i + 4) ≡ Some (LoopNext r b.statement (exit i (as_loop b r t) done))
      at-test = code-block image.types variables image.constants entry blocks (st i + 4) i 4 (as_loop b r t) (in-front 4 (omega arith))

      pub test-within : st i + 4 < length m.code
      test-within = got-within m.code (st i + 4) (LoopNext r b.statement (exit i (as_loop b r t) done)) at-test

      turn-label : (l : Label) → label_here (st i + 3) ≡ Some l → l ≡ in_loop b r t
      turn-label l e = by (comes_again blocks i) refl
        where
          second : ListedLabel
          second = listed_with (st i + second_step) b.facts (edge_slots image.types variables (as_loop b r t))

          test : ListedLabel
          test = listed_with (st i + (second_step + 1)) b.facts (edge_slots image.types variables (as_loop b r t))

          by : (again : Bool) → comes_again blocks i ≡ again → l ≡ in_loop b r t
          by true q =
              some-injective
              (sym e
              ∙ label-where_listed image.types image.constants m (st i + 3) Step (in_loop b r t) at-turn
              (loop-listed 3 (omega arith) (omega arith) ∙ ap (λ again. listed_at (labels_within image.types variables (st i) again (as_loop b r t) (Form.For r t)) (st i + 3)) q ∙ listed-here second (test ∷ []) (st i + 3) (omega arith)))
          by false q =
              none-not_some
              (sym (ap label_here (omega arith)
              ∙ label-stretch image.types image.constants m (Jump (st i + 1 + 3) ∷ []) (st i + 2) Step (label_here (st i + 2)) one (ap (slice_get m.code) (omega arith) ∙ at-turn) quiet refl) ∙ e)
            where
              one : (j : ℕ) (y : Instruction) → slice_get (Jump (st i + 1 + 3) ∷ []) j ≡ Some y → slice_get m.code (st i + 2 + j) ≡ Some y
              one zero y h = ap (slice_get m.code) (omega arith) ∙ loop-row.there 2 y h
              one (suc j) y h = none-not_some h

              quiet : (j : ℕ) → j < length (Jump (st i + 1 + 3) ∷ []) → listed_at m.labels (st i + 2 + suc j) ≡ None
              quiet j low =
                  ap (listed_at m.labels) (omega (arith, low))
                  ∙ loop-listed 3 (omega arith) (omega arith) ∙ ap (λ again. listed_at (labels_within image.types variables (st i) again (as_loop b r t) (Form.For r t)) (st i + 3)) q ∙ listed-on test [] (st i + 3) (λ e. absurd (omega (arith, e)))

      test-row : IsRow (st i + 4) (test_row i b r t) (Some (in_loop b r t))
      test-row = record {
        there = one;
        none = λ k low. absurd (omega (arith, low));
        here = label-where_listed image.types image.constants m (st i + 4) (LoopNext r b.statement (exit i (as_loop b r t) done)) (in_loop b r t) at-test test-listed;
      }
        where
          one : (j : ℕ) (y : Instruction) → slice_get (test_row i b r t) j ≡ Some y → slice_get m.code (st i + 4 + j) ≡ Some y
          one zero y h = ap (slice_get m.code) (omega arith) ∙ at-test ∙ h
          one (suc j) y h = none-not_some h

    mapped-at : {X Y : Type 0} (f : X → List Y) (o : Option X) (x : X) → o ≡ Some x → list_of (λ ys. ys) (option_map f o) ≡ f x
    mapped-at f o x e = ap (λ o. list_of (λ ys. ys) (option_map f o)) e

    -- each place is somewhere along these rows
    pub located : (p : Place) → IsIn p (module_places count image m) → Located p
    located p member = by ((laid-out image.types variables image.constants entry blocks).nothing_else p.index (got-within m.code p.index p.instruction code-p))
      where
        at-both : (slice_get m.code p.index ≡ Some p.instruction) × IsPlaceAt image m p.index p.instruction p
        at-both = places-are_instructions count image m p member

        code-p : slice_get m.code p.index ≡ Some p.instruction
        code-p = at-both.0

        at-p : IsPlaceAt image m p.index p.instruction p
        at-p = at-both.1

        landed : (i k : ℕ) (b : CodeBlock) → IsInBlock image.types variables image.constants entry blocks p.index i k b → p.landings ≡ landings_by image.types variables (exit i b) p.instruction
        landed i k b h =
            at-p.landings ∙ ap (list_of (λ ls. ls)) ((laid-out image.types variables image.constants entry blocks).landings_behind p.index i k b h)
            ∙ mapped-at (landings_by image.types variables (exit i b)) (slice_get (block_code image.types variables image.constants st (st i) b) k) p.instruction (sym (code-block image.types variables image.constants entry blocks p.index i k b h) ∙ code-p)

        in-loop : (i k : ℕ) (b : CodeBlock) (r t : Path) → IsInBlock image.types variables image.constants entry blocks p.index i k (as_loop b r t) → k < 5 → Located p
        in-loop i zero b r t h low = on_loop i b r t h.0 (along-row (st i) (first_row i b r t) (exit i (as_loop b r t)) (Some (label_with b.facts b.slots)) p 0 at-p code-p (loop-row i b r t h.0) h.2 (omega arith) (landed i 0 (as_loop b r t) h))
        in-loop i (suc zero) b r t h low = on_loop i b r t h.0 (along-row (st i) (first_row i b r t) (exit i (as_loop b r t)) (Some (label_with b.facts b.slots)) p 1 at-p code-p (loop-row i b r t h.0) h.2 (omega arith) (landed i 1 (as_loop b r t) h))
        in-loop i (suc (suc zero)) b r t h low = on_loop i b r t h.0 (along-row (st i) (first_row i b r t) (exit i (as_loop b r t)) (Some (label_with b.facts b.slots)) p 2 at-p code-p (loop-row i b r t h.0) h.2 (omega arith) (landed i 2 (as_loop b r t) h))
        in-loop i (suc (suc (suc zero))) b r t h low =
            on_turn i b r t h.0 h.2 is-step (landed i 3 (as_loop b r t) h ∙ ap (landings_by image.types variables (exit i (as_loop b r t))) is-step)
            (λ l e. turn-label i b r t h.0 l (sym (at-p.label ∙ ap label_here h.2) ∙ e))
          where
            is-step : p.instruction ≡ Step
            is-step = some-injective (sym code-p ∙ ap (slice_get m.code) h.2 ∙ at-turn i b r t h.0)
        in-loop i (suc (suc (suc (suc zero)))) b r t h low =
            let q = h.2 in
            on_test i b r t h.0 (along-row (st i + 4) (test_row i b r t) (exit i (as_loop b r t)) (Some (in_loop b r t)) p 0 at-p code-p (test-row i b r t h.0) (omega (arith, q)) (omega arith) (landed i 4 (as_loop b r t) h))
        in-loop i (suc (suc (suc (suc (suc k))))) b r t h low = absurd (omega (arith, low))

        front-part : (i k : ℕ) (b : CodeBlock) (form : Form) → b.form ≡ form → IsInBlock image.types variables image.constants entry blocks p.index i k b → k < 1 + front_length image.types variables image.constants b.form → Located p
        front-part i k b (Form.For r t) e h low =
            in-loop i k b r t (subst (λ (c : CodeBlock). IsInBlock image.types variables image.constants entry blocks p.index i k c) same h) (subst (λ form. k < 1 + front_length image.types variables image.constants form) e low)
          where
            same : b ≡ as_loop b r t
            same = ap (λ form. record b { form = form }) e
        front-part i k b form e h low =
            let l = front-long image.types variables image.constants b.facts b.statement (st i + 1) (exit i b) b.form in
            let plain : IsNoFor b.form = subst IsNoFor (sym e) tt in
            on_front i b h.0 plain (along-row (st i) (Step ∷ the_front i b) (exit i b) (Some (label_with b.facts b.slots)) p k at-p code-p (front-row i b h.0 plain) h.2 (omega (arith, l, low)) (landed i k b h))

        in-block : (i k : ℕ) (b : CodeBlock) → IsInBlock image.types variables image.constants entry blocks p.index i k b → Located p
        in-block i k b h = sides (place-in k (1 + front_length image.types variables image.constants b.form) (total edge_length b.departures) (let q = h.1 in omega (arith, q)))
          where
            sides : (k < 1 + front_length image.types variables image.constants b.form) ⊎ ((z : ℕ) × (k ≡ 1 + front_length image.types variables image.constants b.form + z) × (z < total edge_length b.departures)) → Located p
            sides (inl x) = front-part i k b b.form refl h x
            sides (inr y) =
                let e = edge-found (edges_at image.types variables image.constants (st i) b) b.departures y.0 y.2 (each i b h.0).outcomes_differ in
                let q = h.2 in let s = y.1 in let u = e.5 in let l = edge-long st e.2 in let w = e.4 in
                on_edge i e.0 b e.2 h.0 e.3
                (along-row (exit i b e.2.outcome) (edge_code st e.2) (exit i b) _ p e.1 at-p code-p (edge-row i e.0 b e.2 h.0 e.3) (omega (arith, q, s, u)) (omega (arith, w, l)) (landed i k b h))

        by : (p.index < edge_length entry) ⊎ ((i k : ℕ) × (b : CodeBlock) × IsInBlock image.types variables image.constants entry blocks p.index i k b) → Located p
        by (inl x) =
            let l = edge-long st entry in
            on_entry (along-row 0 (edge_code st entry) (λ o. 0) (Some label_at_start) p p.index at-p code-p entry-row (omega arith) (omega (arith, x, l))
            (at-p.landings ∙ ap (list_of (λ ls. ls)) ((laid-out image.types variables image.constants entry blocks).entry_lands p.index x)
            ∙ mapped-at (landings_by image.types variables (λ o. 0)) (slice_get (edge_code st entry) p.index) p.instruction (sym ((laid-out image.types variables image.constants entry blocks).entry_first p.index x) ∙ code-p)))
        by (inr h) = in-block h.0 h.1 h.2 h.3
