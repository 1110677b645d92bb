-- The labels at the edges of blocks.
use Rattle.std.proofs.Common.{◌≡◌, ℕ, zero, suc, ◌+◌, ◌<◌, length, List, [], ◌∷◌, ◌++◌, map, flat_map, Bool, true, false, cond, Option, Some, None, option_and_then, slice_get, ◌⊎◌, inl, inr, refl, sym, ap, ap₂, subst, ◌∙◌, arith, true≢false}
use Rattle.herm_model.specs.Lists.{IsIn, total}
use Rattle.herm_model.specs.Paths.{Path}
use Rattle.herm_model.specs.Types.{TypeTable}
use Rattle.herm_model.specs.Expressions.{Literal}
use Rattle.herm_model.specs.Statements.{Form, Arm, Process}
use Rattle.herm_model.specs.Outcomes.{Outcome, ok, is_true, is_false, turn, done, component, raised, exceptions, arms_from, outcomes}
use Rattle.herm_model.specs.WellFormedTables.{IsWellFormedTable}
use Rattle.herm_model.proofs.Options.{some-injective, none-not_some}
use Rattle.herm_model.proofs.Lists.{cons-head, in-append_cases, in-map, in-map_from}
use Rattle.herm_model.proofs.FactTests.{got-IsIn}
use Rattle.herm_instructions.specs.Instructions.{Instruction, Step, LoopNext}
use Rattle.herm_instructions.specs.Labels.{Label, listed_at}
use Rattle.herm_instructions.specs.Images.{CodeModule}
use Rattle.herm_instructions.specs.Places.{Place, listed_or, label_at_start, label_at}
use Rattle.herm_instructions.proofs.PlacesOfCode.{instruction-place, next-label}
use Rattle.herm_translated.specs.Fronts.{front, front_length}
use Rattle.herm_translated.specs.Departures.{Departure, edge_code, edge_length, second_step}
use Rattle.herm_translated.specs.CodeBlocks.{CodeBlock, own_slot}
use Rattle.herm_translated.specs.Layout.{edge_at, edges_at, exit_of, block_length, start_from}
use Rattle.herm_translated.specs.BlockLabels.{label_with, listed_with, is_named, facts_after, comes_first, comes_again, edge_slots, labels_within}
use Rattle.herm_translated.specs.laws.LayoutLaws.{module_of, start, IsInBlock}
use Rattle.herm_translated.specs.laws.LabelsAlong.{handed_by, handed_on, label_where_left}
use Rattle.herm_translated.specs.laws.LabelsAtEdges.{IsHandedOn, AreReached, IsTypedBlock, AreTypedBlocks, FirstStepsAreLabelled, EdgesAreLabelled}
use Rattle.herm_translated.proofs.Joined.{get-left, get-right, length-joined, got-within, place-in}
use Rattle.herm_translated.proofs.Lengths.{front-long, edge-long}
use Rattle.herm_translated.proofs.Addresses.{first-here, code-block, edges-there, outcome_of}
use Rattle.herm_translated.proofs.LabelsStand.{label-where_listed, blocks-labelled, first-led}
use Rattle.herm_translated.proofs.Handing.{filter-all, fronts-hand_on, edges-hand_on, one-way, tested-way}
use Rattle.herm_translated.proofs.FrontWays.{IsNoFor}
use Rattle.herm_translated.proofs.ListedLabels.{listed-here, listed-on}

-- at an index where none is listed, the label is the one that is handed on
label-next : (types : TypeTable) (constants : List Literal) (m : CodeModule) (n : ℕ) (i j : Instruction) → slice_get m.code n ≡ Some i → slice_get m.code (suc n) ≡ Some j → listed_at m.labels (suc n) ≡ None
    → label_at types constants m (suc n) ≡ handed_by types m.variables constants i (label_at types constants m n)
label-next types constants m n i j e f none =
    let p = instruction-place types constants m.variables m.labels m.code (Some label_at_start) 0 m.landings n i e in
    let q = instruction-place types constants m.variables m.labels m.code (Some label_at_start) 0 m.landings (suc n) j f in
    let r = next-label types constants m.variables m.labels m.code (Some label_at_start) 0 m.landings n p.0 q.0 p.1 q.1 in
    let k = q.2 in
    let at : q.0.index ≡ suc n = omega (arith, k) in
    ap (option_and_then (λ (p : Place). p.label)) q.1
    ∙ r
    ∙ ap (λ o. listed_or o (handed_by types m.variables constants p.0.instruction p.0.label)) (ap (listed_at m.labels) at ∙ none)
    ∙ ap₂ (λ x here. handed_by types m.variables constants x here) p.3 (sym (ap (option_and_then (λ (p : Place). p.label)) p.1))

-- along instructions in a row, behind the first of which none is listed
pub label-stretch : (types : TypeTable) (constants : List Literal) (m : CodeModule) (code : List Instruction) (n : ℕ) (j : Instruction) (a : Option Label) → ((k : ℕ) (i : Instruction) → slice_get code k ≡ Some i → slice_get m.code (n + k) ≡ Some i) → slice_get m.code (n + length code) ≡ Some j
    → ((k : ℕ) → k < length code → listed_at m.labels (n + suc k) ≡ None) → label_at types constants m n ≡ a → label_at types constants m (n + length code) ≡ handed_on types m.variables constants code a
label-stretch types constants m [] n j a there last none here = ap (label_at types constants m) (omega arith) ∙ here
label-stretch types constants m (i ∷ code) n j a there last none here =
    ap (label_at types constants m) (omega arith)
    ∙ label-stretch types constants m code (suc n) j (handed_by types m.variables constants i a)
    (λ k x e. ap (slice_get m.code) (omega arith) ∙ there (suc k) x e)
    (ap (slice_get m.code) (omega arith) ∙ last)
    (λ k h. ap (listed_at m.labels) (omega arith) ∙ none (suc k) (omega (arith, h)))
    (by code there last)
  where
    by : (code : List Instruction) → ((k : ℕ) (x : Instruction) → slice_get (i ∷ code) k ≡ Some x → slice_get m.code (n + k) ≡ Some x) → slice_get m.code (n + length (i ∷ code)) ≡ Some j → label_at types constants m (suc n) ≡ handed_by types m.variables constants i a
    by rest there last = next rest there last
      where
        first : slice_get m.code n ≡ Some i
        first = ap (slice_get m.code) (omega arith) ∙ there 0 i refl

        unlisted : listed_at m.labels (suc n) ≡ None
        unlisted = ap (listed_at m.labels) (omega arith) ∙ none 0 (omega arith)

        next : (rest : List Instruction) → ((k : ℕ) (x : Instruction) → slice_get (i ∷ rest) k ≡ Some x → slice_get m.code (n + k) ≡ Some x) → slice_get m.code (n + length (i ∷ rest)) ≡ Some j → label_at types constants m (suc n) ≡ handed_by types m.variables constants i a
        next [] there last = label-next types constants m n i j first (ap (slice_get m.code) (omega arith) ∙ last) unlisted ∙ ap (handed_by types m.variables constants i) here
        next (x ∷ rest) there last = label-next types constants m n i x first (ap (slice_get m.code) (omega arith) ∙ there 1 x refl) unlisted ∙ ap (handed_by types m.variables constants i) here

pub got-some : {X : Type 0} (xs : List X) (k : ℕ) → k < length xs → (x : X) × (slice_get xs k ≡ Some x)
got-some [] k h = absurd (omega (arith, h))
got-some (x ∷ xs) zero h = (x, refl)
got-some (x ∷ xs) (suc k) h = got-some xs k (omega (arith, h))

-- an unnamed outcome is the first one
module _ (types : TypeTable) (variables : List ℕ) where
  abbrev IsFirst : Form → Outcome → Type 0
  IsFirst form o = (rest : List Outcome) × (outcomes types variables form ≡ o ∷ rest)

  first-ok : (form : Form) (es : List ℕ) (o : Outcome) → outcomes types variables form ≡ ok ∷ map raised es → IsIn o (ok ∷ map raised es) → is_named o ≡ false → IsFirst form o
  first-ok form es o e m q = (map raised es, e ∙ ap (λ x. x ∷ map raised es) (one-way es o m q))

  first-true : (form : Form) (es : List ℕ) (o : Outcome) → outcomes types variables form ≡ is_true ∷ is_false ∷ map raised es → IsIn o (is_true ∷ is_false ∷ map raised es) → is_named o ≡ false → IsFirst form o
  first-true form es o e m q = (is_false ∷ map raised es, e ∙ ap (λ x. x ∷ is_false ∷ map raised es) (tested-way es o m q))

  all-named : (form : Form) (o : Outcome) (f : ℕ → Outcome) (ns : List ℕ) → ((n : ℕ) → is_named (f n) ≡ true) → IsIn o (map f ns) → is_named o ≡ false → IsFirst form o
  all-named form o f ns named m q = let r = in-map_from f o ns m in absurd (true≢false (sym (ap is_named r.2 ∙ named r.0) ∙ q))

  arms-named : (form : Form) (o : Outcome) (n : ℕ) (arms : List Arm) → IsIn o (arms_from n arms) → is_named o ≡ false → IsFirst form o
  arms-named form o n [] m q = absurd m
  arms-named form o n (a ∷ arms) (inl e) q = absurd (true≢false (ap is_named (sym e) ∙ q))
  arms-named form o n (a ∷ arms) (inr m) q = arms-named form o (suc n) arms m q

  first-unnamed : (form : Form) (o : Outcome) → IsIn o (outcomes types variables form) → is_named o ≡ false → IsFirst form o
  first-unnamed (Form.Case v cs) o m q = by (in-append_cases o (map component cs) [] m)
    where
      by : IsIn o (map component cs) ⊎ IsIn o [] → IsFirst (Form.Case v cs) o
      by (inl a) = all-named (Form.Case v cs) o component cs (λ n. refl) a q
      by (inr b) = absurd b
  first-unnamed (Form.Select arms) o m q = by (in-append_cases o (arms_from 0 arms) [] m)
    where
      by : IsIn o (arms_from 0 arms) ⊎ IsIn o [] → IsFirst (Form.Select arms) o
      by (inl a) = arms-named (Form.Select arms) o 0 arms a q
      by (inr b) = absurd b
  first-unnamed (Form.For r t) o (inl e) q = (done ∷ [], ap (λ x. x ∷ done ∷ []) (sym e))
  first-unnamed (Form.For r t) o (inr (inl e)) q = absurd (true≢false (ap is_named (sym e) ∙ q))
  first-unnamed (Form.For r t) o (inr (inr m)) q = absurd m
  first-unnamed (Form.If e) o m q = first-true (Form.If e) (exceptions types variables (Form.If e)) o refl m q
  first-unnamed (Form.While e) o m q = first-true (Form.While e) (exceptions types variables (Form.While e)) o refl m q
  first-unnamed (Form.Raise e) o (inl k) q = absurd (true≢false (ap is_named (sym k) ∙ q))
  first-unnamed (Form.Raise e) o (inr m) q = absurd m
  first-unnamed form o m q = first-ok form (exceptions types variables form) o refl m q

pub own-none : (types : TypeTable) (variables : List ℕ) (number : ℕ) (form : Form) → IsNoFor form → own_slot types variables number form ≡ []
own-none types variables number (Form.For r t) plain = absurd plain
own-none types variables number form plain = refl

pub within-none : (types : TypeTable) (variables : List ℕ) (at : ℕ) (again : Bool) (b : CodeBlock) (form : Form) → IsNoFor form → labels_within types variables at again b form ≡ []
within-none types variables at again b (Form.For r t) plain = absurd plain
within-none types variables at again b form plain = refl

pub other-form : (form : Form) → IsNoFor form → (r t : Path) → form ≡ Form.For r t → ⊥
other-form form plain r t e = subst IsNoFor e plain

module _ (count : ℕ) (types : TypeTable) (variables : List ℕ) (constants : List Literal) (processes : List Process) (entry : Departure) (blocks : List CodeBlock) (formed : IsWellFormedTable count types) (i : ℕ)
    (first : (b : CodeBlock) → slice_get blocks i ≡ Some b → label_at types constants (module_of types variables constants entry blocks) (start types variables constants entry blocks i) ≡ Some (label_with b.facts b.slots)) where
  abbrev m : CodeModule
  m = module_of types variables constants entry blocks

  abbrev st : ℕ
  st = start types variables constants entry blocks i

  abbrev start_at : ℕ → ℕ
  start_at n = start types variables constants entry blocks n

  abbrev IsTypedHere : CodeBlock → Type 0
  IsTypedHere b = IsTypedBlock types variables constants count processes b

  abbrev exit : CodeBlock → Outcome → ℕ
  exit b o = exit_of types variables constants st b o

  -- the edges of a block that has some are those of its form's outcomes
  in-order : (b : CodeBlock) (j : ℕ) (d : Departure) → IsTypedHere b → slice_get b.departures j ≡ Some d → map outcome_of b.departures ≡ outcomes types variables b.form
  in-order b j d h at-j = by b.onward refl
    where
      by : (t : Bool) → b.onward ≡ t → map outcome_of b.departures ≡ outcomes types variables b.form
      by true e = none-not_some (sym (ap (λ ds. slice_get ds j) (h.goes_on e).0) ∙ at-j)
      by false e = h.outcomes_in_order e

  outcome-in : (b : CodeBlock) (j : ℕ) (d : Departure) → IsTypedHere b → slice_get b.departures j ≡ Some d → IsIn d.outcome (outcomes types variables b.form)
  outcome-in b j d h e = subst (IsIn d.outcome) (in-order b j d h e) (in-map outcome_of d b.departures (got-IsIn b.departures j d e))

  -- an unnamed outcome leads to the first edge
  first-exit : (b : CodeBlock) (j : ℕ) (d : Departure) → IsTypedHere b → slice_get b.departures j ≡ Some d → is_named d.outcome ≡ false → exit b d.outcome ≡ edges_at types variables constants st b
  first-exit b j d h e q =
      let f = first-unnamed types variables b.form d.outcome (outcome-in b j d h e) q in
      by b.departures e (in-order b j d h e ∙ f.1)
    where
      by : (ds : List Departure) → slice_get ds j ≡ Some d → map outcome_of ds ≡ d.outcome ∷ (first-unnamed types variables b.form d.outcome (outcome-in b j d h e) q).0 → edge_at (edges_at types variables constants st b) ds d.outcome ≡ edges_at types variables constants st b
      by [] e same = none-not_some e
      by (c ∷ ds) e same = subst (λ o. edge_at (edges_at types variables constants st b) (c ∷ ds) o ≡ edges_at types variables constants st b) (cons-head same) (first-here (edges_at types variables constants st b) c ds)

  -- an instruction stands at each index of an edge
  on-edge : (b : CodeBlock) (j : ℕ) (d : Departure) (k : ℕ) → slice_get blocks i ≡ Some b → IsTypedHere b → slice_get b.departures j ≡ Some d → k < edge_length d → slice_get m.code (exit b d.outcome + k) ≡ slice_get (edge_code start_at d) k
  on-edge b j d k at-i h at-j low = edges-there types variables constants entry blocks i j k b d at-i at-j h.outcomes_differ low

  pub edge-begins : (b : CodeBlock) (j : ℕ) (d : Departure) → slice_get blocks i ≡ Some b → IsTypedHere b → slice_get b.departures j ≡ Some d → (x : Instruction) × (slice_get m.code (exit b d.outcome) ≡ Some x)
  edge-begins b j d at-i h at-j =
      let long = edge-long start_at d in
      let x = got-some (edge_code start_at d) 0 (omega (arith, long)) in
      (x.0, ap (slice_get m.code) (omega arith) ∙ on-edge b j d 0 at-i h at-j (omega arith) ∙ x.1)

  abbrev Claim : CodeBlock → Type 0
  Claim b = (j : ℕ) (d : Departure) → slice_get blocks i ≡ Some b → IsTypedHere b → slice_get b.departures j ≡ Some d → is_named d.outcome ≡ false
      → label_at types constants m (exit b d.outcome) ≡ Some (label_with (facts_after types variables b.form d.outcome b.facts) (edge_slots types variables b))

  -- the step and the front of a block, which is no `for`
  pub front-handed : (b : CodeBlock) → IsNoFor b.form → slice_get blocks i ≡ Some b → IsTypedHere b → (o : Outcome) → IsIn o (outcomes types variables b.form) → is_named o ≡ false → (x : Instruction) → slice_get m.code (edges_at types variables constants st b) ≡ Some x
      → listed_at m.labels (edges_at types variables constants st b) ≡ None → label_at types constants m (edges_at types variables constants st b) ≡ Some (label_with (facts_after types variables b.form o b.facts) (edge_slots types variables b))
  front-handed b plain at-i h o in-o q x behind quiet =
      ap (label_at types constants m) (sym at-end)
      ∙ label-stretch types constants m (Step ∷ the_front) st x (Some (label_with b.facts b.slots)) there (ap (slice_get m.code) at-end ∙ behind) none (first b at-i)
      ∙ ap (handed_on types variables constants the_front) (ap (λ fs. Some (label_with fs b.slots)) (filter-all b.facts))
      ∙ fronts-hand_on types variables constants count processes formed b.facts b.statement (st + 1) (exit b) b.slots b.form o h.typed h.known in-o q (other-form b.form plain)
      ∙ ap (λ own. Some (label_with (facts_after types variables b.form o b.facts) (own ++ b.slots))) (sym (own-none types variables b.statement b.form plain))
    where
      the_front : List Instruction
      the_front = front types variables constants b.facts b.statement (st + 1) (exit b) b.form

      front-many : length the_front ≡ front_length types variables constants b.form
      front-many = front-long types variables constants b.facts b.statement (st + 1) (exit b) b.form

      at-end : st + length (Step ∷ the_front) ≡ edges_at types variables constants st b
      at-end = let l = front-many in omega (arith, l)

      there : (k : ℕ) (x : Instruction) → slice_get (Step ∷ the_front) k ≡ Some x → slice_get m.code (st + k) ≡ Some x
      there k x e =
          let w = got-within (Step ∷ the_front) k x e in
          let l = front-many in
          code-block types variables constants entry blocks (st + k) i k b (at-i, omega (arith, w, l), refl)
          ∙ get-left (Step ∷ the_front) (flat_map (edge_code start_at) b.departures) k w ∙ e

      none : (k : ℕ) → k < length (Step ∷ the_front) → listed_at m.labels (st + suc k) ≡ None
      none k low = cases (place-in k (front_length types variables constants b.form) 1 (let l = front-many in omega (arith, l, low)))
        where
          cases : (k < front_length types variables constants b.form) ⊎ ((z : ℕ) × (k ≡ front_length types variables constants b.form + z) × (z < 1)) → listed_at m.labels (st + suc k) ≡ None
          cases (inl x) =
              (blocks-labelled types variables constants entry blocks).within (st + suc k) i (suc k) b (at-i, omega (arith, x), refl) (omega arith) (omega (arith, x))
              ∙ ap (λ ls. listed_at ls (st + suc k)) (within-none types variables st (comes_again blocks i) b b.form plain)
          cases (inr z) = let e = z.1 in let s = z.2 in ap (listed_at m.labels) (omega (arith, e, s)) ∙ quiet

  others : (b : CodeBlock) → IsNoFor b.form → Claim b
  others b plain j d at-i h at-j q =
      ap (label_at types constants m) (first-exit b j d h at-j q)
      ∙ front-handed b plain at-i h d.outcome (outcome-in b j d h at-j) q (edge-begins b j d at-i h at-j).0
      (ap (slice_get m.code) (sym (first-exit b j d h at-j q)) ∙ (edge-begins b j d at-i h at-j).1)
      (ap (listed_at m.labels) (sym (first-exit b j d h at-j q))
      ∙ (blocks-labelled types variables constants entry blocks).edges i j b d at-i at-j h.outcomes_differ
      ∙ ap (λ named. cond named (Some (label_with (facts_after types variables b.form d.outcome b.facts) (edge_slots types variables b))) None) q)

  -- the test of a `for`
  abbrev as_loop : CodeBlock → Path → Path → CodeBlock
  as_loop b r t = record b { form = Form.For r t }

  abbrev test_of : CodeBlock → Path → Path → Instruction
  test_of b r t = LoopNext r b.statement (exit (as_loop b r t) done)

  in-loop : (b : CodeBlock) (r t : Path) → slice_get blocks i ≡ Some (as_loop b r t) → IsInBlock types variables constants entry blocks (st + 4) i 4 (as_loop b r t)
  in-loop b r t at-i = (at-i, omega arith, refl)

  at-test : (b : CodeBlock) (r t : Path) → slice_get blocks i ≡ Some (as_loop b r t) → slice_get m.code (st + 4) ≡ Some (test_of b r t)
  at-test b r t at-i = code-block types variables constants entry blocks (st + 4) i 4 (as_loop b r t) (in-loop b r t at-i)

  test-listed : (b : CodeBlock) (r t : Path) → slice_get blocks i ≡ Some (as_loop b r t) → listed_at m.labels (st + 4) ≡ Some (label_with b.facts (edge_slots types variables (as_loop b r t)))
  test-listed b r t at-i =
      (blocks-labelled types variables constants entry blocks).within (st + 4) i 4 (as_loop b r t) (in-loop b r t at-i) (omega arith) (omega arith) ∙ by (comes_again blocks i)
    where
      by : (again : Bool) → listed_at (labels_within types variables st again (as_loop b r t) (Form.For r t)) (st + 4) ≡ Some (label_with b.facts (edge_slots types variables (as_loop b r t)))
      by true = listed-on (listed_with (st + second_step) b.facts (edge_slots types variables (as_loop b r t))) (listed_with (st + (second_step + 1)) b.facts (edge_slots types variables (as_loop b r t)) ∷ []) (st + 4) (λ e. absurd (omega (arith, e))) ∙ listed-here (listed_with (st + (second_step + 1)) b.facts (edge_slots types variables (as_loop b r t))) [] (st + 4) refl
      by false = listed-here (listed_with (st + (second_step + 1)) b.facts (edge_slots types variables (as_loop b r t))) [] (st + 4) refl

  turned : (r t : Path) (o : Outcome) → IsIn o (turn ∷ done ∷ []) → is_named o ≡ false → turn ≡ o
  turned r t o (inl e) q = sym e
  turned r t o (inr (inl e)) q = absurd (true≢false (ap is_named (sym e) ∙ q))
  turned r t o (inr (inr k)) q = absurd k

  loops : (b : CodeBlock) (r t : Path) → Claim (as_loop b r t)
  loops b r t j d at-i h at-j q =
      ap (label_at types constants m) (first-exit (as_loop b r t) j d h at-j q ∙ omega arith)
      ∙ label-stretch types constants m (test_of b r t ∷ []) (st + 4) (edge-begins (as_loop b r t) j d at-i h at-j).0 (Some (label_with b.facts (edge_slots types variables (as_loop b r t)))) there
      (ap (slice_get m.code) (at-end ∙ sym (first-exit (as_loop b r t) j d h at-j q)) ∙ (edge-begins (as_loop b r t) j d at-i h at-j).1) none
      (label-where_listed types constants m (st + 4) (test_of b r t) (label_with b.facts (edge_slots types variables (as_loop b r t))) (at-test b r t at-i) (test-listed b r t at-i))
      ∙ ap (λ o. Some (label_with (facts_after types variables (Form.For r t) o b.facts) (edge_slots types variables (as_loop b r t)))) (turned r t d.outcome (outcome-in (as_loop b r t) j d h at-j) q)
    where
      at-end : st + 4 + length (test_of b r t ∷ []) ≡ edges_at types variables constants st (as_loop b r t)
      at-end = omega arith

      there : (k : ℕ) (x : Instruction) → slice_get (test_of b r t ∷ []) k ≡ Some x → slice_get m.code (st + 4 + k) ≡ Some x
      there zero x e = ap (slice_get m.code) (omega arith) ∙ at-test b r t at-i ∙ e
      there (suc k) x e = none-not_some e

      none : (k : ℕ) → k < length (test_of b r t ∷ []) → listed_at m.labels (st + 4 + suc k) ≡ None
      none k low =
          let x = first-exit (as_loop b r t) j d h at-j q in
          ap (listed_at m.labels) (omega (arith, low, x))
          ∙ (blocks-labelled types variables constants entry blocks).edges i j (as_loop b r t) d at-i at-j h.outcomes_differ
          ∙ ap (λ named. cond named (Some (label_with (facts_after types variables (Form.For r t) d.outcome b.facts) (edge_slots types variables (as_loop b r t)))) None) q

  unnamed-labelled : (b : CodeBlock) → Claim b
  unnamed-labelled b = by b.form
    where
      by : (form : Form) → Claim (record b { form = form })
      by (Form.For r t) = loops b r t
      by form = others (record b { form = form }) tt

  edge-labelled : (b : CodeBlock) (j : ℕ) (d : Departure) → slice_get blocks i ≡ Some b → IsTypedHere b → slice_get b.departures j ≡ Some d
      → label_at types constants m (exit b d.outcome) ≡ Some (label_with (facts_after types variables b.form d.outcome b.facts) (edge_slots types variables b))
  edge-labelled b j d at-i h at-j = by (is_named d.outcome) refl
    where
      by : (named : Bool) → is_named d.outcome ≡ named → label_at types constants m (exit b d.outcome) ≡ Some (label_with (facts_after types variables b.form d.outcome b.facts) (edge_slots types variables b))
      by false q = unnamed-labelled b j d at-i h at-j q
      by true q =
          let x = edge-begins b j d at-i h at-j in
          label-where_listed types constants m (exit b d.outcome) x.0 (label_with (facts_after types variables b.form d.outcome b.facts) (edge_slots types variables b)) x.1
          ((blocks-labelled types variables constants entry blocks).edges i j b d at-i at-j h.outcomes_differ
          ∙ ap (λ named. cond named (Some (label_with (facts_after types variables b.form d.outcome b.facts) (edge_slots types variables b))) None) q)

  -- at the last instruction of an edge
  last-labelled : (b : CodeBlock) (j : ℕ) (d : Departure) → slice_get blocks i ≡ Some b → IsTypedHere b → slice_get b.departures j ≡ Some d
      → label_at types constants m (exit b d.outcome + (length d.drops + length d.slots)) ≡ Some (label_where_left d (facts_after types variables b.form d.outcome b.facts) (edge_slots types variables b))
  last-labelled b j d at-i h at-j =
      ap (λ n. label_at types constants m (exit b d.outcome + n)) (sym before-many)
      ∙ label-stretch types constants m handed.0 (exit b d.outcome) handed.1 (Some (label_with (facts_after types variables b.form d.outcome b.facts) (edge_slots types variables b))) there last none (edge-labelled b j d at-i h at-j)
      ∙ handed.3
    where
      handed : (before : List Instruction) × (last : Instruction) × (edge_code start_at d ≡ before ++ last ∷ []) × (handed_on types variables constants before (Some (label_with (facts_after types variables b.form d.outcome b.facts) (edge_slots types variables b))) ≡ Some (label_where_left d (facts_after types variables b.form d.outcome b.facts) (edge_slots types variables b)))
      handed = edges-hand_on types variables constants start_at d (facts_after types variables b.form d.outcome b.facts) (edge_slots types variables b)

      whole-many : length handed.0 + 1 ≡ edge_length d
      whole-many = sym (length-joined handed.0 (handed.1 ∷ [])) ∙ ap length (sym handed.2) ∙ edge-long start_at d

      before-many : length handed.0 ≡ length d.drops + length d.slots
      before-many = let w = whole-many in omega (arith, w)

      there : (k : ℕ) (x : Instruction) → slice_get handed.0 k ≡ Some x → slice_get m.code (exit b d.outcome + k) ≡ Some x
      there k x e =
          let w = got-within handed.0 k x e in
          let l = before-many in
          on-edge b j d k at-i h at-j (omega (arith, w, l)) ∙ ap (λ code. slice_get code k) handed.2 ∙ get-left handed.0 (handed.1 ∷ []) k w ∙ e

      last : slice_get m.code (exit b d.outcome + length handed.0) ≡ Some handed.1
      last =
          let l = before-many in
          on-edge b j d (length handed.0) at-i h at-j (omega (arith, l)) ∙ ap (λ code. slice_get code (length handed.0)) handed.2 ∙ get-right handed.0 (handed.1 ∷ []) (length handed.0) 0 (omega arith)

      none : (k : ℕ) → k < length handed.0 → listed_at m.labels (exit b d.outcome + suc k) ≡ None
      none k low = let l = before-many in (blocks-labelled types variables constants entry blocks).along i j (suc k) b d at-i at-j h.outcomes_differ (omega arith) (omega (arith, low, l))

-- the first index of the next block
start-zero : (types : TypeTable) (variables : List ℕ) (constants : List Literal) (low : ℕ) (bs : List CodeBlock) → start_from types variables constants low bs 0 ≡ low
start-zero types variables constants low [] = refl
start-zero types variables constants low (b ∷ bs) = refl

pub start-next : (types : TypeTable) (variables : List ℕ) (constants : List Literal) (low : ℕ) (bs : List CodeBlock) (i : ℕ) (b : CodeBlock) → slice_get bs i ≡ Some b
    → start_from types variables constants low bs (suc i) ≡ start_from types variables constants low bs i + block_length types variables constants b
start-next types variables constants low [] i b e = none-not_some e
start-next types variables constants low (c ∷ bs) zero b e = start-zero types variables constants (low + block_length types variables constants c) bs ∙ ap (λ (c : CodeBlock). low + block_length types variables constants c) (some-injective e)
start-next types variables constants low (c ∷ bs) (suc i) b e = start-next types variables constants (low + block_length types variables constants c) bs i b e

-- a block that goes on ends where the next one begins
pub onward-ends : (types : TypeTable) (variables : List ℕ) (constants : List Literal) (low : ℕ) (bs : List CodeBlock) (i : ℕ) (b : CodeBlock) → slice_get bs i ≡ Some b → b.departures ≡ []
    → start_from types variables constants low bs (suc i) ≡ edges_at types variables constants (start_from types variables constants low bs i) b
onward-ends types variables constants low bs i b at none =
    let s = start-next types variables constants low bs i b at in
    let t : total edge_length b.departures ≡ 0 = ap (total edge_length) none in
    omega (arith, s, t)

plain-only : (types : TypeTable) (variables : List ℕ) (form : Form) → outcomes types variables form ≡ ok ∷ [] → IsNoFor form
plain-only types variables (Form.For r t) e = let k : ⊥ = cc in absurd k
plain-only types variables form e = tt

module _ (count : ℕ) (types : TypeTable) (variables : List ℕ) (constants : List Literal) (processes : List Process) (entry : Departure) (blocks : List CodeBlock) (formed : IsWellFormedTable count types)
    (reached : AreReached types variables entry blocks) (typed : AreTypedBlocks types variables constants count processes blocks) where
  abbrev the_start : ℕ → ℕ
  the_start n = start types variables constants entry blocks n

  abbrev IsFirstLabelled : ℕ → CodeBlock → Type 0
  IsFirstLabelled i b = label_at types constants (module_of types variables constants entry blocks) (the_start i) ≡ Some (label_with b.facts b.slots)

  -- behind a block that goes on
  handed-first : (i : ℕ) → ((a : CodeBlock) → slice_get blocks i ≡ Some a → IsFirstLabelled i a) → (b a : CodeBlock) → slice_get blocks (suc i) ≡ Some b → comes_first entry blocks (suc i) ≡ false → slice_get blocks i ≡ Some a → a.onward ≡ true
      → b.facts ≡ facts_after types variables a.form ok a.facts → b.slots ≡ edge_slots types variables a → IsFirstLabelled (suc i) b
  handed-first i before b a at-b led at-a onward facts slots =
      ap (label_at types constants (module_of types variables constants entry blocks)) ends
      ∙ front-handed count types variables constants processes entry blocks formed i before a (plain-only types variables a.form goes.1) at-a (typed i a at-a) ok (subst (IsIn ok) (sym goes.1) (inl refl)) refl Step
      (ap (slice_get (module_of types variables constants entry blocks).code) (sym ends) ∙ code-block types variables constants entry blocks (the_start (suc i)) (suc i) 0 b (at-b, omega arith, omega arith))
      (ap (listed_at (module_of types variables constants entry blocks).labels) (sym ends) ∙ (blocks-labelled types variables constants entry blocks).first (suc i) b at-b ∙ ap (λ t. cond t (Some (label_with b.facts b.slots)) None) led)
      ∙ ap₂ (λ fs ss. Some (label_with fs ss)) (sym facts) (sym slots)
    where
      goes : (a.departures ≡ []) × (outcomes types variables a.form ≡ ok ∷ [])
      goes = (typed i a at-a).goes_on onward

      ends : the_start (suc i) ≡ edges_at types variables constants (the_start i) a
      ends = onward-ends types variables constants (edge_length entry) blocks i a at-a goes.0

  first-labelled : (i : ℕ) (b : CodeBlock) → slice_get blocks i ≡ Some b → IsFirstLabelled i b
  first-labelled zero b e = by (reached 0 b e)
    where
      by : (comes_first entry blocks 0 ≡ true) ⊎ IsHandedOn types variables blocks 0 b → IsFirstLabelled 0 b
      by (inl led) = first-led types variables constants entry blocks 0 b e led
      by (inr h) = let n = h.next in absurd (omega (arith, n))
  first-labelled (suc i) b e = by (comes_first entry blocks (suc i)) refl (reached (suc i) b e) (first-labelled i)
    where
      by : (t : Bool) → comes_first entry blocks (suc i) ≡ t → (comes_first entry blocks (suc i) ≡ true) ⊎ IsHandedOn types variables blocks (suc i) b → ((a : CodeBlock) → slice_get blocks i ≡ Some a → IsFirstLabelled i a) → IsFirstLabelled (suc i) b
      by true led r before = first-led types variables constants entry blocks (suc i) b e led
      by false led (inl r) before = absurd (true≢false (sym r ∙ led))
      by false led (inr h) before =
          let n = h.next in
          let same : h.before ≡ i = omega (arith, n) in
          handed-first i before b h.block e led (ap (slice_get blocks) (sym same) ∙ h.there) h.onward h.facts h.slots

pub first-steps_labelled : FirstStepsAreLabelled
first-steps_labelled count types variables constants processes entry blocks formed reached typed i b e = first-labelled count types variables constants processes entry blocks formed reached typed i b e

pub edges-are_labelled : EdgesAreLabelled
edges-are_labelled count types variables constants processes entry blocks formed reached typed i j b d at-i at-j = record {
  before = edge-labelled count types variables constants processes entry blocks formed i first b j d at-i (typed i b at-i) at-j;
  at_last = last-labelled count types variables constants processes entry blocks formed i first b j d at-i (typed i b at-i) at-j;
}
  where
    first : (c : CodeBlock) → slice_get blocks i ≡ Some c → label_at types constants (module_of types variables constants entry blocks) (start types variables constants entry blocks i) ≡ Some (label_with c.facts c.slots)
    first c e = first-steps_labelled count types variables constants processes entry blocks formed reached typed i c e
