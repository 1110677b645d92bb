-- Labels are listed for exactly the indices that are named.
use Rattle.std.proofs.Common.{◌≡◌, ℕ, suc, ◌+◌, ◌<◌, length, List, [], ◌∷◌, ◌++◌, map, flat_map, find, Bool, true, false, cond, nat_eq, Some, None, option_map, slice_get, ◌⊎◌, inl, inr, IsTrue, refl, sym, ap, subst, ◌∙◌, arith, true≢false}
use Rattle.std.proofs.lemmas.Bool.{eqb-true}
use Rattle.herm_model.specs.Lists.{IsIn, any_pass, list_of}
use Rattle.herm_model.specs.Paths.{Path}
use Rattle.herm_model.specs.Types.{TypeTable}
use Rattle.herm_model.specs.Expressions.{Literal}
use Rattle.herm_model.specs.Statements.{Form, Differ}
use Rattle.herm_model.specs.Outcomes.{Outcome, ok, outcomes}
use Rattle.herm_model.proofs.Options.{none-not_some}
use Rattle.herm_model.proofs.Lists.{in-append_left, in-append_right, in-append_cases, in-map, in-map_from, in-flat_map, in-flat_map_from, or-either}
use Rattle.herm_model.proofs.FactTests.{got-IsIn}
use Rattle.herm_instructions.specs.Instructions.{Instruction, Step, Jump, Drop, LoopDrop}
use Rattle.herm_instructions.specs.Labels.{Label, ListedLabel, listed_at}
use Rattle.herm_instructions.specs.Images.{Image, CodeModule}
use Rattle.herm_instructions.specs.Places.{Way, jumps, landing_ways, Place, named_ways, targets}
use Rattle.herm_instructions.specs.GoodCode.{module_places, listed_indices}
use Rattle.herm_instructions.proofs.LabelsOfCode.{instructions-have_places}
use Rattle.herm_translated.specs.Fronts.{front}
use Rattle.herm_translated.specs.Departures.{Arrival, to_block, to_second_step, to_end, to_end_by, Departure, second_step, arrive_by, edge_code, edge_length}
use Rattle.herm_translated.specs.CodeBlocks.{CodeBlock}
use Rattle.herm_translated.specs.Layout.{edge_at, landings_by, edges_at, exit_of, block_length, block_code, start_from}
use Rattle.herm_translated.specs.BlockLabels.{label_with, listed_with, is_named, facts_after, goes_to_first, comes_first, comes_again, goes_to_second, edge_slots, labels_within, edge_labels, block_labels, labels_from}
use Rattle.herm_translated.specs.laws.LayoutLaws.{start, IsInBlock}
use Rattle.herm_translated.specs.laws.GoodStructure.{AreComplete, code_module, CompleteBlocksAreListed}
use Rattle.herm_translated.proofs.Joined.{get-left, get-right, map-joined, got-within}
use Rattle.herm_translated.proofs.Lengths.{front-long, edge-long}
use Rattle.herm_translated.proofs.Addresses.{code-block, laid-out, edges-there, first-here, further, outcome_of}
use Rattle.herm_translated.proofs.ListedLabels.{listed-here, listed-on}
use Rattle.herm_translated.proofs.LabelsStand.{blocks-labelled}
use Rattle.herm_translated.proofs.FrontWays.{LeadsToExit, JumpsWithin, front-ways}
use Rattle.herm_translated.proofs.NamedOutcomes.{outcome-named}
use Rattle.herm_translated.proofs.StructureKept.{Stands, on_entry, at_step, in_front, on_edges, stands, second-listed, first-step, led-entry, led-edge, edge-leads, within-later, comes, LeadsOn, IsListedStep}

abbrev indices : List ListedLabel → List ℕ
indices ls = map (λ (x : ListedLabel). x.index) ls

-- an index for which a label is found is listed
found-index : (ls : List ListedLabel) (n : ℕ) (l : Label) → listed_at ls n ≡ Some l → IsIn n (indices ls)
found-index [] n l e = none-not_some e
found-index (x ∷ ls) n l e = by (nat_eq x.index n) refl e (found-index ls n l)
  where
    by : (b : Bool) → nat_eq x.index n ≡ b → option_map (λ (l : ListedLabel). l.label) (cond b (Some x) (find (λ (l : ListedLabel). nat_eq l.index n) ls)) ≡ Some l → (listed_at ls n ≡ Some l → IsIn n (indices ls)) → IsIn n (x.index ∷ indices ls)
    by true q e again = inl (sym (eqb-true x.index n q))
    by false q e again = inr (again e)

-- an element of joined lists of labels
index-joined : (xs ys : List ListedLabel) (n : ℕ) → IsIn n (indices (xs ++ ys)) → IsIn n (indices xs) ⊎ IsIn n (indices ys)
index-joined xs ys n h = in-append_cases n (indices xs) (indices ys) (subst (IsIn n) (map-joined (λ (x : ListedLabel). x.index) xs ys) h)

placed : {X : Type 0} (x : X) (xs : List X) → IsIn x xs → (k : ℕ) × (slice_get xs k ≡ Some x)
placed x [] h = absurd h
placed x (y ∷ xs) (inl e) = (0, ap Some (sym e))
placed x (y ∷ xs) (inr h) = let r = placed x xs h in (suc r.0, r.1)

pub any-from : {X : Type 0} (test : X → Bool) (xs : List X) → any_pass test xs ≡ true → (x : X) × IsIn x xs × (test x ≡ true)
any-from test [] e = absurd (true≢false (sym e))
any-from {X} test (x ∷ xs) e = by (or-either (test x) (any_pass test xs) e) (any-from test xs)
  where
    by : IsTrue (test x) ⊎ IsTrue (any_pass test xs) → (any_pass test xs ≡ true → (y : X) × IsIn y xs × (test y ≡ true)) → (y : X) × IsIn y (x ∷ xs) × (test y ≡ true)
    by (inl a) again = (x, inl refl, a)
    by (inr b) again = let r = again b in (r.0, inr r.1, r.2)

module _ (types : TypeTable) (variables : List ℕ) where
  -- a listed index of an edge is that of a named outcome
  edge-index_from : (at : ℕ) (b : CodeBlock) (ds : List Departure) → Differ (map outcome_of ds) → (n : ℕ) → IsIn n (indices (edge_labels types variables at b ds)) → (j : ℕ) × (d : Departure) × (slice_get ds j ≡ Some d) × (is_named d.outcome ≡ true) × (n ≡ edge_at at ds d.outcome)
  edge-index_from at b [] differ n h = absurd h
  edge-index_from at b (c ∷ ds) differ n h = by (is_named c.outcome) refl h (edge-index_from (at + edge_length c) b ds differ.1 n)
    where
      on : (j : ℕ) × (d : Departure) × (slice_get ds j ≡ Some d) × (is_named d.outcome ≡ true) × (n ≡ edge_at (at + edge_length c) ds d.outcome) → (j : ℕ) × (d : Departure) × (slice_get (c ∷ ds) j ≡ Some d) × (is_named d.outcome ≡ true) × (n ≡ edge_at at (c ∷ ds) d.outcome)
      on r =
          let apart = further at c ds r.1.outcome (λ x. differ.0 (subst (λ o. IsIn o (map outcome_of ds)) (sym x) (in-map outcome_of r.1 ds (got-IsIn ds r.0 r.1 r.2)))) in
          (suc r.0, r.1, r.2, r.3, r.4 ∙ sym apart)

      by : (named : Bool) → is_named c.outcome ≡ named → IsIn n (indices (cond named (listed_with at (facts_after types variables b.form c.outcome b.facts) (edge_slots types variables b) ∷ []) [] ++ edge_labels types variables (at + edge_length c) b ds))
          → (IsIn n (indices (edge_labels types variables (at + edge_length c) b ds)) → (j : ℕ) × (d : Departure) × (slice_get ds j ≡ Some d) × (is_named d.outcome ≡ true) × (n ≡ edge_at (at + edge_length c) ds d.outcome))
          → (j : ℕ) × (d : Departure) × (slice_get (c ∷ ds) j ≡ Some d) × (is_named d.outcome ≡ true) × (n ≡ edge_at at (c ∷ ds) d.outcome)
      by true q (inl e) again = (0, c, refl, q, e ∙ sym (first-here at c ds))
      by true q (inr k) again = on (again k)
      by false q k again = on (again k)

  -- a listed index within a front is that of a `for`
  abbrev WithinLoop : ℕ → Bool → Form → ℕ → Type 0
  WithinLoop at again form n = (r t : Path) × (form ≡ Form.For r t) × (((n ≡ at + second_step) × (again ≡ true)) ⊎ (n ≡ at + (second_step + 1)))

  within-index_from : (at : ℕ) (again : Bool) (b : CodeBlock) (form : Form) (n : ℕ) → IsIn n (indices (labels_within types variables at again b form)) → WithinLoop at again form n
  within-index_from at true b (Form.For r t) n (inl e) = (r, t, refl, inl (e, refl))
  within-index_from at true b (Form.For r t) n (inr (inl e)) = (r, t, refl, inr e)
  within-index_from at true b (Form.For r t) n (inr (inr h)) = absurd h
  within-index_from at false b (Form.For r t) n (inl e) = (r, t, refl, inr e)
  within-index_from at false b (Form.For r t) n (inr h) = absurd h
  within-index_from at again b form n h = absurd h

  module _ (constants : List Literal) where
    labels-index_from : (first again : ℕ → Bool) (j at : ℕ) (bs : List CodeBlock) (n : ℕ) → IsIn n (indices (labels_from types variables constants first again j at bs))
        → (i : ℕ) × (b : CodeBlock) × (slice_get bs i ≡ Some b) × IsIn n (indices (block_labels types variables constants (start_from types variables constants at bs i) (first (j + i)) (again (j + i)) b))
    labels-index_from first again j at [] n h = absurd h
    labels-index_from first again j at (c ∷ bs) n h = by (index-joined (block_labels types variables constants at (first j) (again j) c) _ n h) (labels-index_from first again (suc j) (at + block_length types variables constants c) bs n)
      where
        by : IsIn n (indices (block_labels types variables constants at (first j) (again j) c)) ⊎ IsIn n (indices (labels_from types variables constants first again (suc j) (at + block_length types variables constants c) bs))
            → (IsIn n (indices (labels_from types variables constants first again (suc j) (at + block_length types variables constants c) bs))
            → (i : ℕ) × (b : CodeBlock) × (slice_get bs i ≡ Some b) × IsIn n (indices (block_labels types variables constants (start_from types variables constants (at + block_length types variables constants c) bs i) (first (suc j + i)) (again (suc j + i)) b)))
            → (i : ℕ) × (b : CodeBlock) × (slice_get (c ∷ bs) i ≡ Some b) × IsIn n (indices (block_labels types variables constants (start_from types variables constants at (c ∷ bs) i) (first (j + i)) (again (j + i)) b))
        by (inl a) next = (0, c, refl, subst (λ y. IsIn n (indices (block_labels types variables constants at (first y) (again y) c))) (omega arith) a)
        by (inr k) next =
            let r = next k in
            (suc r.0, r.1, r.2, subst (λ y. IsIn n (indices (block_labels types variables constants (start_from types variables constants (at + block_length types variables constants c) bs r.0) (first y) (again y) r.1))) (omega arith) r.3)

module _ (count : ℕ) (image : Image) (variables : List ℕ) (entry : Departure) (blocks : List CodeBlock) (complete : AreComplete image.types variables entry blocks) where
  abbrev m : CodeModule
  m = code_module count image variables entry blocks

  abbrev st : ℕ → ℕ
  st n = start image.types variables image.constants entry blocks n

  abbrev exit : ℕ → CodeBlock → Outcome → ℕ
  exit i b o = exit_of image.types variables image.constants (st i) b o

  abbrev IsNamed : ℕ → Type 0
  IsNamed n = IsIn n (targets (module_places count image m))

  abbrev IsListed : ℕ → Type 0
  IsListed n = IsIn n (listed_indices m)

  place-named : (p : Place) → IsIn p (module_places count image m) → (w : Way) → IsIn w (named_ways p) → IsNamed w.index
  place-named p member w h = in-flat_map (λ (p : Place). map (λ (w : Way). w.index) (named_ways p)) p w.index (module_places count image m) member (in-map (λ (w : Way). w.index) w (named_ways p) h)

  -- a jump that stands somewhere names its index
  jump-named : (k : ℕ) (i : Instruction) → slice_get m.code k ≡ Some i → (w : Way) → IsIn w (jumps i) → IsNamed w.index
  jump-named k i e w h =
      let p = instructions-have_places count image m k i e in
      place-named p.0 p.1 w (in-append_left w (jumps p.0.instruction) _ (subst (λ x. IsIn w (jumps x)) (sym p.2.instruction) h))

  -- the last instruction of an edge, and of the edge to where the process begins
  last-of : (start_at : ℕ → ℕ) (d : Departure) → (k : ℕ) × (k < edge_length d) × (slice_get (edge_code start_at d) k ≡ Some (arrive_by start_at d.arrival))
  last-of start_at d =
      let joined = edge-long start_at d in
      let one = placed (arrive_by start_at d.arrival) (edge_code start_at d) (in-append_right _ (map Drop d.drops) _ (in-append_right _ (map LoopDrop d.slots) _ (inl refl))) in
      let w = got-within (edge_code start_at d) one.0 (arrive_by start_at d.arrival) one.1 in
      (one.0, omega (arith, w, joined), one.1)

  edge-named : (i j : ℕ) (b : CodeBlock) (d : Departure) → slice_get blocks i ≡ Some b → slice_get b.departures j ≡ Some d → (w : Way) → IsIn w (jumps (arrive_by st d.arrival)) → IsNamed w.index
  edge-named i j b d at-i at-j w h =
      let l = last-of st d in
      jump-named (exit i b d.outcome + l.0) (arrive_by st d.arrival) (edges-there image.types variables image.constants entry blocks i j l.0 b d at-i at-j (complete.outcomes_differ b (got-IsIn blocks i b at-i)) l.1 ∙ l.2) w h

  entry-named : (w : Way) → IsIn w (jumps (arrive_by st entry.arrival)) → IsNamed w.index
  entry-named w h =
      let l = last-of st entry in
      jump-named l.0 (arrive_by st entry.arrival) ((laid-out image.types variables image.constants entry blocks).entry_first l.0 l.1 ∙ l.2) w h

  first-index : (n : ℕ) (a : Arrival) → goes_to_first n a ≡ true → a ≡ to_block n
  first-index n (to_block k) e = ap to_block (eqb-true k n e)
  first-index n (to_second_step k) e = absurd (true≢false (sym e))
  first-index n to_end e = absurd (true≢false (sym e))
  first-index n (to_end_by k) e = absurd (true≢false (sym e))

  -- a block is named by an edge that leads to it
  block-named : (n : ℕ) → comes_first entry blocks n ≡ true → IsNamed (st n)
  block-named n e = by (or-either (goes_to_first n entry.arrival) _ e)
    where
      to-first : (a : Arrival) → goes_to_first n a ≡ true → IsIn (record { outcome = ok; index = st n }) (jumps (arrive_by st a))
      to-first a e = subst (λ a. IsIn (record { outcome = ok; index = st n }) (jumps (arrive_by st a))) (sym (first-index n a e)) (inl refl)

      by : IsTrue (goes_to_first n entry.arrival) ⊎ IsTrue (any_pass (λ (b : CodeBlock). any_pass (λ (d : Departure). goes_to_first n d.arrival) b.departures) blocks) → IsNamed (st n)
      by (inl x) = entry-named (record { outcome = ok; index = st n }) (to-first entry.arrival x)
      by (inr x) =
          let b = any-from (λ (b : CodeBlock). any_pass (λ (d : Departure). goes_to_first n d.arrival) b.departures) blocks x in
          let d = any-from (λ (d : Departure). goes_to_first n d.arrival) b.0.departures b.2 in
          let i = placed b.0 blocks b.1 in
          let j = placed d.0 b.0.departures d.1 in
          edge-named i.0 j.0 b.0 d.0 i.1 j.1 (record { outcome = ok; index = st n }) (to-first d.0.arrival d.2)

  second-index : (n : ℕ) (a : Arrival) → goes_to_second n a ≡ true → a ≡ to_second_step n
  second-index n (to_block k) e = absurd (true≢false (sym e))
  second-index n (to_second_step k) e = ap to_second_step (eqb-true k n e)
  second-index n to_end e = absurd (true≢false (sym e))
  second-index n (to_end_by k) e = absurd (true≢false (sym e))

  second-named : (n : ℕ) → comes_again blocks n ≡ true → IsNamed (st n + second_step)
  second-named n e =
      let b = any-from (λ (b : CodeBlock). any_pass (λ (d : Departure). goes_to_second n d.arrival) b.departures) blocks e in
      let d = any-from (λ (d : Departure). goes_to_second n d.arrival) b.0.departures b.2 in
      let i = placed b.0 blocks b.1 in
      let j = placed d.0 b.0.departures d.1 in
      edge-named i.0 j.0 b.0 d.0 i.1 j.1 (record { outcome = ok; index = st n + second_step })
      (subst (λ a. IsIn (record { outcome = ok; index = st n + second_step }) (jumps (arrive_by st a))) (sym (second-index n d.0.arrival d.2)) (inl refl))

  -- the test of a `for` is named by the jump behind the copy of the rows
  test-named : (n : ℕ) (c : CodeBlock) (r t : Path) → slice_get blocks n ≡ Some c → c.form ≡ Form.For r t → IsNamed (st n + (second_step + 1))
  test-named n c r t at-n e =
      subst IsNamed (omega arith)
      (jump-named (st n + 2) (Jump (st n + 1 + 3))
      (code-block image.types variables image.constants entry blocks (st n + 2) n 2 (record c { form = Form.For r t }) (at-n ∙ ap (λ f. Some (record c { form = f })) e, omega arith, refl))
      (record { outcome = ok; index = st n + 1 + 3 }) (inl refl))

  -- the edges of a block that has some are those of its form's outcomes
  in-order : (b : CodeBlock) (d : Departure) (j : ℕ) → IsIn b blocks → slice_get b.departures j ≡ Some d → map outcome_of b.departures ≡ outcomes image.types variables b.form
  in-order b d j in-b at-j = by b.onward refl
    where
      by : (t : Bool) → b.onward ≡ t → map outcome_of b.departures ≡ outcomes image.types variables b.form
      by true e = none-not_some (sym (ap (λ ds. slice_get ds j) (complete.goes_on b in-b e).0) ∙ at-j)
      by false e = complete.outcomes_in_order b in-b e

  -- and so are those of a block that has a named outcome
  named-order : (b : CodeBlock) (o : Outcome) → IsIn b blocks → IsIn o (outcomes image.types variables b.form) → is_named o ≡ true → map outcome_of b.departures ≡ outcomes image.types variables b.form
  named-order b o in-b in-o named = by b.onward refl
    where
      only : IsIn o (ok ∷ []) → map outcome_of b.departures ≡ outcomes image.types variables b.form
      only (inl e) = absurd (true≢false (sym named ∙ ap is_named e))
      only (inr k) = absurd k

      by : (t : Bool) → b.onward ≡ t → map outcome_of b.departures ≡ outcomes image.types variables b.form
      by true e = only (subst (IsIn o) (complete.goes_on b in-b e).1 in-o)
      by false e = complete.outcomes_in_order b in-b e

  -- an outcome's edge is named in its front
  outcome-listed : (i j : ℕ) (b : CodeBlock) (d : Departure) → slice_get blocks i ≡ Some b → slice_get b.departures j ≡ Some d → is_named d.outcome ≡ true → IsNamed (exit i b d.outcome)
  outcome-listed i j b d at-i at-j q =
      let in-b = got-IsIn blocks i b at-i in
      let in-o : IsIn d.outcome (outcomes image.types variables b.form) = subst (IsIn d.outcome) (in-order b d j in-b at-j) (in-map outcome_of d b.departures (got-IsIn b.departures j d at-j)) in
      let r = outcome-named image.types variables image.constants (exit i b) b.facts b.statement (st i + 1) b.form (complete.linked.names b in-b) d.outcome in-o q in
      let k = placed r.0 (front image.types variables image.constants b.facts b.statement (st i + 1) (exit i b) b.form) r.1 in
      let low = got-within (front image.types variables image.constants b.facts b.statement (st i + 1) (exit i b) b.form) k.0 r.0 k.1 in
      let long = front-long image.types variables image.constants b.facts b.statement (st i + 1) (exit i b) b.form in
      let inside : IsInBlock image.types variables image.constants entry blocks (st i + (1 + k.0)) i (1 + k.0) b = (at-i, omega (arith, low, long), refl) in
      let front-at : slice_get (block_code image.types variables image.constants st (st i) b) (1 + k.0) ≡ Some r.0
      = at-front (front image.types variables image.constants b.facts b.statement (st i + 1) (exit i b) b.form) (flat_map (edge_code st) b.departures) k.0 low ∙ k.1 in
      let code : slice_get m.code (st i + (1 + k.0)) ≡ Some r.0 = code-block image.types variables image.constants entry blocks (st i + (1 + k.0)) i (1 + k.0) b inside ∙ front-at in
      let p = instructions-have_places count image m (st i + (1 + k.0)) r.0 code in
      let land : p.0.landings ≡ landings_by image.types variables (exit i b) r.0
      = p.2.landings ∙ ap (list_of (λ ls. ls)) ((laid-out image.types variables image.constants entry blocks).landings_behind (st i + (1 + k.0)) i (1 + k.0) b inside) ∙ ap (λ o. list_of (λ ls. ls) (option_map (landings_by image.types variables (exit i b)) o)) front-at in
      subst IsNamed r.4
      (place-named p.0 p.1 r.2 (subst (λ ls. IsIn r.2 (jumps p.0.instruction ++ landing_ways ls)) (sym land) (subst (λ x. IsIn r.2 (jumps x ++ landing_ways (landings_by image.types variables (exit i b) r.0))) (sym p.2.instruction) r.3)))
    where
      at-front : (xs ys : List Instruction) (k : ℕ) → k < length xs → slice_get (Step ∷ (xs ++ ys)) (1 + k) ≡ slice_get xs k
      at-front xs ys k low = get-right (Step ∷ []) (xs ++ ys) (1 + k) k (omega arith) ∙ get-left xs ys k low

  listed-named : (n : ℕ) → IsListed n → IsNamed n
  listed-named n h =
      let r = labels-index_from image.types variables image.constants (comes_first entry blocks) (comes_again blocks) 0 (edge_length entry) blocks n h in
      block-index r.0 r.1 r.2 r.3
    where
      rest-index : (i : ℕ) (b : CodeBlock) → slice_get blocks i ≡ Some b → (again : Bool) → again ≡ comes_again blocks i
          → IsIn n (indices (labels_within image.types variables (st i) again b b.form)) ⊎ IsIn n (indices (edge_labels image.types variables (edges_at image.types variables image.constants (st i) b) b b.departures)) → IsNamed n
      rest-index i b at-i again same (inl x) = sides (within-index_from image.types variables (st i) again b b.form n x)
        where
          sides : (r t : Path) × (b.form ≡ Form.For r t) × (((n ≡ st i + second_step) × (again ≡ true)) ⊎ (n ≡ st i + (second_step + 1))) → IsNamed n
          sides w = side w.3
            where
              side : ((n ≡ st i + second_step) × (again ≡ true)) ⊎ (n ≡ st i + (second_step + 1)) → IsNamed n
              side (inl y) = subst IsNamed (sym y.0) (second-named i (sym same ∙ y.1))
              side (inr y) = subst IsNamed (sym y) (test-named i b w.0 w.1 at-i w.2)
      rest-index i b at-i again same (inr x) =
          let e = edge-index_from image.types variables (edges_at image.types variables image.constants (st i) b) b b.departures (complete.outcomes_differ b (got-IsIn blocks i b at-i)) n x in
          subst IsNamed (sym e.4) (outcome-listed i e.0 b e.1 at-i e.2 e.3)

      block-index : (i : ℕ) (b : CodeBlock) → slice_get blocks i ≡ Some b → IsIn n (indices (block_labels image.types variables image.constants (st i) (comes_first entry blocks (0 + i)) (comes_again blocks (0 + i)) b)) → IsNamed n
      block-index i b at-i k = by (comes_first entry blocks (0 + i)) (ap (comes_first entry blocks) (omega arith)) k
        where
          behind : IsIn n (indices (labels_within image.types variables (st i) (comes_again blocks (0 + i)) b b.form ++ edge_labels image.types variables (edges_at image.types variables image.constants (st i) b) b b.departures)) → IsNamed n
          behind k = rest-index i b at-i (comes_again blocks (0 + i)) (ap (comes_again blocks) (omega arith)) (index-joined (labels_within image.types variables (st i) (comes_again blocks (0 + i)) b b.form) _ n k)

          by : (first : Bool) → first ≡ comes_first entry blocks i → IsIn n (indices (block_labels image.types variables image.constants (st i) first (comes_again blocks (0 + i)) b)) → IsNamed n
          by true q (inl e) = subst IsNamed (sym e) (block-named i (sym q))
          by true q (inr k) = behind k
          by false q k = behind k

  -- what is named is listed
  step-listed : (n : ℕ) → IsListedStep count image variables entry blocks n → IsListed n
  step-listed n s = found-index m.labels n s.0 s.2

  leads-listed : (ds : List Departure) (w : Way) → LeadsOn count image variables entry blocks ds w → ((d : Departure) (n : ℕ) → IsIn d ds → d.arrival ≡ to_block n → (comes_first entry blocks n ≡ true) × (c : CodeBlock) × (slice_get blocks n ≡ Some c))
      → ((d : Departure) (n : ℕ) → IsIn d ds → d.arrival ≡ to_second_step n → IsListedStep count image variables entry blocks (st n + second_step)) → IsListed w.index
  leads-listed ds w l there again = by l.3
    where
      by : ((l.0.arrival ≡ to_block l.1) × (w.index ≡ st l.1)) ⊎ ((l.0.arrival ≡ to_second_step l.1) × (w.index ≡ st l.1 + second_step)) → IsListed w.index
      by (inl x) = let c = there l.0 l.1 l.2 x.0 in subst IsListed (sym x.1) (step-listed (st l.1) (first-step count image variables entry blocks l.1 c.1 c.0 c.2))
      by (inr x) = subst IsListed (sym x.1) (step-listed (st l.1 + second_step) (again l.0 l.1 l.2 x.0))

  outcome-place : (os : List Outcome) (ds : List Departure) (o : Outcome) → map outcome_of ds ≡ os → IsIn o os → (j : ℕ) × (d : Departure) × (slice_get ds j ≡ Some d) × (o ≡ d.outcome)
  outcome-place os ds o e h =
      let d = in-map_from outcome_of o ds (subst (IsIn o) (sym e) h) in
      let j = placed d.0 ds d.1 in
      (j.0, d.0, j.1, d.2)

  way-listed : (p : Place) → Stands count image variables entry blocks p → (w : Way) → IsIn w (named_ways p) → IsListed w.index
  way-listed p (on_entry h e) w k =
      leads-listed (entry ∷ []) w (edge-leads count image variables entry blocks (λ o. 0) (entry ∷ []) p.instruction h w (subst (λ ls. IsIn w (jumps p.instruction ++ landing_ways ls)) e k))
      (λ d n i a. (let c = complete.linked.begins n (only d i ∙ a) in (led-entry count image variables entry blocks n (only d i ∙ a), c.0, c.1))) (λ d n i a. absurd (complete.linked.begins_first n (only d i ∙ a)))
    where
      only : (d : Departure) → IsIn d (entry ∷ []) → entry.arrival ≡ d.arrival
      only d (inl x) = ap (λ (d : Departure). d.arrival) (sym x)
      only d (inr x) = absurd x
  way-listed p (at_step i b at-i s e) w k =
      let none : IsIn w [] = subst (λ x. IsIn w (jumps x ++ landing_ways (landings_by image.types variables (exit i b) x))) s (subst (λ ls. IsIn w (jumps p.instruction ++ landing_ways ls)) e k) in absurd none
  way-listed p (in_front i k b at-i short at code e) w h =
      by (front-ways image.types variables image.constants (exit i b) b.facts b.statement (st i + 1) b.form (complete.linked.names b in-b) k p.instruction code w (subst (λ ls. IsIn w (jumps p.instruction ++ landing_ways ls)) e h))
    where
      in-b : IsIn b blocks
      in-b = got-IsIn blocks i b at-i

      loop-listed : (r t : Path) → b.form ≡ Form.For r t → listed_at m.labels (st i + (second_step + 1)) ≡ Some (label_with b.facts (edge_slots image.types variables (record b { form = Form.For r t })))
      loop-listed r t f = in-loop (at-i ∙ ap (λ f. Some (record b { form = f })) f)
        where
          in-loop : slice_get blocks i ≡ Some (record b { form = Form.For r t }) → listed_at m.labels (st i + (second_step + 1)) ≡ Some (label_with b.facts (edge_slots image.types variables (record b { form = Form.For r t })))
          in-loop at =
              (blocks-labelled image.types variables image.constants entry blocks).within (st i + (second_step + 1)) i 4 (record b { form = Form.For r t }) (at, omega arith, omega arith) (omega arith) (omega arith) ∙ last (comes_again blocks i)
            where
              last : (again : Bool) → listed_at (labels_within image.types variables (st i) again (record b { form = Form.For r t }) (Form.For r t)) (st i + (second_step + 1)) ≡ Some (label_with b.facts (edge_slots image.types variables (record b { form = Form.For r t })))
              last true = listed-on (listed_with (st i + second_step) b.facts (edge_slots image.types variables (record b { form = Form.For r t }))) (listed_with (st i + (second_step + 1)) b.facts (edge_slots image.types variables (record b { form = Form.For r t })) ∷ []) (st i + (second_step + 1)) (λ e. absurd (omega (arith, e)))
                  ∙ listed-here (listed_with (st i + (second_step + 1)) b.facts (edge_slots image.types variables (record b { form = Form.For r t }))) [] (st i + (second_step + 1)) refl
              last false = listed-here (listed_with (st i + (second_step + 1)) b.facts (edge_slots image.types variables (record b { form = Form.For r t }))) [] (st i + (second_step + 1)) refl

      loop-of : (form : Form) → JumpsWithin image.types variables image.constants (exit i b) b.facts b.statement (st i + 1) k form w → (r t : Path) × (form ≡ Form.For r t)
      loop-of (Form.For r t) j = (r, t, refl)
      loop-of form j = absurd j

      by : LeadsToExit image.types variables image.constants (exit i b) b.form w ⊎ JumpsWithin image.types variables image.constants (exit i b) b.facts b.statement (st i + 1) k b.form w → IsListed w.index
      by (inl x) =
          let d = outcome-place (outcomes image.types variables b.form) b.departures x.0 (named-order b x.0 in-b x.1 x.2) x.1 in
          subst IsListed (sym (x.3 ∙ ap (exit i b) d.3))
          (found-index m.labels (exit i b d.1.outcome) (label_with (facts_after image.types variables b.form d.1.outcome b.facts) (edge_slots image.types variables b))
          ((blocks-labelled image.types variables image.constants entry blocks).edges i d.0 b d.1 at-i d.2 (complete.outcomes_differ b in-b)
          ∙ ap (λ named. cond named (Some (label_with (facts_after image.types variables b.form d.1.outcome b.facts) (edge_slots image.types variables b))) None) (ap is_named (sym d.3) ∙ x.2)))
      by (inr x) =
          let f = loop-of b.form x in
          let j = within-later count image variables entry blocks (exit i b) b.facts b.statement (st i + 1) k b.form w x in
          let there = j.1 in
          subst IsListed (omega (arith, there)) (found-index m.labels (st i + (second_step + 1)) (label_with b.facts (edge_slots image.types variables (record b { form = Form.For f.0 f.1 }))) (loop-listed f.0 f.1 f.2))
  way-listed p (on_edges i b at-i h e) w k =
      leads-listed b.departures w (edge-leads count image variables entry blocks (exit i b) b.departures p.instruction h w (subst (λ ls. IsIn w (jumps p.instruction ++ landing_ways ls)) e k))
      (λ d n j a. (let c = complete.linked.there b d n (got-IsIn blocks i b at-i) j a in (led-edge count image variables entry blocks b d n (got-IsIn blocks i b at-i) j a, c.0, c.1)))
      (λ d n j a. (let c = complete.linked.again b d n (got-IsIn blocks i b at-i) j a in second-listed count image variables entry blocks n c.0 c.1 c.2 (comes count image variables entry blocks complete.linked b d n (got-IsIn blocks i b at-i) j a) c.3 c.4))

  named-listed : (n : ℕ) → IsNamed n → IsListed n
  named-listed n h =
      let p = in-flat_map_from (λ (p : Place). map (λ (w : Way). w.index) (named_ways p)) n (module_places count image m) h in
      let w = in-map_from (λ (w : Way). w.index) n (named_ways p.0) p.2 in
      subst IsListed (sym w.2) (way-listed p.0 (stands count image variables entry blocks p.0 p.1) w.0 w.1)

pub complete-listed : CompleteBlocksAreListed
complete-listed count image variables entry blocks complete n = (listed-named count image variables entry blocks complete n, named-listed count image variables entry blocks complete n)
