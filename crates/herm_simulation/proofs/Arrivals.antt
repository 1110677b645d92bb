-- Behind an outcome of a node: the code leads to where the edge arrives, with what the source has there.
use Rattle.std.proofs.Common.{◌≡◌, inl, inr, ℕ, suc, ◌+◌, ◌<◌, List, [], ◌∷◌, Bool, true, false, cond, nat_eq, Some, None, slice_get, refl, sym, ap, ap₂, subst, ◌∙◌, arith}
use Rattle.std.specs.Prelude.{find, ◌||◌}
use Rattle.std.proofs.lemmas.Bool.{eq-eqb}
use Rattle.herm_model.specs.Lists.{IsIn, any_pass}
use Rattle.herm_model.specs.Paths.{Path}
use Rattle.herm_model.specs.Exits.{Exit, exits}
use Rattle.herm_model.specs.Nodes.{Node}
use Rattle.herm_model.specs.Outcomes.{Outcome, same_outcome, outcomes}
use Rattle.herm_model.specs.Statements.{For}
use Rattle.herm_model.specs.Targets.{Target, node, end, end_by}
use Rattle.herm_model.specs.Values.{Name, has_value}
use Rattle.herm_model.specs.Finalising.{excess}
use Rattle.herm_model.proofs.Reached.{same_outcome-is}
use Rattle.herm_model.proofs.ExcessOrder.{values-excess}
use Rattle.herm_model.proofs.FactTests.{got-IsIn}
use Rattle.herm_model.proofs.Lists.{in-map}
use Rattle.herm_model.proofs.NodeExits.{exits-outcomes}
use Rattle.herm_model.proofs.Options.{none-not_some, some-injective, map-some}
use Rattle.herm_forms.specs.Acts.{leads_to}
use Rattle.herm_forms.specs.EdgeFinalising.{keeps, arrive}
use Rattle.herm_forms.specs.Frames.{Frame, drop}
use Rattle.herm_forms.specs.laws.EdgeLaws.{AreSound, held_after}
use Rattle.herm_instructions.specs.Images.{instruction_at}
use Rattle.herm_instructions.specs.Instructions.{Step}
use Rattle.herm_instructions.specs.Labels.{Slot}
use Rattle.herm_code_machine.specs.laws.PieceLaws.{IsAtPiece}
use Rattle.herm_translated.specs.BlockLabels.{goes_to_second, comes_again}
use Rattle.herm_translated.specs.CodeBlocks.{CodeBlock, arrival_at, departure, number_at}
use Rattle.herm_translated.specs.Departures.{to_block, to_second_step, Departure, second_step}
use Rattle.herm_translated.specs.Layout.{block_length, block_code}
use Rattle.herm_translated.proofs.Addresses.{laid-out}
use Rattle.herm_simulation.specs.Checks.{list_at}
use Rattle.herm_simulation.specs.Leading.{state_at, LeadsTo, arrived_at}
use Rattle.herm_simulation.specs.Standing.{IsAtPoint}
use Rattle.herm_simulation.specs.laws.EdgeLaws.{AreListsOf}
use Rattle.herm_code_machine.specs.CodeStates.{at_index}
use Rattle.herm_simulation.proofs.AlongEdges.{arrive-drops, edges-do_arrivals}
use Rattle.herm_simulation.proofs.Leading.{leads-from}
use Rattle.herm_simulation.proofs.LoopsLeft.{drop_loops}
use Rattle.herm_simulation.proofs.InPlace.{Coded, types, variables, constants, source_code, checked_code, blocks, entry, code, ready, nodes, begins_at, block, slots_of, exit, linked, in-blocks, is_onward, goes-on, departure-at, edge-stands}

-- what is found stands at a place
found-place : {X : Type 0} (test : X → Bool) (xs : List X) (x : X) → find test xs ≡ Some x → (j : ℕ) × (slice_get xs j ≡ Some x) × (test x ≡ true)
found-place test [] x e = none-not_some e
found-place {X} test (y ∷ xs) x e = by (test y) refl e (found-place test xs x)
  where
    by : (b : Bool) → test y ≡ b → cond b (Some y) (find test xs) ≡ Some x → (find test xs ≡ Some x → (j : ℕ) × (slice_get xs j ≡ Some x) × (test x ≡ true)) → (j : ℕ) × (slice_get (y ∷ xs) j ≡ Some x) × (test x ≡ true)
    by true passes e again = (0, e, subst (λ x. test x ≡ true) (some-injective e) passes)
    by false passes e again = let r = again e in (suc r.0, r.1, r.2)

pub any-in : {X : Type 0} (test : X → Bool) (xs : List X) (x : X) → IsIn x xs → test x ≡ true → any_pass test xs ≡ true
any-in test [] x h e = absurd h
any-in test (y ∷ xs) x (inl same) e = ap (λ b. b || any_pass test xs) (ap test (sym same) ∙ e)
any-in test (y ∷ xs) x (inr h) e = by (test y) (any-in test xs x h e)
  where
    by : (b : Bool) → any_pass test xs ≡ true → (b || any_pass test xs) ≡ true
    by true rest = refl
    by false rest = rest

module _ (k : Coded) where
  -- the exit of an outcome that leads somewhere
  pub exit-of_outcome : (n : Node) (o : Outcome) (t : Target) → leads_to (source_code k) n o ≡ Some t → (j : ℕ) × (slice_get (exits (types k) (variables k) n) j ≡ Some (record { outcome = o; target = t }))
  exit-of_outcome n o t e =
      let m = map-some (λ (x : Exit). x.target) (find (λ (x : Exit). same_outcome x.outcome o) (exits (types k) (variables k) n)) t e in
      let p = found-place (λ (x : Exit). same_outcome x.outcome o) (exits (types k) (variables k) n) m.0 m.1 in
      (p.0, p.1 ∙ ap₂ (λ o t. Some (record { outcome = o; target = t })) (same_outcome-is (m.0).outcome o p.2) m.2)

  -- an outcome that leads somewhere is one of the form
  pub outcome-among : (n : Node) → IsIn n (nodes k) → (o : Outcome) (t : Target) → leads_to (source_code k) n o ≡ Some t → IsIn o (outcomes (types k) (variables k) n.form)
  outcome-among n m o t e =
      let x = exit-of_outcome n o t e in
      subst (IsIn o) (exits-outcomes (types k) k.process n (k.sound).typed.blocks m)
      (in-map (λ (x : Exit). x.outcome) (record { outcome = o; target = t }) (exits (types k) (variables k) n) (got-IsIn (exits (types k) (variables k) n) x.0 (record { outcome = o; target = t }) x.1))

  -- a step stands where a block begins, and a second one in a `for`
  within-block : (n : ℕ) (b : CodeBlock) (q : ℕ) → slice_get (blocks k) n ≡ Some b → q < block_length (types k) (variables k) (constants k) b
      → instruction_at (code k) (begins_at k n + q) ≡ slice_get (block_code (types k) (variables k) (constants k) (begins_at k) (begins_at k n) b) q
  within-block n b q at low = (laid-out (types k) (variables k) (constants k) (entry k) (blocks k)).blocks_behind (begins_at k n + q) n q b (at, low, refl)

  pub step-at : (n : ℕ) (b : CodeBlock) → slice_get (blocks k) n ≡ Some b → instruction_at (code k) (begins_at k n) ≡ Some Step
  step-at n b at = let same : begins_at k n + 0 ≡ begins_at k n = omega arith in subst (λ i. instruction_at (code k) i ≡ Some Step) same (within-block n b 0 at (omega arith))

  pub second-at : (n : ℕ) (b : CodeBlock) (r t : Path) → slice_get (blocks k) n ≡ Some b → b.form ≡ For r t → instruction_at (code k) (begins_at k n + second_step) ≡ Some Step
  second-at n b r t at form =
      let as_loop : CodeBlock = record b { form = For r t } in
      let same : b ≡ as_loop = ap (λ f. record b { form = f }) form in
      within-block n as_loop 3 (at ∙ ap Some same) (omega arith)

  module _ (i : ℕ) (n : Node) (at : slice_get (nodes k) i ≡ Some n) where
    -- where an edge to a target arrives, the process stands at the point, and a piece begins
    abbrev pub Arrives : Target → Type 0
    Arrives t =
        let p = arrived_at (begins_at k) (arrival_at (source_code k) (slots_of k i n) t) in IsAtPoint (constants k) (checked_code k) None p t × IsAtPiece (ready k) p

    to-node : (q : ℕ) (d : Departure) → IsIn d (block k i n).departures → (b : Bool) → d.arrival ≡ cond b (to_second_step q) (to_block q)
        → (let p = arrived_at (begins_at k) (cond b (to_second_step q) (to_block q)) in IsAtPoint (constants k) (checked_code k) None p (node q) × IsAtPiece (ready k) p)
    to-node q d in-d false e =
        let there = (linked k).linked.there (block k i n) d q (in-blocks k i n at) in-d e in
        ((there.0, there.1, inl refl), (Step, step-at q there.0 there.1, refl))
    to-node q d in-d true e =
        let there = (linked k).linked.again (block k i n) d q (in-blocks k i n at) in-d e in
        let again : comes_again (blocks k) q ≡ true =
        any-in (λ (b : CodeBlock). any_pass (λ (d : Departure). goes_to_second q d.arrival) b.departures) (blocks k) (block k i n) (in-blocks k i n at)
        (any-in (λ (d : Departure). goes_to_second q d.arrival) (block k i n).departures d in-d (ap (goes_to_second q) e ∙ eq-eqb q q refl)) in
        ((there.0, there.3, inr (refl, again, there.1, there.2, there.4)), (Step, second-at q there.0 there.1 there.2 there.3 there.4, refl))

    pub arrival-stands : (o : Outcome) (t : Target) → leads_to (source_code k) n o ≡ Some t → Arrives t
    arrival-stands o (node q) e = by (is_onward k i n at) refl
      where
        x : (j : ℕ) × (slice_get (exits (types k) (variables k) n) j ≡ Some (record { outcome = o; target = node q }))
        x = exit-of_outcome n o (node q) e

        by : (t : Bool) → is_onward k i n at ≡ t → Arrives (node q)
        by false off =
            let d = departure (source_code k) (slots_of k i n) o (node q) (list_at (list_at k.drops i) x.0) in
            to-node q d (got-IsIn (block k i n).departures x.0 d (departure-at k i n at off x.0 (record { outcome = o; target = node q }) x.1)) (any_pass (λ (s : Slot). nat_eq s.number (number_at (source_code k) q)) (slots_of k i n)) refl
        by true on =
            let g = goes-on k i n at on x.0 (record { outcome = o; target = node q }) x.1 in
            subst Arrives (sym g.leads)
            (subst (λ a. (let p = arrived_at (begins_at k) a in IsAtPoint (constants k) (checked_code k) None p (node (suc i)) × IsAtPiece (ready k) p)) (sym g.arrival)
            ((g.next.0, g.next.1, inl refl), (Step, step-at (suc i) g.next.0 g.next.1, refl)))
    arrival-stands o end e = (tt, tt)
    arrival-stands o (end_by x) e = (refl, tt)

    -- from the edge of an outcome to where it arrives
    pub outcome-leads : (name : Name → Name) (q : ℕ) (o : Outcome) (t : Target) (b : Frame Name) → leads_to (source_code k) n o ≡ Some t → AreSound (source_code k) (held_after (types k) (variables k) n.form o (k.labels i)) b.variables
        → AreListsOf (slots_of k i n) b.loops
        → LeadsTo name (ready k) (state_at q (exit k i n o) [] b) (record { module_number = q; position = arrived_at (begins_at k) (arrival_at (source_code k) (slots_of k i n) t); stack = []; frame = arrive (source_code k) t b })
    outcome-leads name q o t b e sound lists = by (is_onward k i n at) refl
      where
        x : (j : ℕ) × (slice_get (exits (types k) (variables k) n) j ≡ Some (record { outcome = o; target = t }))
        x = exit-of_outcome n o t e

        right : list_at (list_at k.drops i) x.0 ≡ excess (types k) (variables k) (has_value b.variables) (keeps (source_code k) t)
        right = (k.right).drops i x.0 n (record { outcome = o; target = t }) at x.1 ∙ sym (values-excess (types k) (variables k) (held_after (types k) (variables k) n.form o (k.labels i)) b.variables (keeps (source_code k) t) sound.facts)

        by : (u : Bool) → is_onward k i n at ≡ u → LeadsTo name (ready k) (state_at q (exit k i n o) [] b) (record { module_number = q; position = arrived_at (begins_at k) (arrival_at (source_code k) (slots_of k i n) t); stack = []; frame = arrive (source_code k) t b })
        by false off =
            edges-do_arrivals name (ready k) (source_code k) refl (begins_at k) (slots_of k i n) o t (list_at (list_at k.drops i) x.0) q (exit k i n o) b
            (edge-stands k i n at off x.0 (record { outcome = o; target = t }) x.1) right lists
        by true on =
            let g = goes-on k i n at on x.0 (record { outcome = o; target = t }) x.1 in
            let to_next = subst (λ t. list_at (list_at k.drops i) x.0 ≡ excess (types k) (variables k) (has_value b.variables) (keeps (source_code k) t)) g.leads right in
            let frame : b ≡ arrive (source_code k) (node (suc i)) b =
            ap₂ (λ ss ps. drop_loops ss (drop ps b)) (sym g.slots) (sym g.drops) ∙ arrive-drops name (ready k) (source_code k) refl (begins_at k) (slots_of k i n) o (suc i) (list_at (list_at k.drops i) x.0) b to_next lists in
            subst (λ t. LeadsTo name (ready k) (state_at q (exit k i n o) [] b) (record { module_number = q; position = arrived_at (begins_at k) (arrival_at (source_code k) (slots_of k i n) t); stack = []; frame = arrive (source_code k) t b })) (sym g.leads)
            (leads-from name (ready k) (state_at q (exit k i n o) [] b) (record { module_number = q; position = arrived_at (begins_at k) (arrival_at (source_code k) (slots_of k i n) (node (suc i))); stack = []; frame = arrive (source_code k) (node (suc i)) b })
            (ap₂ (λ p (b : Frame Name). record { module_number = q; position = p; stack = []; frame = b }) (ap at_index (g.ends o) ∙ sym (ap (arrived_at (begins_at k)) g.arrival)) frame))
