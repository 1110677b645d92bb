-- The node that an index belongs to; and where a process of code stands.
use Rattle.std.proofs.Common.{◌≡◌, inl, inr, ℕ, zero, suc, ◌+◌, ◌<◌, ◌≤◌, List, [], ◌∷◌, Bool, true, false, cond, Option, Some, None, slice_get, refl, sym, ap, subst, ◌∙◌, arith}
use Rattle.std.specs.Prelude.{nat_lt}
use Rattle.std.proofs.lemmas.Bool.Decides.{nat_tests}
use Rattle.herm_model.specs.Expressions.{Literal}
use Rattle.herm_model.specs.Nodes.{Node}
use Rattle.herm_model.specs.Statements.{For}
use Rattle.herm_model.specs.Targets.{Target, node, end, end_by}
use Rattle.herm_model.specs.Types.{TypeTable}
use Rattle.herm_model.specs.Values.{Name}
use Rattle.herm_model.proofs.Options.{none-not_some, some-injective}
use Rattle.herm_forms.specs.Frames.{Frame}
use Rattle.herm_source.specs.States.{State, node_at}
use Rattle.herm_source.proofs.sound.OneModule.{StandsWell}
use Rattle.herm_instructions.specs.Images.{instruction_at}
use Rattle.herm_code_machine.specs.CodeLocal.{IsLocallySoundCode}
use Rattle.herm_code_machine.specs.CodeStates.{Position, at_index, at_end, at_end_by, CodeState}
use Rattle.herm_translation.specs.StandsFor.{BelongsTo, IsWhereItStands, MayStandAt}
use Rattle.herm_translated.specs.BlockLabels.{comes_again}
use Rattle.herm_translated.specs.CodeBlocks.{CodeBlock}
use Rattle.herm_translated.specs.Departures.{edge_length, second_step}
use Rattle.herm_translated.specs.Fronts.{front_length}
use Rattle.herm_translated.specs.Layout.{block_length, start_from}
use Rattle.herm_translated.proofs.Addresses.{starts-behind}
use Rattle.herm_simulation.specs.Simulating.{node_among, node_at_index}
use Rattle.herm_simulation.specs.Standing.{IsWithin, IsAtPoint}
use Rattle.herm_simulation.proofs.Arrivals.{step-at, second-at}
use Rattle.herm_simulation.proofs.Beside.{Beside}
use Rattle.herm_simulation.proofs.InPlace.{Coded, types, variables, constants, source_code, checked_code, blocks, entry, code, ready, nodes, begins_at, no-block}
use Rattle.herm_simulation.proofs.Nexts.{open-at}

module _ (types : TypeTable) (variables : List ℕ) (constants : List Literal) where
  among-node : (p first : ℕ) (bs : List CodeBlock) (n q : ℕ) (b : CodeBlock) → slice_get bs n ≡ Some b → q < block_length types variables constants b → (i : ℕ) → i ≡ start_from types variables constants first bs n + q
      → node_among types variables constants p first bs i ≡ Some (p + n)
  among-node p first [] n q b e low i is = none-not_some e
  among-node p first (c ∷ bs) zero q b e low i is =
      let same : c ≡ b = some-injective e in
      let below : i < first + block_length types variables constants c = (let long = ap (block_length types variables constants) same in omega (arith, is, low, long)) in
      by (nat_lt i (first + block_length types variables constants c)) refl below ∙ ap (λ n. Some n) (omega arith)
    where
      by : (t : Bool) → nat_lt i (first + block_length types variables constants c) ≡ t → i < first + block_length types variables constants c
          → cond t (Some p) (node_among types variables constants (suc p) (first + block_length types variables constants c) bs i) ≡ Some p
      by true e h = refl
      by false e h = absurd (grind (arith, nat_tests))
  among-node p first (c ∷ bs) (suc n) q b e low i is =
      let behind = starts-behind types variables constants (first + block_length types variables constants c) bs n in
      let above : first + block_length types variables constants c ≤ i = omega (arith, behind, is) in
      by (nat_lt i (first + block_length types variables constants c)) refl above
      ∙ among-node (suc p) (first + block_length types variables constants c) bs n q b e low i is ∙ ap (λ n. Some n) (omega arith)
    where
      by : (t : Bool) → nat_lt i (first + block_length types variables constants c) ≡ t → first + block_length types variables constants c ≤ i
          → cond t (Some p) (node_among types variables constants (suc p) (first + block_length types variables constants c) bs i) ≡ node_among types variables constants (suc p) (first + block_length types variables constants c) bs i
      by true e h = absurd (grind (arith, nat_tests))
      by false e h = refl

module _ (k : Coded) where
  index-belongs : (n : ℕ) (b : CodeBlock) (q i : ℕ) → slice_get (blocks k) n ≡ Some b → q < block_length (types k) (variables k) (constants k) b → i ≡ begins_at k n + q → node_at_index (constants k) (checked_code k) i ≡ Some n
  index-belongs n b q i at low is =
      let behind = starts-behind (types k) (variables k) (constants k) (edge_length (entry k)) (blocks k) n in
      let above : edge_length (entry k) ≤ i = omega (arith, behind, is) in
      by (nat_lt i (edge_length (entry k))) refl above
      ∙ among-node (types k) (variables k) (constants k) 0 (edge_length (entry k)) (blocks k) n q b at low i is ∙ ap (λ n. Some n) (omega arith)
    where
      by : (t : Bool) → nat_lt i (edge_length (entry k)) ≡ t → edge_length (entry k) ≤ i
          → cond t None (node_among (types k) (variables k) (constants k) 0 (edge_length (entry k)) (blocks k) i) ≡ node_among (types k) (variables k) (constants k) 0 (edge_length (entry k)) (blocks k) i
      by true e h = absurd (grind (arith, nat_tests))
      by false e h = refl

  -- a position belongs to its point
  within-belongs : (n : ℕ) (b : CodeBlock) (again : Bool) (call : Option ℕ) (i : ℕ) → slice_get (blocks k) n ≡ Some b → IsWithin (constants k) (checked_code k) (begins_at k n) again b call i → node_at_index (constants k) (checked_code k) i ≡ Some n
  within-belongs n b again None i at (inl e) = index-belongs n b 0 i at (omega arith) (omega (arith, e))
  within-belongs n b again None i at (inr h) =
      let as_loop : CodeBlock = record b { form = For h.2 h.3 } in
      let same : b ≡ as_loop = ap (λ f. record b { form = f }) h.4 in
      index-belongs n as_loop second_step i (at ∙ ap (λ b. Some b) same) (omega arith) h.0
  within-belongs n b again (Some q) i at h = let h0 = h.0 in index-belongs n b (front_length (types k) (variables k) (constants k) b.form) i at (omega arith) h0

  pub belongs : (call : Option ℕ) (p : Position) (t : Target) → IsAtPoint (constants k) (checked_code k) call p t → BelongsTo (node_at_index (constants k) (checked_code k)) p t
  belongs call (at_index i) (node n) h = within-belongs n h.0 _ call i h.1 h.2
  belongs call (at_index i) end h = absurd h
  belongs call (at_index i) (end_by e) h = absurd h
  belongs call at_end (node n) h = absurd h
  belongs call at_end end h = tt
  belongs call at_end (end_by e) h = absurd h
  belongs call (at_end_by d) (node n) h = absurd h
  belongs call (at_end_by d) end h = absurd h
  belongs call (at_end_by d) (end_by e) h = h

  -- and it is a step, or the call that is open
  module _ (x : State Name) (y : CodeState Name) (stands : StandsWell k.exceptions (types k) k.processes k.process k.labels k.sound x) (beside : Beside k x y) (sound : IsLocallySoundCode (ready k) y) where
    step-there : (n : ℕ) (b : CodeBlock) (again : Bool) (i : ℕ) → slice_get (blocks k) n ≡ Some b → IsWithin (constants k) (checked_code k) (begins_at k n) again b None i → IsWhereItStands None (instruction_at (code k) i)
    step-there n b again i at (inl e) = subst (IsWhereItStands None) (sym (ap (instruction_at (code k)) e ∙ step-at k n b at)) tt
    step-there n b again i at (inr h) = subst (IsWhereItStands None) (sym (ap (instruction_at (code k)) h.0 ∙ second-at k n b h.2 h.3 at h.4)) tt

    pub stands-there : MayStandAt (ready k) y.frame.call y.position
    stands-there = by x.frame.call y.position x.point refl refl refl beside.place
      where
        same : (call : Option ℕ) → x.frame.call ≡ call → y.frame.call ≡ call
        same call e = ap (λ (b : Frame Name). b.call) beside.frame ∙ e

        open-there : (q : ℕ) (n : ℕ) (i : ℕ) (o : Option Node) → slice_get (nodes k) n ≡ o → x.frame.call ≡ Some q → y.position ≡ at_index i → x.point ≡ node n → (b : CodeBlock) → slice_get (blocks k) n ≡ Some b → IsWhereItStands (Some q) (instruction_at (code k) i)
        open-there q n i None at called position point b there = none-not_some (sym (no-block k n at) ∙ there)
        open-there q n i (Some m) at called position point b there =
            let h = open-at k x y stands beside sound q m called (ap (node_at (source_code k)) point ∙ at) in
            subst (IsWhereItStands (Some q)) (sym (ap (instruction_at (code k)) (place-of i (h.here).index (sym position ∙ (h.here).position)) ∙ h.there)) tt
          where
            index_in : Position → Option ℕ
            index_in (at_index j) = Some j
            index_in p = None

            place-of : (i j : ℕ) → at_index i ≡ at_index j → i ≡ j
            place-of i j e = some-injective (ap index_in e)

        by : (call : Option ℕ) (p : Position) (t : Target) → x.frame.call ≡ call → y.position ≡ p → x.point ≡ t → IsAtPoint (constants k) (checked_code k) y.frame.call p t → MayStandAt (ready k) y.frame.call y.position
        by None (at_index i) (node n) called position point h =
            subst (MayStandAt (ready k) y.frame.call) (sym position)
            (subst (λ call. IsWhereItStands call (instruction_at (code k) i)) (sym (same None called)) (step-there n h.0 (comes_again (blocks k) n) i h.1 (subst (λ call. IsWithin (constants k) (checked_code k) (begins_at k n) (comes_again (blocks k) n) h.0 call i) (same None called) h.2)))
        by (Some q) (at_index i) (node n) called position point h =
            subst (MayStandAt (ready k) y.frame.call) (sym position)
            (subst (λ call. IsWhereItStands call (instruction_at (code k) i)) (sym (same (Some q) called)) (open-there q n i (slice_get (nodes k) n) refl called position point h.0 h.1))
        by call (at_index i) end called position point h = absurd h
        by call (at_index i) (end_by e) called position point h = absurd h
        by call at_end t called position point h = subst (MayStandAt (ready k) y.frame.call) (sym position) tt
        by call (at_end_by d) t called position point h = subst (MayStandAt (ready k) y.frame.call) (sym position) tt
