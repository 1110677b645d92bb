-- What the source leaves behind an outcome: sound values, the lists of the loops around, and no open call.
use Rattle.std.proofs.Common.{◌≡◌, ◌⊎◌, inl, inr, ℕ, ◌+◌, List, [], ◌∷◌, ◌++◌, map, Bool, true, false, cond, nat_eq, Option, Some, None, option_and_then, slice_get, refl, sym, ap, subst, ◌∙◌, true≢false}
use Rattle.std.specs.Prelude.{not}
use Rattle.std.proofs.lemmas.Bool.{eq-eqb, eqb-true}
use Rattle.herm_model.specs.Lists.{IsIn, list_of, map_or, any_pass}
use Rattle.herm_model.specs.Calls.{shape_at}
use Rattle.herm_model.specs.Paths.{Path, path_of, is_at_or_below}
use Rattle.herm_model.specs.Types.{rows}
use Rattle.herm_model.specs.ControlPaths.{flow_of, IsReached}
use Rattle.herm_model.specs.Labels.{label_at}
use Rattle.herm_model.specs.Nodes.{Node}
use Rattle.herm_model.specs.Outcomes.{Outcome, ok}
use Rattle.herm_model.specs.Statements.{Form, For}
use Rattle.herm_model.specs.Targets.{node}
use Rattle.herm_model.specs.Values.{Name, Cell, Parts, parts_of, read_at}
use Rattle.herm_model.specs.CellNames.{count_in, copy_in}
use Rattle.herm_model.proofs.FactTests.{got-IsIn}
use Rattle.herm_model.proofs.Lists.{in-map_from, in-append_cases, cons-head, cons-not_nil, and-both}
use Rattle.herm_model.proofs.NodeNumbers.{process_numbers-Rise}
use Rattle.herm_model.proofs.Options.{none-not_some}
use Rattle.herm_model.proofs.TypedCalls.{shape-is}
use Rattle.herm_forms.specs.Acts.{act}
use Rattle.herm_forms.specs.Frames.{Loop, Frame, Completion, goes, stays, stuck, if_there, counted_step}
use Rattle.herm_forms.specs.LoopForms.{rows_for}
use Rattle.herm_forms.specs.LeavingLoops.{is_inside}
use Rattle.herm_forms.specs.OpenCalls.{lent_paths}
use Rattle.herm_forms.specs.laws.EdgeLaws.{AreSound, held_after}
use Rattle.herm_forms.specs.laws.FormsSound.{AreSameLoops}
use Rattle.herm_forms.specs.laws.TypedForms.{IsTypedIn}
use Rattle.herm_forms.proofs.KeptBodies.{All, went, stayed, never, all-act}
use Rattle.herm_forms.proofs.forms.PlainForms.{same_facts}
use Rattle.herm_forms.proofs.forms.VisitedLoops.{visited-loops}
use Rattle.herm_source.specs.Local.{calling, row_of, row_type}
use Rattle.herm_source.specs.States.{State, own_name, node_at}
use Rattle.herm_source.proofs.placed.PlacedSteps.{find-own}
use Rattle.herm_source.proofs.reached.FoundNeeds.{labelled}
use Rattle.herm_source.proofs.sound.LoopLists.{same-differ}
use Rattle.herm_source.proofs.sound.OneForm.{Found, GoesWell, acts-well}
use Rattle.herm_source.proofs.sound.OneModule.{StandsWell, has_of, values-of, lists-of}
use Rattle.herm_source.proofs.sound.Shapes.{IsShaped, HasLoops, loops-kept}
use Rattle.herm_instructions.specs.Effects.{row_type as row_of_shape}
use Rattle.herm_instructions.specs.Labels.{Slot}
use Rattle.herm_code_machine.specs.Stacks.{Effect}
use Rattle.herm_code_machine.specs.Effects.{next_of_loop}
use Rattle.herm_code_machine.specs.laws.InstructionLaws.{after_ok}
use Rattle.herm_code_machine.proofs.DoneForms.{instructions-do-forms}
use Rattle.herm_translated.specs.CodeBlocks.{number_at, is_around, own_slot, slots_among, slots_around, slots_within}
use Rattle.herm_translated.proofs.Joined.{map-joined}
use Rattle.herm_simulation.specs.laws.EdgeLaws.{AreListsOf}
use Rattle.herm_simulation.proofs.DoneFronts.{outcome_in, same-outcome, same-frame, stuck-goes}
use Rattle.herm_simulation.proofs.InPlace.{Coded, types, variables, source_code, ready, nodes, slots_of}
use Rattle.herm_simulation.proofs.LoopsLeft.{statements}

abbrev pub numbers_of : List Slot → List ℕ
numbers_of slots = map (λ (s : Slot). s.number) slots

-- a property of all results holds of one
pub goes-is : (Is Stay : Frame Name → Type 0) (r : Completion Name) (o : Outcome) (b : Frame Name) → All Is Stay r → r ≡ goes o b → Is b
goes-is Is Stay r o b (went q d h) e = subst Is (same-frame q o d b e) h
goes-is Is Stay r o b (stayed d h) e = none-not_some (ap outcome_in e)
goes-is Is Stay r o b never e = stuck-goes o b e

-- a list that is not among the lists has no rows
pub none-listed : (s : ℕ) (loops : List (Loop Name)) → (IsIn s (statements loops) → ⊥) → rows_for s loops ≡ None
none-listed s [] h = refl
none-listed s (l ∷ loops) h = by (nat_eq l.statement s) refl (none-listed s loops (λ m. h (inr m)))
  where
    by : (b : Bool) → nat_eq l.statement s ≡ b → rows_for s loops ≡ None → cond b (Some l.rows) (rows_for s loops) ≡ None
    by true e rest = absurd (h (inl (sym (eqb-true l.statement s e))))
    by false e rest = rest

pub first-listed : (s : ℕ) (loops : List (Loop Name)) (more : List ℕ) → statements loops ≡ s ∷ more → (rows : Parts Name) × (rows_for s loops ≡ Some rows)
first-listed s [] more e = cons-not_nil s more (sym e)
first-listed s (l ∷ loops) more e = (l.rows, ap (λ b. cond b (Some l.rows) (rows_for s loops)) (eq-eqb l.statement s (cons-head e)))

module _ (k : Coded) where
  -- the slots around a node are of other statements
  around-differs : (ls : List Node) (i s : ℕ) → IsIn s (numbers_of (slots_among (source_code k) ls i)) → s ≡ number_at (source_code k) i → ⊥
  around-differs [] i s h e = h
  around-differs (l ∷ ls) i s h e =
      by (in-append_cases s (numbers_of (slots_among (source_code k) ls i)) (numbers_of chosen) (subst (IsIn s) (map-joined (λ (s : Slot). s.number) (slots_among (source_code k) ls i) chosen) h)) (around-differs ls i s)
    where
      chosen : List Slot
      chosen = cond (is_around (source_code k) l i) (own_slot (types k) (variables k) l.number l.form) []

      own : (form : Form) → IsIn s (numbers_of (own_slot (types k) (variables k) l.number form)) → s ≡ l.number
      own (For r t) m =
          let a = in-map_from (λ (s : Slot). s.number) s (own_slot (types k) (variables k) l.number (For r t)) m in
          let b = in-map_from (λ row. record { number = l.number; row = row }) a.0 (list_of row_of_shape (shape_at (types k) (variables k) t)) a.1 in
          a.2 ∙ ap (λ (s : Slot). s.number) b.2
      own form m = absurd m

      around : (b : Bool) → is_around (source_code k) l i ≡ b → IsIn s (numbers_of (cond b (own_slot (types k) (variables k) l.number l.form) [])) → ⊥
      around true a m =
          let r = and-both (is_inside (source_code k) i l.number) (not (nat_eq l.number (number_at (source_code k) i))) a in
          true≢false (sym r.1 ∙ ap not (eq-eqb l.number (number_at (source_code k) i) (sym (own l.form m) ∙ e)))
      around false a m = m

      by : IsIn s (numbers_of (slots_among (source_code k) ls i)) ⊎ IsIn s (numbers_of chosen) → (IsIn s (numbers_of (slots_among (source_code k) ls i)) → s ≡ number_at (source_code k) i → ⊥) → ⊥
      by (inl m) again = again m e
      by (inr m) again = around (is_around (source_code k) l i) refl m

  -- the slots of a `for` have its own in front; those of other forms are those around
  pub loop-slots : (i : ℕ) (number : ℕ) (r t : Path) → IsTypedIn k.exceptions k.processes (source_code k) (For r t) → numbers_of (slots_within (types k) (variables k) number (For r t) (slots_around (source_code k) i)) ≡ number ∷ numbers_of (slots_around (source_code k) i)
  loop-slots i number r t typed =
      let of = typed.typed.2 in
      ap (λ o. numbers_of (map (λ row. record { number = number; row = row }) (list_of row_of_shape o) ++ slots_around (source_code k) i))
      (shape-is (types k) (variables k) t of.0 (rows typed.typed.0 typed.typed.1) of.1.0 of.2)

  module _ (i : ℕ) (n : Node) (at : slice_get (nodes k) i ≡ Some n) where
    pub typed-here : IsTypedIn k.exceptions k.processes (source_code k) n.form
    typed-here = record { table = (k.sound).well; variables = (k.sound).typed.variables_known; typed = (k.sound).typed.typed n (got-IsIn (nodes k) i n at) }

    row-here : (t : ℕ) → row_of (source_code k) n.form ≡ Some t → row_type (source_code k) n.number ≡ Some t
    row-here t e = ap (option_and_then (λ (n : Node). row_of (source_code k) n.form)) (find-own n (nodes k) (process_numbers-Rise k.process) (got-IsIn (nodes k) i n at)) ∙ e

    -- the lists of rows as the statement begins: those of the slots around it, or at the further tests of a `for` its own too
    abbrev pub HasLists : List (Loop Name) → Type 0
    HasLists loops = AreListsOf (slots_around (source_code k) i) loops ⊎ (AreListsOf (slots_of k i n) loops × ((r t : Path) × (n.form ≡ For r t)))

    pub not-own : (loops : List (Loop Name)) → AreListsOf (slots_around (source_code k) i) loops → rows_for n.number loops ≡ None
    not-own loops lists = none-listed n.number loops (λ m. around-differs (nodes k) i n.number (subst (IsIn n.number) lists.0 m) (sym (ap (map_or 0 (λ (n : Node). n.number)) at)))

  -- behind a test of a `for`
  visited-first : (number : ℕ) (r t : Path) (b b' : Frame Name) (o : Outcome) → rows_for number b.loops ≡ None → act own_name (source_code k) number (For r t) b ≡ goes o b' → statements b'.loops ≡ number ∷ statements b.loops
  visited-first number r t b b' o none is = by (read_at t b.variables) (sym ((instructions-do-forms own_name (ready k) number b).first_visit r t none) ∙ is)
    where
      left : Cell Name → Frame Name
      left table = record b { serial = b.serial + count_in (parts_of table); loops = record { statement = number; rows = copy_in (λ s. (b.number, s)) b.serial (parts_of table) } ∷ b.loops }

      again : (table : Cell Name) → AreSameLoops number (left table).loops b'.loops → statements b'.loops ≡ number ∷ statements b.loops
      again table (inl same) = same
      again table (inr h) = none-not_some (sym h.0 ∙ (first-listed number (left table).loops (statements b.loops) refl).1)

      by : (x : Option (Cell Name)) → after_ok (next_of_loop number r) (if_there (λ table. goes ok (left table)) x) ≡ goes o b' → statements b'.loops ≡ number ∷ statements b.loops
      by None h = stuck-goes o b' h
      by (Some table) h =
          let rs = first-listed number (left table).loops (statements b.loops) refl in
          again table
          (visited-loops own_name number r t o b' (left table)
          (sym (ap (λ (e : Effect Name). e.completion) ((instructions-do-forms own_name (ready k) number (left table)).visit r t 0 rs.0 rs.1 [])) ∙ h))

  visited-again : (number : ℕ) (r t : Path) (b b' : Frame Name) (o : Outcome) (rs : Parts Name) → rows_for number b.loops ≡ Some rs → act own_name (source_code k) number (For r t) b ≡ goes o b' → statements b'.loops ≡ statements b.loops
  visited-again number r t b b' o rs there is = by (visited-loops own_name number r t o b' b is)
    where
      by : AreSameLoops number b.loops b'.loops → statements b'.loops ≡ statements b.loops
      by (inl same) = same
      by (inr h) = none-not_some (sym h.0 ∙ there)

  module _ (i : ℕ) (n : Node) (at : slice_get (nodes k) i ≡ Some n) (x : State Name) (stands : StandsWell k.exceptions (types k) k.processes k.process k.labels k.sound x) (here : x.point ≡ node i) (idle : x.frame.call ≡ None) where
    node-here : node_at (source_code k) x.point ≡ Some n
    node-here = ap (node_at (source_code k)) here ∙ at

    pub values-here : AreSound (source_code k) (k.labels i) x.frame.variables
    values-here =
        same_facts (source_code k) (has_of (source_code k) x) (k.labels i) x.frame.variables
        (λ f.
        ap (λ (o : Option ℕ). cond (any_pass (λ p. is_at_or_below p (path_of f)) (list_of (λ k'. list_of (lent_paths (source_code k)) (calling (source_code k) x)) o)) false (label_at k.labels x.point f)) idle
        ∙ ap (λ t. label_at k.labels t f) here)
        (values-of (source_code k) x stands.0)

    reached-here : IsReached (flow_of (types k) k.process) (node i)
    reached-here = subst (IsReached (flow_of (types k) k.process)) here stands.1

    pub found-here : Found (source_code k) n.form (k.labels i)
    found-here f need = labelled (types k) k.process k.labels (k.sound).exact (k.sound).accepted (node i) n f at reached-here need

    pub shaped-here : IsShaped (source_code k) None x.frame
    shaped-here = (lists-of (source_code k) x stands.0, (stands.0).work, idle)

    -- what a local step leaves
    pub record IsLeft (o : Outcome) (b : Frame Name) : Type 0 where
      pub values : AreSound (source_code k) (held_after (types k) (variables k) n.form o (k.labels i)) b.variables
      pub closed : b.call ≡ None
      pub lists : AreListsOf (slots_of k i n) b.loops

    step-values : (o : Outcome) (b : Frame Name) (r : Completion Name) → GoesWell (source_code k) n.form (k.labels i) r → r ≡ goes o b → AreSound (source_code k) (held_after (types k) (variables k) n.form o (k.labels i)) b.variables × (b.call ≡ None)
    step-values o b (goes q d) h e =
        subst (λ o. AreSound (source_code k) (held_after (types k) (variables k) n.form o (k.labels i)) b.variables × (b.call ≡ None)) (same-outcome q o d b e)
        (subst (λ (b : Frame Name). AreSound (source_code k) (held_after (types k) (variables k) n.form q (k.labels i)) b.variables × (b.call ≡ None)) (same-frame q o d b e) (h.0, h.1.2))
    step-values o b (stays d) h e = absurd h
    step-values o b stuck h e = stuck-goes o b e

    -- the lists behind a local step
    step-lists : (form : Form) → n.form ≡ form → IsTypedIn k.exceptions k.processes (source_code k) form → HasLists i n at x.frame.loops → (o : Outcome) (b : Frame Name) → act own_name (source_code k) n.number form (counted_step x.frame) ≡ goes o b
        → AreListsOf (slots_within (types k) (variables k) n.number form (slots_around (source_code k) i)) b.loops
    step-lists (For r t) same typed (inl lists) o b is =
        let none = not-own i n at x.frame.loops lists in
        let more = visited-first n.number r t (counted_step x.frame) b o none is in (
          more ∙ ap (n.number ∷◌) lists.0 ∙ sym (loop-slots i n.number r t typed),
          same-differ n.number x.frame.loops b.loops (inr (none, more)) lists.1,
        )
    step-lists (For r t) same typed (inr h) o b is =
        let lists : AreListsOf (slots_within (types k) (variables k) n.number (For r t) (slots_around (source_code k) i)) x.frame.loops = subst (λ form. AreListsOf (slots_within (types k) (variables k) n.number form (slots_around (source_code k) i)) x.frame.loops) same h.0 in
        let rs = first-listed n.number x.frame.loops (numbers_of (slots_around (source_code k) i)) (lists.0 ∙ loop-slots i n.number r t typed) in
        let same' = visited-again n.number r t (counted_step x.frame) b o rs.0 rs.1 is in
        (same' ∙ lists.0, same-differ n.number x.frame.loops b.loops (inl same') lists.1)
    step-lists form same typed (inl lists) o b is =
        let kept = goes-is (HasLoops (source_code k) None x.frame.loops) (λ b. ⊥) (act own_name (source_code k) n.number form (counted_step x.frame)) o b
        (all-act own_name (HasLoops (source_code k) None x.frame.loops) (λ b. ⊥) (loops-kept (source_code k) None x.frame.loops) (source_code k) n.number form (counted_step x.frame) ((shaped-here.1, idle), refl) (λ v. absurd v)) is in
        subst (AreListsOf (slots_around (source_code k) i)) (sym kept.1) lists
    step-lists form same typed (inr h) o b is =
        let kept = goes-is (HasLoops (source_code k) None x.frame.loops) (λ b. ⊥) (act own_name (source_code k) n.number form (counted_step x.frame)) o b
        (all-act own_name (HasLoops (source_code k) None x.frame.loops) (λ b. ⊥) (loops-kept (source_code k) None x.frame.loops) (source_code k) n.number form (counted_step x.frame) ((shaped-here.1, idle), refl) (λ v. absurd v)) is in
        subst (AreListsOf (slots_around (source_code k) i)) (sym kept.1)
        (subst (λ form. AreListsOf (slots_within (types k) (variables k) n.number form (slots_around (source_code k) i)) x.frame.loops) same h.0)

    pub step-left : HasLists i n at x.frame.loops → (o : Outcome) (b : Frame Name) → act own_name (source_code k) n.number n.form (counted_step x.frame) ≡ goes o b → IsLeft o b
    step-left lists o b is =
        let v = step-values o b (act own_name (source_code k) n.number n.form (counted_step x.frame))
        (acts-well k.exceptions k.processes (source_code k) n.form n.number (typed-here i n at) (row-here i n at) (k.labels i) (counted_step x.frame) values-here found-here shaped-here) is in
        record { values = v.0; closed = v.1; lists = step-lists n.form refl (typed-here i n at) lists o b is }
