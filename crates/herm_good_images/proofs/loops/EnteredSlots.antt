-- The slots where an edge arrives are those of the block that it leaves, without those of the loops that it leaves; and each block is led to.
use Rattle.std.proofs.Common.{◌≡◌, ℕ, ◌<◌, ◌≤◌, List, [], ◌∷◌, ◌++◌, map, filter, Bool, true, false, not, ◌&&◌, cond, nat_eq, Some, slice_get, IsTrue, inl, inr, ◌⊎◌, refl, sym, ap, ap₂, subst, ◌∙◌, true≢false, arith}
use Rattle.std.proofs.lemmas.Bool.{eq-eqb, eqb-true}
use Rattle.herm_model.specs.Lists.{IsIn, any_pass, map_or, list_of}
use Rattle.herm_model.specs.Types.{TypeTable, rows}
use Rattle.herm_model.specs.Statements.{For, branching_of, Process, Differ}
use Rattle.herm_model.specs.Calls.{shape_at}
use Rattle.herm_model.specs.Nodes.{Node, process_nodes}
use Rattle.herm_model.specs.Exits.{Exit, exits}
use Rattle.herm_model.specs.Targets.{node}
use Rattle.herm_model.specs.Labels.{Labels}
use Rattle.herm_model.specs.TypedStatements.{IsTypedForm}
use Rattle.herm_model.specs.TypedPrograms.{IsTypedProcess}
use Rattle.herm_model.specs.laws.FlowLaws.{Rise}
use Rattle.herm_model.proofs.Lists.{in-map, in-map_from, and-both}
use Rattle.herm_model.proofs.FactTests.{got-IsIn}
use Rattle.herm_model.proofs.NodeNumbers.{process_numbers-Rise}
use Rattle.herm_model.proofs.TypedCalls.{shape-is}
use Rattle.herm_model.proofs.Deciding.{at_most-decides}
use Rattle.herm_forms.specs.Modules.{Span, Module, module_of}
use Rattle.herm_forms.specs.LeavingLoops.{is_in_loop, is_inside, keeps_loop}
use Rattle.herm_instructions.specs.Labels.{Slot}
use Rattle.herm_instructions.specs.Effects.{row_type}
use Rattle.herm_translated.specs.CodeBlocks.{own_slot, slots_within, number_at, is_around, slots_among, slots_around, slots_left}
use Rattle.herm_translated.specs.laws.LabelsAlong.{without_slots}
use Rattle.herm_translated.proofs.NamedIndices.{any-from}
use Rattle.herm_good_images.specs.laws.EnteredLoops.{LoopsAreEnteredAtHeads, EdgesKeepSlots}
use Rattle.herm_good_images.proofs.loops.LeadingWithin.{exits-lead}
use Rattle.herm_good_images.proofs.loops.LoopHeads.{IsHead, both-inside, loop-entered}
use Rattle.herm_good_images.proofs.loops.OwnLoops.{process-has_loop}
use Rattle.herm_good_images.proofs.loops.SelectedSlots.{own, chosen, chosen-same, filter-chosen, own-number, in-chosen, chosen-in, own-first, chosen-Differ, without-kept, any-is}

module _ (count : ℕ) (table : TypeTable) (processes : List Process) (p : Process) (labels : Labels) (typed : IsTypedProcess count table processes p) where
  abbrev c : Module
  c = module_of table p labels

  abbrev ns : List Node
  ns = process_nodes p

  rising : Rise (map (λ (n : Node). n.number) ns)
  rising = process_numbers-Rise p

  -- the loops around a node
  abbrev around_number : Node → ℕ → Bool
  around_number n l = any_pass (λ (s : Span). nat_eq s.first l && is_in_loop n.number s) c.loops

  inside-is : (i : ℕ) (n : Node) (l : ℕ) → slice_get ns i ≡ Some n → is_inside c i l ≡ around_number n l
  inside-is i n l e = ap (λ o. any_pass (λ (n : Node). around_number n l) (list_of (λ (n : Node). n ∷ []) o)) e ∙ by (around_number n l)
    where
      by : (b : Bool) → any_pass (λ (x : Bool). x) (b ∷ []) ≡ b
      by true = refl
      by false = refl

  abbrev IsSpanOf : Node → ℕ → Type 0
  IsSpanOf n l = (s : Span) × IsIn s c.loops × (s.first ≡ l) × IsTrue (is_in_loop n.number s)

  inside-span : (i : ℕ) (n : Node) (l : ℕ) → slice_get ns i ≡ Some n → is_inside c i l ≡ true → IsSpanOf n l
  inside-span i n l e h =
      let r = any-from (λ (s : Span). nat_eq s.first l && is_in_loop n.number s) c.loops (sym (inside-is i n l e) ∙ h) in
      let both = and-both (nat_eq r.0.first l) _ r.2 in
      (r.0, r.1, eqb-true r.0.first l both.0, both.1)

  span-inside : (i : ℕ) (n : Node) (l : ℕ) → slice_get ns i ≡ Some n → IsSpanOf n l → is_inside c i l ≡ true
  span-inside i n l e s =
      inside-is i n l e ∙ any-is (λ (s : Span). nat_eq s.first l && is_in_loop n.number s) s.0 c.loops s.1 (ap₂ ◌&&◌ (eq-eqb s.0.first l s.2) s.3)

  -- the number of a loop is no greater than those inside it
  pub inside-low : (i : ℕ) (n : Node) (l : ℕ) → slice_get ns i ≡ Some n → is_inside c i l ≡ true → l ≤ n.number
  inside-low i n l e h =
      let s = inside-span i n l e h in
      let both = and-both _ _ s.3 in
      let low = (at_most-decides s.0.first n.number).0 both.0 in
      let q = s.2 in
      omega (arith, low, q)

  number-of : (i : ℕ) (n : Node) → slice_get ns i ≡ Some n → number_at c i ≡ n.number
  number-of i n e = ap (map_or 0 (λ (n : Node). n.number)) e

  -- a `for` is inside its own loop
  inside-own : (i : ℕ) (n : Node) → slice_get ns i ≡ Some n → (r t : _) → n.form ≡ For r t → is_inside c i n.number ≡ true
  inside-own i n e r t f =
      let s = process-has_loop p typed.blocks n (got-IsIn ns i n e) (ap (λ form. branching_of form) f) in
      let q = s.2 in let long = s.3 in
      span-inside i n n.number e (s.0, s.1, s.2, both-inside (process_nodes p) s.0 n.number (omega (arith, q)) (omega (arith, q, long)))

  -- an edge that leads inside a loop comes from inside it, or leads to its own statement
  pub from-inside : (i k : ℕ) (n y : Node) (x : Exit) (l : ℕ) → slice_get ns i ≡ Some n → IsIn x (exits table p.variables n) → x.target ≡ node k → slice_get ns k ≡ Some y → is_inside c k l ≡ true → (y.number ≡ l) ⊎ (is_inside c i l ≡ true)
  from-inside i k n y x l at-i in-x leads at-k inside = by (is_in_loop n.number span.0) refl
    where
      span : IsSpanOf y l
      span = inside-span k y l at-k inside

      by : (b : Bool) → is_in_loop n.number span.0 ≡ b → (y.number ≡ l) ⊎ (is_inside c i l ≡ true)
      by true e = inr (span-inside i n l at-i (span.0, span.1, span.2, e))
      by false e =
          let h = loop-entered p span.0 span.1 n (got-IsIn ns i n at-i) (λ q. absurd (true≢false (sym q ∙ e))) in
          inl (exits-lead (IsHead ns span.0) table p.variables n (λ z i a b q. cc) h x in-x k y leads at-k span.3 ∙ span.2)

  among-chosen : (i : ℕ) (ls : List Node) → slots_among c ls i ≡ chosen table p.variables (λ (l : Node). is_around c l i) ls
  among-chosen i [] = refl
  among-chosen i (l ∷ ls) = ap (λ xs. xs ++ cond (is_around c l i) (own_slot table p.variables l.number l.form) []) (among-chosen i ls)

  -- the slots of a block's edges are those of all loops around its node, its own among them
  pub within-chosen : (i : ℕ) (n : Node) → slice_get ns i ≡ Some n → slots_within table p.variables n.number n.form (slots_around c i) ≡ chosen table p.variables (λ (l : Node). is_inside c i l.number) ns
  within-chosen i n e =
      ap (λ xs. own table p.variables n ++ xs) (among-chosen i ns ∙ chosen-same table p.variables (λ (l : Node). is_around c l i) (λ (l : Node). is_inside c i l.number && not (nat_eq l.number n.number)) ns (λ l j r t f. ap (λ k. is_inside c i l.number && not (nat_eq l.number k)) (number-of i n e)))
      ∙ own-first table p.variables (λ (l : Node). is_inside c i l.number) n ns rising (got-IsIn ns i n e) later (inside-own i n e)
    where
      later : (l : Node) → IsIn l ns → n.number < l.number → is_inside c i l.number ≡ false
      later l j low = by (is_inside c i l.number) refl
        where
          by : (b : Bool) → is_inside c i l.number ≡ b → b ≡ false
          by true q = let h = inside-low i n l.number e q in absurd (omega (arith, h, low))
          by false q = refl

  pub within-Differ : (i : ℕ) (n : Node) → slice_get ns i ≡ Some n → Differ (map (λ (s : Slot). s.number) (slots_within table p.variables n.number n.form (slots_around c i)))
  within-Differ i n e = subst (λ xs. Differ (map (λ (s : Slot). s.number) xs)) (sym (within-chosen i n e)) (chosen-Differ table p.variables (λ (l : Node). is_inside c i l.number) ns rising)

  -- a `for` has a slot of its own
  own-there : (l : Node) → IsIn l ns → (r t : _) → l.form ≡ For r t → (s : Slot) × IsIn s (own table p.variables l)
  own-there l j r t f = by (subst (IsTypedForm table p.variables count processes) f (typed.typed l j))
    where
      by : IsTypedForm table p.variables count processes (For r t) → (s : Slot) × IsIn s (own table p.variables l)
      by h =
          let shape : shape_at table p.variables t ≡ Some (rows h.0 h.1) = shape-is table p.variables t ((h.2).0) (rows h.0 h.1) (((h.2).1).0) (h.2).2 in
          (record { number = l.number; row = h.0 }, subst (λ form. IsIn {X = Slot} (record { number = l.number; row = h.0 }) (own_slot table p.variables l.number form)) (sym f) (subst (λ o. IsIn {X = Slot} (record { number = l.number; row = h.0 }) (map (λ row. record { number = l.number; row = row }) (list_of row_type o))) (sym shape) (inl refl)))

  has-number : (slots : List Slot) (k : ℕ) (s : Slot) → IsIn s slots → s.number ≡ k → any_pass (λ (s : Slot). nat_eq s.number k) slots ≡ true
  has-number slots k s i e = any-is (λ (s : Slot). nat_eq s.number k) s slots i (eq-eqb s.number k e)

  module _ (i k : ℕ) (n y : Node) (x : Exit) (at-i : slice_get ns i ≡ Some n) (in-x : IsIn x (exits table p.variables n)) (leads : x.target ≡ node k) (at-k : slice_get ns k ≡ Some y) where
    abbrev before : List Slot
    before = slots_within table p.variables n.number n.form (slots_around c i)

    left-chosen : without_slots (slots_left c before (node k)) before ≡ chosen table p.variables (λ (l : Node). is_inside c i l.number && is_inside c k l.number) ns
    left-chosen =
        without-kept (λ l. keeps_loop c (node k) l) before
        ∙ ap (filter (λ (s : Slot). is_inside c k s.number)) (within-chosen i n at-i)
        ∙ filter-chosen table p.variables (λ l. is_inside c k l) (λ (l : Node). is_inside c i l.number) ns

    -- an edge to the first step of a block
    pub to-first : any_pass (λ (s : Slot). nat_eq s.number (number_at c k)) before ≡ false → without_slots (slots_left c before (node k)) before ≡ slots_around c k
    to-first none = left-chosen ∙ chosen-same table p.variables (λ (l : Node). is_inside c i l.number && is_inside c k l.number) (λ (l : Node). is_around c l k) ns same ∙ sym (among-chosen k ns)
      where
        own-not : (l : Node) → IsIn l ns → (r t : _) → l.form ≡ For r t → l.number ≡ y.number → is_inside c i l.number ≡ true → ⊥
        own-not l j r t f e inside =
            let s = own-there l j r t f in
            let m = subst (λ xs. IsIn s.0 xs) (sym (within-chosen i n at-i)) (chosen-in table p.variables (λ (l : Node). is_inside c i l.number) ns s.0 l j inside s.1) in
            absurd (true≢false (sym (has-number before (number_at c k) s.0 m (own-number table p.variables l.number l.form s.0 s.1 ∙ e ∙ sym (number-of k y at-k))) ∙ none))

        cases : (l : Node) → IsIn l ns → (r t : _) → l.form ≡ For r t → (a b d : Bool) → is_inside c i l.number ≡ a → is_inside c k l.number ≡ b → nat_eq l.number y.number ≡ d → (a && b) ≡ (b && not d)
        cases l j r t f a false d p q e = by a
          where
            by : (a : Bool) → (a && false) ≡ false
            by true = refl
            by false = refl
        cases l j r t f true true true p q e = let m : ⊥ = own-not l j r t f (eqb-true l.number y.number e) p in absurd m
        cases l j r t f true true false p q e = refl
        cases l j r t f false true true p q e = refl
        cases l j r t f false true false p q e = by (from-inside i k n y x l.number at-i in-x leads at-k q)
          where
            by : (y.number ≡ l.number) ⊎ (is_inside c i l.number ≡ true) → false ≡ true
            by (inl s) = absurd (true≢false (sym (eq-eqb l.number y.number (sym s)) ∙ e))
            by (inr s) = sym p ∙ s

        same : (l : Node) → IsIn l ns → (r t : _) → l.form ≡ For r t → (is_inside c i l.number && is_inside c k l.number) ≡ is_around c l k
        same l j r t f =
            cases l j r t f (is_inside c i l.number) (is_inside c k l.number) (nat_eq l.number y.number) refl refl refl
            ∙ ap (λ z. is_inside c k l.number && not (nat_eq l.number z)) (sym (number-of k y at-k))

    -- an edge to the second step of a `for`
    pub to-second : any_pass (λ (s : Slot). nat_eq s.number (number_at c k)) before ≡ true → without_slots (slots_left c before (node k)) before ≡ slots_within table p.variables y.number y.form (slots_around c k)
    to-second some = left-chosen ∙ chosen-same table p.variables (λ (l : Node). is_inside c i l.number && is_inside c k l.number) (λ (l : Node). is_inside c k l.number) ns same ∙ sym (within-chosen k y at-k)
      where
        itself : is_inside c i y.number ≡ true
        itself =
            let r = any-from (λ (s : Slot). nat_eq s.number (number_at c k)) before some in
            let m = in-chosen table p.variables (λ (l : Node). is_inside c i l.number) ns r.0 (subst (λ xs. IsIn r.0 xs) (within-chosen i n at-i) r.1) in
            ap (is_inside c i) (sym (number-of k y at-k) ∙ sym (eqb-true r.0.number (number_at c k) r.2) ∙ own-number table p.variables m.0.number m.0.form r.0 m.3) ∙ m.2

        cases : (l : ℕ) (a b : Bool) → is_inside c i l ≡ a → is_inside c k l ≡ b → (a && b) ≡ b
        cases l true b p q = refl
        cases l false false p q = refl
        cases l false true p q = by (from-inside i k n y x l at-i in-x leads at-k q)
          where
            by : (y.number ≡ l) ⊎ (is_inside c i l ≡ true) → false ≡ true
            by (inl s) = sym p ∙ ap (is_inside c i) (sym s) ∙ itself
            by (inr s) = sym p ∙ s

        same : (l : Node) → IsIn l ns → (r t : _) → l.form ≡ For r t → (is_inside c i l.number && is_inside c k l.number) ≡ is_inside c k l.number
        same l j r t f = cases l.number (is_inside c i l.number) (is_inside c k l.number) refl refl

    -- a `for` in whose loop the edge does not start is arrived at by its first step
    pub outside-first : (is_inside c i y.number ≡ false) → any_pass (λ (s : Slot). nat_eq s.number (number_at c k)) before ≡ false
    outside-first none = by (any_pass (λ (s : Slot). nat_eq s.number (number_at c k)) before) refl
      where
        by : (b : Bool) → any_pass (λ (s : Slot). nat_eq s.number (number_at c k)) before ≡ b → b ≡ false
        by false q = refl
        by true q =
            let r = any-from (λ (s : Slot). nat_eq s.number (number_at c k)) before q in
            let m = in-chosen table p.variables (λ (l : Node). is_inside c i l.number) ns r.0 (subst (λ xs. IsIn r.0 xs) (within-chosen i n at-i) r.1) in
            absurd (true≢false (sym (ap (is_inside c i) (sym (number-of k y at-k) ∙ sym (eqb-true r.0.number (number_at c k) r.2) ∙ own-number table p.variables m.0.number m.0.form r.0 m.3) ∙ m.2) ∙ none))

  -- the slot of a node is not among those of the loops around it
  pub own-absent : (i : ℕ) (n : Node) → slice_get ns i ≡ Some n → IsIn n.number (map (λ (s : Slot). s.number) (slots_around c i)) → ⊥
  own-absent i n e h =
      let s = in-map_from (λ (s : Slot). s.number) n.number (slots_around c i) h in
      let m = in-chosen table p.variables (λ (l : Node). is_around c l i) ns s.0 (subst (λ xs. IsIn s.0 xs) (among-chosen i ns) s.1) in
      by m.0 m.2 (sym (own-number table p.variables m.0.number m.0.form s.0 m.3) ∙ sym s.2)
    where
      by : (l : Node) → is_around c l i ≡ true → l.number ≡ n.number → ⊥
      by l around same = true≢false (sym around ∙ ap (λ b. is_inside c i l.number && not b) (eq-eqb l.number (number_at c i) (same ∙ sym (number-of i n e))) ∙ never (is_inside c i l.number))
        where
          never : (b : Bool) → (b && false) ≡ false
          never true = refl
          never false = refl

  -- no loop is around the first node
  pub first-bare : (n : Node) (more : List Node) → ns ≡ n ∷ more → slots_around c 0 ≡ []
  first-bare n more e = among-chosen 0 ns ∙ none ns (λ l j. j)
    where
      at : slice_get ns 0 ≡ Some n
      at = ap (λ xs. slice_get xs 0) e

      not-around : (l : Node) → IsIn l ns → (a : Bool) → is_inside c 0 l.number ≡ a → (a && not (nat_eq l.number (number_at c 0))) ≡ false
      not-around l j false q = refl
      not-around l j true q =
          let low = inside-low 0 n l.number at q in
          ap not (eq-eqb l.number (number_at c 0) (least (subst (λ xs. IsIn l xs) e j) low ∙ sym (number-of 0 n at)))
        where
          least : IsIn l (n ∷ more) → l.number ≤ n.number → l.number ≡ n.number
          least (inl s) low = ap (λ (n : Node). n.number) s
          least (inr s) low = let r = (subst (λ xs. Rise (map (λ (n : Node). n.number) xs)) e rising).0 l.number (in-map (λ (n : Node). n.number) l more s) in absurd (omega (arith, r, low))

      none : (ls : List Node) → ((l : Node) → IsIn l ls → IsIn l ns) → chosen table p.variables (λ (l : Node). is_around c l 0) ls ≡ []
      none [] h = refl
      none (l ∷ ls) h = ap₂ ◌++◌ (none ls (λ k j. h k (inr j))) (ap (λ b. cond b (own table p.variables l) []) (not-around l (h l (inl refl)) (is_inside c 0 l.number) refl))

pub entered-at_heads : LoopsAreEnteredAtHeads
entered-at_heads count table processes p labels typed i k from to e l inside = from-inside count table processes p labels typed i k from to e.exit l e.leaves e.is_exit e.leads e.arrives inside

pub slots-kept : EdgesKeepSlots
slots-kept count table processes p labels typed i k from to e = (
  to-first count table processes p labels typed i k from to e.exit e.leaves e.is_exit e.leads e.arrives,
  to-second count table processes p labels typed i k from to e.exit e.leaves e.is_exit e.leads e.arrives,
)
