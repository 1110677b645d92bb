-- Between a step and its action stand operands alone.
use Rattle.std.proofs.Common.{◌≡◌, ℕ, zero, suc, ◌+◌, ◌<◌, length, List, [], ◌∷◌, ◌++◌, map, flat_map, find, Bool, true, false, cond, not, ◌||◌, nat_eq, IsTrue, Option, Some, None, option_map, slice_get, ◌⊎◌, inl, inr, refl, sym, ap, subst, ◌∙◌, true≢false, arith}
use Rattle.std.proofs.lemmas.Bool.{eq-eqb}
use Rattle.herm_model.specs.Lists.{IsIn, list_of}
use Rattle.herm_model.specs.Paths.{Path, Fact}
use Rattle.herm_model.specs.Types.{TypeTable}
use Rattle.herm_model.specs.Expressions.{Literal, Expression}
use Rattle.herm_model.specs.Statements.{Form, Process}
use Rattle.herm_model.specs.Calls.{call_parameters, call_raises}
use Rattle.herm_model.specs.Outcomes.{Outcome}
use Rattle.herm_model.specs.WellFormedTables.{IsWellFormedTable}
use Rattle.herm_model.proofs.Options.{some-injective, none-not_some}
use Rattle.herm_model.proofs.Lists.{in-append_cases, in-flat_map, in-map, in-map_from}
use Rattle.herm_model.proofs.FactTests.{got-IsIn}
use Rattle.herm_instructions.specs.Instructions.{Instruction, Step, Drop, LoopDrop}
use Rattle.herm_instructions.specs.Labels.{ListedLabel, listed_at}
use Rattle.herm_instructions.specs.Images.{CodeModule, Image}
use Rattle.herm_instructions.specs.Actions.{is_step, is_action}
use Rattle.herm_instructions.specs.Pieces.{is_operand, is_other, ComesFromStep, from_step, past_operand, past_other, ActsAtOnce}
use Rattle.herm_instructions.specs.Places.{Way, Place, goes_on, named_ways, targets}
use Rattle.herm_instructions.specs.GoodCode.{module_places}
use Rattle.herm_instructions.proofs.LabelsOfCode.{places-are_instructions}
use Rattle.herm_translated.specs.Fronts.{arguments_of, front, front_length, expression_code, atom_code, inputs_code}
use Rattle.herm_translated.specs.Departures.{Arrival, to_block, to_second_step, to_end, to_end_by, Departure, edge_code, arrive_by}
use Rattle.herm_translated.specs.CodeBlocks.{CodeBlock}
use Rattle.herm_translated.specs.BlockLabels.{comes_again}
use Rattle.herm_translated.specs.laws.GoodStructure.{AreComplete}
use Rattle.herm_translated.specs.laws.LabelsAtEdges.{IsTypedBlock}
use Rattle.herm_translated.proofs.Joined.{get-left, get-right, length-joined, got-within}
use Rattle.herm_translated.proofs.Lengths.{front-long}
use Rattle.herm_translated.proofs.Addresses.{code-block}
use Rattle.herm_translated.proofs.LabelsStand.{blocks-labelled}
use Rattle.herm_translated.proofs.FrontWays.{IsNoFor}
use Rattle.herm_translated.proofs.EdgesLabelled.{within-none}
use Rattle.herm_translated.proofs.EachInstruction.{atoms-each, inputs-each, expression-each}
use Rattle.herm_translated.proofs.NamedIndices.{complete-listed}
use Rattle.herm_good_images.proofs.blocks.LocatedInstructions.{IsOn, Located, on_entry, on_front, on_loop, on_turn, on_test, on_edge, located}
use Rattle.herm_good_images.proofs.blocks.LocatedInstructions as places

-- forms whose instruction is an action, or may be one
abbrev IsActing : Form → Type 0
IsActing (Form.New x) = Unit {0}
IsActing (Form.Send x o) = Unit {0}
IsActing (Form.Receive x i) = Unit {0}
IsActing (Form.Select arms) = Unit {0}
IsActing (Form.Call o atoms) = Unit {0}
IsActing (Form.Return m) = Unit {0}
IsActing (Form.ReturnBy m e) = Unit {0}
IsActing (Form.Create o n) = Unit {0}
IsActing form = ⊥

acting-plain : (form : Form) → IsActing form → IsNoFor form
acting-plain (Form.For r t) h = h
acting-plain form h = tt

-- where no label is found none is listed
listed-some : (ls : List ListedLabel) (n : ℕ) → IsIn n (map (λ (l : ListedLabel). l.index) ls) → listed_at ls n ≡ None → ⊥
listed-some [] n m e = m
listed-some (l ∷ ls) n m e = by (nat_eq l.index n) refl m e (listed-some ls n)
  where
    by : (b : Bool) → nat_eq l.index n ≡ b → IsIn n (map (λ (l : ListedLabel). l.index) (l ∷ ls)) → option_map (λ (l : ListedLabel). l.label) (cond b (Some l) (find (λ (l : ListedLabel). nat_eq l.index n) ls)) ≡ None
        → (IsIn n (map (λ (l : ListedLabel). l.index) ls) → listed_at ls n ≡ None → ⊥) → ⊥
    by true q m e again = none-not_some (sym e)
    by false q (inl s) e again = absurd (true≢false (sym (eq-eqb l.index n (sym s)) ∙ q))
    by false q (inr k) e again = again k e

module _ (types : TypeTable) (variables : List ℕ) (constants : List Literal) where
  abbrev IsNoAction : Instruction → Type 0
  IsNoAction i = is_action types i ≡ false

  abbrev IsOperand : Instruction → Type 0
  IsOperand i = is_operand i ≡ true

  among-last : (before : List Instruction) (last : Instruction) → ((i : Instruction) → IsIn i before → IsNoAction i) → IsNoAction last → (i : Instruction) → IsIn i (before ++ last ∷ []) → IsNoAction i
  among-last before last h k i m = by (in-append_cases i before (last ∷ []) m)
    where
      by : IsIn i before ⊎ IsIn i (last ∷ []) → IsNoAction i
      by (inl a) = h i a
      by (inr (inl e)) = subst IsNoAction (sym e) k
      by (inr (inr a)) = absurd a

  one-only : (last : Instruction) → IsNoAction last → (i : Instruction) → IsIn i (last ∷ []) → IsNoAction i
  one-only last k i (inl e) = subst IsNoAction (sym e) k
  one-only last k i (inr a) = absurd a

  value-only : (e : Expression) (i : Instruction) → IsIn i (expression_code constants e) → IsNoAction i
  value-only e = expression-each constants IsNoAction (λ k. refl) (λ p. refl) (λ p. refl) (λ o. refl) (λ o. refl) e

  module _ (facts : List Fact) (number here : ℕ) (exit_at : Outcome → ℕ) where
    abbrev the_front : Form → List Instruction
    the_front form = front types variables constants facts number here exit_at form

    -- an action stands in the front of such a form alone
    action-form : (form : Form) → IsNoFor form → (i : Instruction) → IsIn i (the_front form) → IsTrue (is_action types i) → IsActing form
    action-form (Form.New x) plain i m a = tt
    action-form (Form.Send x o) plain i m a = tt
    action-form (Form.Receive x p) plain i m a = tt
    action-form (Form.Select arms) plain i m a = tt
    action-form (Form.Call o atoms) plain i m a = tt
    action-form (Form.Return p) plain i m a = tt
    action-form (Form.ReturnBy p e) plain i m a = tt
    action-form (Form.Create o n) plain i m a = tt
    action-form (Form.For r t) plain i m a = absurd plain
    action-form (Form.Assign x e) plain i m a = absurd (true≢false (sym a ∙ among-last (expression_code constants e) (Instruction.Store x) (value-only e) refl i m))
    action-form (Form.If e) plain i m a = absurd (true≢false (sym a ∙ among-last (expression_code constants e) (Instruction.JumpFalse (exit_at Outcome.is_false)) (value-only e) refl i m))
    action-form (Form.While e) plain i m a = absurd (true≢false (sym a ∙ among-last (expression_code constants e) (Instruction.JumpFalse (exit_at Outcome.is_false)) (value-only e) refl i m))
    action-form (Form.Remove r t keys) plain i m a = absurd (true≢false (sym a ∙ among-last (flat_map (atom_code constants) keys) (Instruction.Remove r t (length keys)) (atoms-each constants IsNoAction (λ k. refl) (λ p. refl) keys) refl i m))
    action-form (Form.Get r t keys) plain i m a = absurd (true≢false (sym a ∙ among-last (flat_map (atom_code constants) keys) (Instruction.Get r t (length keys)) (atoms-each constants IsNoAction (λ k. refl) (λ p. refl) keys) refl i m))
    action-form Form.Leave plain i m a = absurd m
    action-form (Form.Move y x) plain i m a = absurd (true≢false (sym a ∙ one-only (Instruction.Move y x) refl i m))
    action-form (Form.Discard x) plain i m a = absurd (true≢false (sym a ∙ one-only (Instruction.Discard x) refl i m))
    action-form (Form.Unite v c y) plain i m a = absurd (true≢false (sym a ∙ one-only (Instruction.Unite v c y) refl i m))
    action-form (Form.Dissolve v c y) plain i m a = absurd (true≢false (sym a ∙ one-only (Instruction.Dissolve v c y) refl i m))
    action-form (Form.Reveal v c) plain i m a = absurd (true≢false (sym a ∙ one-only (Instruction.Reveal v c) refl i m))
    action-form (Form.Case v cs) plain i m a = absurd (true≢false (sym a ∙ one-only _ refl i m))
    action-form (Form.Wrap y p) plain i m a = absurd (true≢false (sym a ∙ one-only _ refl i m))
    action-form (Form.Unwrap p t y) plain i m a = absurd (true≢false (sym a ∙ one-only (Instruction.Unwrap p t y) refl i m))
    action-form (Form.Insert r t) plain i m a = absurd (true≢false (sym a ∙ one-only (Instruction.Insert r t) refl i m))
    action-form (Form.Connect o p) plain i m a = absurd (true≢false (sym a ∙ one-only (Instruction.Connect o p) refl i m))
    action-form (Form.Raise e) plain i m a = absurd (true≢false (sym a ∙ one-only (Instruction.Raise e) refl i m))

    -- and before it stand operands
    before-action : (form : Form) → IsActing form → (k : ℕ) (i : Instruction) → suc k < length (the_front form) → slice_get (the_front form) k ≡ Some i → IsOperand i
    before-action (Form.Call o atoms) h k i low e =
        inputs-each constants IsOperand (λ k. refl) (λ p. refl) (call_parameters types variables o) atoms i (got-IsIn inputs k i (sym (get-left inputs (last ∷ []) k within) ∙ e))
      where
        inputs : List Instruction
        inputs = inputs_code constants (call_parameters types variables o) atoms

        last : Instruction
        last = Instruction.Call o (arguments_of (call_parameters types variables o) atoms) (call_raises types variables o)

        within : k < length inputs
        within = let j = length-joined inputs (last ∷ []) in omega (arith, low, j)
    before-action (Form.New x) h k i low e = absurd (omega (arith, low))
    before-action (Form.Send x o) h k i low e = absurd (omega (arith, low))
    before-action (Form.Receive x p) h k i low e = absurd (omega (arith, low))
    before-action (Form.Select arms) h k i low e = absurd (omega (arith, low))
    before-action (Form.Return p) h k i low e = absurd (omega (arith, low))
    before-action (Form.ReturnBy p x) h k i low e = absurd (omega (arith, low))
    before-action (Form.Create o n) h k i low e = absurd (omega (arith, low))
    before-action form h k i low e = absurd h

module _ (count : ℕ) (image : Image) (variables : List ℕ) (entry : Departure) (blocks : List CodeBlock) (processes : List Process) (formed : IsWellFormedTable count image.types) (complete : AreComplete image.types variables entry blocks)
    (typed : (i : ℕ) (b : CodeBlock) → slice_get blocks i ≡ Some b → IsTypedBlock image.types variables image.constants count processes b) where
  abbrev m : CodeModule
  m = places.m count image variables entry blocks

  abbrev st : ℕ → ℕ
  st n = places.st count image variables entry blocks n

  abbrev ps : List Place
  ps = module_places count image m

  code-at : (p : Place) → IsIn p ps → slice_get m.code p.index ≡ Some p.instruction
  code-at p member = (places-are_instructions count image m p member).0

  -- the instruction at the step of a block, and so far in its front
  at-step : (p : Place) (i : ℕ) (b : CodeBlock) → IsIn p ps → slice_get blocks i ≡ Some b → p.index ≡ st i → p.instruction ≡ Step
  at-step p i b member at-i e = some-injective (sym (code-at p member) ∙ ap (slice_get m.code) e ∙ code-block image.types variables image.constants entry blocks (st i) i 0 b (at-i, omega arith, omega arith))

  in-front : (p : Place) (i k : ℕ) (b : CodeBlock) → IsIn p ps → slice_get blocks i ≡ Some b → k < front_length image.types variables image.constants b.form → p.index ≡ st i + (1 + k) → slice_get (places.the_front count image variables entry blocks i b) k ≡ Some p.instruction
  in-front p i k b member at-i low e =
      let l = front-long image.types variables image.constants b.facts b.statement (st i + 1) (places.exit count image variables entry blocks i b) b.form in
      sym (sym (code-at p member) ∙ ap (slice_get m.code) e ∙ code-block image.types variables image.constants entry blocks (st i + (1 + k)) i (1 + k) b (at-i, omega (arith, low), refl)
      ∙ get-right (Step ∷ []) (places.the_front count image variables entry blocks i b ++ flat_map (edge_code st) b.departures) (1 + k) k (omega arith)
      ∙ get-left (places.the_front count image variables entry blocks i b) (flat_map (edge_code st) b.departures) k (omega (arith, low, l)))

  no-target : (n i k : ℕ) (b : CodeBlock) → slice_get blocks i ≡ Some b → IsActing b.form → k < front_length image.types variables image.constants b.form → n ≡ st i + (1 + k) → IsIn n (targets ps) → ⊥
  no-target n i k b at-i acting low e target =
      listed-some m.labels n ((complete-listed count image variables entry blocks complete n).1 target)
      ((blocks-labelled image.types variables image.constants entry blocks).within n i (1 + k) b (at-i, omega (arith, low), e) (omega arith) (omega (arith, low))
      ∙ ap (λ ls. listed_at ls n) (within-none image.types variables (st i) (comes_again blocks i) b b.form (acting-plain b.form acting)))

  operand-no_other : (i : Instruction) → is_operand i ≡ true → IsTrue (is_other image.types i) → ⊥
  operand-no_other i e h = true≢false (sym h ∙ ap (λ b. not (is_step i || (is_action image.types i || b))) e ∙ by (is_step i) (is_action image.types i))
    where
      by : (a b : Bool) → not (a || (b || true)) ≡ false
      by true b = refl
      by false true = refl
      by false false = refl

  -- control comes into the front of such a form past operands alone
  into-front : (alone : Bool) (n : ℕ) → ComesFromStep image.types ps alone n → (i k : ℕ) (b : CodeBlock) → slice_get blocks i ≡ Some b → IsActing b.form → k < front_length image.types variables image.constants b.form → n ≡ st i + (1 + k) → alone ≡ true
  into-front _ _ (from_step p member step) i k b at-i acting low e = refl
  into-front _ _ (past_operand p alone member operand comes) i zero b at-i acting low e =
      let is = at-step p i b member at-i (omega (arith, e)) in absurd (true≢false (sym operand ∙ ap is_operand is))
  into-front _ _ (past_operand p alone member operand comes) i (suc k) b at-i acting low e = into-front alone p.index comes i k b at-i acting (omega (arith, low)) (omega (arith, e))
  into-front _ _ (past_other p alone w member other comes way) i k b at-i acting low e = by (in-append_cases w (map (λ o. record { outcome = o; index = suc p.index }) (list_of (λ o. o ∷ []) (goes_on p.instruction))) (named_ways p) way)
    where
      next : (o : Option Outcome) → IsIn w (map (λ o. record { outcome = o; index = suc p.index }) (list_of (λ o. o ∷ []) o)) → w.index ≡ suc p.index
      next None h = absurd h
      next (Some o) (inl q) = ap (λ (w : Way). w.index) q
      next (Some o) (inr h) = absurd h

      onward : (k : ℕ) → k < front_length image.types variables image.constants b.form → suc p.index ≡ st i + (1 + k) → false ≡ true
      onward zero low q = let is = at-step p i b member at-i (omega (arith, q)) in absurd (true≢false (sym other ∙ ap (is_other image.types) is))
      onward (suc k) low q =
          let l = front-long image.types variables image.constants b.facts b.statement (st i + 1) (places.exit count image variables entry blocks i b) b.form in
          absurd (operand-no_other p.instruction (before-action image.types variables image.constants b.facts b.statement (st i + 1) (places.exit count image variables entry blocks i b) b.form acting k p.instruction (omega (arith, low, l)) (in-front p i k b member at-i (omega (arith, low)) (omega (arith, q)))) other)

      by : IsIn w (map (λ o. record { outcome = o; index = suc p.index }) (list_of (λ o. o ∷ []) (goes_on p.instruction))) ⊎ IsIn w (named_ways p) → false ≡ true
      by (inl a) = onward k low (sym (next (goes_on p.instruction) a) ∙ e)
      by (inr a) = absurd (no-target w.index i k b at-i acting low e (in-flat_map (λ (p : Place). map (λ (w : Way). w.index) (named_ways p)) p w.index ps member (in-map (λ (w : Way). w.index) w (named_ways p) a)))

  -- an edge has no action
  edge-quiet : (d : Departure) (i : Instruction) → IsIn i (edge_code st d) → is_action image.types i ≡ false
  edge-quiet d i h = by (in-append_cases i (map Drop d.drops) _ h)
    where
      arrival : (a : Arrival) → is_action image.types (arrive_by st a) ≡ false
      arrival (to_block n) = refl
      arrival (to_second_step n) = refl
      arrival to_end = refl
      arrival (to_end_by e) = refl

      last : IsIn i (map LoopDrop d.slots) ⊎ IsIn i (arrive_by st d.arrival ∷ []) → is_action image.types i ≡ false
      last (inl a) = ap (is_action image.types) (in-map_from LoopDrop i d.slots a).2
      last (inr (inl e)) = ap (is_action image.types) e ∙ arrival d.arrival
      last (inr (inr b)) = absurd b

      by : IsIn i (map Drop d.drops) ⊎ IsIn i (map LoopDrop d.slots ++ arrive_by st d.arrival ∷ []) → is_action image.types i ≡ false
      by (inl a) = ap (is_action image.types) (in-map_from Drop i d.drops a).2
      by (inr b) = last (in-append_cases i (map LoopDrop d.slots) _ b)

  pub acts-at_once : (p : Place) → IsIn p ps → ActsAtOnce image.types ps p
  acts-at_once p member action comes = by (located count image variables entry blocks processes formed complete.reached typed p member)
    where
      none : is_action image.types p.instruction ≡ false → ⊥
      none e = true≢false (sym action ∙ e)

      front-part : (i : ℕ) (b : CodeBlock) → slice_get blocks i ≡ Some b → IsNoFor b.form → (k : ℕ) → slice_get (Step ∷ places.the_front count image variables entry blocks i b) k ≡ Some p.instruction → p.index ≡ st i + k → ⊥
      front-part i b at-i plain zero e q = none (ap (is_action image.types) (some-injective (sym e)))
      front-part i b at-i plain (suc k) e q =
          let l = front-long image.types variables image.constants b.facts b.statement (st i + 1) (places.exit count image variables entry blocks i b) b.form in
          let w = got-within (places.the_front count image variables entry blocks i b) k p.instruction e in
          let acting = action-form image.types variables image.constants b.facts b.statement (st i + 1) (places.exit count image variables entry blocks i b) b.form plain p.instruction (got-IsIn (places.the_front count image variables entry blocks i b) k p.instruction e) action in
          true≢false (sym (into-front false p.index comes i k b at-i acting (omega (arith, w, l)) (omega (arith, q))))

      loop-part : (i : ℕ) (b : CodeBlock) (r t : Path) (k : ℕ) → slice_get (places.first_row count image variables entry blocks i b r t) k ≡ Some p.instruction → ⊥
      loop-part i b r t zero e = none (ap (is_action image.types) (some-injective (sym e)))
      loop-part i b r t (suc zero) e = none (ap (is_action image.types) (some-injective (sym e)))
      loop-part i b r t (suc (suc zero)) e = none (ap (is_action image.types) (some-injective (sym e)))
      loop-part i b r t (suc (suc (suc k))) e = none-not_some e

      test-part : (i : ℕ) (b : CodeBlock) (r t : Path) (k : ℕ) → slice_get (places.test_row count image variables entry blocks i b r t) k ≡ Some p.instruction → ⊥
      test-part i b r t zero e = none (ap (is_action image.types) (some-injective (sym e)))
      test-part i b r t (suc k) e = none-not_some e

      by : Located count image variables entry blocks p → ⊥
      by (on_entry on) = none (edge-quiet entry p.instruction (got-IsIn (edge_code st entry) on.far p.instruction on.there))
      by (on_edge i j b d at-i at-j on) = none (edge-quiet d p.instruction (got-IsIn (edge_code st d) on.far p.instruction on.there))
      by (on_front i b at-i plain on) = front-part i b at-i plain on.far on.there on.index
      by (on_loop i b r t at-i on) = loop-part i b r t on.far on.there
      by (on_turn i b r t at-i at step lands label) = none (ap (is_action image.types) step)
      by (on_test i b r t at-i on) = test-part i b r t on.far on.there
