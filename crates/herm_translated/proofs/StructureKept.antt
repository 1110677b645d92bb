-- Laid out code keeps the rules of good code that look at no facts.
use Rattle.std.proofs.Common.{◌≡◌, ℕ, zero, suc, ◌+◌, ◌<◌, ◌≤◌, length, List, [], ◌∷◌, ◌++◌, map, flat_map, Bool, true, cond, Option, Some, None, option_map, slice_get, ◌⊎◌, inl, inr, refl, sym, ap, subst, ◌∙◌, arith}
use Rattle.herm_model.specs.Lists.{IsIn, any_pass, map_or, list_of, range}
use Rattle.herm_model.specs.Paths.{Path, Fact}
use Rattle.herm_model.specs.Statements.{Form, Differ}
use Rattle.herm_model.specs.Calls.{call_parameters, call_raises, shape_at, raises_of, kept_for}
use Rattle.herm_model.specs.Outcomes.{Outcome}
use Rattle.herm_model.specs.Outcomes
use Rattle.herm_model.specs.Facts.{component_count}
use Rattle.std.proofs.lemmas.Bool.{eq-eqb}
use Rattle.herm_model.proofs.Options.{some-injective}
use Rattle.herm_model.proofs.Lists.{in-append_cases, in-map_from, or-left, or-right}
use Rattle.herm_model.proofs.FactTests.{got-IsIn}
use Rattle.herm_instructions.specs.Instructions.{Instruction, Step, JumpFalse, Remove, Get, Call, Drop, LoopDrop}
use Rattle.herm_instructions.specs.Labels.{Label, listed_at}
use Rattle.herm_instructions.specs.Images.{Landing, CodeModule, Image}
use Rattle.herm_instructions.specs.Effects.{exceptions_of}
use Rattle.herm_instructions.specs.Places.{Way, jumps, landing_ways, Place, named_ways}
use Rattle.herm_instructions.specs.GoodCode.{HasLandings, KeepsAsDeclared, module_places}
use Rattle.herm_instructions.specs.laws.LabelLaws.{IsPlaceAt}
use Rattle.herm_instructions.proofs.LabelsOfCode.{places-are_instructions}
use Rattle.herm_translated.specs.Fronts.{expression_code, atom_code, inputs_code, arguments_of, choices_from, type_of, trimmed, front, front_length}
use Rattle.herm_translated.specs.Departures.{Arrival, to_block, to_second_step, to_end, to_end_by, Departure, second_step, arrive_by, edge_code, edge_length}
use Rattle.herm_translated.specs.CodeBlocks.{CodeBlock}
use Rattle.herm_translated.specs.Layout.{landings_by, edges_at, exit_of, block_code}
use Rattle.herm_translated.specs.BlockLabels.{label_with, listed_with, goes_to_first, comes_first, comes_again, goes_to_second, edge_slots, labels_within}
use Rattle.herm_translated.specs.laws.LayoutLaws.{start, IsInBlock}
use Rattle.herm_translated.specs.laws.GoodStructure.{AreLinked, code_module, HasGoodStructure, LinkedBlocksAreStructured}
use Rattle.herm_translated.proofs.Joined.{get-left, get-right, place-in, got-within}
use Rattle.herm_translated.proofs.Lengths.{front-long}
use Rattle.herm_translated.proofs.Addresses.{edge-behind, code-block, laid-out}
use Rattle.herm_translated.proofs.ListedLabels.{listed-here}
use Rattle.herm_translated.proofs.LabelsStand.{blocks-labelled}
use Rattle.herm_translated.proofs.FrontWays.{LeadsToExit, JumpsWithin, front-ways}
use Rattle.herm_translated.proofs.EachInstruction.{atoms-each, inputs-each, expression-each, each-Differ}

-- an instruction of edges drops, or is the last one of an edge
abbrev pub IsOfEdges : (start : ℕ → ℕ) → List Departure → Instruction → Type 0
IsOfEdges start ds i = ((p : Path) × (i ≡ Drop p)) ⊎ (((s : ℕ) × (i ≡ LoopDrop s)) ⊎ ((d : Departure) × IsIn d ds × (i ≡ arrive_by start d.arrival)))

edge-of : (start : ℕ → ℕ) (ds : List Departure) (d : Departure) → IsIn d ds → (i : Instruction) → IsIn i (edge_code start d) → IsOfEdges start ds i
edge-of start ds d m i h = by (in-append_cases i (map Drop d.drops) _ h)
  where
    last : IsIn i (map LoopDrop d.slots) ⊎ IsIn i (arrive_by start d.arrival ∷ []) → IsOfEdges start ds i
    last (inl a) = let r = in-map_from LoopDrop i d.slots a in inr (inl (r.0, r.2))
    last (inr (inl e)) = inr (inr (d, m, e))
    last (inr (inr b)) = absurd b

    by : IsIn i (map Drop d.drops) ⊎ IsIn i (map LoopDrop d.slots ++ arrive_by start d.arrival ∷ []) → IsOfEdges start ds i
    by (inl a) = let r = in-map_from Drop i d.drops a in inl (r.0, r.2)
    by (inr b) = last (in-append_cases i (map LoopDrop d.slots) _ b)

edges-of : (start : ℕ → ℕ) (all ds : List Departure) → ((d : Departure) → IsIn d ds → IsIn d all) → (i : Instruction) → IsIn i (flat_map (edge_code start) ds) → IsOfEdges start all i
edges-of start all [] h i m = absurd m
edges-of start all (d ∷ ds) h i m = by (in-append_cases i (edge_code start d) _ m) (edges-of start all ds (λ e k. h e (inr k)) i)
  where
    by : IsIn i (edge_code start d) ⊎ IsIn i (flat_map (edge_code start) ds) → (IsIn i (flat_map (edge_code start) ds) → IsOfEdges start all i) → IsOfEdges start all i
    by (inl a) again = edge-of start all d (h d (inl refl)) i a
    by (inr b) again = again b

module _ (count : ℕ) (image : Image) (variables : List ℕ) (entry : Departure) (blocks : List CodeBlock) where
  abbrev pub m : CodeModule
  m = code_module count image variables entry blocks

  abbrev pub st : ℕ → ℕ
  st n = start image.types variables image.constants entry blocks n

  abbrev pub exit : ℕ → CodeBlock → Outcome → ℕ
  exit i b o = exit_of image.types variables image.constants (st i) b o

  abbrev pub lands : (Outcome → ℕ) → Instruction → List Landing
  lands exit_at i = landings_by image.types variables exit_at i

  abbrev pub the_front : ℕ → CodeBlock → List Instruction
  the_front i b = front image.types variables image.constants b.facts b.statement (st i + 1) (exit i b) b.form

  -- Where an instruction of the module stands: on the edge to where the process begins; at the step of a block; so far behind it in its front; or on one of its edges.
  pub data Stands (p : Place) : Type 0 where
    on_entry : IsOfEdges st (entry ∷ []) p.instruction → p.landings ≡ lands (λ o. 0) p.instruction → Stands p
    at_step : (i : ℕ) (b : CodeBlock) → slice_get blocks i ≡ Some b → p.instruction ≡ Step → p.landings ≡ lands (exit i b) p.instruction → Stands p
    in_front : (i k : ℕ) (b : CodeBlock) → slice_get blocks i ≡ Some b → k < front_length image.types variables image.constants b.form → p.index ≡ st i + (1 + k) → slice_get (the_front i b) k ≡ Some p.instruction → p.landings ≡ lands (exit i b) p.instruction → Stands p
    on_edges : (i : ℕ) (b : CodeBlock) → slice_get blocks i ≡ Some b → IsOfEdges st b.departures p.instruction → p.landings ≡ lands (exit i b) p.instruction → Stands p

  mapped-at : {X Y : Type 0} (f : X → List Y) (o : Option X) (x : X) → o ≡ Some x → list_of (λ ys. ys) (option_map f o) ≡ f x
  mapped-at f o x e = ap (λ o. list_of (λ ys. ys) (option_map f o)) e

  pub stands : (p : Place) → IsIn p (module_places count image m) → Stands p
  stands p member = by ((laid-out image.types variables image.constants entry blocks).nothing_else p.index (got-within m.code p.index p.instruction there))
    where
      at : (slice_get m.code p.index ≡ Some p.instruction) × IsPlaceAt image m p.index p.instruction p
      at = places-are_instructions count image m p member

      there : slice_get m.code p.index ≡ Some p.instruction
      there = at.0

      landed : p.landings ≡ list_of (λ ls. ls) (slice_get m.landings p.index)
      landed = (at.1).landings

      in_block : (i k : ℕ) (b : CodeBlock) → IsInBlock image.types variables image.constants entry blocks p.index i k b → Stands p
      in_block i k b h = split k (h.2) code land
        where
          code : slice_get (block_code image.types variables image.constants st (st i) b) k ≡ Some p.instruction
          code = sym (code-block image.types variables image.constants entry blocks p.index i k b h) ∙ there

          land : p.landings ≡ lands (exit i b) p.instruction
          land = landed ∙ ap (list_of (λ ls. ls)) ((laid-out image.types variables image.constants entry blocks).landings_behind p.index i k b h)
              ∙ mapped-at (lands (exit i b)) (slice_get (block_code image.types variables image.constants st (st i) b) k) p.instruction code

          split : (k : ℕ) → p.index ≡ st i + k → slice_get (block_code image.types variables image.constants st (st i) b) k ≡ Some p.instruction → p.landings ≡ lands (exit i b) p.instruction → Stands p
          split zero e code land = at_step i b h.0 (sym (some-injective code)) land
          split (suc k) e code land = sides (place-in k (front_length image.types variables image.constants b.form) (suc k) (omega arith))
            where
              f : length (the_front i b) ≡ front_length image.types variables image.constants b.form
              f = front-long image.types variables image.constants b.facts b.statement (st i + 1) (exit i b) b.form

              sides : (k < front_length image.types variables image.constants b.form) ⊎ ((z : ℕ) × (k ≡ front_length image.types variables image.constants b.form + z) × (z < suc k)) → Stands p
              sides (inl x) = in_front i k b h.0 x (omega (arith, e)) (sym (get-left (the_front i b) (flat_map (edge_code st) b.departures) k (let l = f in omega (arith, x, l))) ∙ code) land
              sides (inr z) = on_edges i b h.0 (edges-of st b.departures b.departures (λ d k. k) p.instruction (got-IsIn (flat_map (edge_code st) b.departures) z.0 p.instruction
                  (sym (get-right (the_front i b) (flat_map (edge_code st) b.departures) k z.0 (let l = f in let q = z.1 in omega (arith, l, q))) ∙ code))) land

      by : (p.index < edge_length entry) ⊎ ((i k : ℕ) × (b : CodeBlock) × IsInBlock image.types variables image.constants entry blocks p.index i k b) → Stands p
      by (inl x) =
          let code : slice_get (edge_code st entry) p.index ≡ Some p.instruction = sym ((laid-out image.types variables image.constants entry blocks).entry_first p.index x) ∙ there in
          on_entry (edge-of st (entry ∷ []) entry (inl refl) p.instruction (got-IsIn (edge_code st entry) p.index p.instruction code))
          (landed ∙ ap (list_of (λ ls. ls)) ((laid-out image.types variables image.constants entry blocks).entry_lands p.index x) ∙ mapped-at (lands (λ o. 0)) (slice_get (edge_code st entry) p.index) p.instruction code)
      by (inr h) = in_block h.0 h.1 h.2 h.3

  -- some landings of the instruction
  landed-somewhere : (p : Place) → Stands p → (exit_at : Outcome → ℕ) × (p.landings ≡ lands exit_at p.instruction)
  landed-somewhere p (on_entry h e) = ((λ o. 0), e)
  landed-somewhere p (at_step i b at-i s e) = (exit i b, e)
  landed-somewhere p (in_front i k b at-i low at code e) = (exit i b, e)
  landed-somewhere p (on_edges i b at-i h e) = (exit i b, e)

  landed-exceptions : (exit_at : Outcome → ℕ) (es : List ℕ) → map (λ (l : Landing). l.exception) (map (λ e. record { exception = e; index = exit_at (Outcomes.raised e) }) es) ≡ es
  landed-exceptions exit_at [] = refl
  landed-exceptions exit_at (e ∷ es) = ap (e ∷◌) (landed-exceptions exit_at es)

  has-landings : (p : Place) → IsIn p (module_places count image m) → HasLandings (exceptions_of image.types variables p.instruction) (map (λ (l : Landing). l.exception) p.landings)
  has-landings p member =
      let l = landed-somewhere p (stands p member) in
      let same : map (λ (l : Landing). l.exception) p.landings ≡ exceptions_of image.types variables p.instruction = ap (map (λ (l : Landing). l.exception)) l.1 ∙ landed-exceptions l.0 (exceptions_of image.types variables p.instruction) in
      (subst Differ (sym same) (each-Differ image.types variables p.instruction), λ e. (subst (IsIn e) same, subst (IsIn e) (sym same)))

  -- what calls and returns keep
  abbrev Keeps : Instruction → Type 0
  Keeps i = KeepsAsDeclared image.types variables i

  keeps-behind : (before : List Instruction) (last : Instruction) → ((i : Instruction) → IsIn i before → Keeps i) → Keeps last → (i : Instruction) → IsIn i (before ++ last ∷ []) → Keeps i
  keeps-behind before last h k i member = by (in-append_cases i before (last ∷ []) member)
    where
      by : IsIn i before ⊎ IsIn i (last ∷ []) → Keeps i
      by (inl a) = h i a
      by (inr (inl e)) = subst Keeps (sym e) k
      by (inr (inr a)) = absurd a

  keeps-one : (last : Instruction) → Keeps last → (i : Instruction) → IsIn i (last ∷ []) → Keeps i
  keeps-one last k i (inl e) = subst Keeps (sym e) k
  keeps-one last k i (inr a) = absurd a

  front-keeps : (facts : List Fact) (number here : ℕ) (exit_at : Outcome → ℕ) (form : Form) (i : Instruction) → IsIn i (front image.types variables image.constants facts number here exit_at form) → Keeps i
  front-keeps facts number here exit_at (Form.Assign x e) i h = keeps-behind (expression_code image.constants e) _ (expression-each image.constants Keeps (λ k. tt) (λ p. tt) (λ p. tt) (λ o. tt) (λ o. tt) e) tt i h
  front-keeps facts number here exit_at (Form.If e) i h = keeps-behind (expression_code image.constants e) (JumpFalse (exit_at Outcomes.is_false)) (expression-each image.constants Keeps (λ k. tt) (λ p. tt) (λ p. tt) (λ o. tt) (λ o. tt) e) tt i h
  front-keeps facts number here exit_at (Form.While e) i h = keeps-behind (expression_code image.constants e) (JumpFalse (exit_at Outcomes.is_false)) (expression-each image.constants Keeps (λ k. tt) (λ p. tt) (λ p. tt) (λ o. tt) (λ o. tt) e) tt i h
  front-keeps facts number here exit_at (Form.Remove r t keys) i h = keeps-behind (flat_map (atom_code image.constants) keys) (Remove r t (length keys)) (atoms-each image.constants Keeps (λ k. tt) (λ p. tt) keys) tt i h
  front-keeps facts number here exit_at (Form.Get r t keys) i h = keeps-behind (flat_map (atom_code image.constants) keys) (Get r t (length keys)) (atoms-each image.constants Keeps (λ k. tt) (λ p. tt) keys) tt i h
  front-keeps facts number here exit_at (Form.Call o atoms) i h =
      keeps-behind (inputs_code image.constants (call_parameters image.types variables o) atoms) (Call o (arguments_of (call_parameters image.types variables o) atoms) (call_raises image.types variables o))
      (inputs-each image.constants Keeps (λ k. tt) (λ p. tt) (call_parameters image.types variables o) atoms) refl i h
  front-keeps facts number here exit_at (Form.For r t) i (inl e) = subst Keeps (sym e) tt
  front-keeps facts number here exit_at (Form.For r t) i (inr (inl e)) = subst Keeps (sym e) tt
  front-keeps facts number here exit_at (Form.For r t) i (inr (inr (inl e))) = subst Keeps (sym e) tt
  front-keeps facts number here exit_at (Form.For r t) i (inr (inr (inr (inl e)))) = subst Keeps (sym e) tt
  front-keeps facts number here exit_at (Form.For r t) i (inr (inr (inr (inr h)))) = absurd h
  front-keeps facts number here exit_at Form.Leave i h = absurd h
  front-keeps facts number here exit_at (Form.Move y x) i h = keeps-one (Instruction.Move y x) tt i h
  front-keeps facts number here exit_at (Form.New x) i h = keeps-one (Instruction.New x (type_of image.types variables x)) tt i h
  front-keeps facts number here exit_at (Form.Discard x) i h = keeps-one (Instruction.Discard x) tt i h
  front-keeps facts number here exit_at (Form.Unite v c y) i h = keeps-one (Instruction.Unite v c y) tt i h
  front-keeps facts number here exit_at (Form.Dissolve v c y) i h = keeps-one (Instruction.Dissolve v c y) tt i h
  front-keeps facts number here exit_at (Form.Reveal v c) i h = keeps-one (Instruction.Reveal v c) tt i h
  front-keeps facts number here exit_at (Form.Wrap y q) i h = keeps-one (Instruction.Wrap y (type_of image.types variables y) q) tt i h
  front-keeps facts number here exit_at (Form.Unwrap q t y) i h = keeps-one (Instruction.Unwrap q t y) tt i h
  front-keeps facts number here exit_at (Form.Insert r t) i h = keeps-one (Instruction.Insert r t) tt i h
  front-keeps facts number here exit_at (Form.Connect o q) i h = keeps-one (Instruction.Connect o q) tt i h
  front-keeps facts number here exit_at (Form.Send x o) i h = keeps-one (Instruction.Send x o (trimmed image.types variables facts x o)) tt i h
  front-keeps facts number here exit_at (Form.Receive x q) i h = keeps-one (Instruction.Receive x q) tt i h
  front-keeps facts number here exit_at (Form.Select arms) i h = keeps-one (Instruction.Select (choices_from exit_at 0 arms)) tt i h
  front-keeps facts number here exit_at (Form.Return q) i h = keeps-one (Instruction.Return q) tt i h
  front-keeps facts number here exit_at (Form.Create o n) i h = keeps-one (Instruction.Create o n) tt i h
  front-keeps facts number here exit_at (Form.Raise e) i h = keeps-one (Instruction.Raise e) tt i h
  front-keeps facts number here exit_at (Form.Case v components) i h = keeps-one (Instruction.CaseOf v (map (λ c. exit_at (Outcomes.component c)) (range 0 (map_or 0 component_count (shape_at image.types variables v))))) tt i h
  front-keeps facts number here exit_at (Form.ReturnBy q e) i h = keeps-one (Instruction.ReturnBy q e (kept_for (list_of raises_of (shape_at image.types variables q)) e)) refl i h

  edge-keeps : (ds : List Departure) (i : Instruction) → IsOfEdges st ds i → Keeps i
  edge-keeps ds i (inl h) = subst Keeps (sym h.1) tt
  edge-keeps ds i (inr (inl h)) = subst Keeps (sym h.1) tt
  edge-keeps ds i (inr (inr h)) = subst Keeps (sym h.2) (by h.0.arrival)
    where
      by : (a : Arrival) → Keeps (arrive_by st a)
      by (to_block n) = tt
      by (to_second_step n) = tt
      by to_end = tt
      by (to_end_by e) = tt

  each-keeps : (p : Place) → Stands p → Keeps p.instruction
  each-keeps p (on_entry h e) = edge-keeps (entry ∷ []) p.instruction h
  each-keeps p (at_step i b at-i s e) = subst Keeps (sym s) tt
  each-keeps p (in_front i k b at-i low at code e) = front-keeps b.facts b.statement (st i + 1) (exit i b) b.form p.instruction (got-IsIn (the_front i b) k p.instruction code)
  each-keeps p (on_edges i b at-i h e) = edge-keeps b.departures p.instruction h

  -- where edges lead
  abbrev pub LeadsOn : List Departure → Way → Type 0
  LeadsOn ds w = (d : Departure) × (n : ℕ) × IsIn d ds × (((d.arrival ≡ to_block n) × (w.index ≡ st n)) ⊎ ((d.arrival ≡ to_second_step n) × (w.index ≡ st n + second_step)))

  abbrev named_by : (exit_at : Outcome → ℕ) → Instruction → List Way
  named_by exit_at i = jumps i ++ landing_ways (lands exit_at i)

  none-named : {A : Type 0} (exit_at : Outcome → ℕ) (i j : Instruction) → i ≡ j → named_by exit_at j ≡ [] → (w : Way) → IsIn w (named_by exit_at i) → A
  none-named exit_at i j e none w h = let k : IsIn w [] = subst (IsIn w) (ap (named_by exit_at) e ∙ none) h in absurd k

  pub edge-leads : (exit_at : Outcome → ℕ) (ds : List Departure) (i : Instruction) → IsOfEdges st ds i → (w : Way) → IsIn w (named_by exit_at i) → LeadsOn ds w
  edge-leads exit_at ds i (inl h) w k = none-named exit_at i (Drop h.0) h.1 refl w k
  edge-leads exit_at ds i (inr (inl h)) w k = none-named exit_at i (LoopDrop h.0) h.1 refl w k
  edge-leads exit_at ds i (inr (inr h)) w k = by h.0.arrival refl (subst (λ j. IsIn w (named_by exit_at j)) h.2 k)
    where
      by : (a : Arrival) → h.0.arrival ≡ a → IsIn w (named_by exit_at (arrive_by st a)) → LeadsOn ds w
      by (to_block n) e (inl x) = (h.0, n, h.1, inl (e, ap (λ (w : Way). w.index) x))
      by (to_block n) e (inr x) = absurd x
      by (to_second_step n) e (inl x) = (h.0, n, h.1, inr (e, ap (λ (w : Way). w.index) x))
      by (to_second_step n) e (inr x) = absurd x
      by to_end e x = absurd x
      by (to_end_by c) e x = absurd x

  -- a step that is listed with the empty stack
  abbrev pub IsListedStep : ℕ → Type 0
  IsListedStep n = (l : Label) × (slice_get m.code n ≡ Some Step) × (listed_at m.labels n ≡ Some l) × (l.stack ≡ [])

  pub first-step : (n : ℕ) (c : CodeBlock) → comes_first entry blocks n ≡ true → slice_get blocks n ≡ Some c → IsListedStep (st n)
  first-step n c led at-n = (
    label_with c.facts c.slots,
    code-block image.types variables image.constants entry blocks (st n) n 0 c (at-n, omega arith, omega arith),
    (blocks-labelled image.types variables image.constants entry blocks).first n c at-n ∙ ap (λ b. cond b (Some (label_with c.facts c.slots)) None) led,
    refl,
  )

  pub any-in : {X : Type 0} (test : X → Bool) (x : X) (xs : List X) → IsIn x xs → test x ≡ true → any_pass test xs ≡ true
  any-in test x [] h e = absurd h
  any-in test x (y ∷ ys) (inl k) e = or-left (test y) _ (sym (ap test k) ∙ e)
  any-in test x (y ∷ ys) (inr k) e = or-right (test y) _ (any-in test x ys k e)

  second-there : (n : ℕ) (c : CodeBlock) (r t : Path) → comes_again blocks n ≡ true → slice_get blocks n ≡ Some (record c { form = Form.For r t }) → IsListedStep (st n + second_step)
  second-there n c r t again at-n = (
    label_with c.facts (edge_slots image.types variables (record c { form = Form.For r t })),
    code-block image.types variables image.constants entry blocks (st n + second_step) n 3 (record c { form = Form.For r t }) (at-n, omega arith, refl),
    (blocks-labelled image.types variables image.constants entry blocks).within (st n + second_step) n 3 (record c { form = Form.For r t }) (at-n, omega arith, refl) (omega arith) (omega arith)
        ∙ ap (λ b. listed_at (labels_within image.types variables (st n) b (record c { form = Form.For r t }) (Form.For r t)) (st n + second_step)) again
        ∙ listed-here (listed_with (st n + second_step) c.facts (edge_slots image.types variables (record c { form = Form.For r t }))) (listed_with (st n + (second_step + 1)) c.facts (edge_slots image.types variables (record c { form = Form.For r t })) ∷ []) (st n + second_step) refl,
    refl,
  )

  pub second-listed : (n : ℕ) (c : CodeBlock) (r t : Path) → comes_again blocks n ≡ true → slice_get blocks n ≡ Some c → c.form ≡ Form.For r t → IsListedStep (st n + second_step)
  second-listed n c r t again at-n e = second-there n c r t again (at-n ∙ ap (λ f. Some (record c { form = f })) e)

  pub within-later : (exit_at : Outcome → ℕ) (facts : List Fact) (number here k : ℕ) (form : Form) (w : Way) → JumpsWithin image.types variables image.constants exit_at facts number here k form w → (k ≡ 1) × (w.index ≡ here + 3)
  within-later exit_at facts number here k (Form.For r t) w h = h
  within-later exit_at facts number here k form w h = absurd h

  pub led-entry : (n : ℕ) → entry.arrival ≡ to_block n → comes_first entry blocks n ≡ true
  led-entry n e = or-left (goes_to_first n entry.arrival) _ (ap (goes_to_first n) e ∙ eq-eqb n n refl)

  pub led-edge : (b : CodeBlock) (d : Departure) (n : ℕ) → IsIn b blocks → IsIn d b.departures → d.arrival ≡ to_block n → comes_first entry blocks n ≡ true
  led-edge b d n in-b in-d e =
      or-right (goes_to_first n entry.arrival) _
      (any-in (λ (b : CodeBlock). any_pass (λ (d : Departure). goes_to_first n d.arrival) b.departures) b blocks in-b
      (any-in (λ (d : Departure). goes_to_first n d.arrival) d b.departures in-d (ap (goes_to_first n) e ∙ eq-eqb n n refl)))

  module _ (linked : AreLinked image.types variables entry blocks) where
    pub comes : (b : CodeBlock) (d : Departure) (n : ℕ) → IsIn b blocks → IsIn d b.departures → d.arrival ≡ to_second_step n → comes_again blocks n ≡ true
    comes b d n in-b in-d e =
        any-in (λ (b : CodeBlock). any_pass (λ (d : Departure). goes_to_second n d.arrival) b.departures) b blocks in-b
        (any-in (λ (d : Departure). goes_to_second n d.arrival) d b.departures in-d (ap (goes_to_second n) e ∙ eq-eqb n n refl))

    goes-back : (p : Place) → Stands p → (w : Way) → IsIn w (named_ways p) → w.index ≤ p.index → IsListedStep w.index
    goes-back p (on_entry h e) w k low = by (edge-leads (λ o. 0) (entry ∷ []) p.instruction h w (subst (λ ls. IsIn w (jumps p.instruction ++ landing_ways ls)) e k))
      where
        only : (d : Departure) → IsIn d (entry ∷ []) → d ≡ entry
        only d (inl x) = x
        only d (inr x) = absurd x

        by : LeadsOn (entry ∷ []) w → IsListedStep w.index
        by l = side l.3
          where
            is : (a : Arrival) → l.0.arrival ≡ a → entry.arrival ≡ a
            is a x = sym (ap (λ (d : Departure). d.arrival) (only l.0 l.2)) ∙ x

            side : ((l.0.arrival ≡ to_block l.1) × (w.index ≡ st l.1)) ⊎ ((l.0.arrival ≡ to_second_step l.1) × (w.index ≡ st l.1 + second_step)) → IsListedStep w.index
            side (inl x) = let c = linked.begins l.1 (is (to_block l.1) x.0) in subst IsListedStep (sym x.1) (first-step l.1 c.0 (led-entry l.1 (is (to_block l.1) x.0)) c.1)
            side (inr x) = absurd (linked.begins_first l.1 (is (to_second_step l.1) x.0))
    goes-back p (at_step i b at-i s e) w k low = none-named (exit i b) p.instruction Step s refl w (subst (λ ls. IsIn w (jumps p.instruction ++ landing_ways ls)) e k)
    goes-back p (in_front i k b at-i short at code e) w h low =
        by (front-ways image.types variables image.constants (exit i b) b.facts b.statement (st i + 1) b.form (linked.names b (got-IsIn blocks i b at-i)) k p.instruction code w (subst (λ ls. IsIn w (jumps p.instruction ++ landing_ways ls)) e h))
      where
        by : LeadsToExit image.types variables image.constants (exit i b) b.form w ⊎ JumpsWithin image.types variables image.constants (exit i b) b.facts b.statement (st i + 1) k b.form w → IsListedStep w.index
        by (inl x) =
            let q = x.3 in
            let behind = edge-behind (edges_at image.types variables image.constants (st i) b) b.departures x.0 in
            absurd (omega (arith, q, behind, low, at, short))
        by (inr x) =
            let j = within-later (exit i b) b.facts b.statement (st i + 1) k b.form w x in
            let one = j.0 in
            let there = j.1 in
            absurd (omega (arith, one, there, low, at))
    goes-back p (on_edges i b at-i h e) w k low = by (edge-leads (exit i b) b.departures p.instruction h w (subst (λ ls. IsIn w (jumps p.instruction ++ landing_ways ls)) e k))
      where
        by : LeadsOn b.departures w → IsListedStep w.index
        by l = side l.3
          where
            side : ((l.0.arrival ≡ to_block l.1) × (w.index ≡ st l.1)) ⊎ ((l.0.arrival ≡ to_second_step l.1) × (w.index ≡ st l.1 + second_step)) → IsListedStep w.index
            side (inl x) = let c = linked.there b l.0 l.1 (got-IsIn blocks i b at-i) l.2 x.0 in subst IsListedStep (sym x.1) (first-step l.1 c.0 (led-edge b l.0 l.1 (got-IsIn blocks i b at-i) l.2 x.0) c.1)
            side (inr x) =
                let c = linked.again b l.0 l.1 (got-IsIn blocks i b at-i) l.2 x.0 in
                subst IsListedStep (sym x.1) (second-listed l.1 c.0 c.1 c.2 (comes b l.0 l.1 (got-IsIn blocks i b at-i) l.2 x.0) c.3 c.4)

    pub structured : HasGoodStructure count image variables entry blocks
    structured = record {
      code = (let many = (laid-out image.types variables image.constants entry blocks).many in omega (arith, many));
      landings_listed = (laid-out image.types variables image.constants entry blocks).aligned;
      labels_rise = (blocks-labelled image.types variables image.constants entry blocks).rise;
      goes_back = λ p member w h low. goes-back p (stands p member) w h low;
      keeps = λ p member. each-keeps p (stands p member);
      landings = has-landings;
    }

pub linked-structured : LinkedBlocksAreStructured
linked-structured count image variables entry blocks linked = structured count image variables entry blocks linked
