-- The ways that the instructions of a front name: each leads to the edge of an outcome of its form, or within a `for`.
use Rattle.std.proofs.Common.{◌≡◌, ℕ, zero, suc, ◌+◌, length, List, [], ◌∷◌, ◌++◌, map, flat_map, Bool, true, false, ◌||◌, Some, slice_get, ◌⊎◌, inl, inr, refl, sym, ap, subst, ◌∙◌}
use Rattle.herm_model.specs.Lists.{IsIn, map_or, range, numbered}
use Rattle.herm_model.specs.Paths.{Fact}
use Rattle.herm_model.specs.Types.{TypeTable, Parameter, Mode, by_in, by_inout, by_out}
use Rattle.herm_model.specs.Facts.{component_count}
use Rattle.herm_model.specs.Expressions.{Literal, Expression, literal, copy, negation, logical_not, operation, size_of, decimal, length_of, Atom, Operator, can_overflow, can_deplete, is_arithmetic, is_joining}
use Rattle.herm_model.specs.Statements.{Form, Arm}
use Rattle.herm_model.specs.Calls.{shape_at, call_parameters, call_raises}
use Rattle.herm_model.specs.Outcomes.{Outcome, is_false, done, component, arm, raised, overflow, depletion, listed_if, raised_by, exceptions, arms_from, normal_outcomes, outcomes}
use Rattle.herm_model.proofs.Options.{some-injective, none-not_some}
use Rattle.herm_model.proofs.Lists.{in-append_left, in-append_right, in-append_cases, in-map, in-map_from, in-flat_map_from}
use Rattle.herm_model.proofs.FactTests.{got-IsIn}
use Rattle.herm_instructions.specs.Instructions.{negative, complement, as_text, text_length, Instruction, Apply, Combine, Jump, JumpFalse, CaseOf, Remove, Get, Select, Call}
use Rattle.herm_instructions.specs.Images.{Landing}
use Rattle.herm_instructions.specs.Effects.{exceptions_of}
use Rattle.herm_instructions.specs.Places.{Way, way_of_arm, jumps, landing_ways}
use Rattle.herm_translated.specs.Fronts.{expression_code, atom_code, inputs_code, pushed_by, arguments_of, choices_from, front}
use Rattle.herm_translated.specs.Layout.{landings_by}
use Rattle.herm_translated.specs.BlockLabels.{is_named}
pub use Rattle.herm_translated.specs.laws.NamedComponents.{NamesAll}

abbrev pub IsNoFor : Form → Type 0
IsNoFor (Form.For r t) = ⊥
IsNoFor form = Unit {0}

module _ (types : TypeTable) (variables : List ℕ) (constants : List Literal) where
  -- an instruction goes on to the next one, or raises one of these exceptions
  abbrev pub OnlyRaises : List ℕ → Instruction → Type 0
  OnlyRaises es i = (jumps i ≡ []) × ((e : ℕ) → IsIn e (exceptions_of types variables i) → IsIn e es)

  raises-more : (es ds : List ℕ) → ((e : ℕ) → IsIn e es → IsIn e ds) → (i : Instruction) → OnlyRaises es i → OnlyRaises ds i
  raises-more es ds h i r = (r.0, λ e k. h e (r.1 e k))

  listed-or : (a b c : Bool) (n : ℕ) (e : ℕ) → IsIn e (listed_if b n) ⊎ IsIn e (listed_if c n) → IsIn e (listed_if (a || (b || c)) n)
  listed-or true true c n e (inl h) = h
  listed-or false true c n e (inl h) = h
  listed-or a false c n e (inl h) = absurd h
  listed-or true b true n e (inr h) = h
  listed-or false true true n e (inr h) = h
  listed-or false false true n e (inr h) = h
  listed-or a b false n e (inr h) = absurd h

  listed-first : (a b : Bool) (n : ℕ) (e : ℕ) → IsIn e (listed_if a n) → IsIn e (listed_if (a || b) n)
  listed-first true b n e h = h
  listed-first false b n e h = absurd h

  -- what operands raise, the operation raises
  raised-left : (o : Operator) (left right : Expression) (e : ℕ) → IsIn e (raised_by left) → IsIn e (raised_by (operation o left right))
  raised-left o left right e h = by (in-append_cases e (listed_if (can_overflow left) overflow) _ h)
    where
      by : IsIn e (listed_if (can_overflow left) overflow) ⊎ IsIn e (listed_if (can_deplete left) depletion) → IsIn e (raised_by (operation o left right))
      by (inl a) = in-append_left e (listed_if (is_arithmetic o || (can_overflow left || can_overflow right)) overflow) _ (listed-or (is_arithmetic o) (can_overflow left) (can_overflow right) overflow e (inl a))
      by (inr b) = in-append_right e (listed_if (is_arithmetic o || (can_overflow left || can_overflow right)) overflow) _ (listed-or (is_joining o) (can_deplete left) (can_deplete right) depletion e (inl b))

  raised-right : (o : Operator) (left right : Expression) (e : ℕ) → IsIn e (raised_by right) → IsIn e (raised_by (operation o left right))
  raised-right o left right e h = by (in-append_cases e (listed_if (can_overflow right) overflow) _ h)
    where
      by : IsIn e (listed_if (can_overflow right) overflow) ⊎ IsIn e (listed_if (can_deplete right) depletion) → IsIn e (raised_by (operation o left right))
      by (inl a) = in-append_left e (listed_if (is_arithmetic o || (can_overflow left || can_overflow right)) overflow) _ (listed-or (is_arithmetic o) (can_overflow left) (can_overflow right) overflow e (inr a))
      by (inr b) = in-append_right e (listed_if (is_arithmetic o || (can_overflow left || can_overflow right)) overflow) _ (listed-or (is_joining o) (can_deplete left) (can_deplete right) depletion e (inr b))

  raised-here : (o : Operator) (left right : Expression) (e : ℕ) → IsIn e (listed_if (is_arithmetic o) overflow ++ listed_if (is_joining o) depletion) → IsIn e (raised_by (operation o left right))
  raised-here o left right e h = by (in-append_cases e (listed_if (is_arithmetic o) overflow) _ h)
    where
      by : IsIn e (listed_if (is_arithmetic o) overflow) ⊎ IsIn e (listed_if (is_joining o) depletion) → IsIn e (raised_by (operation o left right))
      by (inl a) = in-append_left e (listed_if (is_arithmetic o || (can_overflow left || can_overflow right)) overflow) _ (listed-first (is_arithmetic o) _ overflow e a)
      by (inr b) = in-append_right e (listed_if (is_arithmetic o || (can_overflow left || can_overflow right)) overflow) _ (listed-first (is_joining o) _ depletion e b)

  raised-below : (e : Expression) (x : ℕ) → IsIn x (raised_by e) → IsIn x (raised_by (negation e))
  raised-below e x h = by (in-append_cases x (listed_if (can_overflow e) overflow) _ h)
    where
      here : (b : Bool) → IsIn x (listed_if b overflow) → IsIn x (overflow ∷ [])
      here true k = k
      here false k = absurd k

      by : IsIn x (listed_if (can_overflow e) overflow) ⊎ IsIn x (listed_if (can_deplete e) depletion) → IsIn x (raised_by (negation e))
      by (inl a) = in-append_left x (overflow ∷ []) _ (here (can_overflow e) a)
      by (inr b) = in-append_right x (overflow ∷ []) _ b

  -- an instruction among others and a last one
  among-last : (P : Instruction → Type 0) (before : List Instruction) (last : Instruction) → ((i : Instruction) → IsIn i before → P i) → P last → (i : Instruction) → IsIn i (before ++ last ∷ []) → P i
  among-last P before last h k i m = by (in-append_cases i before (last ∷ []) m)
    where
      by : IsIn i before ⊎ IsIn i (last ∷ []) → P i
      by (inl a) = h i a
      by (inr (inl e)) = subst P (sym e) k
      by (inr (inr a)) = absurd a

  pub expression-raises : (e : Expression) (i : Instruction) → IsIn i (expression_code constants e) → OnlyRaises (raised_by e) i
  expression-raises (literal l) i (inl e) = subst (OnlyRaises []) (sym e) (refl, λ x k. absurd k)
  expression-raises (literal l) i (inr h) = absurd h
  expression-raises (copy p) i (inl e) = subst (OnlyRaises []) (sym e) (refl, λ x k. absurd k)
  expression-raises (copy p) i (inr h) = absurd h
  expression-raises (size_of p) i (inl e) = subst (OnlyRaises []) (sym e) (refl, λ x k. absurd k)
  expression-raises (size_of p) i (inr h) = absurd h
  expression-raises (negation e) i m =
      among-last (OnlyRaises (raised_by (negation e))) (expression_code constants e) (Apply negative)
      (λ j k. raises-more (raised_by e) (raised_by (negation e)) (raised-below e) j (expression-raises e j k))
      (refl, λ x k. in-append_left x (overflow ∷ []) _ k) i m
  expression-raises (logical_not e) i m =
      among-last (OnlyRaises (raised_by e)) (expression_code constants e) (Apply complement) (expression-raises e) (refl, λ x k. absurd k) i m
  expression-raises (decimal e) i m =
      among-last (OnlyRaises (raised_by e)) (expression_code constants e) (Apply as_text) (expression-raises e) (refl, λ x k. absurd k) i m
  expression-raises (length_of e) i m =
      among-last (OnlyRaises (raised_by e)) (expression_code constants e) (Apply text_length) (expression-raises e) (refl, λ x k. absurd k) i m
  expression-raises (operation o left right) i m =
      by (in-append_cases i (expression_code constants left) _ m) (expression-raises left i) (λ k. raises-more (raised_by right) (raised_by (operation o left right)) (raised-right o left right) i (expression-raises right i k))
    where
      by : IsIn i (expression_code constants left) ⊎ IsIn i (expression_code constants right ++ Combine o ∷ []) → (IsIn i (expression_code constants left) → OnlyRaises (raised_by left) i) → (IsIn i (expression_code constants right) → OnlyRaises (raised_by (operation o left right)) i)
          → OnlyRaises (raised_by (operation o left right)) i
      by (inl a) f g = raises-more (raised_by left) (raised_by (operation o left right)) (raised-left o left right) i (f a)
      by (inr b) f g = last (in-append_cases i (expression_code constants right) _ b)
        where
          last : IsIn i (expression_code constants right) ⊎ IsIn i (Combine o ∷ []) → OnlyRaises (raised_by (operation o left right)) i
          last (inl c) = g c
          last (inr (inl e)) = subst (OnlyRaises (raised_by (operation o left right))) (sym e) (refl, raised-here o left right)
          last (inr (inr c)) = absurd c

  atom-raises : (a : Atom) (i : Instruction) → IsIn i (atom_code constants a) → OnlyRaises [] i
  atom-raises (Atom.literal l) i (inl e) = subst (OnlyRaises []) (sym e) (refl, λ x k. absurd k)
  atom-raises (Atom.literal l) i (inr h) = absurd h
  atom-raises (Atom.path p) i (inl e) = subst (OnlyRaises []) (sym e) (refl, λ x k. absurd k)
  atom-raises (Atom.path p) i (inr h) = absurd h

  pub atoms-raise : (keys : List Atom) (i : Instruction) → IsIn i (flat_map (atom_code constants) keys) → OnlyRaises [] i
  atoms-raise keys i m = let r = in-flat_map_from (atom_code constants) i keys m in atom-raises r.0 i r.2

  pub inputs-raise : (ps : List Parameter) (atoms : List Atom) (i : Instruction) → IsIn i (inputs_code constants ps atoms) → OnlyRaises [] i
  inputs-raise [] atoms i m = absurd m
  inputs-raise (p ∷ ps) [] i m = absurd m
  inputs-raise (p ∷ ps) (a ∷ atoms) i m = by (in-append_cases i (pushed_by p.mode (atom_code constants a)) _ m) (inputs-raise ps atoms i)
    where
      first : (mode : Mode) → IsIn i (pushed_by mode (atom_code constants a)) → OnlyRaises [] i
      first by_in k = atom-raises a i k
      first by_inout k = absurd k
      first by_out k = absurd k

      by : IsIn i (pushed_by p.mode (atom_code constants a)) ⊎ IsIn i (inputs_code constants ps atoms) → (IsIn i (inputs_code constants ps atoms) → OnlyRaises [] i) → OnlyRaises [] i
      by (inl k) f = first p.mode k
      by (inr k) f = f k

  module _ (exit_at : Outcome → ℕ) where
    abbrev pub ways_of : Instruction → List Way
    ways_of i = jumps i ++ landing_ways (landings_by types variables exit_at i)

    -- a way that leads to the edge of an outcome
    abbrev pub LeadsToExit : Form → Way → Type 0
    LeadsToExit form w = (o : Outcome) × IsIn o (outcomes types variables form) × (is_named o ≡ true) × (w.index ≡ exit_at o)

    landing-exit : (form : Form) (i : Instruction) → ((e : ℕ) → IsIn e (exceptions_of types variables i) → IsIn e (exceptions types variables form)) → (w : Way) → IsIn w (landing_ways (landings_by types variables exit_at i)) → LeadsToExit form w
    landing-exit form i h w m =
        let l = in-map_from (λ (l : Landing). record { outcome = raised l.exception; index = l.index }) w (landings_by types variables exit_at i) m in
        let e = in-map_from (λ e. record { exception = e; index = exit_at (raised e) }) l.0 (exceptions_of types variables i) l.1 in
        (raised e.0, in-append_right (raised e.0) (normal_outcomes form) _ (in-map raised e.0 (exceptions types variables form) (h e.0 e.1)), refl, ap (λ (w : Way). w.index) l.2 ∙ ap (λ (l : Landing). l.index) e.2)

    -- of an instruction that only raises, each way is to an exception's edge
    raising-exit : (form : Form) (i : Instruction) → OnlyRaises (exceptions types variables form) i → (w : Way) → IsIn w (ways_of i) → LeadsToExit form w
    raising-exit form i r w m = landing-exit form i r.1 w (subst (λ ws. IsIn w (ws ++ landing_ways (landings_by types variables exit_at i))) r.0 m)

    none-raised : (es : List ℕ) (i : Instruction) → OnlyRaises [] i → OnlyRaises es i
    none-raised es i r = raises-more [] es (λ e h. absurd h) i r

    -- the last instruction of a front, alone or behind operands
    main-exit : (form : Form) (i : Instruction) → jumps i ≡ [] → exceptions_of types variables i ≡ exceptions types variables form → (j : Instruction) → IsIn j (i ∷ []) → (w : Way) → IsIn w (ways_of j) → LeadsToExit form w
    main-exit form i none same j (inl e) w m = raising-exit form i (none, λ x h. subst (IsIn x) same h) w (subst (λ k. IsIn w (ways_of k)) e m)
    main-exit form i none same j (inr h) w m = absurd h

    behind-exit : (form : Form) (before : List Instruction) (i : Instruction) → ((j : Instruction) → IsIn j before → OnlyRaises (exceptions types variables form) j) → ((w : Way) → IsIn w (ways_of i) → LeadsToExit form w) → (j : Instruction) → IsIn j (before ++ i ∷ []) → (w : Way) → IsIn w (ways_of j) → LeadsToExit form w
    behind-exit form before i h k j m w n = among-last (λ j. (w : Way) → IsIn w (ways_of j) → LeadsToExit form w) before i (λ j m. raising-exit form j (h j m)) k j m w n

    operands-exit : (form : Form) (before : List Instruction) (i : Instruction) → ((j : Instruction) → IsIn j before → OnlyRaises [] j) → jumps i ≡ [] → exceptions_of types variables i ≡ exceptions types variables form → (j : Instruction) → IsIn j (before ++ i ∷ []) → (w : Way) → IsIn w (ways_of j) → LeadsToExit form w
    operands-exit form before i h none same =
        behind-exit form before i (λ j k. none-raised (exceptions types variables form) j (h j k)) (main-exit form i none same i (inl refl))

    -- the ways of `CaseOf` and of `Select`
    component-exit : (form : Form) (cs : List ℕ) → ((c : ℕ) → IsIn c cs → IsIn (component c) (outcomes types variables form)) → (n : ℕ) (w : Way) → IsIn w (map (λ (c : ℕ × ℕ). record { outcome = component c.0; index = c.1 }) (numbered n (map (λ c. exit_at (component c)) cs))) → LeadsToExit form w
    component-exit form [] h n w m = absurd m
    component-exit form (c ∷ cs) h n w (inl e) = (component c, h c (inl refl), refl, ap (λ (w : Way). w.index) e)
    component-exit form (c ∷ cs) h n w (inr m) = component-exit form cs (λ d k. h d (inr k)) (suc n) w m

    arm-exit : (form : Form) (arms : List Arm) (n k : ℕ) → ((o : Outcome) → IsIn o (arms_from k arms) → IsIn o (outcomes types variables form)) → (w : Way) → IsIn w (map way_of_arm (numbered n (choices_from exit_at k arms))) → LeadsToExit form w
    arm-exit form [] n k h w m = absurd m
    arm-exit form (a ∷ arms) n k h w (inl e) = (arm k, h (arm k) (inl refl), refl, ap (λ (w : Way). w.index) e)
    arm-exit form (a ∷ arms) n k h w (inr m) = arm-exit form arms (suc n) (suc k) (λ o p. h o (inr p)) w m

    no-landing : (i : Instruction) → exceptions_of types variables i ≡ [] → (w : Way) → IsIn w (ways_of i) → IsIn w (jumps i)
    no-landing i e w m = by (in-append_cases w (jumps i) _ m)
      where
        by : IsIn w (jumps i) ⊎ IsIn w (landing_ways (landings_by types variables exit_at i)) → IsIn w (jumps i)
        by (inl a) = a
        by (inr b) =
            let none : IsIn w [] = subst (λ es. IsIn w (landing_ways (map (λ e. record { exception = e; index = exit_at (raised e) }) es))) e b in absurd none

    test-exit : (form : Form) → IsIn is_false (outcomes types variables form) → (w : Way) → IsIn w (ways_of (JumpFalse (exit_at is_false))) → LeadsToExit form w
    test-exit form h w (inl e) = (is_false, h, refl, ap (λ (w : Way). w.index) e)
    test-exit form h w (inr m) = absurd m

    module _ (facts : List Fact) (number here : ℕ) where
      -- the instruction that jumps to the test of a `for` stands at this distance
      abbrev pub JumpsWithin : ℕ → Form → Way → Type 0
      JumpsWithin k (Form.For r t) w = (k ≡ 1) × (w.index ≡ here + 3)
      JumpsWithin k form w = ⊥

      for-ways : (r t : _) (k : ℕ) (i : Instruction) → slice_get (front types variables constants facts number here exit_at (Form.For r t)) k ≡ Some i → (w : Way) → IsIn w (ways_of i) → LeadsToExit (Form.For r t) w ⊎ JumpsWithin k (Form.For r t) w
      for-ways r t zero i e w m = let none : IsIn w [] = subst (λ j. IsIn w (ways_of j)) (sym (some-injective e)) m in absurd none
      for-ways r t (suc zero) i e w m = by (subst (λ j. IsIn w (ways_of j)) (sym (some-injective e)) m)
        where
          by : IsIn w (ways_of (Jump (here + 3))) → LeadsToExit (Form.For r t) w ⊎ JumpsWithin 1 (Form.For r t) w
          by (inl x) = inr (refl, ap (λ (w : Way). w.index) x)
          by (inr x) = absurd x
      for-ways r t (suc (suc zero)) i e w m = let none : IsIn w [] = subst (λ j. IsIn w (ways_of j)) (sym (some-injective e)) m in absurd none
      for-ways r t (suc (suc (suc zero))) i e w m = by (subst (λ j. IsIn w (ways_of j)) (sym (some-injective e)) m)
        where
          by : IsIn w (record { outcome = done; index = exit_at done } ∷ []) → LeadsToExit (Form.For r t) w ⊎ JumpsWithin 3 (Form.For r t) w
          by (inl x) = inl (done, inr (inl refl), refl, ap (λ (w : Way). w.index) x)
          by (inr x) = absurd x
      for-ways r t (suc (suc (suc (suc k)))) i e w m = none-not_some e

      front-exits : (form : Form) → NamesAll types variables form → IsNoFor form → (i : Instruction) → IsIn i (front types variables constants facts number here exit_at form) → (w : Way) → IsIn w (ways_of i) → LeadsToExit form w
      front-exits (Form.Assign x e) names other i m w n =
          behind-exit (Form.Assign x e) (expression_code constants e) _ (expression-raises e) (λ w n. absurd n) i m w n
      front-exits (Form.Move y x) names other i m w n = main-exit (Form.Move y x) _ refl refl i m w n
      front-exits (Form.New x) names other i m w n = main-exit (Form.New x) _ refl refl i m w n
      front-exits (Form.Discard x) names other i m w n = main-exit (Form.Discard x) _ refl refl i m w n
      front-exits (Form.Unite v c y) names other i m w n = main-exit (Form.Unite v c y) _ refl refl i m w n
      front-exits (Form.Dissolve v c y) names other i m w n = main-exit (Form.Dissolve v c y) _ refl refl i m w n
      front-exits (Form.Reveal v c) names other i m w n = main-exit (Form.Reveal v c) _ refl refl i m w n
      front-exits (Form.Case v components) names other i (inl e) w n =
          component-exit (Form.Case v components) (range 0 (map_or 0 component_count (shape_at types variables v))) (λ c h. in-append_left (component c) (map component components) _ (in-map component c components ((names c).0 h))) 0 w
          (no-landing (CaseOf v (map (λ c. exit_at (component c)) (range 0 (map_or 0 component_count (shape_at types variables v))))) refl w (subst (λ j. IsIn w (ways_of j)) e n))
      front-exits (Form.Case v components) names other i (inr h) w n = absurd h
      front-exits (Form.Wrap y p) names other i m w n = main-exit (Form.Wrap y p) _ refl refl i m w n
      front-exits (Form.Unwrap p t y) names other i m w n = main-exit (Form.Unwrap p t y) _ refl refl i m w n
      front-exits (Form.Insert r t) names other i m w n = main-exit (Form.Insert r t) _ refl refl i m w n
      front-exits (Form.Remove r t keys) names other i m w n =
          operands-exit (Form.Remove r t keys) (flat_map (atom_code constants) keys) (Remove r t (length keys)) (atoms-raise keys) refl refl i m w n
      front-exits (Form.Get r t keys) names other i m w n =
          operands-exit (Form.Get r t keys) (flat_map (atom_code constants) keys) (Get r t (length keys)) (atoms-raise keys) refl refl i m w n
      front-exits (Form.For r t) names other i m w n = absurd other
      front-exits (Form.Connect o p) names other i m w n = main-exit (Form.Connect o p) _ refl refl i m w n
      front-exits (Form.Send x o) names other i m w n = main-exit (Form.Send x o) _ refl refl i m w n
      front-exits (Form.Receive x p) names other i m w n = main-exit (Form.Receive x p) _ refl refl i m w n
      front-exits (Form.Select arms) names other i (inl e) w n =
          arm-exit (Form.Select arms) arms 0 0 (λ o h. in-append_left o (arms_from 0 arms) _ h) w (no-landing (Select (choices_from exit_at 0 arms)) refl w (subst (λ j. IsIn w (ways_of j)) e n))
      front-exits (Form.Select arms) names other i (inr h) w n = absurd h
      front-exits (Form.Call o arguments) names other i m w n =
          operands-exit (Form.Call o arguments) (inputs_code constants (call_parameters types variables o) arguments) (Call o (arguments_of (call_parameters types variables o) arguments) (call_raises types variables o)) (inputs-raise (call_parameters types variables o) arguments) refl refl i m w n
      front-exits (Form.Return p) names other i m w n = main-exit (Form.Return p) _ refl refl i m w n
      front-exits (Form.ReturnBy p e) names other i m w n = main-exit (Form.ReturnBy p e) _ refl refl i m w n
      front-exits (Form.Create o c) names other i m w n = main-exit (Form.Create o c) _ refl refl i m w n
      front-exits (Form.If e) names other i m w n =
          behind-exit (Form.If e) (expression_code constants e) _ (expression-raises e) (test-exit (Form.If e) (inr (inl refl))) i m w n
      front-exits (Form.While e) names other i m w n =
          behind-exit (Form.While e) (expression_code constants e) _ (expression-raises e) (test-exit (Form.While e) (inr (inl refl))) i m w n
      front-exits (Form.Raise e) names other i m w n = main-exit (Form.Raise e) _ refl refl i m w n
      front-exits Form.Leave names other i m w n = absurd m

      -- each way that an instruction of a front names leads to the edge of an outcome that is named, or on to the test of a `for`
      pub front-ways : (form : Form) → NamesAll types variables form → (k : ℕ) (i : Instruction) → slice_get (front types variables constants facts number here exit_at form) k ≡ Some i → (w : Way) → IsIn w (ways_of i) → LeadsToExit form w ⊎ JumpsWithin k form w
      front-ways (Form.For r t) names k i e w m = for-ways r t k i e w m
      front-ways form names k i e w m = inl (front-exits form names tt i (got-IsIn (front types variables constants facts number here exit_at form) k i e) w m)
