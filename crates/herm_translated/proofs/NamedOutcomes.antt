-- Each outcome whose edge is named is named by an instruction of its front.
use Rattle.std.proofs.Common.{◌≡◌, ℕ, suc, length, List, [], ◌∷◌, ◌++◌, map, flat_map, Bool, true, false, ◌||◌, ◌⊎◌, inl, inr, IsTrue, refl, sym, ap, subst, ◌∙◌, true≢false}
use Rattle.herm_model.specs.Lists.{IsIn, map_or, range, numbered}
use Rattle.herm_model.specs.Paths.{Fact}
use Rattle.herm_model.specs.Types.{TypeTable}
use Rattle.herm_model.specs.Facts.{component_count}
use Rattle.herm_model.specs.Expressions.{Literal, Expression, literal, copy, negation, logical_not, operation, size_of, decimal, length_of, can_overflow, can_deplete, is_arithmetic, is_joining}
use Rattle.herm_model.specs.Statements.{Form, Arm}
use Rattle.herm_model.specs.Calls.{shape_at, call_parameters, call_raises}
use Rattle.herm_model.specs.Outcomes.{Outcome, ok, is_true, is_false, turn, done, component, raised, overflow, depletion, listed_if, raised_by, exceptions, arms_from, normal_outcomes, outcomes}
use Rattle.herm_model.proofs.Lists.{not_true, or-either, in-append_left, in-append_right, in-append_cases, in-map, in-map_from}
use Rattle.herm_instructions.specs.Instructions.{negative, complement, as_text, text_length, Instruction, Apply, Combine, JumpFalse, CaseOf, LoopNext, Select, Remove, Get, Call}
use Rattle.herm_instructions.specs.Images.{Landing}
use Rattle.herm_instructions.specs.Effects.{exceptions_of}
use Rattle.herm_instructions.specs.Places.{Way, way_of_arm, jumps}
use Rattle.herm_translated.specs.Fronts.{expression_code, atom_code, inputs_code, arguments_of, choices_from, front}
use Rattle.herm_translated.specs.Layout.{landings_by}
use Rattle.herm_translated.specs.BlockLabels.{is_named}
use Rattle.herm_translated.proofs.FrontWays.{NamesAll, ways_of}

module _ (types : TypeTable) (variables : List ℕ) (constants : List Literal) where
  -- an instruction of the code can raise the exception
  abbrev pub Raises : List Instruction → ℕ → Type 0
  Raises code e = (i : Instruction) × IsIn i code × IsIn e (exceptions_of types variables i)

  raises-left : (xs ys : List Instruction) (e : ℕ) → Raises xs e → Raises (xs ++ ys) e
  raises-left xs ys e r = (r.0, in-append_left r.0 xs ys r.1, r.2)

  raises-right : (xs ys : List Instruction) (e : ℕ) → Raises ys e → Raises (xs ++ ys) e
  raises-right xs ys e r = (r.0, in-append_right r.0 xs ys r.1, r.2)

  here : (b : Bool) (n : ℕ) → IsTrue b → IsIn n (listed_if b n)
  here true n h = inl refl
  here false n h = not_true h

  overflows : (e : Expression) → IsTrue (can_overflow e) → Raises (expression_code constants e) overflow
  overflows (literal l) h = not_true h
  overflows (copy p) h = not_true h
  overflows (size_of p) h = not_true h
  overflows (negation e) h = raises-right (expression_code constants e) (Apply negative ∷ []) overflow (Apply negative, inl refl, inl refl)
  overflows (logical_not e) h = raises-left (expression_code constants e) (Apply complement ∷ []) overflow (overflows e h)
  overflows (decimal e) h = raises-left (expression_code constants e) (Apply as_text ∷ []) overflow (overflows e h)
  overflows (length_of e) h = raises-left (expression_code constants e) (Apply text_length ∷ []) overflow (overflows e h)
  overflows (operation o left right) h = by (or-either (is_arithmetic o) _ h) (overflows left) (overflows right)
    where
      by : IsTrue (is_arithmetic o) ⊎ IsTrue (can_overflow left || can_overflow right) → (IsTrue (can_overflow left) → Raises (expression_code constants left) overflow) → (IsTrue (can_overflow right) → Raises (expression_code constants right) overflow) → Raises (expression_code constants (operation o left right)) overflow
      by (inl a) f g =
          raises-right (expression_code constants left) _ overflow (raises-right (expression_code constants right) (Combine o ∷ []) overflow
          (Combine o, inl refl, in-append_left overflow (listed_if (is_arithmetic o) overflow) _ (here (is_arithmetic o) overflow a)))
      by (inr b) f g = sides (or-either (can_overflow left) _ b)
        where
          sides : IsTrue (can_overflow left) ⊎ IsTrue (can_overflow right) → Raises (expression_code constants (operation o left right)) overflow
          sides (inl x) = raises-left (expression_code constants left) _ overflow (f x)
          sides (inr x) = raises-right (expression_code constants left) _ overflow (raises-left (expression_code constants right) (Combine o ∷ []) overflow (g x))

  depletes : (e : Expression) → IsTrue (can_deplete e) → Raises (expression_code constants e) depletion
  depletes (literal l) h = not_true h
  depletes (copy p) h = not_true h
  depletes (size_of p) h = not_true h
  depletes (negation e) h = raises-left (expression_code constants e) (Apply negative ∷ []) depletion (depletes e h)
  depletes (logical_not e) h = raises-left (expression_code constants e) (Apply complement ∷ []) depletion (depletes e h)
  depletes (decimal e) h = raises-left (expression_code constants e) (Apply as_text ∷ []) depletion (depletes e h)
  depletes (length_of e) h = raises-left (expression_code constants e) (Apply text_length ∷ []) depletion (depletes e h)
  depletes (operation o left right) h = by (or-either (is_joining o) _ h) (depletes left) (depletes right)
    where
      by : IsTrue (is_joining o) ⊎ IsTrue (can_deplete left || can_deplete right) → (IsTrue (can_deplete left) → Raises (expression_code constants left) depletion) → (IsTrue (can_deplete right) → Raises (expression_code constants right) depletion) → Raises (expression_code constants (operation o left right)) depletion
      by (inl a) f g =
          raises-right (expression_code constants left) _ depletion (raises-right (expression_code constants right) (Combine o ∷ []) depletion
          (Combine o, inl refl, in-append_right depletion (listed_if (is_arithmetic o) overflow) _ (here (is_joining o) depletion a)))
      by (inr b) f g = sides (or-either (can_deplete left) _ b)
        where
          sides : IsTrue (can_deplete left) ⊎ IsTrue (can_deplete right) → Raises (expression_code constants (operation o left right)) depletion
          sides (inl x) = raises-left (expression_code constants left) _ depletion (f x)
          sides (inr x) = raises-right (expression_code constants left) _ depletion (raises-left (expression_code constants right) (Combine o ∷ []) depletion (g x))

  -- what an expression can raise, an instruction of its code can
  pub expression-raisers : (e : Expression) (x : ℕ) → IsIn x (raised_by e) → Raises (expression_code constants e) x
  expression-raisers e x h = by (in-append_cases x (listed_if (can_overflow e) overflow) _ h)
    where
      of-overflow : (b : Bool) → (IsTrue b → Raises (expression_code constants e) overflow) → IsIn x (listed_if b overflow) → Raises (expression_code constants e) x
      of-overflow true f (inl k) = subst (Raises (expression_code constants e)) (sym k) (f refl)
      of-overflow true f (inr k) = absurd k
      of-overflow false f k = absurd k

      of-depletion : (b : Bool) → (IsTrue b → Raises (expression_code constants e) depletion) → IsIn x (listed_if b depletion) → Raises (expression_code constants e) x
      of-depletion true f (inl k) = subst (Raises (expression_code constants e)) (sym k) (f refl)
      of-depletion true f (inr k) = absurd k
      of-depletion false f k = absurd k

      by : IsIn x (listed_if (can_overflow e) overflow) ⊎ IsIn x (listed_if (can_deplete e) depletion) → Raises (expression_code constants e) x
      by (inl a) = of-overflow (can_overflow e) (overflows e) a
      by (inr b) = of-depletion (can_deplete e) (depletes e) b

  main-raises : (before : List Instruction) (i : Instruction) (es : List ℕ) → exceptions_of types variables i ≡ es → (e : ℕ) → IsIn e es → Raises (before ++ i ∷ []) e
  main-raises before i es same e h = (i, in-append_right i before (i ∷ []) (inl refl), subst (IsIn e) (sym same) h)

  module _ (exit_at : Outcome → ℕ) (facts : List Fact) (number at : ℕ) where
    abbrev front_of : Form → List Instruction
    front_of form = front types variables constants facts number at exit_at form

    -- what a form can raise, an instruction of its front can
    front-raises : (form : Form) (e : ℕ) → IsIn e (exceptions types variables form) → Raises (front_of form) e
    front-raises (Form.Assign x v) e h = raises-left (expression_code constants v) _ e (expression-raisers v e h)
    front-raises (Form.Move y x) e h = absurd h
    front-raises (Form.New x) e h = main-raises [] _ (exceptions types variables (Form.New x)) refl e h
    front-raises (Form.Discard x) e h = absurd h
    front-raises (Form.Unite v c y) e h = absurd h
    front-raises (Form.Dissolve v c y) e h = absurd h
    front-raises (Form.Reveal v c) e h = main-raises [] _ (exceptions types variables (Form.Reveal v c)) refl e h
    front-raises (Form.Case v components) e h = absurd h
    front-raises (Form.Wrap y p) e h = main-raises [] _ (exceptions types variables (Form.Wrap y p)) refl e h
    front-raises (Form.Unwrap p t y) e h = main-raises [] _ (exceptions types variables (Form.Unwrap p t y)) refl e h
    front-raises (Form.Insert r t) e h = main-raises [] _ (exceptions types variables (Form.Insert r t)) refl e h
    front-raises (Form.Remove r t keys) e h = main-raises (flat_map (atom_code constants) keys) (Remove r t (length keys)) (exceptions types variables (Form.Remove r t keys)) refl e h
    front-raises (Form.Get r t keys) e h = main-raises (flat_map (atom_code constants) keys) (Get r t (length keys)) (exceptions types variables (Form.Get r t keys)) refl e h
    front-raises (Form.For r t) e h = absurd h
    front-raises (Form.Connect o p) e h = absurd h
    front-raises (Form.Send x o) e h = main-raises [] _ (exceptions types variables (Form.Send x o)) refl e h
    front-raises (Form.Receive x p) e h = absurd h
    front-raises (Form.Select arms) e h = absurd h
    front-raises (Form.Call o arguments) e h =
        main-raises (inputs_code constants (call_parameters types variables o) arguments) (Call o (arguments_of (call_parameters types variables o) arguments) (call_raises types variables o)) (exceptions types variables (Form.Call o arguments)) refl e h
    front-raises (Form.Return p) e h = absurd h
    front-raises (Form.ReturnBy p x) e h = absurd h
    front-raises (Form.Create o c) e h = main-raises [] _ (exceptions types variables (Form.Create o c)) refl e h
    front-raises (Form.If v) e h = raises-left (expression_code constants v) _ e (expression-raisers v e h)
    front-raises (Form.While v) e h = raises-left (expression_code constants v) _ e (expression-raisers v e h)
    front-raises (Form.Raise x) e h = main-raises [] _ (exceptions types variables (Form.Raise x)) refl e h
    front-raises Form.Leave e h = absurd h

    -- an instruction of the front names the edge of the outcome
    abbrev pub IsNamedIn : List Instruction → Outcome → Type 0
    IsNamedIn code o = (i : Instruction) × IsIn i code × (w : Way) × IsIn w (ways_of types variables constants exit_at i) × (w.index ≡ exit_at o)

    raised-named : (code : List Instruction) (e : ℕ) → Raises code e → IsNamedIn code (raised e)
    raised-named code e r = (
      r.0,
      r.1,
      record { outcome = raised e; index = exit_at (raised e) },
      in-append_right _ (jumps r.0) _ (in-map (λ (l : Landing). record { outcome = raised l.exception; index = l.index }) (record { exception = e; index = exit_at (raised e) }) (landings_by types variables exit_at r.0) (in-map (λ e. record { exception = e; index = exit_at (raised e) }) e (exceptions_of types variables r.0) r.2)),
      refl,
    )

    jump-named : (code : List Instruction) (i : Instruction) → IsIn i code → (w : Way) → IsIn w (jumps i) → (o : Outcome) → w.index ≡ exit_at o → IsNamedIn code o
    jump-named code i m w n o e = (i, m, w, in-append_left w (jumps i) _ n, e)

    component-way : (c : ℕ) (cs : List ℕ) (n : ℕ) → IsIn c cs → (w : Way) × IsIn w (map (λ (c : ℕ × ℕ). record { outcome = component c.0; index = c.1 }) (numbered n (map (λ c. exit_at (component c)) cs))) × (w.index ≡ exit_at (component c))
    component-way c [] n h = absurd h
    component-way c (d ∷ cs) n (inl e) = (_, inl refl, ap (λ x. exit_at (component x)) (sym e))
    component-way c (d ∷ cs) n (inr h) = let r = component-way c cs (suc n) h in (r.0, inr r.1, r.2)

    arm-way : (o : Outcome) (arms : List Arm) (n k : ℕ) → IsIn o (arms_from k arms) → (w : Way) × IsIn w (map way_of_arm (numbered n (choices_from exit_at k arms))) × (w.index ≡ exit_at o)
    arm-way o [] n k h = absurd h
    arm-way o (a ∷ arms) n k (inl e) = (_, inl refl, ap exit_at (sym e))
    arm-way o (a ∷ arms) n k (inr h) = let r = arm-way o arms (suc n) (suc k) h in (r.0, inr r.1, r.2)

    not-ok : (A : Type 0) (o : Outcome) → is_named o ≡ true → (quiet : Outcome) → is_named quiet ≡ false → o ≡ quiet → A
    not-ok A o named quiet q e = absurd (true≢false (sym named ∙ ap is_named e ∙ q))

    test-named : (v : Expression) (o : Outcome) → IsIn o (is_true ∷ is_false ∷ []) → is_named o ≡ true → IsNamedIn (expression_code constants v ++ JumpFalse (exit_at is_false) ∷ []) o
    test-named v o (inl e) named = not-ok (IsNamedIn (expression_code constants v ++ JumpFalse (exit_at is_false) ∷ []) o) o named is_true refl e
    test-named v o (inr (inl e)) named =
        jump-named (expression_code constants v ++ JumpFalse (exit_at is_false) ∷ []) (JumpFalse (exit_at is_false)) (in-append_right _ (expression_code constants v) _ (inl refl)) (record { outcome = is_false; index = exit_at is_false }) (inl refl) o (ap exit_at (sym e))
    test-named v o (inr (inr h)) named = absurd h

    -- a form that goes on in one way
    one-named : (A : Type 0) (o : Outcome) → IsIn o (ok ∷ []) → is_named o ≡ true → A
    one-named A o (inl e) named = not-ok A o named ok refl e
    one-named A o (inr h) named = absurd h

    normal-named : (form : Form) → NamesAll types variables form → (o : Outcome) → IsIn o (normal_outcomes form) → is_named o ≡ true → IsNamedIn (front_of form) o
    normal-named (Form.Case v components) names o h named =
        let c = in-map_from component o components h in
        let w = component-way c.0 (range 0 (map_or 0 component_count (shape_at types variables v))) 0 ((names c.0).1 c.1) in
        jump-named (front_of (Form.Case v components)) (CaseOf v (map (λ c. exit_at (component c)) (range 0 (map_or 0 component_count (shape_at types variables v))))) (inl refl) w.0 w.1 o (w.2 ∙ ap exit_at (sym c.2))
    normal-named (Form.Select arms) names o h named = let w = arm-way o arms 0 0 h in jump-named (front_of (Form.Select arms)) (Select (choices_from exit_at 0 arms)) (inl refl) w.0 w.1 o w.2
    normal-named (Form.For r t) names o (inl e) named = not-ok (IsNamedIn (front_of (Form.For r t)) o) o named turn refl e
    normal-named (Form.For r t) names o (inr (inl e)) named = jump-named (front_of (Form.For r t)) (LoopNext r number (exit_at done)) (inr (inr (inr (inl refl)))) (record { outcome = done; index = exit_at done }) (inl refl) o (ap exit_at (sym e))
    normal-named (Form.For r t) names o (inr (inr h)) named = absurd h
    normal-named (Form.If v) names o h named = test-named v o h named
    normal-named (Form.While v) names o h named = test-named v o h named
    normal-named (Form.Raise x) names o h named = absurd h
    normal-named (Form.Assign x v) names o h named = one-named (IsNamedIn (front_of (Form.Assign x v)) o) o h named
    normal-named (Form.Move y x) names o h named = one-named (IsNamedIn (front_of (Form.Move y x)) o) o h named
    normal-named (Form.New x) names o h named = one-named (IsNamedIn (front_of (Form.New x)) o) o h named
    normal-named (Form.Discard x) names o h named = one-named (IsNamedIn (front_of (Form.Discard x)) o) o h named
    normal-named (Form.Unite v c y) names o h named = one-named (IsNamedIn (front_of (Form.Unite v c y)) o) o h named
    normal-named (Form.Dissolve v c y) names o h named = one-named (IsNamedIn (front_of (Form.Dissolve v c y)) o) o h named
    normal-named (Form.Reveal v c) names o h named = one-named (IsNamedIn (front_of (Form.Reveal v c)) o) o h named
    normal-named (Form.Wrap y p) names o h named = one-named (IsNamedIn (front_of (Form.Wrap y p)) o) o h named
    normal-named (Form.Unwrap p t y) names o h named = one-named (IsNamedIn (front_of (Form.Unwrap p t y)) o) o h named
    normal-named (Form.Insert r t) names o h named = one-named (IsNamedIn (front_of (Form.Insert r t)) o) o h named
    normal-named (Form.Remove r t keys) names o h named = one-named (IsNamedIn (front_of (Form.Remove r t keys)) o) o h named
    normal-named (Form.Get r t keys) names o h named = one-named (IsNamedIn (front_of (Form.Get r t keys)) o) o h named
    normal-named (Form.Connect p q) names o h named = one-named (IsNamedIn (front_of (Form.Connect p q)) o) o h named
    normal-named (Form.Send x p) names o h named = one-named (IsNamedIn (front_of (Form.Send x p)) o) o h named
    normal-named (Form.Receive x p) names o h named = one-named (IsNamedIn (front_of (Form.Receive x p)) o) o h named
    normal-named (Form.Call p arguments) names o h named = one-named (IsNamedIn (front_of (Form.Call p arguments)) o) o h named
    normal-named (Form.Return p) names o h named = one-named (IsNamedIn (front_of (Form.Return p)) o) o h named
    normal-named (Form.ReturnBy p x) names o h named = one-named (IsNamedIn (front_of (Form.ReturnBy p x)) o) o h named
    normal-named (Form.Create p c) names o h named = one-named (IsNamedIn (front_of (Form.Create p c)) o) o h named
    normal-named Form.Leave names o h named = one-named (IsNamedIn (front_of Form.Leave) o) o h named

    pub outcome-named : (form : Form) → NamesAll types variables form → (o : Outcome) → IsIn o (outcomes types variables form) → is_named o ≡ true → IsNamedIn (front_of form) o
    outcome-named form names o h named = by (in-append_cases o (normal_outcomes form) _ h)
      where
        by : IsIn o (normal_outcomes form) ⊎ IsIn o (map raised (exceptions types variables form)) → IsNamedIn (front_of form) o
        by (inl a) = normal-named form names o a named
        by (inr b) = let e = in-map_from raised o (exceptions types variables form) b in subst (IsNamedIn (front_of form)) (sym e.2) (raised-named (front_of form) e.0 (front-raises form e.0 e.1))
