-- Of a call exceptions alone that cover the others: their edges cover those of all.
use Rattle.std.proofs.Common.{◌≡◌, ℕ, List, [], ◌∷◌, ◌++◌, map, flat_map, Bool, true, false, cond, ◌||◌, inl, inr, ◌⊎◌, nat_eq, slice_get, Vec, Global, refl, sym, ap, ◌∙◌, subst, arith}
use Rattle.std.proofs.lemmas.Bool.{eqb-true, eqb-false}
use Rattle.herm_model.specs.Lists.{IsIn, any_pass}
use Rattle.herm_model.specs.Paths.{Fact, same_fact, path_of, is_at_or_below}
use Rattle.herm_model.specs.Types.{TypeTable, Raised}
use Rattle.herm_model.specs.Expressions.{Atom}
use Rattle.herm_model.specs.Facts.{with_prefixes, without_repeats}
use Rattle.herm_model.specs.FactsOfStatements.{full}
use Rattle.herm_model.specs.Calls.{call_raises, kept_for, argument_path}
use Rattle.herm_model.specs.Outcomes.{Outcome, ok, raised, rising}
use Rattle.herm_model.specs.Targets.{Target, node, end, end_by}
use Rattle.herm_model.specs.Handlers.{Catch, caught}
use Rattle.herm_model.specs.ControlPaths.{Edge, held_after_edge}
use Rattle.herm_model.specs.laws.FlowLaws.{Rise}
use Rattle.herm_model.proofs.Lists.{in-append_cases, in-append_left, in-append_right, in-map, in-map_from}
use Rattle.herm_model.proofs.ClosedFacts.{once-IsIn, IsIn-once}
use Rattle.herm_model.proofs.FactTests.{listed-IsIn, IsIn-listed}
use Rattle.herm_typed.specs.declared.expressions.TypedPath.{TypedPath}
use Rattle.herm_typed.specs.declared.expressions.TypedAtom.{TypedAtom}
use Rattle.herm_typed.specs.declared.statements.TypedForm.{TypedForm, Call}
use Rattle.herm_typed.specs.Outcomes.{outcomes_of}
use Rattle.herm_typed.specs.View.{typed_path_view, typed_atom_view}
use Rattle.herm_flow.specs.Edges.{an_exit, exits_from, edge_at}
use Rattle.herm_flow.specs.NumberTables.{point_of}
use Rattle.herm_flow.specs.Onward.{is_node, leads_on, ArePicked, none, picked, passed, IsCovered, AreOnwardEdges}
use Rattle.herm_flow.specs.Kept.{goes_on}
use Rattle.herm_flow.specs.Touched.{makes_by}
use Rattle.herm_flow.specs.CoveredExceptions.{raised_numbers, AreCallNumbers, IsOnwardCall}
use Rattle.herm_flow.proofs.Tests.{any-flat}
use Rattle.herm_flow.proofs.Rising.{rising-Rise, rising-IsIn, in-rising}
use Rattle.herm_flow.proofs.KeptEdges.{same-self, picked-append, picked-through, covered-through}

-- ---- tests of facts

same-tests : (a b : Bool) → (a ≡ true → b ≡ true) → (b ≡ true → a ≡ true) → a ≡ b
same-tests true b f g = sym (f refl)
same-tests false true f g = g refl
same-tests false false f g = refl

any-once : (f : Fact) (fs : List Fact) → any_pass (same_fact f) (without_repeats fs) ≡ any_pass (same_fact f) fs
any-once f fs = same-tests _ _ (λ h. IsIn-listed f fs (once-IsIn f fs (listed-IsIn f (without_repeats fs) h))) (λ h. IsIn-listed f (without_repeats fs) (IsIn-once f fs (listed-IsIn f fs h)))

-- ---- rising numbers among rising ones

no-numbers : (g : ℕ → Edge) (ys : List ℕ) → ArePicked [] (map g ys)
no-numbers g [] = none
no-numbers g (y ∷ ys) = passed (g y) [] (map g ys) (no-numbers g ys)

rise-picked : (g : ℕ → Edge) (ys xs : List ℕ) → Rise xs → Rise ys → ((m : ℕ) → IsIn m xs → IsIn m ys) → ArePicked (map g xs) (map g ys)
rise-picked g ys [] r q within = no-numbers g ys
rise-picked g [] (x ∷ xs) r q within = absurd (within x (inl refl))
rise-picked g (y ∷ ys) (x ∷ xs) r q within = by (λ w. rise-picked g ys xs r.1 q.1 w) (λ w. rise-picked g ys (x ∷ xs) r q.1 w) (nat_eq x y) refl
  where
    -- what lies behind a number that is there or behind it
    behind : (m : ℕ) → (m ≡ y → ⊥) → (m ≡ y) ⊎ IsIn m ys → IsIn m ys
    behind m not (inl e) = absurd (not e)
    behind m not (inr h) = h

    next : x ≡ y → (m : ℕ) → IsIn m xs → IsIn m ys
    next same m i = behind m (λ e. let less = r.0 m i in absurd (omega (arith, less, e, same))) (within m (inr i))

    rest : IsIn x ys → (m : ℕ) → IsIn m (x ∷ xs) → IsIn m ys
    rest there m (inl e) = subst (λ n. IsIn n ys) (sym e) there
    rest there m (inr i) = behind m (λ e. let less = r.0 m i in let over = q.0 x there in absurd (omega (arith, less, e, over))) (within m (inr i))

    by : (((m : ℕ) → IsIn m xs → IsIn m ys) → ArePicked (map g xs) (map g ys)) → (((m : ℕ) → IsIn m (x ∷ xs) → IsIn m ys) → ArePicked (map g (x ∷ xs)) (map g ys)) → (b : Bool) → nat_eq x y ≡ b → ArePicked (map g (x ∷ xs)) (map g (y ∷ ys))
    by both one true h =
        let same = eqb-true x y h in
        subst (λ d. ArePicked (d ∷ map g xs) (map g (y ∷ ys))) (ap g (sym same)) (picked (g y) (g y) (map g xs) (map g ys) (same-self (g y)) (both (next same)))
    by both one false h = passed (g y) (map g (x ∷ xs)) (map g ys) (one (rest (behind x (eqb-false x y h) (within x (inl refl)))))

picked-all : (es : List Edge) → ArePicked es es
picked-all [] = none
picked-all (e ∷ es) = picked e e es es (same-self e) (picked-all es)

-- ---- calls

lead-same : (s t : Target) → is_node t ≡ true → point_of s ≡ point_of t → s ≡ t
lead-same (node i) (node j) h e = let k : i ≡ j = cc in ap node k
lead-same end (node j) h e = cc
lead-same (end_by x) (node j) h e = cc
lead-same s end h e = cc
lead-same s (end_by x) h e = cc

not-held : (b r : Bool) → cond b true r ≡ false → (b ≡ false) × (r ≡ false)
not-held true r h = cc
not-held false r h = (refl, h)

module _ (table : TypeTable) (variables : List ℕ) (o : TypedPath) (arguments : Vec TypedAtom Global) (catches : List Catch) where
  abbrev form : TypedForm
  form = Call o arguments

  abbrev atoms : List Atom
  atoms = map typed_atom_view arguments.items

  abbrev raises : List Raised
  raises = call_raises table variables (typed_path_view o)

  -- the edge of an exception
  abbrev edge_by : ℕ → Edge
  edge_by e = edge_at table variables form (an_exit (raised e) (caught catches e))

  -- it makes what the arguments that it keeps make
  makes-any : (f : Fact) (e : ℕ) → any_pass (same_fact f) (edge_by e).makes ≡ any_pass (makes_by table variables atoms f) (kept_for raises e)
  makes-any f e =
      let paths = flat_map (λ k. argument_path (slice_get atoms k)) (kept_for raises e) in
      any-once f (flat_map (with_prefixes table variables) (flat_map (full table variables) paths))
      ∙ (any-flat (same_fact f) (with_prefixes table variables) (flat_map (full table variables) paths)
      ∙ (any-flat (λ g. any_pass (same_fact f) (with_prefixes table variables g)) (full table variables) paths
      ∙ any-flat (λ p. any_pass (λ g. any_pass (same_fact f) (with_prefixes table variables g)) (full table variables p)) (λ k. argument_path (slice_get atoms k)) (kept_for raises e)))

  -- what is taken away, whatever the exception
  abbrev left_held : Fact → Bool → Bool
  left_held f held = cond (any_pass (λ p. is_at_or_below p (path_of f)) (edge_by 0).kills) false held

  raised-edges : (es : List ℕ) (leads : List Target) → map (edge_at table variables form) (exits_from (map raised es) leads catches) ≡ map edge_by es
  raised-edges [] leads = refl
  raised-edges (e ∷ es) leads = ap (edge_by e ∷◌) (raised-edges es leads)

  module _ (ns : List ℕ) (onward : AreCallNumbers table variables atoms catches raises ns) where
    number-covers : (e : ℕ) → IsIn e (raised_numbers raises) → goes_on catches e ≡ true → (f : Fact) (held : Bool) → held_after_edge (edge_by e) f held ≡ false → (d : ℕ) × IsIn d ns × (caught catches d ≡ caught catches e) × (held_after_edge (edge_by d) f held ≡ false)
    number-covers e m on f held lost =
        let both = not-held (any_pass (same_fact f) (edge_by e).makes) (left_held f held) lost in
        let by = onward.lost e m on f (sym (makes-any f e) ∙ both.0) in
        (by.0, by.1, lead-same (caught catches by.0) (caught catches e) on by.2, ap (λ b. cond b true (left_held f held)) (makes-any f by.0 ∙ by.3) ∙ both.1)

    -- edges with those of the numbers cover that of each exception that leads on
    exception-covered : (es : List Edge) → ((d : ℕ) → IsIn d ns → IsIn (edge_by d) es) → (e : ℕ) → IsIn e (raised_numbers raises) → goes_on catches e ≡ true → IsCovered es (edge_by e)
    exception-covered es within e m on = record {
      leads = let by = onward.leads e m on in (edge_by by.0, within by.0 by.1, lead-same (caught catches by.0) (caught catches e) on by.2);
      lost = λ f held h. let by = number-covers e m on f held h in (edge_by by.0, within by.0 by.1, by.2, by.3);
    }

    numbers-onward : (pre left : List Edge) → AreOnwardEdges left (pre ++ map edge_by ns) → AreOnwardEdges left (pre ++ map edge_by (rising (raised_numbers raises)))
    numbers-onward pre left p = record {
      picked = picked-through left (pre ++ map edge_by ns) (pre ++ map edge_by (rising (raised_numbers raises))) p.picked
          (picked-append pre pre (map edge_by ns) (map edge_by (rising (raised_numbers raises))) (picked-all pre)
          (rise-picked edge_by (rising (raised_numbers raises)) ns onward.rise (rising-Rise (raised_numbers raises)) (λ m i. in-rising m (raised_numbers raises) (onward.there m i))));
      on = p.on;
      covered = λ e m. by e (in-append_cases e pre (map edge_by (rising (raised_numbers raises))) m);
    }
      where
        one : (x : ℕ) → IsIn x (raised_numbers raises) → goes_on catches x ≡ true → IsCovered left (edge_by x)
        one x m on = covered-through (pre ++ map edge_by ns) left (edge_by x) on (exception-covered (pre ++ map edge_by ns) (λ d i. in-append_right (edge_by d) pre (map edge_by ns) (in-map edge_by d ns i)) x m on) p.covered

        by : (e : Edge) → IsIn e pre ⊎ IsIn e (map edge_by (rising (raised_numbers raises))) → leads_on e ≡ true → IsCovered left e
        by e (inl m) on = p.covered e (in-append_left e pre (map edge_by ns) m) on
        by e (inr m) on =
            let x = in-map_from edge_by e (rising (raised_numbers raises)) m in
            subst (IsCovered left) (sym x.2) (one x.0 (rising-IsIn x.0 (raised_numbers raises) x.1) (sym (ap leads_on x.2) ∙ on))

    all-onward : (leads : List Target) (left : List Edge) → AreOnwardEdges left (map (edge_at table variables form) (exits_from (ok ∷ map raised ns) leads catches)) → AreOnwardEdges left (map (edge_at table variables form) (exits_from (ok ∷ map raised (rising (raised_numbers raises))) leads catches))
    all-onward [] left p =
        subst (AreOnwardEdges left) (sym (raised-edges (rising (raised_numbers raises)) []))
        (numbers-onward [] left (subst (AreOnwardEdges left) (raised-edges ns []) p))
    all-onward (t ∷ leads) left p =
        let first = edge_at table variables form (an_exit ok t) in
        subst (λ es. AreOnwardEdges left (first ∷ es)) (sym (raised-edges (rising (raised_numbers raises)) leads))
        (numbers-onward (first ∷ []) left (subst (λ es. AreOnwardEdges left (first ∷ es)) (raised-edges ns leads) p))

-- so it is at a call
pub call_outcomes_onward : (table : TypeTable) (variables : List ℕ) (form : TypedForm) (o : TypedPath) (arguments : Vec TypedAtom Global) (list : List TypedAtom) (catches : List Catch) (found : List Outcome) → form ≡ Call o arguments → list ≡ arguments.items
    → IsOnwardCall table variables (typed_path_view o) (map typed_atom_view list) catches found
    → (leads : List Target) (left : List Edge) → AreOnwardEdges left (map (edge_at table variables form) (exits_from found leads catches)) → AreOnwardEdges left (map (edge_at table variables form) (exits_from (outcomes_of table variables form) leads catches))
call_outcomes_onward table variables form o arguments list catches found e f c leads left = subst Onward-of (sym e) from
  where
    Onward-of : TypedForm → Type 0
    Onward-of form = AreOnwardEdges left (map (edge_at table variables form) (exits_from found leads catches)) → AreOnwardEdges left (map (edge_at table variables form) (exits_from (outcomes_of table variables form) leads catches))

    from : Onward-of (Call o arguments)
    from p = all-onward table variables o arguments catches c.numbers (subst (λ xs. AreCallNumbers table variables (map typed_atom_view xs) catches (call_raises table variables (typed_path_view o)) c.numbers) f c.covering) leads left
        (subst (λ os. AreOnwardEdges left (map (edge_at table variables (Call o arguments)) (exits_from os leads catches))) c.outcomes_are p)
