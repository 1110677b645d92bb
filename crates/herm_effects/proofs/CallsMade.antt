-- What an outcome of a call makes is what those arguments make that come back at it.
use Rattle.std.proofs.Common.{◌≡◌, ℕ, zero, suc, List, [], ◌∷◌, ◌++◌, map, flat_map, Bool, true, false, cond, ◌||◌, Option, Some, None, slice_get, Vec, Global, refl, sym, ap, ap₂, ◌∙◌}
use Rattle.std.proofs.lemmas.List.{append-nil}
use Rattle.std.proofs.lemmas.Grind.{flat_map-append}
use Rattle.herm_model.specs.Lists.{any_pass, IsIn}
use Rattle.herm_model.specs.Paths.{Path, Fact, same_fact}
use Rattle.herm_model.specs.Types.{TypeTable, Parameter}
use Rattle.herm_model.specs.Facts.{with_prefixes, without_repeats}
use Rattle.herm_model.specs.Expressions.{Atom, literal, path}
use Rattle.herm_model.specs.Outcomes as model
use Rattle.herm_model.specs.Calls.{is_returned, returned_places, arguments_by, argument_path, call_parameters, call_raises, kept_for}
use Rattle.herm_model.specs.FactsOfStatements.{closed, full, full_of_each, set_by_call, kept_by_call, at_ok_or_exception}
use Rattle.herm_model.proofs.ClosedFacts.{once-IsIn, IsIn-once}
use Rattle.herm_model.proofs.FactTests.{listed-IsIn, IsIn-listed}
use Rattle.herm_typed.specs.declared.expressions.TypedPath.{TypedPath}
use Rattle.herm_typed.specs.declared.expressions.TypedAtom.{TypedAtom}
use Rattle.herm_typed.specs.declared.statements.TypedForm.{TypedForm, Call}
use Rattle.herm_base.specs.declared.numbers.ExcNo.{ExcNo}
use Rattle.herm_typed.specs.declared.outcome_list.Outcome.{Outcome}
use Rattle.herm_typed.specs.declared.outcome_list.Outcome.TheVariants.{Ok, Raised}
use Rattle.herm_typed.specs.View.{typed_path_view, typed_atom_view, outcome_view}
use Rattle.herm_judge.specs.declared.frame.Frame.{Frame}
use Rattle.herm_judge.specs.View.{table_of, variables_of}
use Rattle.herm_effects.specs.Rows.{makes_at, kills_at, places_at, made_by}
use Rattle.herm_effects.proofs.Repeats.{any-append}

-- ---- places

-- the numbers from one more on are one more each
places-later : (k : ℕ) (ps : List Parameter) → returned_places (suc k) ps ≡ map suc (returned_places k ps)
places-later k [] = refl
places-later k (p ∷ ps) = by (is_returned p.mode) (places-later (suc k) ps)
  where
    by : (b : Bool) → returned_places (suc (suc k)) ps ≡ map suc (returned_places (suc k) ps) → cond b (suc k ∷ returned_places (suc (suc k)) ps) (returned_places (suc (suc k)) ps) ≡ map suc (cond b (k ∷ returned_places (suc k) ps) (returned_places (suc k) ps))
    by true h = ap (suc k ∷◌) h
    by false h = h

abbrev at_places : List Atom → List ℕ → List Path
at_places atoms is = flat_map (λ i. argument_path (slice_get atoms i)) is

none-there : (is : List ℕ) → at_places [] is ≡ []
none-there [] = refl
none-there (i ∷ is) = none-there is

later-there : (a : Atom) (atoms : List Atom) (is : List ℕ) → at_places (a ∷ atoms) (map suc is) ≡ at_places atoms is
later-there a atoms [] = refl
later-there a atoms (i ∷ is) = ap (argument_path (slice_get atoms i) ++◌) (later-there a atoms is)

-- behind one argument more
more-there : (a : Atom) (ps : List Parameter) (atoms : List Atom) → arguments_by is_returned ps atoms ≡ at_places atoms (returned_places 0 ps) → arguments_by is_returned ps atoms ≡ at_places (a ∷ atoms) (returned_places 1 ps)
more-there a ps atoms h = h ∙ (sym (later-there a atoms (returned_places 0 ps)) ∙ ap (at_places (a ∷ atoms)) (sym (places-later 0 ps)))

-- the arguments that come back, by their places
returned-there : (ps : List Parameter) (atoms : List Atom) → arguments_by is_returned ps atoms ≡ at_places atoms (returned_places 0 ps)
returned-there [] atoms = refl
returned-there (p ∷ ps) [] = sym (none-there (returned_places 0 (p ∷ ps)))
returned-there (p ∷ ps) (literal l ∷ atoms) = by (is_returned p.mode) (more-there (literal l) ps atoms (returned-there ps atoms))
  where
    by : (t : Bool) → arguments_by is_returned ps atoms ≡ at_places (literal l ∷ atoms) (returned_places 1 ps) → arguments_by is_returned ps atoms ≡ at_places (literal l ∷ atoms) (cond t (0 ∷ returned_places 1 ps) (returned_places 1 ps))
    by true h = h
    by false h = h
returned-there (p ∷ ps) (path q ∷ atoms) = by (is_returned p.mode) (more-there (path q) ps atoms (returned-there ps atoms))
  where
    by : (t : Bool) → arguments_by is_returned ps atoms ≡ at_places (path q ∷ atoms) (returned_places 1 ps) → cond t (q ∷ arguments_by is_returned ps atoms) (arguments_by is_returned ps atoms) ≡ at_places (path q ∷ atoms) (cond t (0 ∷ returned_places 1 ps) (returned_places 1 ps))
    by true h = ap (q ∷◌) h
    by false h = h

-- ---- facts

module _ (types : TypeTable) (variables : List ℕ) where
  -- full values of arguments, place by place
  full-there : (atoms : List Atom) (is : List ℕ) → full_of_each types variables (at_places atoms is) ≡ flat_map (λ i. full_of_each types variables (argument_path (slice_get atoms i))) is
  full-there atoms [] = refl
  full-there atoms (i ∷ is) = flat_map-append (full types variables) (argument_path (slice_get atoms i)) (at_places atoms is) ∙ ap (full_of_each types variables (argument_path (slice_get atoms i)) ++◌) (full-there atoms is)

  -- what the row of a call has, by places
  made-there : (o : Path) (atoms : List Atom) (outcome : model.Outcome)
      → at_ok_or_exception (full_of_each types variables (set_by_call types variables o atoms)) (λ e. full_of_each types variables (kept_by_call types variables o atoms e)) outcome
      ≡ full_of_each types variables (at_places atoms (at_ok_or_exception (returned_places 0 (call_parameters types variables o)) (kept_for (call_raises types variables o)) outcome))
  made-there o atoms model.ok =
      append-nil (full_of_each types variables (set_by_call types variables o atoms))
      ∙ (ap (full_of_each types variables) (returned-there (call_parameters types variables o) atoms)
      ∙ ap (λ is. full_of_each types variables (at_places atoms is)) (sym (append-nil (returned_places 0 (call_parameters types variables o)))))
  made-there o atoms (model.raised e) = refl
  made-there o atoms model.is_true = refl
  made-there o atoms model.is_false = refl
  made-there o atoms model.turn = refl
  made-there o atoms model.done = refl
  made-there o atoms (model.component c) = refl
  made-there o atoms (model.arm n) = refl

  module _ (f : Fact) where
    abbrev Told : List Fact → Bool
    Told fs = any_pass (same_fact f) fs

    once-told : (fs : List Fact) → Told (without_repeats fs) ≡ Told fs
    once-told fs = by (Told (without_repeats fs)) (Told fs) refl refl
      where
        by : (a b : Bool) → Told (without_repeats fs) ≡ a → Told fs ≡ b → a ≡ b
        by true true g h = refl
        by false false g h = refl
        by true false g h = sym (IsIn-listed f fs (once-IsIn f fs (listed-IsIn f (without_repeats fs) g))) ∙ h
        by false true g h = sym g ∙ IsIn-listed f (without_repeats fs) (IsIn-once f fs (listed-IsIn f fs h))

    -- facts of parts with those before them are those of each part with those before them
    told-each : {I : Type 0} (g : I → List Fact) (is : List I) → Told (closed types variables (flat_map g is)) ≡ Told (flat_map (λ i. closed types variables (g i)) is)
    told-each g [] = refl
    told-each g (i ∷ is) =
        once-told (flat_map (with_prefixes types variables) (g i ++ flat_map g is))
        ∙ (ap Told (flat_map-append (with_prefixes types variables) (g i) (flat_map g is))
        ∙ (any-append (same_fact f) (flat_map (with_prefixes types variables) (g i)) (flat_map (with_prefixes types variables) (flat_map g is))
        ∙ (ap₂ (λ a b. a || b) (sym (once-told (flat_map (with_prefixes types variables) (g i)))) (sym (once-told (flat_map (with_prefixes types variables) (flat_map g is))) ∙ told-each g is)
        ∙ sym (any-append (same_fact f) (closed types variables (g i)) (flat_map (λ i. closed types variables (g i)) is)))))

-- ---- a call

module _ (frame : Frame) (form : TypedForm) (o : TypedPath) (arguments : Vec TypedAtom Global) (is : form ≡ Call o arguments) where
  -- the facts that an outcome makes are those of the arguments that come back at it
  pub call_makes : (outcome : Outcome) (f : Fact) → any_pass (same_fact f) (makes_at frame form outcome) ≡ any_pass (same_fact f) (flat_map (λ i. made_by frame (slice_get (map typed_atom_view arguments.items) i)) (places_at frame o outcome))
  call_makes outcome f =
      ap (λ x. any_pass (same_fact f) (makes_at frame x outcome)) is
      ∙ (ap (λ fs. any_pass (same_fact f) (closed (table_of frame) (variables_of frame) fs)) (made-there (table_of frame) (variables_of frame) (typed_path_view o) atoms (outcome_view outcome) ∙ full-there (table_of frame) (variables_of frame) atoms (places_at frame o outcome))
      ∙ told-each (table_of frame) (variables_of frame) f (λ i. full_of_each (table_of frame) (variables_of frame) (argument_path (slice_get atoms i))) (places_at frame o outcome))
    where
      atoms : List Atom
      atoms = map typed_atom_view arguments.items

  -- an exception takes away what the normal outcome takes away
  pub call_takes : (e : ExcNo) → kills_at frame form Ok ≡ kills_at frame form (Raised e)
  call_takes e =
      ap (λ x. kills_at frame x Ok) is
      ∙ (append-nil (set_by_call (table_of frame) (variables_of frame) (typed_path_view o) (map typed_atom_view arguments.items))
      ∙ sym (ap (λ x. kills_at frame x (Raised e)) is))
