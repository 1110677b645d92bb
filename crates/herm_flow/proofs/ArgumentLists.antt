-- Lists of what the arguments of a call make, one after the other.
use Rattle.std.proofs.Common.{◌≡◌, ℕ, ◌+◌, ◌<◌, ◌≤◌, ◌⊎◌, inl, inr, List, [], ◌∷◌, ◌++◌, map, length, get_or, Bool, true, false, Option, Some, nat_eq, nat_lt, option_map, slice_get, Vec, Global, refl, sym, ap, subst, ◌∙◌, arith}
use Rattle.std.proofs.lemmas.Bool.{eqb-true, eqb-false}
use Rattle.std.proofs.lemmas.Bool.Decides.{nat_tests}
use Rattle.std.proofs.lemmas.Option.{slice_get_read, slice_get_past}
use Rattle.herm_model.specs.Lists.{IsIn, list_of, map_or}
use Rattle.herm_model.proofs.FactTests.{got-IsIn}
use Rattle.herm_model.proofs.Lists.{slice_get-map, length-map, in-append_cases}
use Rattle.herm_types.specs.declared.fact.Fact.{Fact}
use Rattle.herm_types.specs.View.{fact_view}
use Rattle.herm_typed.specs.declared.expressions.TypedPath.{TypedPath}
use Rattle.herm_typed.specs.declared.expressions.TypedAtom.{TypedAtom}
use Rattle.herm_typed.specs.View.{typed_atom_view, outcome_view}
use Rattle.herm_judge.specs.declared.frame.Frame.{Frame}
use Rattle.herm_effects.specs.Rows.{places_at, made_by}
use Rattle.herm_flow.specs.declared.onward.OnwardEdge.{OnwardEdge}
use Rattle.herm_flow.specs.OnwardView.{facts_in}
use Rattle.herm_flow.specs.Listed.{is_marked, IsCalled, AreCalled, call_kills}
use Rattle.herm_flow.proofs.ListedEdges.{facts-before, got-last}

-- what was read at a place is in the list
pub read_in : {X : Type 0} (xs : List X) (i : ℕ) (x : X) → i < length xs → x ≡ get_or xs i x → IsIn x xs
read_in xs i x within is = got-IsIn xs i x (slice_get_read xs (length xs) i x refl within is)

module _ (frame : Frame) (list : List TypedAtom) (marks : List Bool) where
  abbrev pub AreMade : List (Vec Fact Global) → ℕ → Type 0
  AreMade made n = (k : ℕ) → k < n → is_marked marks k ≡ true → facts_in made k ≡ made_by frame (slice_get (map typed_atom_view list) k)

  -- the list of the next argument
  pub made_next : (made new : List (Vec Fact Global)) (facts : Vec Fact Global) (i j : ℕ) (a : TypedAtom) (b : Bool) → length made ≡ i → j ≡ i + 1 → new ≡ made ++ facts ∷ [] → i < length list → i < length marks → a ≡ get_or list i a → b ≡ get_or marks i b
      → (b ≡ true → map fact_view facts.items ≡ made_by frame (Some (typed_atom_view a))) → AreMade made i → AreMade new j
  made_next made new facts i j a b many next pushed within within' is at made-here before k below marked = by (nat_eq k i) refl
    where
      here : slice_get new i ≡ Some facts
      here = ap (λ ls. slice_get ls i) pushed ∙ (ap (slice_get (made ++ facts ∷ [])) (sym many) ∙ got-last made facts)

      mark-here : b ≡ is_marked marks i
      mark-here = sym (ap (map_or true (λ b. b)) (slice_get_read marks (length marks) i b refl within' at))

      argument-here : slice_get (map typed_atom_view list) i ≡ Some (typed_atom_view a)
      argument-here = slice_get-map typed_atom_view list i ∙ ap (λ (o : Option TypedAtom). option_map typed_atom_view o) (slice_get_read list (length list) i a refl within is)

      same : (k ≡ i) → facts_in new k ≡ made_by frame (slice_get (map typed_atom_view list) k)
      same e =
          ap (facts_in new) e
          ∙ (ap (list_of (λ (v : Vec Fact Global). map fact_view v.items)) here
          ∙ (made-here (mark-here ∙ (sym (ap (is_marked marks) e) ∙ marked))
          ∙ (sym (ap (made_by frame) argument-here) ∙ sym (ap (λ n. made_by frame (slice_get (map typed_atom_view list) n)) e))))

      by : (t : Bool) → nat_eq k i ≡ t → facts_in new k ≡ made_by frame (slice_get (map typed_atom_view list) k)
      by true e = same (eqb-true k i e)
      by false e =
          let other = eqb-false k i e in
          let lower : k < i = omega (arith, below, next, other) in
          let there : k < length made = omega (arith, lower, many) in
          facts-before made new (facts ∷ [], pushed) k there ∙ before k lower marked

  -- behind all arguments there is nothing
  pub made_all : (made : List (Vec Fact Global)) (n : ℕ) → length made ≡ n → length list ≤ n → AreMade made n → (k : ℕ) → is_marked marks k ≡ true → facts_in made k ≡ made_by frame (slice_get (map typed_atom_view list) k)
  made_all made n many all before k marked = by (nat_lt k n) refl
    where
      beyond : n ≤ k → facts_in made k ≡ made_by frame (slice_get (map typed_atom_view list) k)
      beyond h =
          let short = length-map typed_atom_view list in
          ap (list_of (λ (v : Vec Fact Global). map fact_view v.items)) (slice_get_past made k (omega (arith, h, many)))
          ∙ sym (ap (made_by frame) (slice_get_past (map typed_atom_view list) k (omega (arith, h, all, short))))

      by : (t : Bool) → nat_lt k n ≡ t → facts_in made k ≡ made_by frame (slice_get (map typed_atom_view list) k)
      by true e = before k (grind (arith, nat_tests, e)) marked
      by false e = beyond (grind (arith, nat_tests, e))

-- one edge of a call more
pub called_more : (frame : Frame) (o : TypedPath) (es new : List OnwardEdge) (e : OnwardEdge) → new ≡ es ++ e ∷ [] → e.makes.items ≡ places_at frame o e.outcome → e.kills ≡ call_kills (outcome_view e.outcome) → AreCalled frame o es → AreCalled frame o new
called_more frame o es new e pushed makes kills before d m = by (in-append_cases d es (e ∷ []) (subst (IsIn d) pushed m))
  where
    by : IsIn d es ⊎ IsIn d (e ∷ []) → IsCalled frame o d
    by (inl h) = before d h
    by (inr (inl same)) = subst (IsCalled frame o) (sym same) (record { makes = makes; kills = kills })
    by (inr (inr h)) = absurd h
