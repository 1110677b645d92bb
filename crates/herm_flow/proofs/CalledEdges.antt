-- The edges of a call name the lists of its arguments.
use Rattle.std.proofs.Common.{◌≡◌, ℕ, inl, inr, List, [], ◌∷◌, ◌++◌, map, flat_map, true, slice_get, Vec, Global, refl, sym, ap, ap₂, subst, ◌∙◌}
use Rattle.herm_model.specs.Lists.{IsIn, any_pass}
use Rattle.herm_model.specs.Paths as model
use Rattle.herm_model.specs.Paths.{same_fact}
use Rattle.herm_model.proofs.Lists.{cons-head, cons-tail, cons-not_nil}
use Rattle.herm_types.specs.declared.fact.Path.{Path}
use Rattle.herm_types.specs.View.{path_view}
use Rattle.herm_typed.specs.declared.expressions.TypedPath.{TypedPath}
use Rattle.herm_typed.specs.declared.expressions.TypedAtom.{TypedAtom}
use Rattle.herm_typed.specs.declared.statements.TypedForm.{TypedForm}
use Rattle.herm_typed.specs.declared.outcome_list.Outcome.{Outcome}
use Rattle.herm_typed.specs.declared.outcome_list.Outcome.TheVariants.{Ok, True, False, Turn, Done, Component, Arm, Raised}
use Rattle.herm_typed.specs.View.{typed_atom_view, outcome_view}
use Rattle.herm_judge.specs.declared.frame.Frame.{Frame}
use Rattle.herm_effects.specs.Rows.{makes_at, kills_at, made_by}
use Rattle.herm_effects.proofs.CallsMade.{call_makes, call_takes}
use Rattle.herm_flow.specs.declared.onward.OnwardEdge.{OnwardEdge}
use Rattle.herm_flow.specs.declared.lists.Listed.{Listed}
use Rattle.herm_flow.specs.OnwardView.{facts_in, paths_in}
use Rattle.herm_flow.specs.Listed.{is_named, IsCall, IsCalled, AreCalled, call_kills, no_list, AreAsTabled}
use Rattle.herm_flow.proofs.ListedEdges.{after-told}
use Rattle.herm_flow.proofs.Marked.{named-there}

-- lists that are as they should be at each number of these
each-there : (f g : ℕ → List model.Fact) (is : List ℕ) → ((i : ℕ) → IsIn i is → f i ≡ g i) → flat_map f is ≡ flat_map g is
each-there f g [] same = refl
each-there f g (i ∷ is) same = ap₂ ◌++◌ (same i (inl refl)) (each-there f g is (λ k m. same k (inr m)))

-- the one list of what a call takes away, and no other
first-gone : (gone : List (Vec Path Global)) (paths : List model.Path) → map (λ (p : Vec Path Global). map path_view p.items) gone ≡ paths ∷ [] → paths_in gone 0 ≡ paths
first-gone [] paths h = cons-not_nil paths [] (sym h)
first-gone (g ∷ gone) paths h = cons-head h

no-other : (gone : List (Vec Path Global)) (paths : List model.Path) → map (λ (p : Vec Path Global). map path_view p.items) gone ≡ paths ∷ [] → paths_in gone no_list ≡ []
no-other [] paths h = refl
no-other (g ∷ []) paths h = refl
no-other (g ∷ k ∷ gone) paths h = cons-not_nil _ _ (cons-tail h)

module _ (frame : Frame) (form : TypedForm) (o : TypedPath) (list : List TypedAtom) (call : IsCall form o list) where
  taken : (gone : List (Vec Path Global)) → map (λ (p : Vec Path Global). map path_view p.items) gone ≡ kills_at frame form Ok ∷ [] → (outcome : Outcome) → paths_in gone (call_kills (outcome_view outcome)) ≡ kills_at frame form outcome
  taken gone h Ok = first-gone gone (kills_at frame form Ok) h
  taken gone h (Raised e) = first-gone gone (kills_at frame form Ok) h ∙ call_takes frame form o call.arguments call.is e
  taken gone h True = no-other gone (kills_at frame form Ok) h ∙ sym (ap (λ x. kills_at frame x True) call.is)
  taken gone h False = no-other gone (kills_at frame form Ok) h ∙ sym (ap (λ x. kills_at frame x False) call.is)
  taken gone h Turn = no-other gone (kills_at frame form Ok) h ∙ sym (ap (λ x. kills_at frame x Turn) call.is)
  taken gone h Done = no-other gone (kills_at frame form Ok) h ∙ sym (ap (λ x. kills_at frame x Done) call.is)
  taken gone h (Component c) = no-other gone (kills_at frame form Ok) h ∙ sym (ap (λ x. kills_at frame x (Component c)) call.is)
  taken gone h (Arm n) = no-other gone (kills_at frame form Ok) h ∙ sym (ap (λ x. kills_at frame x (Arm n)) call.is)

  pub called_as_tabled : (l : Listed) (seen : List OnwardEdge) → seen ≡ l.edges.items → AreCalled frame o l.edges.items
      → ((i : ℕ) → is_named seen i ≡ true → facts_in l.made.items i ≡ made_by frame (slice_get (map typed_atom_view list) i))
      → map (λ (p : Vec Path Global). map path_view p.items) l.gone.items ≡ kills_at frame form Ok ∷ [] → AreAsTabled frame form l
  called_as_tabled l seen same called made gone e m = let is = called e m in record {
    outcome = refl;
    target = refl;
    held = λ f held. after-told f held _ _ _ _ (told f is) (ap (paths_in l.gone.items) is.kills ∙ taken l.gone.items gone e.outcome);
  }
    where
      told : (f : model.Fact) → IsCalled frame o e → any_pass (same_fact f) (flat_map (facts_in l.made.items) e.makes.items) ≡ any_pass (same_fact f) (makes_at frame form e.outcome)
      told f is =
          ap (any_pass (same_fact f)) (each-there (facts_in l.made.items) (λ i. made_by frame (slice_get (map typed_atom_view list) i)) e.makes.items (λ i k. made i (subst (λ es. is_named es i ≡ true) (sym same) (named-there l.edges.items e i m k)))
          ∙ ap₂ (λ xs is. flat_map (λ i. made_by frame (slice_get (map typed_atom_view xs) i)) is) (sym call.items) is.makes)
          ∙ sym (call_makes frame form o call.arguments call.is e.outcome f)
