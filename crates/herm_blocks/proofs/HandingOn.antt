-- What a node hands on by its edge of `ok` is what its form hands on.
use Rattle.std.proofs.Common.{◌≡◌, ℕ, List, [], ◌∷◌, ◌++◌, map, refl, sym, ap, ap₂, ◌∙◌, inl, inr, ◌⊎◌}
use Rattle.std.specs.Prelude.{filter, not}
use Rattle.herm_model.specs.Lists.{any_pass}
use Rattle.herm_model.specs.Paths.{Path, Fact, path_of, is_at_or_below}
use Rattle.herm_model.specs.Types.{TypeTable}
use Rattle.herm_model.specs.Statements.{Form, Assign, Move, New, Discard, Unite, Dissolve, Reveal, Case, Wrap, Unwrap, Insert, Remove, Get, For, Connect, Send, Receive, Select, Call, Return, ReturnBy, Create, If, While, Raise, Leave}
use Rattle.herm_model.specs.Outcomes.{Outcome, ok, raised, normal_outcomes, exceptions}
use Rattle.herm_model.specs.Targets.{Target}
use Rattle.herm_model.specs.Handlers.{Catch, caught}
use Rattle.herm_model.specs.Nodes.{Node}
use Rattle.herm_model.specs.Exits.{Exit, paired, exits}
use Rattle.herm_model.specs.FactsOfStatements.{makes, kills}
use Rattle.herm_model.specs.ControlPaths.{edge}
use Rattle.herm_translated.specs.BlockLabels.{facts_after}
use Rattle.herm_blocks.specs.Scopes.{handed_by}
use Rattle.herm_blocks.proofs.LeadingOn.{AreOther, components-other, arms-other, LeadsOn}

all-left : (facts : List Fact) → filter (λ f. not (any_pass (λ p. is_at_or_below p (path_of f)) [])) facts ≡ facts
all-left [] = refl
all-left (f ∷ facts) = ap (f ∷◌) (all-left facts)

module _ (types : TypeTable) (variables : List ℕ) where
  -- what a form does at `ok`, where it has no such outcome
  abbrev DoesNothing : Form → Type 0
  DoesNothing form = AreOther (normal_outcomes form) × (makes types variables form ok ≡ []) × (kills types variables form ok ≡ [])

  by-form : (form : Form) → (normal_outcomes form ≡ ok ∷ []) ⊎ DoesNothing form
  by-form (Assign x e) = inl refl
  by-form (Move y x) = inl refl
  by-form (New x) = inl refl
  by-form (Discard x) = inl refl
  by-form (Unite v c y) = inl refl
  by-form (Dissolve v c y) = inl refl
  by-form (Reveal v c) = inl refl
  by-form (Case v cs) = inr (components-other cs, refl, refl)
  by-form (Wrap y p) = inl refl
  by-form (Unwrap p t y) = inl refl
  by-form (Insert r t) = inl refl
  by-form (Remove r t keys) = inl refl
  by-form (Get r t keys) = inl refl
  by-form (For r t) = inr ((refl, (refl, tt)), refl, refl)
  by-form (Connect o i) = inl refl
  by-form (Send x o) = inl refl
  by-form (Receive x i) = inl refl
  by-form (Select arms) = inr (arms-other 0 arms, refl, refl)
  by-form (Call o arguments) = inl refl
  by-form (Return m) = inl refl
  by-form (ReturnBy m e) = inl refl
  by-form (Create o process) = inl refl
  by-form (If e) = inr ((refl, (refl, tt)), refl, refl)
  by-form (While e) = inr ((refl, (refl, tt)), refl, refl)
  by-form (Raise e) = inr (tt, refl, refl)
  by-form Leave = inl refl

  module _ (form : Form) (facts : List Fact) where
    -- the edges of exceptions hand nothing on by `ok`
    exceptions-hand : (catches : List Catch) (es : List ℕ) → handed_by (map (edge types variables form) (map (λ e. record { outcome = raised e; target = caught catches e }) es)) facts ≡ facts
    exceptions-hand catches [] = refl
    exceptions-hand catches (e ∷ es) = exceptions-hand catches es

    others-hand : (os : List Outcome) (ts : List Target) (xs : List Exit) → AreOther os → handed_by (map (edge types variables form) xs) facts ≡ facts → handed_by (map (edge types variables form) (paired os ts ++ xs)) facts ≡ facts
    others-hand [] ts xs h e = e
    others-hand (o ∷ os) [] xs h e = e
    others-hand (o ∷ os) (t ∷ ts) xs h e = rw h.0 (others-hand os ts xs h.1 e)

    nothing-done : makes types variables form ok ≡ [] → kills types variables form ok ≡ [] → facts ≡ facts_after types variables form ok facts
    nothing-done m k = sym (ap₂ (λ (ms : List Fact) (ks : List Path). ms ++ filter (λ f. not (any_pass (λ p. is_at_or_below p (path_of f)) ks)) facts) m k ∙ all-left facts)

    first-hands : (os : List Outcome) (ts : List Target) (xs : List Exit) (t : Target) (rest : List Target) → os ≡ ok ∷ [] → ts ≡ t ∷ rest → handed_by (map (edge types variables form) (paired os ts ++ xs)) facts ≡ facts_after types variables form ok facts
    first-hands os ts xs t rest e f = ap₂ (λ os ts. handed_by (map (edge types variables form) (paired os ts ++ xs)) facts) e f

  pub hands-on : (n : Node) (facts : List Fact) → LeadsOn n.form n.leads → handed_by (map (edge types variables n.form) (exits types variables n)) facts ≡ facts_after types variables n.form ok facts
  hands-on n facts leads = by (by-form n.form)
    where
      by : (normal_outcomes n.form ≡ ok ∷ []) ⊎ DoesNothing n.form → handed_by (map (edge types variables n.form) (exits types variables n)) facts ≡ facts_after types variables n.form ok facts
      by (inl e) = let t = leads e in first-hands n.form facts (normal_outcomes n.form) n.leads _ t.0 t.1 e t.2
      by (inr h) = others-hand n.form facts (normal_outcomes n.form) n.leads _ h.0 (exceptions-hand n.form facts n.catches (exceptions types variables n.form)) ∙ nothing-done n.form facts h.1 h.2
