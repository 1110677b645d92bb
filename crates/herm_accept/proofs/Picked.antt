-- Edges that are picked from others are the same as some of them; so their outcomes differ where those of the others do.
use Rattle.std.proofs.Common.{◌≡◌, List, [], ◌∷◌, map, find, Bool, true, false, cond, IsTrue, Some, refl, sym, ap, ◌∙◌, subst, inl, inr}
use Rattle.std.proofs.lemmas.Bool.{eq-eqb, eqb-true}
use Rattle.herm_model.specs.Lists.{IsIn}
use Rattle.herm_model.proofs.Lists.{not_true, in-map, in-map_from}
use Rattle.herm_model.specs.Statements.{Differ}
use Rattle.herm_model.specs.Outcomes.{Outcome, ok, is_true, is_false, turn, done, component, arm, raised, same_outcome}
use Rattle.herm_model.specs.ControlPaths.{Edge}
use Rattle.herm_flow.specs.Onward.{IsSameEdge, ArePicked, none, picked, passed}

-- ---- outcomes

pub outcomes-same : (a b : Outcome) → IsTrue (same_outcome a b) → a ≡ b
outcomes-same ok ok h = refl
outcomes-same is_true is_true h = refl
outcomes-same is_false is_false h = refl
outcomes-same turn turn h = refl
outcomes-same done done h = refl
outcomes-same (component c) (component d) h = ap component (eqb-true c d h)
outcomes-same (arm m) (arm n) h = ap arm (eqb-true m n h)
outcomes-same (raised e) (raised f) h = ap raised (eqb-true e f h)
outcomes-same _ _ h = not_true h

pub outcome_self : (o : Outcome) → IsTrue (same_outcome o o)
outcome_self ok = refl
outcome_self is_true = refl
outcome_self is_false = refl
outcome_self turn = refl
outcome_self done = refl
outcome_self (component c) = eq-eqb c c refl
outcome_self (arm n) = eq-eqb n n refl
outcome_self (raised e) = eq-eqb e e refl

abbrev pub outcomes_of : List Edge → List Outcome
outcomes_of es = map (λ (e : Edge). e.outcome) es

-- where outcomes differ, an edge is the one that is found by its outcome
pub found-by_outcome : (o : Outcome) (e : Edge) (es : List Edge) → Differ (outcomes_of es) → IsIn e es → IsTrue (same_outcome e.outcome o) → find (λ (e : Edge). same_outcome e.outcome o) es ≡ Some e
found-by_outcome o e [] differ member h = absurd member
found-by_outcome o e (d ∷ es) differ (inl is) h = ap (λ b. cond b (Some d) (find (λ (e : Edge). same_outcome e.outcome o) es)) (subst (λ (e : Edge). IsTrue (same_outcome e.outcome o)) is h) ∙ ap Some (sym is)
found-by_outcome o e (d ∷ es) differ (inr member) h = go (same_outcome d.outcome o) refl (found-by_outcome o e es differ.1 member h)
  where
    go : (b : Bool) → same_outcome d.outcome o ≡ b → find (λ (e : Edge). same_outcome e.outcome o) es ≡ Some e → cond b (Some d) (find (λ (e : Edge). same_outcome e.outcome o) es) ≡ Some e
    go true named later =
        let same : e.outcome ≡ d.outcome = outcomes-same e.outcome o h ∙ sym (outcomes-same d.outcome o named) in
        absurd (differ.0 (subst (λ o. IsIn o (outcomes_of es)) same (in-map (λ (e : Edge). e.outcome) e es member)))
    go false named later = later

-- ---- edges that are picked

-- one of these edges is the same as this one
pub record IsSameIn (d : Edge) (all : List Edge) : Type 0 where
  pub edge : Edge
  pub member : IsIn edge all
  pub same : IsSameEdge d edge

pub same-within : (left all : List Edge) → ArePicked left all → (e : Edge) → IsIn e left → IsSameIn e all
same-within _ _ none e h = absurd h
same-within _ _ (picked c d left all same are) e (inl is) = record { edge = d; member = inl refl; same = subst (λ (e : Edge). IsSameEdge e d) (sym is) same }
same-within _ _ (picked c d left all same are) e (inr member) = let k = same-within left all are e member in record { edge = k.edge; member = inr k.member; same = k.same }
same-within _ _ (passed d left all are) e member = let k = same-within left all are e member in record { edge = k.edge; member = inr k.member; same = k.same }

-- outcomes of edges that are picked are outcomes of the edges
outcomes-within : (left all : List Edge) → ArePicked left all → (o : Outcome) → IsIn o (outcomes_of left) → IsIn o (outcomes_of all)
outcomes-within left all are o h =
    let k = in-map_from (λ (e : Edge). e.outcome) o left h in
    let other = same-within left all are k.0 k.1 in
    subst (λ o. IsIn o (outcomes_of all)) (sym (k.2 ∙ other.same.outcome)) (in-map (λ (e : Edge). e.outcome) other.edge all other.member)

pub picked-differ : (left all : List Edge) → ArePicked left all → Differ (outcomes_of all) → Differ (outcomes_of left)
picked-differ _ _ none differ = tt
picked-differ _ _ (picked d e left all same are) differ =
    ((λ r. differ.0 (subst (λ o. IsIn o (outcomes_of all)) same.outcome (outcomes-within left all are d.outcome r))), picked-differ left all are differ.1)
picked-differ _ _ (passed e left all are) differ = picked-differ left all are differ.1
