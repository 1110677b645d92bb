-- Numbers that facts get one after another.
use Rattle.std.proofs.Common.{◌≡◌, ◌⊎◌, inl, inr, ℕ, ◌+◌, ◌<◌, List, [], ◌∷◌, ◌++◌, length, map, flat_map, take, get_or, Bool, true, false, Option, Some, None, slice_get, refl, sym, ◌∙◌, ap, subst}
use Rattle.std.specs.declared.vec.Vec.{Vec}
use Rattle.std.specs.declared.alloc.Global.{Global}
use Rattle.std.proofs.lemmas.List.{map_more, take_more, append_assoc, flat_map_more}
use Rattle.herm_model.specs.Lists.{IsIn, list_of}
use Rattle.herm_model.specs.Paths.{Fact, same_fact}
use Rattle.herm_model.proofs.Lists.{in-append_left, in-append_right, in-append_cases, in-flat_map, in-flat_map_from}
use Rattle.herm_model.proofs.FactTests.{got-IsIn}
use Rattle.herm_model.proofs.Equality.{same_fact-is}
use Rattle.herm_facts.specs.declared.fact_numbers.FactNumbers.{FactNumbers}
use Rattle.herm_facts.specs.FactNumbers.{number_of}
use Rattle.herm_types.specs.declared.fact.Fact.{Fact as FactHere}
use Rattle.herm_flow.specs.declared.onward.OnwardEdge.{OnwardEdge}
use Rattle.herm_flow.specs.declared.onward.OnwardPoint.{OnwardPoint}
use Rattle.herm_flow.specs.declared.onward.OnwardFlow.{OnwardFlow}
use Rattle.herm_flow.specs.OnwardView.{facts_in}
use Rattle.herm_check.specs.declared.numbering.Numbering.{Numbering}
use Rattle.herm_check.specs.View.{edge_in}
use Rattle.herm_check.specs.Numberings.{HasNumber, HaveNumbers}
use Rattle.herm_check.specs.Labelled.{facts_of, IsNumberingOf}

pub one-added : (before : List Fact) (old new : FactNumbers) (g : Fact) (n : ℕ) → number_of new g ≡ Some n → ((f : Fact) → same_fact f g ≡ false → number_of new f ≡ number_of old f)
    → ((f : Fact) (k : ℕ) → number_of old f ≡ Some k → number_of new f ≡ Some k) → HaveNumbers before old → HaveNumbers (before ++ g ∷ []) new
one-added before old new g n number others kept h = record { all = λ f m. all f (in-append_cases f before (g ∷ []) m); only = λ f k at. only f k at (same_fact f g) refl }
  where
    all : (f : Fact) → IsIn f before ⊎ IsIn f (g ∷ []) → HasNumber new f
    all f (inl m) = let k = h.all f m in (k.0, kept f k.0 k.1)
    all f (inr (inl e)) = (n, ap (number_of new) e ∙ number)
    all f (inr (inr none)) = absurd none

    only : (f : Fact) (k : ℕ) → number_of new f ≡ Some k → (b : Bool) → same_fact f g ≡ b → IsIn f (before ++ g ∷ [])
    only f k at true e = in-append_right f before (g ∷ []) (inl (same_fact-is f g e))
    only f k at false e = in-append_left f before (g ∷ []) (h.only f k (sym (others f e) ∙ at))

-- a fact more of a list
pub facts-more : {X : Type 0} (view : X → Fact) (before : List Fact) (xs : List X) (i : ℕ) (x : X) → i < length xs → x ≡ get_or xs i x → before ++ map view (take i xs) ++ view x ∷ [] ≡ before ++ map view (take (i + 1) xs)
facts-more view before xs i x within is =
    append_assoc before (map view (take i xs)) (view x ∷ [])
    ∙ ap (λ fs. before ++ fs) (ap (λ y. map view (take i xs) ++ view y ∷ []) is ∙ sym (map_more view xs i x within))

-- the facts of an element more of a list
pub rows-more : {X : Type 0} (facts : X → List Fact) (before : List Fact) (xs : List X) (i : ℕ) (x : X) → i < length xs → x ≡ get_or xs i x → before ++ flat_map facts (take i xs) ++ facts x ≡ before ++ flat_map facts (take (i + 1) xs)
rows-more facts before xs i x within is =
    flat_map_more facts before (take i xs) x
    ∙ ap (λ ys. before ++ flat_map facts ys) (ap (λ y. take i xs ++ y ∷ []) is ∙ sym (take_more xs i x within))

-- what an edge of the flow makes has numbers
pub made-numbered : (flow : OnwardFlow) (n : Numbering) → IsNumberingOf flow n → (p : OnwardPoint) (e : OnwardEdge) → IsIn p flow.points.items → (f : Fact) → IsIn f (edge_in p e).makes → HasNumber n.facts f
made-numbered flow n h p e in-flow f makes =
    let m = in-flat_map_from (facts_in p.made.items) f e.makes.items makes in
    h.numbers.all f (inr (in-flat_map (λ (q : OnwardPoint). flat_map facts_of q.made.items) p f flow.points.items in-flow (by m.0 m.2 (slice_get p.made.items m.0) refl)))
  where
    by : (m : ℕ) → IsIn f (facts_in p.made.items m) → (o : Option (Vec FactHere Global)) → slice_get p.made.items m ≡ o → IsIn f (flat_map facts_of p.made.items)
    by m member None is = absurd (subst (λ o. IsIn f (list_of facts_of o)) is member)
    by m member (Some v) is = in-flat_map facts_of v f p.made.items (got-IsIn p.made.items m v is) (subst (λ o. IsIn f (list_of facts_of o)) is member)
