-- What is found in rounds is what is reached.
use Rattle.std.proofs.Common.{◌≡◌, ◌<◌, ℕ, zero, suc, ◌+◌, Bool, true, false, ◌||◌, ◌⊎◌, inl, inr, ◌↔◌, List, [], ◌∷◌, length, get_or, Some, slice_get, IsTrue, refl, sym, ◌∙◌, ap, subst, arith, true≢false, replicate, option_map, take, drop, take_all, ◌++◌, append-nil, Vec, Global}
use Rattle.std.proofs.Math.ListN.{set, drop_of_length-le}
use Rattle.std.proofs.lemmas.Option.{slice_get_within, slice_get-map, slice_get_read}
use Rattle.herm_model.specs.Lists.{IsIn, all_pass, any_pass}
use Rattle.herm_model.proofs.Lists.{and-both, both-and, or-either, or-left, or-right, every-in, in-every, length-map}
use Rattle.herm_types.specs.Table.{says}
use Rattle.herm_types.specs.Chosen.{lists}
use Rattle.herm_graph.specs.declared.graph.Rule.{Rule}
use Rattle.herm_graph.specs.declared.graph.Rule.TheVariants.{AnyOf, AllOf}
use Rattle.herm_graph.specs.Graph.{IsReached, at_goal, through, by_all, follows, AreReached, IsDoneAt, missing}

-- one is missing less
pub set-missing : (found : List Bool) (t : ℕ) (d : Bool) → t < length found → get_or found t d ≡ false → missing (set found t true) + 1 ≡ missing found
set-missing [] t d l e = absurd (omega (arith, l))
set-missing (b ∷ bs) zero d l e = rw e (omega arith)
set-missing (b ∷ bs) (suc t) d l e = omega (arith, set-missing bs t d (omega (arith, l)) e)

pub says-set : (found : List Bool) (t u : ℕ) → IsTrue (says (set found t true) u) → (u ≡ t) ⊎ IsTrue (says found u)
says-set [] t u h = inr h
says-set (b ∷ bs) zero zero h = inl refl
says-set (b ∷ bs) zero (suc u) h = inr h
says-set (b ∷ bs) (suc t) zero h = inr h
says-set (b ∷ bs) (suc t) (suc u) h = by (says-set bs t u h)
  where
    by : (u ≡ t) ⊎ IsTrue (says bs u) → (suc u ≡ suc t) ⊎ IsTrue (says bs u)
    by (inl e) = inl (ap suc e)
    by (inr s) = inr s

some-in : (test : ℕ → Bool) (ns : List ℕ) → any_pass test ns ≡ true → (v : ℕ) × IsIn v ns × (test v ≡ true)
some-in test [] e = absurd (true≢false (sym e))
some-in test (n ∷ ns) e = by (or-either (test n) (any_pass test ns) e) (some-in test ns)
  where
    by : IsTrue (test n) ⊎ IsTrue (any_pass test ns) → (any_pass test ns ≡ true → (v : ℕ) × IsIn v ns × (test v ≡ true)) → (v : ℕ) × IsIn v (n ∷ ns) × (test v ≡ true)
    by (inl h) again = (n, inl refl, h)
    by (inr h) again = let r = again h in (r.0, inr r.1, r.2)

in-some : (test : ℕ → Bool) (v : ℕ) (ns : List ℕ) → IsIn v ns → test v ≡ true → any_pass test ns ≡ true
in-some test v [] i e = absurd i
in-some test v (n ∷ ns) (inl same) e = or-left (test n) (any_pass test ns) (subst (λ w. test w ≡ true) same e)
in-some test v (n ∷ ns) (inr i) e = or-right (test n) (any_pass test ns) (in-some test v ns i e)

module _ (rule : Rule) (goal : List Bool) (next : List (List ℕ)) where
  follow : (found : List Bool) (t : ℕ) (ns : List ℕ) → AreReached rule goal next found → slice_get next t ≡ Some ns → follows rule goal found t ns ≡ true → IsReached rule goal next t
  follow found t ns a e f = by rule refl f
    where
      by : (r : Rule) → rule ≡ r → follows r goal found t ns ≡ true → IsReached rule goal next t
      by AnyOf same g =
          let r = some-in (λ v. says goal v || says found v) ns g in
          either r.0 r.1 (or-either (says goal r.0) (says found r.0) r.2)
        where
          either : (v : ℕ) → IsIn v ns → IsTrue (says goal v) ⊎ IsTrue (says found v) → IsReached rule goal next t
          either v i (inl h) = at_goal t v ns same e i h
          either v i (inr h) = through t v ns same e i (a v h)
      by AllOf same g =
          let both = and-both (says goal t) (all_pass (says found) ns) g in
          by_all t ns same e both.0 (λ v i. a v (every-in (says found) v ns both.1 i))

  -- one more is found
  pub reached-set : (found : List Bool) (t : ℕ) (ns : List ℕ) → slice_get next t ≡ Some ns → follows rule goal found t ns ≡ true → AreReached rule goal next found → AreReached rule goal next (set found t true)
  reached-set found t ns e f a u h = by (says-set found t u h)
    where
      by : (u ≡ t) ⊎ IsTrue (says found u) → IsReached rule goal next u
      by (inl same) = subst (λ w. IsReached rule goal next w) (sym same) (follow found t ns a e f)
      by (inr s) = a u s

  -- where nothing more follows, all that are reached are found
  pub complete : (found : List Bool) → ((t : ℕ) → t < length next → IsDoneAt rule goal next found t) → (t : ℕ) → IsReached rule goal next t → IsTrue (says found t)
  complete found done t (at_goal t' v ns same e i g) = by (says found t) refl
    where
      by : (b : Bool) → says found t ≡ b → IsTrue (says found t)
      by true s = s
      by false s = absurd (true≢false (sym (in-some (λ w. says goal w || says found w) v ns i (or-left (says goal v) (says found v) g)) ∙ subst (λ r. follows r goal found t ns ≡ false) same (done t (slice_get_within next t ns e) ns e s)))
  complete found done t (through t' v ns same e i r) = by (says found t) refl (complete found done v r)
    where
      by : (b : Bool) → says found t ≡ b → IsTrue (says found v) → IsTrue (says found t)
      by true s h = s
      by false s h = absurd (true≢false (sym (in-some (λ w. says goal w || says found w) v ns i (or-right (says goal v) (says found v) h)) ∙ subst (λ r'. follows r' goal found t ns ≡ false) same (done t (slice_get_within next t ns e) ns e s)))
  complete found done t (by_all t' ns same e g each) = by (says found t) refl (λ v i. complete found done v (each v i))
    where
      by : (b : Bool) → says found t ≡ b → ((v : ℕ) → IsIn v ns → IsTrue (says found v)) → IsTrue (says found t)
      by true s all = s
      by false s all = absurd (true≢false (sym (both-and (says goal t) (all_pass (says found) ns) g (in-every (says found) ns all)) ∙ subst (λ r. follows r goal found t ns ≡ false) same (done t (slice_get_within next t ns e) ns e s)))

  -- at first nothing is found
  none-said : (n t : ℕ) → says (replicate n false) t ≡ false
  none-said zero t = refl
  none-said (suc n) zero = refl
  none-said (suc n) (suc t) = none-said n t

  pub none-found : (n : ℕ) → AreReached rule goal next (replicate n false)
  none-found n t h = absurd (true≢false (sym h ∙ none-said n t))

-- the next ones of a type that is read
pub next-read : (next : List (Vec ℕ Global)) (t : ℕ) (v : Vec ℕ Global) → t < length next → v ≡ get_or next t v → slice_get (lists next) t ≡ Some v.items
next-read next t v l e = slice_get-map (λ (w : Vec ℕ Global). w.items) next t ∙ ap (option_map (λ (w : Vec ℕ Global). w.items)) (slice_get_read next (length next) t v refl l e)

-- what a slice of a whole vector leaves in it
pub kept-back : {X : Type 0} (new old : List X) (n : ℕ) → length new ≡ length old → n ≡ length old → take n (new ++ drop (length new) old) ≡ new
kept-back new old n same l =
    rw (drop_of_length-le old {i = length new} (omega (arith, same)), append-nil new) (take_all n new (omega (arith, same, l)))

pub settled : (rule : Rule) (goal : List Bool) (next : List (Vec ℕ Global)) (found : List Bool) → AreReached rule goal (lists next) found → ((t : ℕ) → t < length next → IsDoneAt rule goal (lists next) found t) → (t : ℕ) → IsTrue (says found t) ↔ IsReached rule goal (lists next) t
settled rule goal next found a done t =
    (a t, complete rule goal (lists next) found (λ u l. done u (omega (arith, l, length-map (λ (w : Vec ℕ Global). w.items) next))) t)
