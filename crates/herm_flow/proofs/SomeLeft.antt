-- Some of the elements of a list.
use Rattle.std.proofs.Common.{◌≡◌, ◌⊎◌, inl, inr, List, [], ◌∷◌, ◌++◌, refl, sym, ap, subst}
use Rattle.herm_model.proofs.Lists.{cons-head, cons-tail, cons-not_nil}
use Rattle.herm_flow.specs.Some.{AreSome, none, taken, left_out}

split : {X : Type 0} (ys zs : List X) (x : X) (xs : List X) → AreSome ys zs → zs ≡ x ∷ xs → ((rest : List X) × (ys ≡ x ∷ rest) × AreSome rest xs) ⊎ AreSome ys xs
split _ _ x xs none e = cons-not_nil x xs (sym e)
split _ _ x xs (taken w some all h) e = inl (some, ap (λ v. v ∷ some) (cons-head e), subst (AreSome some) (cons-tail e) h)
split _ _ x xs (left_out w some all h) e = inr (subst (AreSome some) (cons-tail e) h)

pub some-split : {X : Type 0} (ys : List X) (x : X) (xs : List X) → AreSome ys (x ∷ xs) → ((rest : List X) × (ys ≡ x ∷ rest) × AreSome rest xs) ⊎ AreSome ys xs
some-split ys x xs h = split ys (x ∷ xs) x xs h refl

of-none : {X : Type 0} (ys xs : List X) → AreSome ys xs → xs ≡ [] → ys ≡ []
of-none _ _ none e = refl
of-none _ _ (taken x some all h) e = cons-not_nil x all e
of-none _ _ (left_out x some all h) e = cons-not_nil x all e

pub some-none : {X : Type 0} {A : Type 0} (y : X) (ys : List X) → AreSome (y ∷ ys) [] → A
some-none y ys h = cons-not_nil y ys (of-none (y ∷ ys) [] h refl)

pub some_more : {X : Type 0} (some all : List X) (x : X) → AreSome some all → AreSome (some ++ x ∷ []) (all ++ x ∷ [])
some_more _ _ x none = taken x [] [] none
some_more _ _ x (taken y some all h) = taken y (some ++ x ∷ []) (all ++ x ∷ []) (some_more some all x h)
some_more _ _ x (left_out y some all h) = left_out y (some ++ x ∷ []) (all ++ x ∷ []) (some_more some all x h)

pub some_without : {X : Type 0} (some all : List X) (x : X) → AreSome some all → AreSome some (all ++ x ∷ [])
some_without _ _ x none = left_out x [] [] none
some_without _ _ x (taken y some all h) = taken y some (all ++ x ∷ []) (some_without some all x h)
some_without _ _ x (left_out y some all h) = left_out y some (all ++ x ∷ []) (some_without some all x h)

pub some_self : {X : Type 0} (all : List X) → AreSome all all
some_self [] = none
some_self (x ∷ all) = taken x all all (some_self all)
