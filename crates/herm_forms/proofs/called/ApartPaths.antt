-- What is made of a full value at a path is neither at nor below a path that is apart from it.
use Rattle.std.proofs.Common.{◌≡◌, ◌⊎◌, inl, inr, ℕ, List, [], ◌∷◌, ◌++◌, Bool, true, false, cond, not, ◌||◌, nat_eq, Option, Some, None, refl, sym, ◌∙◌, subst}
use Rattle.std.specs.Prelude.{slice_get, flat_map, IsTrue}
use mathlib.Core.Bool.{false≢true}
use borrow.Author.Tests.{eqb-true, eq-eqb}
use Rattle.herm_model.specs.Lists.{IsIn, any_pass, list_of}
use Rattle.herm_model.specs.Paths.{Path, Fact, init, path_of, same_fact, is_at_or_below, are_apart}
use Rattle.herm_model.specs.Types.{TypeTable, type_at, passes_component, full_parts, part_paths}
use Rattle.herm_model.specs.Facts.{facts_to, prefixes, with_prefixes, full_facts}
use Rattle.herm_model.specs.FactsOfStatements.{full, closed}
use Rattle.herm_model.proofs.Lists.{and-both, both-and, or-either, in-append_cases, in-append_left, in-append_right, in-flat_map, in-flat_map_from, in-map_from}
use Rattle.herm_model.proofs.Beginnings.{below-self, above-longer, below-trans}
use Rattle.herm_model.proofs.FactTests.{listed-IsIn, IsIn-listed}
use Rattle.herm_model.proofs.ClosedFacts.{once-IsIn, IsIn-once}
use Rattle.herm_model.proofs.Prefixes.{speaks, before-path}

not-and : (b : Bool) → IsTrue (not b) → IsTrue b → ⊥
not-and true h k = false≢true h
not-and false h k = false≢true k

pub apart-not_below : (x y : Path) → IsTrue (are_apart x y) → is_at_or_below x y ≡ true → ⊥
apart-not_below [] y h k = false≢true h
apart-not_below (i ∷ p) [] h k = false≢true h
apart-not_below (i ∷ p) (j ∷ q) h k = let both = and-both (nat_eq i j) (is_at_or_below p q) k in by (or-either (not (nat_eq i j)) (are_apart p q) h) both.0 (λ a. apart-not_below p q a both.1)
  where
    by : IsTrue (not (nat_eq i j)) ⊎ IsTrue (are_apart p q) → IsTrue (nat_eq i j) → (IsTrue (are_apart p q) → ⊥) → ⊥
    by (inl n) e again = not-and (nat_eq i j) n e
    by (inr a) e again = again a

apart-not_above : (x y : Path) → IsTrue (are_apart x y) → is_at_or_below y x ≡ true → ⊥
apart-not_above [] y h k = false≢true h
apart-not_above (i ∷ p) [] h k = false≢true h
apart-not_above (i ∷ p) (j ∷ q) h k = let both = and-both (nat_eq j i) (is_at_or_below q p) k in by (or-either (not (nat_eq i j)) (are_apart p q) h) both.0 (λ a. apart-not_above p q a both.1)
  where
    by : IsTrue (not (nat_eq i j)) ⊎ IsTrue (are_apart p q) → IsTrue (nat_eq j i) → (IsTrue (are_apart p q) → ⊥) → ⊥
    by (inl n) e again = not-and (nat_eq i j) n (eq-eqb i j (sym (eqb-true j i e)))
    by (inr a) e again = again a

-- two beginnings of one path: one begins the other
both-begin : (p x z : Path) → is_at_or_below p z ≡ true → is_at_or_below x z ≡ true → (is_at_or_below p x ≡ true) ⊎ (is_at_or_below x p ≡ true)
both-begin [] x z h k = inl refl
both-begin (i ∷ p) [] z h k = inr refl
both-begin (i ∷ p) (j ∷ x) [] h k = absurd (false≢true h)
both-begin (i ∷ p) (j ∷ x) (n ∷ z) h k =
    let a = and-both (nat_eq i n) (is_at_or_below p z) h in
    let b = and-both (nat_eq j n) (is_at_or_below x z) k in
    let same : i ≡ j = eqb-true i n a.0 ∙ sym (eqb-true j n b.0) in
    by same (both-begin p x z a.1 b.1)
  where
    by : i ≡ j → (is_at_or_below p x ≡ true) ⊎ (is_at_or_below x p ≡ true) → (is_at_or_below (i ∷ p) (j ∷ x) ≡ true) ⊎ (is_at_or_below (j ∷ x) (i ∷ p) ≡ true)
    by same (inl e) = inl (both-and (nat_eq i j) (is_at_or_below p x) (eq-eqb i j same) e)
    by same (inr e) = inr (both-and (nat_eq j i) (is_at_or_below x p) (eq-eqb j i (sym same)) e)

abbrev AreOnePath : Path → Path → Type 0
AreOnePath x p = (is_at_or_below p x ≡ true) ⊎ (is_at_or_below x p ≡ true)

-- what is on the way of one path, or below it, is not at or below another one that is apart
not-under : (x y p : Path) → IsTrue (are_apart x y) → AreOnePath x p → is_at_or_below y p ≡ false
not-under x y p apart one = by (is_at_or_below y p) refl one
  where
    between : (is_at_or_below x y ≡ true) ⊎ (is_at_or_below y x ≡ true) → ⊥
    between (inl e) = apart-not_below x y apart e
    between (inr e) = apart-not_above x y apart e

    by : (b : Bool) → is_at_or_below y p ≡ b → AreOnePath x p → b ≡ false
    by false e one = refl
    by true e (inl h) = absurd (apart-not_above x y apart (below-trans y p x e h))
    by true e (inr h) = absurd (between (both-begin x y p h e))

module _ (types : TypeTable) (variables : List ℕ) where
  pub way-begins : (p : Path) (f : Fact) → IsIn f (facts_to types variables p) → is_at_or_below (path_of f) p ≡ true
  way-begins [] f h = absurd h
  way-begins (v ∷ r) f h =
      let s = speaks types (v ∷ []) (slice_get variables v) false r f h in
      subst (λ x. is_at_or_below x (v ∷ r) ≡ true) (sym s.2) (subst (λ r. is_at_or_below (v ∷ s.0) (v ∷ r) ≡ true) (sym s.1.1) (above-longer (v ∷ s.0) s.1.0))

  own-one : (x : Path) (w : Bool) (o : Option ℕ) (g : Fact) → IsIn g (cond w [] (list_of (λ t. full_facts types t x) o)) → AreOnePath x (path_of g)
  own-one x true o g h = absurd h
  own-one x false None g h = absurd h
  own-one x false (Some t) g h = let r = in-map_from (λ r. init (x ++ r)) g (part_paths full_parts types t) h in inr (subst (λ g. is_at_or_below x (path_of g) ≡ true) (sym r.2) (above-longer x r.0))

  full-one : (x : Path) (g : Fact) → IsIn g (full types variables x) → AreOnePath x (path_of g)
  full-one x g h = by (in-append_cases g (facts_to types variables x) (cond (passes_component types variables x) [] (list_of (λ t. full_facts types t x) (type_at types variables x))) h)
    where
      by : IsIn g (facts_to types variables x) ⊎ IsIn g (cond (passes_component types variables x) [] (list_of (λ t. full_facts types t x) (type_at types variables x))) → AreOnePath x (path_of g)
      by (inl h) = inl (way-begins x g h)
      by (inr h) = own-one x (passes_component types variables x) (type_at types variables x) g h

  prefix-begins : (g f : Fact) → IsIn f (with_prefixes types variables g) → is_at_or_below (path_of f) (path_of g) ≡ true
  prefix-begins g f h = by (in-append_cases f (prefixes types variables g) (g ∷ []) h)
    where
      by : IsIn f (prefixes types variables g) ⊎ IsIn f (g ∷ []) → is_at_or_below (path_of f) (path_of g) ≡ true
      by (inl h) = way-begins (path_of g) f (before-path types variables g f h)
      by (inr (inl e)) = subst (λ g. is_at_or_below (path_of f) (path_of g) ≡ true) e (below-self (path_of f))
      by (inr (inr h)) = absurd h

  made-one : (x : Path) (f : Fact) → IsIn f (closed types variables (full types variables x)) → AreOnePath x (path_of f)
  made-one x f h =
      let g = in-flat_map_from (with_prefixes types variables) f (full types variables x) (once-IsIn f (flat_map (with_prefixes types variables) (full types variables x)) h) in
      by g.0 (prefix-begins g.0 f g.2) (full-one x g.0 g.1)
    where
      by : (g : Fact) → is_at_or_below (path_of f) (path_of g) ≡ true → AreOnePath x (path_of g) → AreOnePath x (path_of f)
      by g begins (inl h) = inl (below-trans (path_of f) (path_of g) x begins h)
      by g begins (inr h) = both-begin (path_of f) x (path_of g) begins h

  pub made-apart : (x y : Path) → IsTrue (are_apart x y) → (f : Fact) → IsIn f (closed types variables (full types variables x)) → is_at_or_below y (path_of f) ≡ false
  made-apart x y apart f h = not-under x y (path_of f) apart (made-one x f h)

  -- what is closed of two lists
  closed-in : (fs gs : List Fact) → ((g : Fact) → IsIn g fs → IsIn g gs) → (f : Fact) → IsIn f (closed types variables fs) → IsIn f (closed types variables gs)
  closed-in fs gs within f h =
      let g = in-flat_map_from (with_prefixes types variables) f fs (once-IsIn f (flat_map (with_prefixes types variables) fs) h) in
      IsIn-once f (flat_map (with_prefixes types variables) gs) (in-flat_map (with_prefixes types variables) g.0 f gs (within g.0 g.1) g.2)

  closed-cases : (fs gs : List Fact) (f : Fact) → IsIn f (closed types variables (fs ++ gs)) → IsIn f (closed types variables fs) ⊎ IsIn f (closed types variables gs)
  closed-cases fs gs f h =
      let g = in-flat_map_from (with_prefixes types variables) f (fs ++ gs) (once-IsIn f (flat_map (with_prefixes types variables) (fs ++ gs)) h) in
      by g.0 g.2 (in-append_cases g.0 fs gs g.1)
    where
      by : (g : Fact) → IsIn f (with_prefixes types variables g) → IsIn g fs ⊎ IsIn g gs → IsIn f (closed types variables fs) ⊎ IsIn f (closed types variables gs)
      by g of (inl h) = inl (IsIn-once f (flat_map (with_prefixes types variables) fs) (in-flat_map (with_prefixes types variables) g f fs h of))
      by g of (inr h) = inr (IsIn-once f (flat_map (with_prefixes types variables) gs) (in-flat_map (with_prefixes types variables) g f gs h of))

  abbrev is_made : List Fact → Fact → Bool
  is_made fs f = any_pass (same_fact f) (closed types variables fs)

  pub made-joined : (fs gs : List Fact) (f : Fact) → is_made (fs ++ gs) f ≡ is_made fs f || is_made gs f
  made-joined fs gs f = by (is_made (fs ++ gs) f) (is_made fs f) (is_made gs f) refl refl refl
    where
      by : (j a b : Bool) → is_made (fs ++ gs) f ≡ j → is_made fs f ≡ a → is_made gs f ≡ b → j ≡ a || b
      by j true b ej ea eb =
          sym ej ∙ IsIn-listed f (closed types variables (fs ++ gs)) (closed-in fs (fs ++ gs) (λ g h. in-append_left g fs gs h) f (listed-IsIn f (closed types variables fs) ea))
      by j false true ej ea eb =
          sym ej ∙ IsIn-listed f (closed types variables (fs ++ gs)) (closed-in gs (fs ++ gs) (λ g h. in-append_right g fs gs h) f (listed-IsIn f (closed types variables gs) eb))
      by false false false ej ea eb = refl
      by true false false ej ea eb = neither (closed-cases fs gs f (listed-IsIn f (closed types variables (fs ++ gs)) ej))
        where
          neither : IsIn f (closed types variables fs) ⊎ IsIn f (closed types variables gs) → true ≡ false
          neither (inl h) = sym (IsIn-listed f (closed types variables fs) h) ∙ ea
          neither (inr h) = sym (IsIn-listed f (closed types variables gs) h) ∙ eb
