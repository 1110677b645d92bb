-- The arguments of typed calls are targets of the types of their parameters, and apart.
use Rattle.std.proofs.Common.{◌≡◌, ℕ, zero, suc, ◌<◌, List, [], ◌∷◌, ◌++◌, map, filter, flat_map, Bool, true, false, cond, inl, inr, Some, slice_get, IsTrue, nat_eq, refl, sym, ap, subst, subst₂, ◌∙◌, arith, true≢false}
use Rattle.herm_model.specs.Lists.{IsIn, list_of}
use Rattle.herm_model.specs.Paths.{Path, are_apart}
use Rattle.herm_model.specs.Types.{Mode, by_in, by_inout, by_out, Parameter, Raised, TypeTable, callmessage, is_within_depth, greatest_depth}
use Rattle.herm_model.specs.Expressions.{Atom, literal, path}
use Rattle.herm_model.specs.laws.FlowLaws.{Rise}
use Rattle.herm_model.specs.Calls.{kept_for, is_returned, arguments_by, argument_path}
use Rattle.herm_model.specs.TypedStatements.{AreApart, IsTarget, IsArgument, AreArguments}
use Rattle.herm_model.specs.laws.ArgumentLaws.{AreTargetsOf, types_by, types_at, TypedArgumentsFit}
use Rattle.herm_model.proofs.Lists.{in-map, in-flat_map_from}
use Rattle.herm_model.proofs.Options.{none-not_some}
use Rattle.herm_model.proofs.FactTests.{got-IsIn}
use Rattle.herm_model.proofs.TypedCalls.{parameters-are, raises-are, kept-declared, kept-set}

module _ (table : TypeTable) (variables : List ℕ) where
  -- the argument of a parameter that comes back is a path, and a target
  returned-target : (m : Mode) (a : Atom) (t : ℕ) → is_returned m ≡ true → IsArgument table variables m a t → (x : Path) × (a ≡ path x) × IsTarget table variables x t
  returned-target by_in a t r h = absurd (true≢false (sym r))
  returned-target by_inout (literal l) t r h = absurd h
  returned-target by_inout (path x) t r h = (x, refl, h)
  returned-target by_out (literal l) t r h = absurd h
  returned-target by_out (path x) t r h = (x, refl, h)

  abbrev Deep : List Parameter → Type 0
  Deep ps = (p : Parameter) → IsIn p ps → IsTrue (is_within_depth greatest_depth table p.content)

  module _ (test : Mode → Bool) (returns_them : (m : Mode) → test m ≡ true → is_returned m ≡ true) where
    targets-by : (ps : List Parameter) (atoms : List Atom) → Deep ps → AreArguments table variables ps atoms → AreTargetsOf table variables (arguments_by test ps atoms) (types_by test ps)
    targets-by [] atoms d h = tt
    targets-by (p ∷ ps) [] d h = absurd h
    targets-by (p ∷ ps) (literal l ∷ atoms) d h = by (test p.mode) refl (targets-by ps atoms (λ q i. d q (inr i)) h.1)
      where
        by : (b : Bool) → test p.mode ≡ b → AreTargetsOf table variables (arguments_by test ps atoms) (types_by test ps) → AreTargetsOf table variables (arguments_by test ps atoms) (map (λ (q : Parameter). q.content) (cond b (p ∷ filter (λ (q : Parameter). test q.mode) ps) (filter (λ (q : Parameter). test q.mode) ps)))
        by true e again = let r = returned-target p.mode (literal l) p.content (returns_them p.mode e) h.0 in let k : ⊥ = cc r.1 in absurd k
        by false e again = again
    targets-by (p ∷ ps) (path x ∷ atoms) d h = by (test p.mode) refl (targets-by ps atoms (λ q i. d q (inr i)) h.1)
      where
        by : (b : Bool) → test p.mode ≡ b → AreTargetsOf table variables (arguments_by test ps atoms) (types_by test ps) → AreTargetsOf table variables (cond b (x ∷ arguments_by test ps atoms) (arguments_by test ps atoms)) (map (λ (q : Parameter). q.content) (cond b (p ∷ filter (λ (q : Parameter). test q.mode) ps) (filter (λ (q : Parameter). test q.mode) ps)))
        by true e again = let r = returned-target p.mode (path x) p.content (returns_them p.mode e) h.0 in let k : x ≡ r.0 = cc r.1 in (subst (λ y. IsTarget table variables y p.content) (sym k) r.2, d p (inl refl), again)
        by false e again = again

    -- they are among all that come back, in the same order
    among : (ps : List Parameter) (atoms : List Atom) (q : Path) → IsIn q (arguments_by test ps atoms) → IsIn q (arguments_by is_returned ps atoms)
    among [] atoms q i = absurd i
    among (p ∷ ps) [] q i = absurd i
    among (p ∷ ps) (literal l ∷ atoms) q i = among ps atoms q i
    among (p ∷ ps) (path x ∷ atoms) q i = by (test p.mode) (is_returned p.mode) (returns_them p.mode) i (among ps atoms q)
      where
        by : (b c : Bool) → (b ≡ true → c ≡ true) → IsIn q (cond b (x ∷ arguments_by test ps atoms) (arguments_by test ps atoms)) → (IsIn q (arguments_by test ps atoms) → IsIn q (arguments_by is_returned ps atoms)) → IsIn q (cond c (x ∷ arguments_by is_returned ps atoms) (arguments_by is_returned ps atoms))
        by true true f (inl e) again = inl e
        by true true f (inr i) again = inr (again i)
        by true false f i again = absurd (true≢false (sym (f refl)))
        by false true f i again = inr (again i)
        by false false f i again = again i

    apart-by : (ps : List Parameter) (atoms : List Atom) → AreApart (arguments_by is_returned ps atoms) → AreApart (arguments_by test ps atoms)
    apart-by [] atoms h = tt
    apart-by (p ∷ ps) [] h = tt
    apart-by (p ∷ ps) (literal l ∷ atoms) h = apart-by ps atoms h
    apart-by (p ∷ ps) (path x ∷ atoms) h = by (test p.mode) (is_returned p.mode) (returns_them p.mode) h (apart-by ps atoms)
      where
        by : (b c : Bool) → (b ≡ true → c ≡ true) → AreApart (cond c (x ∷ arguments_by is_returned ps atoms) (arguments_by is_returned ps atoms)) → (AreApart (arguments_by is_returned ps atoms) → AreApart (arguments_by test ps atoms)) → AreApart (cond b (x ∷ arguments_by test ps atoms) (arguments_by test ps atoms))
        by true true f h again = (λ y i. h.0 y (among ps atoms y i), again h.1)
        by true false f h again = absurd (true≢false (sym (f refl)))
        by false true f h again = again h.1
        by false false f h again = again h

  -- the argument at a place
  argument-at : (ps : List Parameter) (atoms : List Atom) (i : ℕ) (p : Parameter) → AreArguments table variables ps atoms → slice_get ps i ≡ Some p → is_returned p.mode ≡ true → (x : Path) × (slice_get atoms i ≡ Some (path x)) × IsTarget table variables x p.content
  argument-at [] atoms i p h e r = none-not_some e
  argument-at (q ∷ ps) [] i p h e r = absurd h
  argument-at (q ∷ ps) (a ∷ atoms) zero p h e r =
      let same : q ≡ p = cc e in
      let k = returned-target q.mode a q.content (subst (λ (w : Parameter). is_returned w.mode ≡ true) (sym same) r) h.0 in
      (k.0, ap Some k.1, subst (λ (w : Parameter). IsTarget table variables k.0 w.content) same k.2)
  argument-at (q ∷ ps) (a ∷ atoms) (suc i) p h e r = argument-at ps atoms i p h.1 e r

  -- two arguments at different places are apart
  places-apart : (ps : List Parameter) (atoms : List Atom) (i j : ℕ) (p q : Parameter) (x y : Path) → AreArguments table variables ps atoms → AreApart (arguments_by is_returned ps atoms) → i < j
      → slice_get ps i ≡ Some p → is_returned p.mode ≡ true → slice_get atoms i ≡ Some (path x) → slice_get ps j ≡ Some q → is_returned q.mode ≡ true → slice_get atoms j ≡ Some (path y) → IsTrue (are_apart x y)
  places-apart [] atoms i j p q x y h a l e r f e' r' f' = none-not_some e
  places-apart (w ∷ ps) [] i j p q x y h a l e r f e' r' f' = absurd h
  places-apart (w ∷ ps) (b ∷ atoms) i zero p q x y h a l e r f e' r' f' = let z : ⊥ = omega arith in absurd z
  places-apart (w ∷ ps) (b ∷ atoms) zero (suc j) p q x y h a l e r f e' r' f' =
      let same : w ≡ p = cc e in
      let arg : b ≡ path x = cc f in
      let all : AreApart (arguments_by is_returned (w ∷ ps) (path x ∷ atoms)) = subst (λ c. AreApart (arguments_by is_returned (w ∷ ps) (c ∷ atoms))) arg a in
      let first : AreApart (x ∷ arguments_by is_returned ps atoms) = subst (λ c. AreApart (cond c (x ∷ arguments_by is_returned ps atoms) (arguments_by is_returned ps atoms))) (subst (λ (v : Parameter). is_returned v.mode ≡ true) (sym same) r) all in
      first.0 y (kept-set table variables ps atoms j q y h.1 e' r' (subst (λ o. IsIn y (argument_path o)) (sym f') (inl refl)))
  places-apart (w ∷ ps) (literal m ∷ atoms) (suc i) (suc j) p q x y h a l e r f e' r' f' = places-apart ps atoms i j p q x y h.1 a (omega arith) e r f e' r' f'
  places-apart (w ∷ ps) (path z ∷ atoms) (suc i) (suc j) p q x y h a l e r f e' r' f' = places-apart ps atoms i j p q x y h.1 (rest (is_returned w.mode) a) (omega arith) e r f e' r' f'
    where
      rest : (b : Bool) → AreApart (cond b (z ∷ arguments_by is_returned ps atoms) (arguments_by is_returned ps atoms)) → AreApart (arguments_by is_returned ps atoms)
      rest true a = a.1
      rest false a = a

  module _ (ps : List Parameter) (atoms : List Atom) (deep : Deep ps) (fit : AreArguments table variables ps atoms) where
    abbrev Kept : List ℕ → Type 0
    Kept is = (i : ℕ) → IsIn i is → (p : Parameter) × (slice_get ps i ≡ Some p) × IsTrue (is_returned p.mode)

    kept-targets : (is : List ℕ) → Kept is → AreTargetsOf table variables (flat_map (λ i. argument_path (slice_get atoms i)) is) (types_at ps is)
    kept-targets [] k = tt
    kept-targets (i ∷ is) k =
        let p = k i (inl refl) in
        let x = argument-at ps atoms i p.0 fit p.1 p.2 in
        subst₂ (λ a o. AreTargetsOf table variables (argument_path a ++ flat_map (λ i. argument_path (slice_get atoms i)) is) (list_of (λ (p : Parameter). p.content ∷ []) o ++ types_at ps is)) (sym x.1) (sym p.1)
        (x.2, deep p.0 (got-IsIn ps i p.0 p.1), kept-targets is (λ j m. k j (inr m)))

    kept-apart : AreApart (arguments_by is_returned ps atoms) → (is : List ℕ) → Rise is → Kept is → AreApart (flat_map (λ i. argument_path (slice_get atoms i)) is)
    kept-apart a [] r k = tt
    kept-apart a (i ∷ is) r k =
        let p = k i (inl refl) in
        let x = argument-at ps atoms i p.0 fit p.1 p.2 in
        subst (λ b. AreApart (argument_path b ++ flat_map (λ i. argument_path (slice_get atoms i)) is)) (sym x.1)
        ((λ y m. beyond p.0 x.0 p.1 p.2 x.1 y m), kept-apart a is r.1 (λ j m. k j (inr m)))
      where
        beyond : (p : Parameter) (x : Path) → slice_get ps i ≡ Some p → IsTrue (is_returned p.mode) → slice_get atoms i ≡ Some (path x) → (y : Path) → IsIn y (flat_map (λ i. argument_path (slice_get atoms i)) is) → IsTrue (are_apart x y)
        beyond p x e t f y m =
            let j = in-flat_map_from (λ i. argument_path (slice_get atoms i)) y is m in
            let q = k j.0 (inr j.1) in
            let z = argument-at ps atoms j.0 q.0 fit q.1 q.2 in
            places-apart ps atoms i j.0 p q.0 x y fit a (r.0 j.0 j.1) e t f q.1 q.2 (z.1 ∙ ap (λ w. Some (path w)) (sym (same z.0 (subst (λ o. IsIn y (argument_path o)) z.1 j.2))))
          where
            same : (w : Path) → IsIn y (w ∷ []) → y ≡ w
            same w (inl e) = e
            same w (inr i) = absurd i

-- the parameters that are kept for an exception rise where each raised one's do
pub kept-rise : (rs : List Raised) (e : ℕ) → ((r : Raised) → IsIn r rs → Rise r.kept) → Rise (kept_for rs e)
kept-rise [] e f = tt
kept-rise (r ∷ rs) e f = by (nat_eq r.exception e) (f r (inl refl)) (kept-rise rs e (λ q i. f q (inr i)))
  where
    by : (b : Bool) → Rise r.kept → Rise (kept_for rs e) → Rise (cond b r.kept (kept_for rs e))
    by true x y = x
    by false x y = y

pub arguments-fit : TypedArgumentsFit
arguments-fit exceptions table variables processes o arguments well h =
    let params = parameters-are table variables o h.0 h.3 h.1 h.2 h.4 in
    let raised = raises-are table variables o h.0 h.3 h.1 h.2 h.4 in
    let all : AreApart (arguments_by is_returned h.1 arguments) = subst (λ ps. AreApart (arguments_by is_returned ps arguments)) params h.6 in
    record {
      types = λ test f. subst (λ ps. AreTargetsOf table variables (arguments_by test ps arguments) (types_by test ps)) (sym params) (targets-by table variables test f h.1 arguments deep h.5);
      apart = λ test f. subst (λ ps. AreApart (arguments_by test ps arguments)) (sym params) (apart-by table variables test f h.1 arguments all);
      kept_types = λ e. subst₂ (λ ps rs. AreTargetsOf table variables (flat_map (λ i. argument_path (slice_get arguments i)) (kept_for rs e)) (types_at ps (kept_for rs e))) (sym params) (sym raised) (kept-targets table variables h.1 arguments deep h.5 (kept_for h.2 e) (kept e));
      kept_apart = λ e. subst (λ rs. AreApart (flat_map (λ i. argument_path (slice_get arguments i)) (kept_for rs e))) (sym raised) (kept-apart table variables h.1 arguments deep h.5 all (kept_for h.2 e) (rises h.2 e) (kept e));
    }
  where
    deep : (p : Parameter) → IsIn p h.1 → IsTrue (is_within_depth greatest_depth table p.content)
    deep p i = well.shallow p.content (well.types_known h.0 (callmessage h.1 h.2) h.4 p.content (in-map (λ (q : Parameter). q.content) p h.1 i))

    kept : (e i : ℕ) → IsIn i (kept_for h.2 e) → (p : Parameter) × (slice_get h.1 i ≡ Some p) × IsTrue (is_returned p.mode)
    kept e i m = let d = kept-declared h.2 e i m in well.kept_returned h.0 (callmessage h.1 h.2) h.4 d.0 d.1 i d.2

    rises : (rs : List Raised) (e : ℕ) → Rise (kept_for h.2 e)
    rises rs e = kept-rise h.2 e (λ r i. well.kept_rising h.0 (callmessage h.1 h.2) h.4 r i)
