-- Arguments of calls of which those that come back are targets, whatever the others are; and calls with such arguments.
use Rattle.std.proofs.Common.{◌≡◌, ℕ, zero, suc, ◌<◌, List, [], ◌∷◌, ◌++◌, map, filter, flat_map, Bool, true, false, cond, inl, inr, Some, slice_get, IsTrue, nat_eq, refl, sym, ap, subst, subst₂, ◌∙◌, arith, true≢false}
use Rattle.std.proofs.lemmas.Bool.{eqb-true}
use Rattle.std.specs.Prelude.{⊤}
use Rattle.herm_model.specs.Lists.{IsIn, list_of}
use Rattle.herm_model.specs.Paths.{Path, are_apart}
use Rattle.herm_model.specs.Types.{Mode, by_in, by_inout, by_out, Parameter, Raised, TypeTable, callmessage, is_within_depth, greatest_depth}
use Rattle.herm_model.specs.Expressions.{Atom, literal, path}
use Rattle.herm_model.specs.laws.FlowLaws.{Rise}
use Rattle.herm_model.specs.Calls.{call_parameters, call_raises, kept_for, is_returned, arguments_by, argument_path}
use Rattle.herm_model.specs.Statements.{Call, Process}
use Rattle.herm_model.specs.FactsOfStatements.{set_by_call, kept_by_call}
use Rattle.herm_model.specs.Outcomes.{disconnected}
use Rattle.herm_model.specs.TypedExpressions.{HasShape}
use Rattle.herm_model.specs.TypedStatements.{AreApart, IsTarget, IsArgument, AreArguments, GoesTo}
use Rattle.herm_model.specs.WellFormedTables.{IsWellFormedTable}
use Rattle.herm_model.specs.laws.ArgumentLaws.{AreTargetsOf, types_by, types_at, ArgumentsFit}
use Rattle.herm_model.proofs.Lists.{in-map, in-flat_map_from}
use Rattle.herm_model.proofs.Options.{none-not_some}
use Rattle.herm_model.proofs.FactTests.{got-IsIn}
use Rattle.herm_model.proofs.TypedArguments.{kept-rise}
use Rattle.herm_model.proofs.TypedCalls.{parameters-are, raises-are, kept-declared}
use Rattle.herm_forms.specs.Modules.{Module}
use Rattle.herm_forms.specs.laws.TypedForms.{IsTypedIn}

module _ (table : TypeTable) (variables : List ℕ) where
  -- an argument that comes back is a target of its parameter's type
  abbrev pub IsSet : Mode → Atom → ℕ → Type 0
  IsSet by_in a t = ⊤
  IsSet by_inout (literal l) t = ⊥
  IsSet by_inout (path p) t = IsTarget table variables p t
  IsSet by_out (literal l) t = ⊥
  IsSet by_out (path p) t = IsTarget table variables p t

  abbrev pub AreSet : List Parameter → List Atom → Type 0
  AreSet [] [] = ⊤
  AreSet [] (a ∷ atoms) = ⊥
  AreSet (p ∷ parameters) [] = ⊥
  AreSet (p ∷ parameters) (a ∷ atoms) = IsSet p.mode a p.content × AreSet parameters atoms

  typed-set : (m : Mode) (a : Atom) (t : ℕ) → IsArgument table variables m a t → IsSet m a t
  typed-set by_in a t h = tt
  typed-set by_inout (literal l) t h = absurd h
  typed-set by_inout (path p) t h = h
  typed-set by_out (literal l) t h = absurd h
  typed-set by_out (path p) t h = h

  pub typed-are_set : (ps : List Parameter) (atoms : List Atom) → AreArguments table variables ps atoms → AreSet ps atoms
  typed-are_set [] [] h = tt
  typed-are_set [] (a ∷ atoms) h = absurd h
  typed-are_set (p ∷ ps) [] h = absurd h
  typed-are_set (p ∷ ps) (a ∷ atoms) h = (typed-set p.mode a p.content h.0, typed-are_set ps atoms h.1)

  pub set-typed : (ps : List Parameter) (atoms : List Atom) → AreSet ps atoms → (q : Path) → IsIn q (arguments_by is_returned ps atoms) → (t : ℕ) × IsTarget table variables q t
  set-typed [] atoms h q i = absurd i
  set-typed (p ∷ ps) [] h q i = absurd h
  set-typed (p ∷ ps) (literal l ∷ atoms) h q i = set-typed ps atoms h.1 q i
  set-typed (p ∷ ps) (path x ∷ atoms) h q i = by p.mode h.0 i (set-typed ps atoms h.1 q)
    where
      by : (m : Mode) → IsSet m (path x) p.content → IsIn q (cond (is_returned m) (x ∷ arguments_by is_returned ps atoms) (arguments_by is_returned ps atoms)) → (IsIn q (arguments_by is_returned ps atoms) → (t : ℕ) × IsTarget table variables q t) → (t : ℕ) × IsTarget table variables q t
      by by_in a i again = again i
      by by_inout a (inl e) again = (p.content, subst (λ x. IsTarget table variables x p.content) (sym e) a)
      by by_inout a (inr i) again = again i
      by by_out a (inl e) again = (p.content, subst (λ x. IsTarget table variables x p.content) (sym e) a)
      by by_out a (inr i) again = again i

  -- the argument of a parameter that comes back is among those that are set
  pub kept-set : (ps : List Parameter) (atoms : List Atom) (i : ℕ) (p : Parameter) (q : Path) → AreSet ps atoms → slice_get ps i ≡ Some p → IsTrue (is_returned p.mode) → IsIn q (argument_path (slice_get atoms i)) → IsIn q (arguments_by is_returned ps atoms)
  kept-set [] atoms i p q h e r k = none-not_some e
  kept-set (x ∷ ps) [] i p q h e r k = absurd h
  kept-set (x ∷ ps) (literal l ∷ atoms) zero p q h e r k = absurd k
  kept-set (x ∷ ps) (path y ∷ atoms) zero p q h e r (inr k) = absurd k
  kept-set (x ∷ ps) (path y ∷ atoms) zero p q h e r (inl k) =
      let same : is_returned x.mode ≡ true = let z : x ≡ p = cc e in subst (λ (w : Parameter). IsTrue (is_returned w.mode)) (sym z) r in
      subst (λ b. IsIn q (cond b (y ∷ arguments_by is_returned ps atoms) (arguments_by is_returned ps atoms))) (sym same) (inl k)
  kept-set (x ∷ ps) (literal l ∷ atoms) (suc i) p q h e r k = kept-set ps atoms i p q h.1 e r k
  kept-set (x ∷ ps) (path y ∷ atoms) (suc i) p q h e r k = by (is_returned x.mode) (kept-set ps atoms i p q h.1 e r k)
    where
      by : (b : Bool) → IsIn q (arguments_by is_returned ps atoms) → IsIn q (cond b (y ∷ arguments_by is_returned ps atoms) (arguments_by is_returned ps atoms))
      by true k = inr k
      by false k = k

  -- the argument of a parameter that comes back is a path, and a target
  returned-target : (m : Mode) (a : Atom) (t : ℕ) → is_returned m ≡ true → IsSet m a t → (x : Path) × (a ≡ path x) × IsTarget table variables x t
  returned-target by_in a t r h = absurd (true≢false (sym r))
  returned-target by_inout (literal l) t r h = absurd h
  returned-target by_inout (path x) t r h = (x, refl, h)
  returned-target by_out (literal l) t r h = absurd h
  returned-target by_out (path x) t r h = (x, refl, h)

  abbrev Deep : List Parameter → Type 0
  Deep ps = (p : Parameter) → IsIn p ps → IsTrue (is_within_depth greatest_depth table p.content)

  module _ (test : Mode → Bool) (returns_them : (m : Mode) → test m ≡ true → is_returned m ≡ true) where
    targets-by : (ps : List Parameter) (atoms : List Atom) → Deep ps → AreSet ps atoms → AreTargetsOf table variables (arguments_by test ps atoms) (types_by test ps)
    targets-by [] atoms d h = tt
    targets-by (p ∷ ps) [] d h = absurd h
    targets-by (p ∷ ps) (literal l ∷ atoms) d h = by (test p.mode) refl (targets-by ps atoms (λ q i. d q (inr i)) h.1)
      where
        by : (b : Bool) → test p.mode ≡ b → AreTargetsOf table variables (arguments_by test ps atoms) (types_by test ps) → AreTargetsOf table variables (arguments_by test ps atoms) (map (λ (q : Parameter). q.content) (cond b (p ∷ filter (λ (q : Parameter). test q.mode) ps) (filter (λ (q : Parameter). test q.mode) ps)))
        by true e again = let r = returned-target p.mode (literal l) p.content (returns_them p.mode e) h.0 in let k : ⊥ = cc r.1 in absurd k
        by false e again = again
    targets-by (p ∷ ps) (path x ∷ atoms) d h = by (test p.mode) refl (targets-by ps atoms (λ q i. d q (inr i)) h.1)
      where
        by : (b : Bool) → test p.mode ≡ b → AreTargetsOf table variables (arguments_by test ps atoms) (types_by test ps) → AreTargetsOf table variables (cond b (x ∷ arguments_by test ps atoms) (arguments_by test ps atoms)) (map (λ (q : Parameter). q.content) (cond b (p ∷ filter (λ (q : Parameter). test q.mode) ps) (filter (λ (q : Parameter). test q.mode) ps)))
        by true e again = let r = returned-target p.mode (path x) p.content (returns_them p.mode e) h.0 in let k : x ≡ r.0 = cc r.1 in (subst (λ y. IsTarget table variables y p.content) (sym k) r.2, d p (inl refl), again)
        by false e again = again

    -- they are among all that come back, in the same order
    among : (ps : List Parameter) (atoms : List Atom) (q : Path) → IsIn q (arguments_by test ps atoms) → IsIn q (arguments_by is_returned ps atoms)
    among [] atoms q i = absurd i
    among (p ∷ ps) [] q i = absurd i
    among (p ∷ ps) (literal l ∷ atoms) q i = among ps atoms q i
    among (p ∷ ps) (path x ∷ atoms) q i = by (test p.mode) (is_returned p.mode) (returns_them p.mode) i (among ps atoms q)
      where
        by : (b c : Bool) → (b ≡ true → c ≡ true) → IsIn q (cond b (x ∷ arguments_by test ps atoms) (arguments_by test ps atoms)) → (IsIn q (arguments_by test ps atoms) → IsIn q (arguments_by is_returned ps atoms)) → IsIn q (cond c (x ∷ arguments_by is_returned ps atoms) (arguments_by is_returned ps atoms))
        by true true f (inl e) again = inl e
        by true true f (inr i) again = inr (again i)
        by true false f i again = absurd (true≢false (sym (f refl)))
        by false true f i again = inr (again i)
        by false false f i again = again i

    apart-by : (ps : List Parameter) (atoms : List Atom) → AreApart (arguments_by is_returned ps atoms) → AreApart (arguments_by test ps atoms)
    apart-by [] atoms h = tt
    apart-by (p ∷ ps) [] h = tt
    apart-by (p ∷ ps) (literal l ∷ atoms) h = apart-by ps atoms h
    apart-by (p ∷ ps) (path x ∷ atoms) h = by (test p.mode) (is_returned p.mode) (returns_them p.mode) h (apart-by ps atoms)
      where
        by : (b c : Bool) → (b ≡ true → c ≡ true) → AreApart (cond c (x ∷ arguments_by is_returned ps atoms) (arguments_by is_returned ps atoms)) → (AreApart (arguments_by is_returned ps atoms) → AreApart (arguments_by test ps atoms)) → AreApart (cond b (x ∷ arguments_by test ps atoms) (arguments_by test ps atoms))
        by true true f h again = (λ y i. h.0 y (among ps atoms y i), again h.1)
        by true false f h again = absurd (true≢false (sym (f refl)))
        by false true f h again = again h.1
        by false false f h again = again h

  -- the argument at a place
  argument-at : (ps : List Parameter) (atoms : List Atom) (i : ℕ) (p : Parameter) → AreSet ps atoms → slice_get ps i ≡ Some p → is_returned p.mode ≡ true → (x : Path) × (slice_get atoms i ≡ Some (path x)) × IsTarget table variables x p.content
  argument-at [] atoms i p h e r = none-not_some e
  argument-at (q ∷ ps) [] i p h e r = absurd h
  argument-at (q ∷ ps) (a ∷ atoms) zero p h e r =
      let same : q ≡ p = cc e in
      let k = returned-target q.mode a q.content (subst (λ (w : Parameter). is_returned w.mode ≡ true) (sym same) r) h.0 in
      (k.0, ap Some k.1, subst (λ (w : Parameter). IsTarget table variables k.0 w.content) same k.2)
  argument-at (q ∷ ps) (a ∷ atoms) (suc i) p h e r = argument-at ps atoms i p h.1 e r

  -- two arguments at different places are apart
  places-apart : (ps : List Parameter) (atoms : List Atom) (i j : ℕ) (p q : Parameter) (x y : Path) → AreSet ps atoms → AreApart (arguments_by is_returned ps atoms) → i < j
      → slice_get ps i ≡ Some p → is_returned p.mode ≡ true → slice_get atoms i ≡ Some (path x) → slice_get ps j ≡ Some q → is_returned q.mode ≡ true → slice_get atoms j ≡ Some (path y) → IsTrue (are_apart x y)
  places-apart [] atoms i j p q x y h a l e r f e' r' f' = none-not_some e
  places-apart (w ∷ ps) [] i j p q x y h a l e r f e' r' f' = absurd h
  places-apart (w ∷ ps) (b ∷ atoms) i zero p q x y h a l e r f e' r' f' = let z : ⊥ = omega arith in absurd z
  places-apart (w ∷ ps) (b ∷ atoms) zero (suc j) p q x y h a l e r f e' r' f' =
      let same : w ≡ p = cc e in
      let arg : b ≡ path x = cc f in
      let all : AreApart (arguments_by is_returned (w ∷ ps) (path x ∷ atoms)) = subst (λ c. AreApart (arguments_by is_returned (w ∷ ps) (c ∷ atoms))) arg a in
      let first : AreApart (x ∷ arguments_by is_returned ps atoms) = subst (λ c. AreApart (cond c (x ∷ arguments_by is_returned ps atoms) (arguments_by is_returned ps atoms))) (subst (λ (v : Parameter). is_returned v.mode ≡ true) (sym same) r) all in
      first.0 y (kept-set ps atoms j q y h.1 e' r' (subst (λ o. IsIn y (argument_path o)) (sym f') (inl refl)))
  places-apart (w ∷ ps) (literal m ∷ atoms) (suc i) (suc j) p q x y h a l e r f e' r' f' = places-apart ps atoms i j p q x y h.1 a (omega arith) e r f e' r' f'
  places-apart (w ∷ ps) (path z ∷ atoms) (suc i) (suc j) p q x y h a l e r f e' r' f' = places-apart ps atoms i j p q x y h.1 (rest (is_returned w.mode) a) (omega arith) e r f e' r' f'
    where
      rest : (b : Bool) → AreApart (cond b (z ∷ arguments_by is_returned ps atoms) (arguments_by is_returned ps atoms)) → AreApart (arguments_by is_returned ps atoms)
      rest true a = a.1
      rest false a = a

  module _ (ps : List Parameter) (atoms : List Atom) (deep : Deep ps) (fit : AreSet ps atoms) where
    abbrev Kept : List ℕ → Type 0
    Kept is = (i : ℕ) → IsIn i is → (p : Parameter) × (slice_get ps i ≡ Some p) × IsTrue (is_returned p.mode)

    kept-targets : (is : List ℕ) → Kept is → AreTargetsOf table variables (flat_map (λ i. argument_path (slice_get atoms i)) is) (types_at ps is)
    kept-targets [] k = tt
    kept-targets (i ∷ is) k =
        let p = k i (inl refl) in
        let x = argument-at ps atoms i p.0 fit p.1 p.2 in
        subst₂ (λ a o. AreTargetsOf table variables (argument_path a ++ flat_map (λ i. argument_path (slice_get atoms i)) is) (list_of (λ (p : Parameter). p.content ∷ []) o ++ types_at ps is)) (sym x.1) (sym p.1)
        (x.2, deep p.0 (got-IsIn ps i p.0 p.1), kept-targets is (λ j m. k j (inr m)))

    kept-apart : AreApart (arguments_by is_returned ps atoms) → (is : List ℕ) → Rise is → Kept is → AreApart (flat_map (λ i. argument_path (slice_get atoms i)) is)
    kept-apart a [] r k = tt
    kept-apart a (i ∷ is) r k =
        let p = k i (inl refl) in
        let x = argument-at ps atoms i p.0 fit p.1 p.2 in
        subst (λ b. AreApart (argument_path b ++ flat_map (λ i. argument_path (slice_get atoms i)) is)) (sym x.1)
        ((λ y m. beyond p.0 x.0 p.1 p.2 x.1 y m), kept-apart a is r.1 (λ j m. k j (inr m)))
      where
        beyond : (p : Parameter) (x : Path) → slice_get ps i ≡ Some p → IsTrue (is_returned p.mode) → slice_get atoms i ≡ Some (path x) → (y : Path) → IsIn y (flat_map (λ i. argument_path (slice_get atoms i)) is) → IsTrue (are_apart x y)
        beyond p x e t f y m =
            let j = in-flat_map_from (λ i. argument_path (slice_get atoms i)) y is m in
            let q = k j.0 (inr j.1) in
            let z = argument-at ps atoms j.0 q.0 fit q.1 q.2 in
            places-apart ps atoms i j.0 p q.0 x y fit a (r.0 j.0 j.1) e t f q.1 q.2 (z.1 ∙ ap (λ w. Some (path w)) (sym (same z.0 (subst (λ o. IsIn y (argument_path o)) z.1 j.2))))
          where
            same : (w : Path) → IsIn y (w ∷ []) → y ≡ w
            same w (inl e) = e
            same w (inr i) = absurd i

-- A call of callmessages with these parameters, whose arguments that come back are targets and apart; nothing is asked of the others.
pub record IsCalled (exceptions : ℕ) (c : Module) (o : Path) (arguments : List Atom) : Type 0 where
  pub table : IsWellFormedTable exceptions c.types
  pub message : ℕ
  pub parameters : List Parameter
  pub raises : List Raised
  pub goes : GoesTo c.types c.variables o message
  pub shape : HasShape c.types message (callmessage parameters raises)
  pub set : AreSet c.types c.variables parameters arguments
  pub apart : AreApart (set_by_call c.types c.variables o arguments)

-- a typed call is one
pub typed-called : (exceptions : ℕ) (processes : List Process) (c : Module) (o : Path) (arguments : List Atom) → IsTypedIn exceptions processes c (Call o arguments) → IsCalled exceptions c o arguments
typed-called exceptions processes c o arguments is =
    let h = is.typed in
    record { table = is.table; message = h.0; parameters = h.1; raises = h.2; goes = h.3; shape = h.4; set = typed-are_set c.types c.variables h.1 arguments h.5; apart = h.6 }

-- what is kept for an exception that keeps nothing wherever it is declared
none-kept : (rs : List Raised) (e : ℕ) → ((r : Raised) → IsIn r rs → r.exception ≡ e → r.kept ≡ []) → kept_for rs e ≡ []
none-kept [] e h = refl
none-kept (r ∷ rs) e h = by (nat_eq r.exception e) refl (none-kept rs e (λ q i. h q (inr i)))
  where
    by : (b : Bool) → nat_eq r.exception e ≡ b → kept_for rs e ≡ [] → cond b r.kept (kept_for rs e) ≡ []
    by true k again = h r (inl refl) (eqb-true r.exception e k)
    by false k again = again

module _ (exceptions : ℕ) (c : Module) (o : Path) (arguments : List Atom) (is : IsCalled exceptions c o arguments) where
  pub parameters-of : call_parameters c.types c.variables o ≡ is.parameters
  parameters-of = parameters-are c.types c.variables o is.message is.goes is.parameters is.raises is.shape

  pub raises-of : call_raises c.types c.variables o ≡ is.raises
  raises-of = raises-are c.types c.variables o is.message is.goes is.parameters is.raises is.shape

  kept-places : (e i : ℕ) → IsIn i (kept_for is.raises e) → (p : Parameter) × (slice_get is.parameters i ≡ Some p) × IsTrue (is_returned p.mode)
  kept-places e i m = let d = kept-declared is.raises e i m in is.table.kept_returned is.message (callmessage is.parameters is.raises) is.shape d.0 d.1 i d.2

  deep : (p : Parameter) → IsIn p is.parameters → IsTrue (is_within_depth greatest_depth c.types p.content)
  deep p i = is.table.shallow p.content (is.table.types_known is.message (callmessage is.parameters is.raises) is.shape p.content (in-map (λ (q : Parameter). q.content) p is.parameters i))

  rises : (e : ℕ) → Rise (kept_for is.raises e)
  rises e = kept-rise is.raises e (λ r i. is.table.kept_rising is.message (callmessage is.parameters is.raises) is.shape r i)

  -- what comes back is of its type, and apart
  pub set-fit : ArgumentsFit c.types c.variables o arguments
  set-fit =
      let all : AreApart (arguments_by is_returned is.parameters arguments) = subst (λ ps. AreApart (arguments_by is_returned ps arguments)) parameters-of is.apart in
      record {
        types = λ test f. subst (λ ps. AreTargetsOf c.types c.variables (arguments_by test ps arguments) (types_by test ps)) (sym parameters-of) (targets-by c.types c.variables test f is.parameters arguments deep is.set);
        apart = λ test f. subst (λ ps. AreApart (arguments_by test ps arguments)) (sym parameters-of) (apart-by c.types c.variables test f is.parameters arguments all);
        kept_types = λ e. subst₂ (λ ps rs. AreTargetsOf c.types c.variables (flat_map (λ i. argument_path (slice_get arguments i)) (kept_for rs e)) (types_at ps (kept_for rs e))) (sym parameters-of) (sym raises-of)
            (kept-targets c.types c.variables is.parameters arguments deep is.set (kept_for is.raises e) (kept-places e));
        kept_apart = λ e. subst (λ rs. AreApart (flat_map (λ i. argument_path (slice_get arguments i)) (kept_for rs e))) (sym raises-of)
            (kept-apart c.types c.variables is.parameters arguments deep is.set all (kept_for is.raises e) (rises e) (kept-places e));
      }

  -- what an exception keeps is set by the call, and Disconnected keeps nothing
  pub kept-among : (e : ℕ) (p : Path) → IsIn p (kept_by_call c.types c.variables o arguments e) → IsIn p (set_by_call c.types c.variables o arguments)
  kept-among e p i =
      let r = in-flat_map_from (λ i. argument_path (slice_get arguments i)) p (kept_for (call_raises c.types c.variables o) e) i in
      let k = kept-places e r.0 (subst (λ rs. IsIn r.0 (kept_for rs e)) raises-of r.1) in
      subst (λ ps. IsIn p (arguments_by is_returned ps arguments)) (sym parameters-of) (kept-set c.types c.variables is.parameters arguments r.0 k.0 p is.set k.1 k.2 r.2)

  pub disconnected-keeps : kept_for (call_raises c.types c.variables o) disconnected ≡ []
  disconnected-keeps = subst (λ rs. kept_for rs disconnected ≡ []) (sym raises-of) (none-kept is.raises disconnected (λ r i e. is.table.kept_disconnected is.message (callmessage is.parameters is.raises) is.shape r i e))

  -- each argument that is set is a target
  pub set-target : (p : Path) → IsIn p (set_by_call c.types c.variables o arguments) → (t : ℕ) × IsTarget c.types c.variables p t
  set-target p i = set-typed c.types c.variables is.parameters arguments is.set p (subst (λ ps. IsIn p (arguments_by is_returned ps arguments)) parameters-of i)
