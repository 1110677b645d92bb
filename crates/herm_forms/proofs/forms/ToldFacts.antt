-- What typed values tell is closed: where they tell a fact, they tell each fact before it.
use Rattle.std.proofs.Common.{◌≡◌, ◌⊎◌, inl, inr, ℕ, List, [], ◌∷◌, ◌++◌, Bool, true, false, cond, ◌||◌, Option, Some, None, refl, sym, ap, ◌∙◌, subst, append_assoc}
use Rattle.std.specs.Prelude.{IsTrue, is_some, flat_map}
use mathlib.Core.Bool.{true≢false, false≢true}
use Rattle.herm_model.specs.Lists.{IsIn}
use Rattle.herm_model.specs.Paths.{Path, Fact, init, case, path_of}
use Rattle.herm_model.specs.Types.{TypeTable, part_of, is_variant}
use Rattle.herm_model.specs.Facts.{facts_from, facts_to, prefixes, with_prefixes, IsClosed}
use Rattle.herm_model.specs.FactsOfStatements.{closed}
use Rattle.herm_model.specs.Values.{a_scalar, a_record, a_variant, a_table, a_polymorph, a_callmessage, an_inport, an_outport, Cell, cell, Parts, part_at, inside, cell_at, readable_of, read_at}
use Rattle.herm_model.specs.FactsOfValues.{is_component, satisfies}
use Rattle.herm_model.specs.Typed.{partly, HasType, HaveTypes}
use Rattle.herm_model.proofs.Lists.{in-append_right, in-append_cases, in-flat_map, in-flat_map_from}
use Rattle.herm_model.proofs.ClosedFacts.{once-IsIn, IsIn-once}
use Rattle.herm_model.proofs.Options.{none-not_some}
use Rattle.herm_model.proofs.NothingThere.{none-read, none-there}
use Rattle.herm_model.proofs.Prefixes.{before-path}
use Rattle.herm_forms.proofs.TypedReading.{typed-part}
use Rattle.herm_forms.proofs.forms.ReadTypes.{readable-part}

-- a list with what is before each of its facts stays within any closed set, and has each of its facts
module _ (types : TypeTable) (variables : List ℕ) (made : List Fact) where
  pub closed-within : (S : Fact → Type 0) → IsClosed types variables S → ((f : Fact) → IsIn f made → S f) → (f : Fact) → IsIn f (closed types variables made) → S f
  closed-within S shut member f h =
      let g = in-flat_map_from (with_prefixes types variables) f made (once-IsIn f (flat_map (with_prefixes types variables) made) h) in
      by g.0 g.1 (in-append_cases f (prefixes types variables g.0) (g.0 ∷ []) g.2)
    where
      by : (g : Fact) → IsIn g made → IsIn f (prefixes types variables g) ⊎ IsIn f (g ∷ []) → S f
      by g m (inl k) = shut g f (member g m) k
      by g m (inr (inl e)) = subst S (sym e) (member g m)
      by g m (inr (inr k)) = absurd k

  pub in-closed : (f : Fact) → IsIn f made → IsIn f (closed types variables made)
  in-closed f h = IsIn-once f (flat_map (with_prefixes types variables) made) (in-flat_map (with_prefixes types variables) f f made h (in-append_right f (prefixes types variables f) (f ∷ []) (inl refl)))

module _ (N : Type 0) where
  -- a value that is reached through records and callmessages is read
  pub there-read : (q : List ℕ) (i : ℕ) (ps : Parts N) (d : Cell N) → cell_at (i ∷ q) ps ≡ Some d → read_at (i ∷ q) ps ≡ Some d
  there-read [] i ps d h = h
  there-read (j ∷ r) i ps d h = by (part_at i ps) h (there-read r j)
    where
      by : (o : Option (Cell N)) → cell_at (j ∷ r) (inside o) ≡ Some d → ((ps : Parts N) (d : Cell N) → cell_at (j ∷ r) ps ≡ Some d → read_at (j ∷ r) ps ≡ Some d) → read_at (j ∷ r) (readable_of o) ≡ Some d
      by None h again = none-not_some (sym (none-there (j ∷ r)) ∙ h)
      by (Some (cell n a_record qs)) h again = again qs d h
      by (Some (cell n (a_callmessage x y) qs)) h again = again qs d h
      by (Some (cell n (a_variant x) qs)) h again = none-not_some (sym (none-there (j ∷ r)) ∙ h)
      by (Some (cell n (a_scalar x) qs)) h again = none-not_some (sym (none-there (j ∷ r)) ∙ h)
      by (Some (cell n a_table qs)) h again = none-not_some (sym (none-there (j ∷ r)) ∙ h)
      by (Some (cell n (a_polymorph x) qs)) h again = none-not_some (sym (none-there (j ∷ r)) ∙ h)
      by (Some (cell n (an_inport x) qs)) h again = none-not_some (sym (none-there (j ∷ r)) ∙ h)
      by (Some (cell n (an_outport x) qs)) h again = none-not_some (sym (none-there (j ∷ r)) ∙ h)

  -- reading on from what is read
  pub read-on : (q : List ℕ) (i j : ℕ) (s : List ℕ) (ps : Parts N) → read_at ((i ∷ q) ++ j ∷ s) ps ≡ read_at (j ∷ s) (readable_of (read_at (i ∷ q) ps))
  read-on [] i j s ps = refl
  read-on (k ∷ q) i j s ps = read-on q k j s (readable_of (part_at i ps))

  pub part-on : (i j : ℕ) (q : List ℕ) (ps : Parts N) → cell_at ((i ∷ q) ++ j ∷ []) ps ≡ part_at j (inside (cell_at (i ∷ q) ps))
  part-on i j [] ps = refl
  part-on i j (k ∷ q) ps = part-on k j q (inside (part_at i ps))

  -- the first step of what is read
  first-read : (p : List ℕ) (j : ℕ) (qs : Parts N) (e : Cell N) → read_at (j ∷ p) qs ≡ Some e → (d : Cell N) × (part_at j qs ≡ Some d)
  first-read [] j qs e h = (e, h)
  first-read (k ∷ p) j qs e h = by (part_at j qs) refl h
    where
      by : (o : Option (Cell N)) → part_at j qs ≡ o → read_at (k ∷ p) (readable_of o) ≡ Some e → (d : Cell N) × (part_at j qs ≡ Some d)
      by None at h = none-not_some (sym (none-read (k ∷ p)) ∙ h)
      by (Some d) at h = (d, at)

module _ (N : Type 0) (table : TypeTable) where
  -- from what is read on the way to what is read at the end, each fact is told
  module _ (ps : Parts N) where
    own-told : (i : ℕ) (q : List ℕ) (w : Bool) (c : Cell N) (f : Fact) → (w ≡ false → cell_at (i ∷ q) ps ≡ Some c) → IsIn f (cond w [] (init (i ∷ q) ∷ [])) → IsTrue (satisfies ps f)
    own-told i q true c f direct h = absurd h
    own-told i q false c f direct (inl e) = subst (λ f. IsTrue (satisfies ps f)) (sym e) (ap is_some (direct refl))
    own-told i q false c f direct (inr h) = absurd h

    case-told : (i : ℕ) (q : List ℕ) (j : ℕ) (c : Cell N) (f : Fact) → read_at (i ∷ q) ps ≡ Some c → (b : Bool) → (b ≡ true → is_component (Some c) j ≡ true) → IsIn f (cond b (case (i ∷ q) j ∷ []) []) → IsTrue (satisfies ps f)
    case-told i q j c f at true known (inl e) = subst (λ f. IsTrue (satisfies ps f)) (sym e) (ap (λ o. is_component o j) at ∙ known refl)
    case-told i q j c f at true known (inr h) = absurd h
    case-told i q j c f at false known h = absurd h

    told-on : (i : ℕ) (q : List ℕ) (t : ℕ) (w : Bool) (j : ℕ) (p : List ℕ) (c : Cell N) (f : Fact) → read_at (i ∷ q) ps ≡ Some c → (w ≡ false → cell_at (i ∷ q) ps ≡ Some c) → (is_variant table (Some t) ≡ true → is_component (Some c) j ≡ true)
        → (IsIn f (facts_from table ((i ∷ q) ++ j ∷ []) (part_of table (Some t) j) (w || is_variant table (Some t)) p) → IsTrue (satisfies ps f)) → IsIn f (facts_from table (i ∷ q) (Some t) w (j ∷ p)) → IsTrue (satisfies ps f)
    told-on i q t w j p c f at direct known further h =
        by (in-append_cases f (cond w [] (init (i ∷ q) ∷ [])) (cond (is_variant table (Some t)) (case (i ∷ q) j ∷ []) [] ++ facts_from table ((i ∷ q) ++ j ∷ []) (part_of table (Some t) j) (w || is_variant table (Some t)) p) h)
      where
        later : IsIn f (cond (is_variant table (Some t)) (case (i ∷ q) j ∷ []) []) ⊎ IsIn f (facts_from table ((i ∷ q) ++ j ∷ []) (part_of table (Some t) j) (w || is_variant table (Some t)) p) → IsTrue (satisfies ps f)
        later (inl h) = case-told i q j c f at (is_variant table (Some t)) known h
        later (inr h) = further h

        by : IsIn f (cond w [] (init (i ∷ q) ∷ [])) ⊎ IsIn f (cond (is_variant table (Some t)) (case (i ∷ q) j ∷ []) [] ++ facts_from table ((i ∷ q) ++ j ∷ []) (part_of table (Some t) j) (w || is_variant table (Some t)) p) → IsTrue (satisfies ps f)
        by (inl h) = own-told i q w c f direct h
        by (inr h) = later (in-append_cases f (cond (is_variant table (Some t)) (case (i ∷ q) j ∷ []) []) (facts_from table ((i ∷ q) ++ j ∷ []) (part_of table (Some t) j) (w || is_variant table (Some t)) p) h)

    next-direct : (i j : ℕ) (q : List ℕ) (c d : Cell N) (b w : Bool) → (b ≡ false → part_at j (inside (Some c)) ≡ Some d) → (w ≡ false → cell_at (i ∷ q) ps ≡ Some c) → w || b ≡ false → cell_at ((i ∷ q) ++ j ∷ []) ps ≡ Some d
    next-direct i j q c d b true s direct e = absurd (true≢false e)
    next-direct i j q c d b false s direct e = part-on N i j q ps ∙ ap (λ o. part_at j (inside o)) (direct refl) ∙ s e

    told-from : (p : List ℕ) (i : ℕ) (q : List ℕ) (t : ℕ) (w : Bool) (c e : Cell N) (f : Fact) → read_at (i ∷ q) ps ≡ Some c → HasType table t c → (w ≡ false → cell_at (i ∷ q) ps ≡ Some c)
        → read_at ((i ∷ q) ++ p) ps ≡ Some e → IsIn f (facts_from table (i ∷ q) (Some t) w p) → IsTrue (satisfies ps f)
    told-from [] i q t w c e f at typed direct end h = own-told i q w c f direct h
    told-from (j ∷ p) i q t w c e f at typed direct end h =
        let onward : read_at (j ∷ p) (readable_of (Some c)) ≡ Some e = ap (λ o. read_at (j ∷ p) (readable_of o)) (sym at) ∙ sym (read-on N q i j p ps) ∙ end in
        let d = first-read N p j (readable_of (Some c)) e onward in
        let s = readable-part N table partly t j c d.0 typed d.1 in
        let at' : read_at ((i ∷ q) ++ j ∷ []) ps ≡ Some d.0 = read-on N q i j [] ps ∙ ap (λ o. part_at j (readable_of o)) at ∙ d.1 in
        let end' : read_at (((i ∷ q) ++ j ∷ []) ++ p) ps ≡ Some e = ap (λ p. read_at p ps) (append_assoc (i ∷ q) (j ∷ []) p) ∙ end in
        told-on i q t w j p c f at direct (λ v. (s.component v).0)
        (λ h. told-from p i (q ++ j ∷ []) s.type (w || is_variant table (Some t)) d.0 e f at' s.typed (next-direct i j q c d.0 (is_variant table (Some t)) w s.direct direct) end'
        (subst (λ o. IsIn f (facts_from table ((i ∷ q) ++ j ∷ []) o (w || is_variant table (Some t)) p)) s.there h)) h

  module _ (variables : List ℕ) (ps : Parts N) (typed : HaveTypes table variables ps) where
    pub told-to : (p : Path) (e : Cell N) (f : Fact) → read_at p ps ≡ Some e → IsIn f (facts_to table variables p) → IsTrue (satisfies ps f)
    told-to [] e f end h = absurd h
    told-to (i ∷ q) e f end h =
        let d = first-read N q i ps e end in
        let x = typed-part N table variables ps i d.0 typed d.1 in
        told-from ps q i [] x.type false d.0 e f d.1 x.typed (λ w. d.1) end (subst (λ o. IsIn f (facts_from table (i ∷ []) o false q)) x.there h)

    told-read : (f : Fact) → IsTrue (satisfies ps f) → (e : Cell N) × (read_at (path_of f) ps ≡ Some e)
    told-read (init []) h = absurd (false≢true h)
    told-read (init (i ∷ q)) h = by (cell_at (i ∷ q) ps) refl h
      where
        by : (o : Option (Cell N)) → cell_at (i ∷ q) ps ≡ o → is_some o ≡ true → (e : Cell N) × (read_at (i ∷ q) ps ≡ Some e)
        by None at h = absurd (false≢true h)
        by (Some e) at h = (e, there-read N q i ps e at)
    told-read (case p k) h = by (read_at p ps) refl h
      where
        by : (o : Option (Cell N)) → read_at p ps ≡ o → is_component o k ≡ true → (e : Cell N) × (read_at p ps ≡ Some e)
        by None at h = absurd (false≢true h)
        by (Some e) at h = (e, at)

    -- what typed values tell is closed
    pub told-closed : IsClosed table variables (λ f. IsTrue (satisfies ps f))
    told-closed f g h k = let e = told-read f h in told-to (path_of f) e.0 g e.1 (before-path table variables f g k)
