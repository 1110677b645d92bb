-- A row is taken out: the first whose key is wanted, which no other has.
use Rattle.std.proofs.Common.{◌≡◌, ◌≢◌, ℕ, suc, List, [], ◌∷◌, ◌⊎◌, inl, inr, Bool, true, false, cond, not, ◌||◌, Option, Some, None, option_map, get_or, refl, sym, ap, ap₂, subst, ◌∙◌, arith, nat_eq, true≢false}
use Rattle.std.specs.Prelude.{find, ⊤}
use Rattle.std.specs.List.{All, AllByRecursion, list_any}
use Rattle.std.specs.Ordering.{is_eq}
use Rattle.std.specs.declared.cmp.Ordering.{Ordering}
use Rattle.std.specs.declared.cmp.Ordering.TheVariants.{Less, Equal, Greater}
use Rattle.std.specs.Cmp.Lexicographic.{slice_cmp}
use Rattle.std.proofs.lemmas.List.Elements.{All-head, All-tail}
use Rattle.std.proofs.lemmas.Bool.{eq-eqb, eqb-true}
use Rattle.herm_rows.specs.Keys.{without, HaveDifferentKeys}
use Rattle.herm_model.specs.Values as model
use Rattle.herm_model.specs.Values.{Parts, no_parts, part, place}
use Rattle.herm_model.specs.Lists.{IsIn, map_or}
use Rattle.herm_model.specs.Statements.{Differ}
use Rattle.herm_model.specs.Tables.{same_key, place_of_key, without_part}
use Rattle.herm_model.proofs.Options.{some-injective}
use Rattle.herm_model.proofs.Equality.{same_key-is, same_key_self}
use Rattle.herm_values.specs.View.{places_of, key_view}
use Rattle.herm_values.specs.Keys.{without_key}
use Rattle.herm_values.specs.Whole.{HasRow, AreKept}
use Rattle.herm_values.specs.declared.scalar.KeyRow.{KeyRow}
use Rattle.herm_values.proofs.KeyedRows.{named, named-first, is_keyed}
use Rattle.herm_values.proofs.PutRows.{moved}
use Rattle.herm_values.proofs.SameKeys.{scalar_cmp, keys_same}

-- this one is taken out, and these are left
pub data IsTaken (p : KeyRow → Bool) : List KeyRow → KeyRow → List KeyRow → Type 0 where
  first : (k : KeyRow) (ks : List KeyRow) → p k ≡ true → IsTaken p (k ∷ ks) k ks
  later : (k : KeyRow) (ks : List KeyRow) (r : KeyRow) (left : List KeyRow) → p k ≡ false → IsTaken p ks r left → IsTaken p (k ∷ ks) r (k ∷ left)

-- none that stands behind one that passes passes too
abbrev pub Single : (KeyRow → Bool) → List KeyRow → Type 0
Single p [] = Unit {0}
Single p (k ∷ ks) = (p k ≡ true → list_any p ks ≡ false) × Single p ks

module _ (p : KeyRow → Bool) where
  all-left : (ks : List KeyRow) → list_any p ks ≡ false → without p ks ≡ ks
  all-left [] h = refl
  all-left (k ∷ ks) h = by (p k) (without p ks) (list_any p ks) h (all-left ks)
    where
      by : (b : Bool) (left : List KeyRow) (any : Bool) → (b || any) ≡ false → (any ≡ false → left ≡ ks) → cond (not b) (k ∷ left) left ≡ k ∷ ks
      by true left any h rest = cc
      by false left any h rest = ap (λ l. k ∷ l) (rest h)

  pub taken-out : (ks : List KeyRow) (r : KeyRow) → Single p ks → find p ks ≡ Some r → IsTaken p ks r (without p ks)
  taken-out [] r h e = cc
  taken-out (k ∷ ks) r h e = by (p k) refl e (taken-out ks r h.1)
    where
      by : (b : Bool) → p k ≡ b → cond b (Some k) (find p ks) ≡ Some r → (find p ks ≡ Some r → IsTaken p ks r (without p ks)) → IsTaken p (k ∷ ks) r (cond (not b) (k ∷ without p ks) (without p ks))
      by true t f rest = subst (λ left. IsTaken p (k ∷ ks) r left) (sym (all-left ks (h.0 t))) (subst (λ x. IsTaken p (k ∷ ks) x ks) (some-injective f) (first k ks t))
      by false t f rest = later k ks r (without p ks) t (rest f)

  pub taken-place : (ks left : List KeyRow) (r : KeyRow) → IsTaken p ks r left → IsIn r.place (places_of ks)
  taken-place _ _ _ (first k ks t) = inl refl
  taken-place _ _ _ (later k ks r left t rest) = inr (taken-place ks left r rest)

  left-in : (ks left : List KeyRow) (r : KeyRow) (i : ℕ) → IsTaken p ks r left → IsIn i (places_of left) → IsIn i (places_of ks)
  left-in _ _ _ i (first k ks t) h = inr h
  left-in _ _ _ i (later k ks r left t rest) (inl e) = inl e
  left-in _ _ _ i (later k ks r left t rest) (inr h) = inr (left-in ks left r i rest h)

  in-left : (ks left : List KeyRow) (r : KeyRow) (i : ℕ) → IsTaken p ks r left → (i ≡ r.place → ⊥) → IsIn i (places_of ks) → IsIn i (places_of left)
  in-left _ _ _ i (first k ks t) apart (inl e) = absurd (apart e)
  in-left _ _ _ i (first k ks t) apart (inr h) = h
  in-left _ _ _ i (later k ks r left t rest) apart (inl e) = inl e
  in-left _ _ _ i (later k ks r left t rest) apart (inr h) = inr (in-left ks left r i rest apart h)

  differ-left : (ks left : List KeyRow) (r : KeyRow) → IsTaken p ks r left → Differ (places_of ks) → Differ (places_of left)
  differ-left _ _ _ (first k ks t) d = d.1
  differ-left _ _ _ (later k ks r left t rest) d = (λ h. d.0 (left-in ks left r k.place rest h), differ-left ks left r rest d.1)

module _ (columns : List ℕ) (rows changed : List (Option model.Value)) (key : List model.Scalar) (r : KeyRow) (same : (i : ℕ) → (i ≡ r.place → ⊥) → get_or changed i None ≡ get_or rows i None) where
  abbrev p : KeyRow → Bool
  p = is_keyed key

  -- rows at other places stay
  pub stay : (ks : List KeyRow) → (IsIn r.place (places_of ks) → ⊥) → AllByRecursion (HasRow columns rows) ks → AllByRecursion (HasRow columns changed) ks
  stay [] apart h = h
  stay (k ∷ ks) apart h = (moved columns rows changed r.place same k (λ e. apart (inl (sym e))) h.0, stay ks (λ x. apart (inr x)) h.1)

  -- a key that stands before the one that is taken out names another place
  before-apart : (k : KeyRow) (ks left : List KeyRow) → IsTaken p ks r left → (IsIn k.place (places_of ks) → ⊥) → k.place ≡ r.place → ⊥
  before-apart k ks left taken d e = d (subst (λ i. IsIn i (places_of ks)) (sym e) (taken-place p ks left r taken))

  found-left : (ks left : List KeyRow) → IsTaken p ks r left → Differ (places_of ks) → AllByRecursion (HasRow columns rows) ks → AllByRecursion (HasRow columns changed) left
  found-left _ _ (first _ ks t) d h = stay ks d.0 h.1
  found-left _ _ (later k ks _ left t rest) d h = (moved columns rows changed r.place same k (before-apart k ks left rest d.0) h.0, found-left ks left rest d.1 h.1)

  pub place-is : (i : ℕ) → (i ≡ r.place) ⊎ (i ≡ r.place → ⊥)
  place-is i = elim (nat_eq i r.place) as (λ b. nat_eq i r.place ≡ b → (i ≡ r.place) ⊎ (i ≡ r.place → ⊥)) [ true ↦ λ t. inl (eqb-true i r.place t) | false ↦ λ f. inr (λ e. true≢false (sym (eq-eqb i r.place e) ∙ f)) ] refl

  pub kept-left : (ks left : List KeyRow) → IsTaken p ks r left → get_or changed r.place None ≡ None → AreKept columns ks rows → AreKept columns left changed
  kept-left ks left taken gone kept = record {
    differ = differ-left p ks left r taken kept.differ;
    found = found-left ks left taken kept.differ kept.found;
    elsewhere = λ i out. elim (place-is i) [ inl e ↦ ap (λ j. get_or changed j None) e ∙ gone | inr apart ↦ same i apart ∙ kept.elsewhere i (λ h. out (in-left p ks left r i taken apart h)) ];
  }

  unchanged : (ks : List KeyRow) → (IsIn r.place (places_of ks) → ⊥) → named columns changed ks ≡ named columns rows ks
  unchanged [] apart = refl
  unchanged (k ∷ ks) apart = ap₂ place (same k.place (λ e. apart (inl (sym e)))) (unchanged ks (λ h. apart (inr h)))

  later-left : (o : Option ℕ) (row : model.Value) (ps : Parts ⊤) → part row (map_or ps (λ i. without_part i ps) o) ≡ map_or (part row ps) (λ i. without_part i (part row ps)) (option_map suc o)
  later-left None row ps = refl
  later-left (Some i) row ps = refl

  -- the row of the first key whose key is wanted leaves the parts
  abbrev Leaves : Bool → model.Value → Parts ⊤ → Parts ⊤
  Leaves b row ps = map_or (part row ps) (λ i. without_part i (part row ps)) (cond b (Some 0) (option_map suc (place_of_key columns key ps)))

  leaving : (k : KeyRow) (ks : List KeyRow) (h : HasRow columns rows k) → without_key columns key (named columns rows (k ∷ ks)) ≡ Leaves (p k) h.row (named columns rows ks)
  leaving k ks h = ap (without_key columns key) (named-first columns rows k ks h) ∙ ap (λ s. Leaves (same_key s key) h.row (named columns rows ks)) h.keyed

  pub named-left : (ks left : List KeyRow) → IsTaken p ks r left → Differ (places_of ks) → AllByRecursion (HasRow columns rows) ks → named columns changed left ≡ without_key columns key (named columns rows ks)
  named-left _ _ (first _ ks t) d h = unchanged ks d.0 ∙ ap (λ b. Leaves b h.0.row (named columns rows ks)) (sym t) ∙ sym (leaving r ks h.0)
  named-left _ _ (later k ks _ left t rest) d h =
      ap₂ place (same k.place (before-apart k ks left rest d.0) ∙ h.0.there) (named-left ks left rest d.1 h.1)
      ∙ later-left (place_of_key columns key (named columns rows ks)) h.0.row (named columns rows ks)
      ∙ ap (λ b. Leaves b h.0.row (named columns rows ks)) (sym t)
      ∙ sym (leaving k ks h.0)

-- keys that differ in their order are not the same key
abbrev pub ordered : KeyRow → KeyRow → Ordering
ordered x y = slice_cmp scalar_cmp x.key.items y.key.items

none-behind : (key : List model.Scalar) (k : KeyRow) (ks : List KeyRow) → is_keyed key k ≡ true → All (λ y. ordered k y ≢ Equal) ks → list_any (is_keyed key) ks ≡ false
none-behind key k [] t h = refl
none-behind key k (x ∷ ks) t h = ap₂ ◌||◌ (not-keyed (is_keyed key x) refl) (none-behind key k ks t (All-tail (λ y. ordered k y ≢ Equal) x ks h))
  where
    equal : (o : Ordering) → is_eq o ≡ true → o ≡ Equal
    equal Less e = cc
    equal Equal e = refl
    equal Greater e = cc

    not-keyed : (b : Bool) → is_keyed key x ≡ b → b ≡ false
    not-keyed false e = refl
    not-keyed true e =
        let one : key_view k.key.items ≡ key_view x.key.items = same_key-is (key_view k.key.items) key t ∙ sym (same_key-is (key_view x.key.items) key e) in
        absurd (All-head (λ y. ordered k y ≢ Equal) x ks h (equal (ordered k x) (keys_same k.key.items x.key.items ∙ subst (λ s. same_key (key_view k.key.items) s ≡ true) one (same_key_self (key_view k.key.items)))))

pub single : (key : List model.Scalar) (ks : List KeyRow) → HaveDifferentKeys ordered ks → Single (is_keyed key) ks
single key [] h = tt
single key (k ∷ ks) h = (λ t. none-behind key k ks t (λ j d less. h 0 (suc j) d (omega arith) (omega arith)), single key ks (λ i j d before less. h (suc i) (suc j) d (omega arith) (omega arith)))
