-- Rows by key: what is found, and that keys stay different.
use Rattle.std.proofs.Common.{◌≡◌, ◌⊎◌, inl, inr, ℕ, zero, suc, List, Bool, true, false, cond, not, ◌&&◌, ◌||◌, Option, Some, None, option_map, is_some, is_none, IsTrue, refl, sym, ap, ap₂, subst, ◌∙◌, true≢false}
use Rattle.std.proofs.Math.Bool.{or_assoc}
use Rattle.herm_model.specs.Values.{Scalar, Cell, Parts, no_parts, gap, part, part_at, joined}
use Rattle.herm_model.specs.Tables.{same_key, key_of, has_key, place_of_key, has_distinct_keys, without_part}
use Rattle.herm_model.proofs.Lists.{and-both, both-and, or-either, or-left, or-right}
use Rattle.herm_model.proofs.Equality.{same_key-is, same_key_self}
use Rattle.herm_model.proofs.Options.{some-injective, is_some-map}

-- two tests that imply each other are equal
pub same-tests : (a b : Bool) → (IsTrue a → IsTrue b) → (IsTrue b → IsTrue a) → a ≡ b
same-tests true b f g = sym (f refl)
same-tests false true f g = g refl
same-tests false false f g = refl

same_key-swap : (a b : List Scalar) → same_key a b ≡ same_key b a
same_key-swap a b = same-tests (same_key a b) (same_key b a) (λ h. subst (λ x. IsTrue (same_key x a)) (same_key-is a b h) (same_key_self a)) (λ h. subst (λ x. IsTrue (same_key x b)) (same_key-is b a h) (same_key_self b))

swap-tests : (a b c d : Bool) → (not (a || (b || false)) && (c && not d)) ≡ ((not a && c) && not (b || d))
swap-tests true b c d = refl
swap-tests false true true d = refl
swap-tests false true false d = refl
swap-tests false false c d = refl

not-more : (a b : Bool) → (IsTrue b → IsTrue a) → IsTrue (not a) → IsTrue (not b)
not-more a true f h = absurd (true≢false (sym (sym (ap not (f refl)) ∙ h)))
not-more a false f h = refl

module _ {N : Type 0} (key : List ℕ) where
  pub place-there : (k : List Scalar) (ps : Parts N) → is_some (place_of_key key k ps) ≡ has_key key k ps
  place-there k no_parts = refl
  place-there k (gap ps) = is_some-map suc (place_of_key key k ps) ∙ place-there k ps
  place-there k (part row ps) = by (same_key (key_of key row) k) (is_some-map suc (place_of_key key k ps) ∙ place-there k ps)
    where
      by : (b : Bool) → is_some (option_map suc (place_of_key key k ps)) ≡ has_key key k ps → is_some (cond b (Some 0) (option_map suc (place_of_key key k ps))) ≡ (b || has_key key k ps)
      by true e = refl
      by false e = e

  -- the row at the place that is found has the key
  abbrev Found : List Scalar → Option (Cell N) → Type 0
  Found k o = (row : Cell N) × (o ≡ Some row) × (key_of key row ≡ k)

  further : (k : List Scalar) (ps : Parts N) (i : ℕ) (rows : ℕ → Option (Cell N)) → ((j : ℕ) → rows (suc j) ≡ part_at j ps) → (o : Option ℕ) → place_of_key key k ps ≡ o → ((j : ℕ) → place_of_key key k ps ≡ Some j → Found k (part_at j ps)) → option_map suc o ≡ Some i → Found k (rows i)
  further k ps i rows same None e again f = absurd (true≢false (ap is_none f))
  further k ps i rows same (Some j) e again f = let r = again j e in (r.0, ap rows (sym (some-injective f)) ∙ same j ∙ r.1, r.2)

  pub place-row : (k : List Scalar) (ps : Parts N) (i : ℕ) → place_of_key key k ps ≡ Some i → Found k (part_at i ps)
  place-row k no_parts i e = absurd (true≢false (ap is_none e))
  place-row k (gap ps) i e = further k ps i (λ j. part_at j (gap ps)) (λ j. refl) (place_of_key key k ps) refl (place-row k ps) e
  place-row k (part row ps) i e = by (same_key (key_of key row) k) refl (further k ps i (λ j. part_at j (part row ps)) (λ j. refl) (place_of_key key k ps) refl (place-row k ps)) e
    where
      by : (b : Bool) → same_key (key_of key row) k ≡ b → (option_map suc (place_of_key key k ps) ≡ Some i → Found k (part_at i (part row ps))) → cond b (Some 0) (option_map suc (place_of_key key k ps)) ≡ Some i → Found k (part_at i (part row ps))
      by true t again f = (row, ap (λ j. part_at j (part row ps)) (sym (some-injective f)), same_key-is (key_of key row) k t)
      by false t again f = again f

  has_key-joined : (k : List Scalar) (ps qs : Parts N) → has_key key k (joined ps qs) ≡ (has_key key k ps || has_key key k qs)
  has_key-joined k no_parts qs = refl
  has_key-joined k (gap ps) qs = has_key-joined k ps qs
  has_key-joined k (part c ps) qs = ap (same_key (key_of key c) k ||◌) (has_key-joined k ps qs) ∙ sym (or_assoc (same_key (key_of key c) k) (has_key key k ps) (has_key key k qs))

  -- a row behind others keeps keys different exactly where its key is not there
  pub distinct-joined : (row : Cell N) (ps : Parts N) → has_distinct_keys key (joined ps (part row no_parts)) ≡ (has_distinct_keys key ps && not (has_key key (key_of key row) ps))
  distinct-joined row no_parts = refl
  distinct-joined row (gap ps) = distinct-joined row ps
  distinct-joined row (part c ps) =
      ap₂ (λ a b. not a && b) (has_key-joined (key_of key c) ps (part row no_parts)) (distinct-joined row ps)
      ∙ swap-tests (has_key key (key_of key c) ps) (same_key (key_of key row) (key_of key c)) (has_distinct_keys key ps) (has_key key (key_of key row) ps)
      ∙ ap (λ b. (not (has_key key (key_of key c) ps) && has_distinct_keys key ps) && not (b || has_key key (key_of key row) ps)) (same_key-swap (key_of key row) (key_of key c))

  -- a row less keeps them different
  has_key-without : (k : List Scalar) (i : ℕ) (ps : Parts N) → IsTrue (has_key key k (without_part i ps)) → IsTrue (has_key key k ps)
  has_key-without k i no_parts h = h
  has_key-without k zero (gap ps) h = h
  has_key-without k zero (part c ps) h = or-right (same_key (key_of key c) k) _ h
  has_key-without k (suc i) (gap ps) h = has_key-without k i ps h
  has_key-without k (suc i) (part c ps) h = by (or-either (same_key (key_of key c) k) _ h) (has_key-without k i ps)
    where
      by : IsTrue (same_key (key_of key c) k) ⊎ IsTrue (has_key key k (without_part i ps)) → (IsTrue (has_key key k (without_part i ps)) → IsTrue (has_key key k ps)) → IsTrue (same_key (key_of key c) k || has_key key k ps)
      by (inl a) again = or-left _ _ a
      by (inr b) again = or-right (same_key (key_of key c) k) _ (again b)

  pub distinct-without : (i : ℕ) (ps : Parts N) → IsTrue (has_distinct_keys key ps) → IsTrue (has_distinct_keys key (without_part i ps))
  distinct-without i no_parts h = h
  distinct-without zero (gap ps) h = h
  distinct-without zero (part c ps) h = (and-both (not (has_key key (key_of key c) ps)) _ h).1
  distinct-without (suc i) (gap ps) h = distinct-without i ps h
  distinct-without (suc i) (part c ps) h =
      let b = and-both (not (has_key key (key_of key c) ps)) _ h in
      both-and (not (has_key key (key_of key c) (without_part i ps))) _ (not-more (has_key key (key_of key c) ps) (has_key key (key_of key c) (without_part i ps)) (has_key-without (key_of key c) i ps) b.0) (distinct-without i ps b.1)
