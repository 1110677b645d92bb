-- The excess has exactly the topmost paths that are left over.
use Rattle.std.proofs.Common.{◌≡◌, ℕ, zero, suc, List, [], ◌∷◌, ◌++◌, flat_map, Bool, true, false, cond, Option, Some, None, is_some, inl, inr, slice_get, IsTrue, IsFalse, refl, sym, ap, subst, ◌∙◌, append_assoc, append-nil}
use Rattle.herm_model.specs.Lists.{IsIn, all_pass, map_or, list_of}
use Rattle.herm_model.specs.Paths.{Path}
use Rattle.herm_model.specs.Types.{Shape, TypeTable, named_types, is_within_depth, held_parts, IsPartPath}
use Rattle.herm_model.specs.Finalising.{excess_from}
use Rattle.herm_model.proofs.Lists.{in-flat_map, in-flat_map_from, every-in, not_true, cons-head, cons-tail, cons-not_nil}
use Rattle.herm_model.proofs.Steps.{held-named, within-known}

module _ (left : Path → Bool) (table : TypeTable) where
  -- a path that leads to what is left, with nothing left before it
  pub record Top (p : Path) (t : ℕ) (x : Path) : Type 0 where
    pub steps : List ℕ
    pub whole : x ≡ p ++ steps
    pub leads : IsPartPath held_parts table t steps
    pub is_left : IsTrue (left x)
    pub first : (r : List ℕ) (i : ℕ) (more : List ℕ) → steps ≡ r ++ i ∷ more → IsFalse (left (p ++ r))

  abbrev parts_excess : ℕ → Path → Option Shape → List Path
  parts_excess n p o = map_or [] (λ s. flat_map (λ part. excess_from left n table (p ++ part.0 ∷ []) part.1) (held_parts s)) o

  -- what the parts give
  down : (p : Path) (t i u : ℕ) (x : Path) → IsIn (i, u) (list_of held_parts (slice_get table t)) → IsFalse (left p) → Top (p ++ i ∷ []) u x → Top p t x
  down p t i u x h none top = record { steps = i ∷ top.steps; whole = top.whole ∙ append_assoc p (i ∷ []) top.steps; leads = (u, h, top.leads); is_left = top.is_left; first = first }
    where
      first : (r : List ℕ) (j : ℕ) (more : List ℕ) → i ∷ top.steps ≡ r ++ j ∷ more → IsFalse (left (p ++ r))
      first [] j more e = subst (λ q. IsFalse (left q)) (sym (append-nil p)) none
      first (k ∷ r) j more e = subst (λ q. IsFalse (left q)) (append_assoc p (i ∷ []) r ∙ ap (λ m. p ++ m ∷ r) (cons-head e)) (top.first r j more (cons-tail e))

  nil-not_longer : {A : Type 0} (r : List ℕ) (i : ℕ) (more : List ℕ) → [] ≡ r ++ i ∷ more → A
  nil-not_longer [] i more e = cons-not_nil i more (sym e)
  nil-not_longer (k ∷ r) i more e = cons-not_nil k (r ++ i ∷ more) (sym e)

  here-top : (p : Path) (t : ℕ) (x : Path) → IsTrue (is_some (slice_get table t)) → IsTrue (left p) → IsIn x (p ∷ []) → Top p t x
  here-top p t x s l (inl e) = record { steps = []; whole = e ∙ sym (append-nil p); leads = s; is_left = subst (λ q. IsTrue (left q)) (sym e) l; first = λ r i more e'. nil-not_longer r i more e' }
  here-top p t x s l (inr h) = absurd h

  parts-top : (n : ℕ) (p : Path) (o : Option Shape) (x : Path) → ((i u : ℕ) → IsIn (i, u) (list_of held_parts o) → IsIn x (excess_from left n table (p ++ i ∷ []) u) → Top (p ++ i ∷ []) u x) → IsIn x (parts_excess n p o) → (part : ℕ × ℕ) × IsIn part (list_of held_parts o) × Top (p ++ part.0 ∷ []) part.1 x
  parts-top n p None x again h = absurd h
  parts-top n p (Some s) x again h = let r = in-flat_map_from (λ (part : ℕ × ℕ). excess_from left n table (p ++ part.0 ∷ []) part.1) x (held_parts s) h in (r.0, r.1, again r.0.0 r.0.1 r.1 r.2)

  within-part : (n : ℕ) (o : Option Shape) (i u : ℕ) → IsTrue (map_or false (λ s. all_pass (is_within_depth n table) (named_types s)) o) → IsIn (i, u) (list_of held_parts o) → IsTrue (is_within_depth n table u)
  within-part n None i u w h = absurd h
  within-part n (Some s) i u w h = every-in (is_within_depth n table) u (named_types s) w (held-named s i u h)

  pub excess-top : (n : ℕ) (p : Path) (t : ℕ) (x : Path) → IsTrue (is_within_depth n table t) → IsIn x (excess_from left n table p t) → Top p t x
  excess-top zero p t x w h = absurd h
  excess-top (suc n) p t x w h = by (left p) refl h (parts-top n p (slice_get table t) x (λ i u k. excess-top n (p ++ i ∷ []) u x (within-part n (slice_get table t) i u w k)))
    where
      by : (b : Bool) → left p ≡ b → IsIn x (cond b (p ∷ []) (parts_excess n p (slice_get table t))) → (IsIn x (parts_excess n p (slice_get table t)) → (part : ℕ × ℕ) × IsIn part (list_of held_parts (slice_get table t)) × Top (p ++ part.0 ∷ []) part.1 x) → Top p t x
      by true e k again = here-top p t x (within-known table (suc n) t w) e k
      by false e k again = let r = again k in down p t r.0.0 r.0.1 x r.1 e r.2

  part-excess : (n : ℕ) (p : Path) (o : Option Shape) (i u : ℕ) (x : Path) → IsIn (i, u) (list_of held_parts o) → IsIn x (excess_from left n table (p ++ i ∷ []) u) → IsIn x (parts_excess n p o)
  part-excess n p None i u x h k = absurd h
  part-excess n p (Some s) i u x h k = in-flat_map (λ (part : ℕ × ℕ). excess_from left n table (p ++ part.0 ∷ []) part.1) (i, u) x (held_parts s) h k

  -- a path that leads, with nothing left before it, is in the excess
  pub top-excess : (n : ℕ) (p : Path) (t : ℕ) (q x : List ℕ) → IsTrue (is_within_depth n table t) → x ≡ p ++ q → IsPartPath held_parts table t q → IsTrue (left x) → ((r : List ℕ) (i : ℕ) (more : List ℕ) → q ≡ r ++ i ∷ more → IsFalse (left (p ++ r))) → IsIn x (excess_from left n table p t)
  top-excess zero p t q x w e l h first = not_true w
  top-excess (suc n) p t [] x w e l h first = subst (λ b. IsIn x (cond b (p ∷ []) (parts_excess n p (slice_get table t)))) (sym (subst (λ y. IsTrue (left y)) (e ∙ append-nil p) h)) (inl (e ∙ append-nil p))
  top-excess (suc n) p t (i ∷ q) x w e l h first =
      subst (λ b. IsIn x (cond b (p ∷ []) (parts_excess n p (slice_get table t)))) (sym (subst (λ y. IsFalse (left y)) (append-nil p) (first [] i q refl)))
      (part-excess n p (slice_get table t) i l.0 x l.1
      (top-excess n (p ++ i ∷ []) l.0 q x (within-part n (slice_get table t) i l.0 w l.1) (e ∙ sym (append_assoc p (i ∷ []) q)) l.2 h
      (λ r j more f. subst (λ y. IsFalse (left y)) (sym (append_assoc p (i ∷ []) r)) (first (i ∷ r) j more (ap (i ∷◌) f)))))
