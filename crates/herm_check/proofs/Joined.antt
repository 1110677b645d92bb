-- A label that is joined at its place, among the others.
use Rattle.std.proofs.Common.{◌≡◌, ◌≢◌, ◌⊎◌, inl, inr, ℕ, zero, suc, ◌+◌, ◌<◌, ◌≤◌, List, [], ◌∷◌, length, Bool, true, false, cond, ◌&&◌, nat_eq, Some, None, slice_get, slice_set, refl, sym, ◌∙◌, ap, subst, arith, true≢false, length-set}
use Rattle.std.proofs.lemmas.Bool.{eqb-true, eqb-false}
use Rattle.herm_model.specs.Lists.{map_or}
use Rattle.herm_model.specs.Paths.{Fact}
use Rattle.herm_model.specs.Targets.{Target, node}
use Rattle.herm_facts.specs.declared.fact_numbers.FactNumbers.{FactNumbers}
use Rattle.herm_check.specs.declared.label.Label.{Label}
use Rattle.herm_check.specs.Numberings.{in_set}
use Rattle.herm_check.specs.Weights.{label_weight, weight}
use Rattle.herm_check.specs.Followed.{IsJoined}
use Rattle.herm_check.specs.Labelled.{is_reached, is_pending, holds_at, Goes}

pub same_or_not : (i j : ℕ) → (i ≡ j) ⊎ (i ≢ j)
same_or_not i j = by (nat_eq i j) refl
  where
    by : (b : Bool) → nat_eq i j ≡ b → (i ≡ j) ⊎ (i ≢ j)
    by true e = inl (eqb-true i j e)
    by false e = inr (eqb-false i j e)

pub set-here : {X : Type 0} (xs : List X) (i : ℕ) (x : X) → i < length xs → slice_get (slice_set xs i x) i ≡ Some x
set-here [] i x h = absurd (omega arith)
set-here (y ∷ xs) zero x h = refl
set-here (y ∷ xs) (suc i) x h = set-here xs i x (omega arith)

pub set-elsewhere : {X : Type 0} (xs : List X) (i j : ℕ) (x : X) → i ≢ j → slice_get (slice_set xs i x) j ≡ slice_get xs j
set-elsewhere [] i j x h = refl
set-elsewhere (y ∷ xs) zero zero x h = absurd (h refl)
set-elsewhere (y ∷ xs) zero (suc j) x h = refl
set-elsewhere (y ∷ xs) (suc i) zero x h = refl
set-elsewhere (y ∷ xs) (suc i) (suc j) x h = set-elsewhere xs i j x (λ e. h (ap suc e))

-- so it is of each element where it is of the new one and of those before
pub set-each : {X : Type 0} (P : X → Type 0) (xs : List X) (t : ℕ) (new : X) → P new → ((i : ℕ) (x : X) → slice_get xs i ≡ Some x → P x) → (i : ℕ) (x : X) → slice_get (slice_set xs t new) i ≡ Some x → P x
set-each P [] t new p h i x at = h i x at
set-each P (y ∷ xs) zero new p h zero x at = let e : new ≡ x = cc in subst P e p
set-each P (y ∷ xs) zero new p h (suc i) x at = h (suc i) x at
set-each P (y ∷ xs) (suc t) new p h zero x at = h zero x at
set-each P (y ∷ xs) (suc t) new p h (suc i) x at = set-each P xs t new p (λ j. h (suc j)) i x at

pub set-weight : (ns : FactNumbers) (all : List Fact) (ls : List Label) (t : ℕ) (l new : Label) → slice_get ls t ≡ Some l → label_weight ns all new ≤ label_weight ns all l → weight ns all (slice_set ls t new) ≤ weight ns all ls
set-weight ns all [] t l new is less = omega arith
set-weight ns all (k ∷ ls) zero l new is less = let e : k ≡ l = cc in let f = ap (label_weight ns all) e in omega (arith, f)
set-weight ns all (k ∷ ls) (suc t) l new is less = let again = set-weight ns all ls t l new is less in omega (arith, again)

pub set-lighter : (ns : FactNumbers) (all : List Fact) (ls : List Label) (t : ℕ) (l new : Label) → slice_get ls t ≡ Some l → label_weight ns all new + 1 ≤ label_weight ns all l → weight ns all (slice_set ls t new) + 1 ≤ weight ns all ls
set-lighter ns all [] t l new is less = absurd (let k : None ≡ Some l = is in cc)
set-lighter ns all (k ∷ ls) zero l new is less = let e : k ≡ l = cc in let f = ap (label_weight ns all) e in omega (arith, f)
set-lighter ns all (k ∷ ls) (suc t) l new is less = let again = set-lighter ns all ls t l new is less in omega (arith, again)

second : (a b : Bool) → (a && b) ≡ true → b ≡ true
second true b e = e
second false b e = absurd (true≢false (sym e))

first : (a b : Bool) → (a && b) ≡ true → a ≡ true
first true b e = refl
first false b e = e

module _ (ns : FactNumbers) (ls : List Label) (t : ℕ) (l new : Label) (after : Fact → Bool) (h : IsJoined ns ls t l new after) where
  pub reached-here : is_reached (slice_set ls t new) t ≡ true
  reached-here = ap (map_or false (λ k. k.reached)) (set-here ls t new h.within) ∙ h.reached

  pub pending-here : is_pending (slice_set ls t new) t ≡ new.pending
  pending-here = ap (map_or false (λ k. k.pending)) (set-here ls t new h.within)

  pub holds-here : (f : Fact) → holds_at ns (slice_set ls t new) t f ≡ in_set ns new.held f
  holds-here f = ap (map_or false (λ k. in_set ns k.held f)) (set-here ls t new h.within)

  pub reached-before : is_reached ls t ≡ l.reached
  reached-before = ap (map_or false (λ k. k.reached)) h.old

  pub pending-before : is_pending ls t ≡ l.pending
  pending-before = ap (map_or false (λ k. k.pending)) h.old

  pub holds-before : (f : Fact) → holds_at ns ls t f ≡ in_set ns l.held f
  holds-before f = ap (map_or false (λ k. in_set ns k.held f)) h.old

  pub reached-elsewhere : (j : ℕ) → t ≢ j → is_reached (slice_set ls t new) j ≡ is_reached ls j
  reached-elsewhere j d = ap (map_or false (λ k. k.reached)) (set-elsewhere ls t j new d)

  pub pending-elsewhere : (j : ℕ) → t ≢ j → is_pending (slice_set ls t new) j ≡ is_pending ls j
  pending-elsewhere j d = ap (map_or false (λ k. k.pending)) (set-elsewhere ls t j new d)

  pub holds-elsewhere : (j : ℕ) (f : Fact) → t ≢ j → holds_at ns (slice_set ls t new) j f ≡ holds_at ns ls j f
  holds-elsewhere j f d = ap (map_or false (λ k. in_set ns k.held f)) (set-elsewhere ls t j new d)

  -- what is in the joined label is held behind the edge
  pub joined-after : (f : Fact) → in_set ns new.held f ≡ true → after f ≡ true
  joined-after f e = by l.reached (sym (h.facts f) ∙ e)
    where
      by : (r : Bool) → cond r (in_set ns l.held f && after f) (after f) ≡ true → after f ≡ true
      by true k = second (in_set ns l.held f) (after f) k
      by false k = k

  -- and in the old label where the point was reached before
  pub joined-before : l.reached ≡ true → (f : Fact) → in_set ns new.held f ≡ true → in_set ns l.held f ≡ true
  joined-before r f e = first (in_set ns l.held f) (after f) (sym (ap (λ b. cond b (in_set ns l.held f && after f) (after f)) r) ∙ (sym (h.facts f) ∙ e))

  -- where control went with facts that pass a test, it still does
  pub goes-kept : (x : Target) (test : Fact → Bool) → Goes ns ls x test → Goes ns (slice_set ls t new) x test
  goes-kept x test g i is within = by (same_or_not t i)
    where
      before : (is_reached ls i ≡ true) × ((f : Fact) → holds_at ns ls i f ≡ true → test f ≡ true)
      before = g i is (omega (arith, length-set {A = Label} ls t new))

      by : (t ≡ i) ⊎ (t ≢ i) → (is_reached (slice_set ls t new) i ≡ true) × ((f : Fact) → holds_at ns (slice_set ls t new) i f ≡ true → test f ≡ true)
      by (inl e) = subst (λ k. (is_reached (slice_set ls t new) k ≡ true) × ((f : Fact) → holds_at ns (slice_set ls t new) k f ≡ true → test f ≡ true)) e
          (reached-here, λ f k. before.1 f (subst (λ n. holds_at ns ls n f ≡ true) e (holds-before f ∙ joined-before (sym reached-before ∙ subst (λ n. is_reached ls n ≡ true) (sym e) before.0) f (sym (holds-here f) ∙ k))))
      by (inr d) = (reached-elsewhere i d ∙ before.0, λ f k. before.1 f (sym (holds-elsewhere i f d) ∙ k))

  -- control goes to the point with what is held behind the edge
  pub goes-new : (x : Target) → x ≡ node t → Goes ns (slice_set ls t new) x after
  goes-new x is i other within = subst (λ k. (is_reached (slice_set ls t new) k ≡ true) × ((f : Fact) → holds_at ns (slice_set ls t new) k f ≡ true → after f ≡ true)) (node-same t i (sym is ∙ other))
      (reached-here, λ f k. joined-after f (sym (holds-here f) ∙ k))
    where
      node-same : (m n : ℕ) → node m ≡ node n → m ≡ n
      node-same m n e = cc
