-- The search goes on: edges are followed from a visit.
use Rattle.std.proofs.Common.{◌≡◌, ◌≢◌, ◌⊎◌, inl, inr, ℕ, suc, zero, ◌+◌, ◌*◌, ◌<◌, ◌≤◌, List, [], ◌∷◌, ◌++◌, length, Bool, true, false, true≢false, cond, not, ◌&&◌, ◌||◌, Option, Some, None, Vec, Global, slice_get, slice_set, refl, sym, ◌∙◌, ap, ap₂, subst, arith, length-set}
use Rattle.std.proofs.lemmas.Option.{slice_get_within}
use Rattle.herm_model.specs.Lists.{IsIn, total}
use Rattle.herm_model.specs.Paths.{Fact}
use Rattle.herm_model.specs.Targets.{node}
use Rattle.herm_model.specs.ControlPaths.{Edge, Point, Flow, held_after_edge, held_at_start}
use Rattle.herm_model.specs.laws.FlowLaws.{IsThere}
use Rattle.herm_model.proofs.Lists.{in-append_left, in-append_right, in-append_cases, total-append}
use Rattle.herm_check.specs.View.{hop_view}
use Rattle.herm_facts.specs.FactSets.{has}
use Rattle.herm_check.specs.Effects.{is_made, is_taken, IsEffect}
use Rattle.herm_facts.specs.declared.fact_set.FactSet.{FactSet}
use Rattle.herm_check.specs.declared.effects.Effect.{Effect}
use Rattle.herm_check.specs.declared.search.Link.{Link}
use Rattle.herm_check.specs.declared.search.Visit.{Visit}
use Rattle.herm_check.specs.Searched.{Places, slot_of, IsOf, IsFound, IsLast, visits_of, sets_without, IsSearch, HasVisits, IsNear, AreFollowed, AreLeft, IsKept, with_facts, IsVisited, again, added, is_held_beyond, visit_by, IsFollowedFrom, ends, leads}
use Rattle.herm_check.proofs.FactSets.{unseen-fewer}
use Rattle.herm_check.proofs.Joined.{same_or_not, set-here, set-elsewhere}
use Rattle.herm_check.proofs.Searched.{one-at, some-at, length-more}

-- what stands in a list stays where it is when one more is appended
pub kept-more : {X : Type 0} (xs : List X) (x : X) (k : ℕ) (y : X) → slice_get xs k ≡ Some y → slice_get (xs ++ x ∷ []) k ≡ Some y
kept-more [] x k y h = absurd (let g : None ≡ Some y = h in cc)
kept-more (z ∷ xs) x zero y h = h
kept-more (z ∷ xs) x (suc k) y h = kept-more xs x k y h

pub at-end : {X : Type 0} (xs : List X) (x : X) → slice_get (xs ++ x ∷ []) (length xs) ≡ Some x
at-end [] x = refl
at-end (z ∷ xs) x = at-end xs x

-- what stands in a longer list is the last one or stood there before
pub old-or-last : {X : Type 0} (xs : List X) (x : X) (k : ℕ) (y : X) → slice_get (xs ++ x ∷ []) k ≡ Some y → (slice_get xs k ≡ Some y) ⊎ ((k ≡ length xs) × (y ≡ x))
old-or-last [] x zero y h = inr (refl, let e : x ≡ y = cc in sym e)
old-or-last [] x (suc k) y h = absurd (let g : None ≡ Some y = h in cc)
old-or-last (z ∷ xs) x zero y h = inl h
old-or-last (z ∷ xs) x (suc k) y h = by (old-or-last xs x k y h)
  where
    by : (slice_get xs k ≡ Some y) ⊎ ((k ≡ length xs) × (y ≡ x)) → (slice_get xs k ≡ Some y) ⊎ ((suc k ≡ suc (length xs)) × (y ≡ x))
    by (inl g) = inl g
    by (inr g) = inr (ap suc g.0, g.1)

some-same : {X : Type 0} {x y : X} → ◌≡◌ {A = Option X} (Some x) (Some y) → x ≡ y
some-same e = cc

pub none-some : {X : Type 0} (x : X) → ◌≡◌ {A = Option X} None (Some x) → ⊥
none-some x e = cc

pub node-same : (m n : ℕ) → node m ≡ node n → m ≡ n
node-same m n e = cc

-- one summand becomes another
total-set : {X : Type 0} (f : X → ℕ) (xs : List X) (i : ℕ) (x y : X) → slice_get xs i ≡ Some x → f x + total f (slice_set xs i y) ≡ f y + total f xs
total-set f [] i x y h = absurd (none-some x h)
total-set f (z ∷ xs) zero x y h = let e = ap f (some-same h) in omega (arith, e)
total-set f (z ∷ xs) (suc i) x y h = let again = total-set f xs i x y h in omega (arith, again)

pub slot-within : (t n : ℕ) (b : Bool) → 2 * t + 1 < n → slot_of t b < n
slot-within t n true h = omega (arith, h)
slot-within t n false h = omega (arith, h)

pub slot-point : (t u : ℕ) (a b : Bool) → slot_of t a ≡ slot_of u b → t ≡ u
slot-point t u true true e = omega (arith, e)
slot-point t u true false e = omega (arith, e)
slot-point t u false true e = omega (arith, e)
slot-point t u false false e = omega (arith, e)

pub slot-held : (t u : ℕ) (a b : Bool) → slot_of t a ≡ slot_of u b → a ≡ b
slot-held t u true true e = refl
slot-held t u true false e = absurd (omega (arith, e))
slot-held t u false true e = absurd (omega (arith, e))
slot-held t u false false e = refl

-- ---- two sets, of which one is of what is not in the other

both-first : (a b c : Bool) → c ≡ (a && not b) → c ≡ true → a ≡ true
both-first true b c e f = refl
both-first false b c e f = absurd (true≢false (sym f ∙ e))

pub both-second : (a b c : Bool) → c ≡ (a && not b) → c ≡ true → b ≡ false
both-second a false c e f = refl
both-second true true c e f = absurd (true≢false (sym f ∙ e))
both-second false true c e f = absurd (true≢false (sym f ∙ e))

and-first : (a b : Bool) → (a && b) ≡ true → a ≡ true
and-first true b e = refl
and-first false b e = e

or-first : (a b c : Bool) → c ≡ (a || b) → a ≡ true → c ≡ true
or-first true b c e f = e
or-first false b c e f = absurd (true≢false (sym f))

or-second : (a b c : Bool) → c ≡ (a || b) → b ≡ true → c ≡ true
or-second true b c e f = e
or-second false true c e f = e
or-second false false c e f = absurd (true≢false (sym f))

either-of : (a b c : Bool) → c ≡ (a || b) → c ≡ true → (a ≡ true) ⊎ (b ≡ true)
either-of true b c e f = inl refl
either-of false true c e f = inr refl
either-of false false c e f = absurd (true≢false (sym f ∙ e))

-- a number is added to a set, or it was in the set, or in neither
one-of-both : (a b c d : Bool) → c ≡ (a && not b) → d ≡ (b || c) → cond {A = ℕ} c 1 0 + cond {A = ℕ} d 0 1 ≡ cond {A = ℕ} b 0 1
one-of-both true true c d e f = omega (arith, ap (λ x. cond {A = ℕ} x 1 0) e, ap (λ x. cond {A = ℕ} x 0 1) f)
one-of-both false true c d e f = omega (arith, ap (λ x. cond {A = ℕ} x 1 0) e, ap (λ x. cond {A = ℕ} x 0 1) f)
one-of-both true false c d e f = omega (arith, ap (λ x. cond {A = ℕ} x 1 0) e, ap (λ x. cond {A = ℕ} x 0 1) (f ∙ e))
one-of-both false false c d e f = omega (arith, ap (λ x. cond {A = ℕ} x 1 0) e, ap (λ x. cond {A = ℕ} x 0 1) (f ∙ e))

-- ---- what was found stays so where the visits stay

module _ (vs ws : List Visit) (kept : IsKept vs ws) where
  pub found-kept : (j t : ℕ) (held : Bool) (most : ℕ) → IsFound j vs t held most → IsFound j ws t held most
  found-kept j t held most h = record { at = h.at; visit = h.visit; is = kept h.at h.visit h.is; of = h.of; same_point = h.same_point; same_held = h.same_held; near = h.near }

  pub followed-kept : (f : Fact) (j : ℕ) (u : Visit) (edges : List Edge) → AreFollowed f j vs u edges → AreFollowed f j ws u edges
  followed-kept f j u edges h e t member to = found-kept j t (held_after_edge e f u.held) (u.depth + 1) (h e t member to)

  -- a visit of other facts goes by the same link
  last-kept : (flow : Flow) (f : Fact) (j k : ℕ) (v : Visit) (facts : FactSet) (o : Option Link) → IsLast flow f j vs k v o → IsLast flow f j ws k (with_facts v facts) o
  last-kept flow f j k v facts None h = h
  last-kept flow f j k v facts (Some l) h = record { before = h.before; visit = h.visit; is = kept l.from h.visit h.is; of = h.of; point = h.point; point_is = h.point_is; edge = h.edge; member = h.member; hop = h.hop; target = h.target; held = h.held; depth = h.depth }

-- ---- a visit is added, or was before

-- each visit is at most so deep
abbrev pub AreWithin : List Visit → ℕ → Type 0
AreWithin vs most = (i : ℕ) (u : Visit) → slice_get vs i ≡ Some u → u.depth ≤ most

-- What was found of one fact, but for the first point.
pub record AreVisitsOf (flow : Flow) (f : Fact) (j : ℕ) (vs : List Visit) (seen : List FactSet) : Type 0 where
  pub linked : (k : ℕ) (v : Visit) → slice_get vs k ≡ Some v → IsOf j v → IsLast flow f j vs k v v.last
  pub visited : (t : ℕ) (held : Bool) (s : FactSet) → slice_get seen (slot_of t held) ≡ Some s → has s j ≡ true → (k : ℕ) × (v : Visit) × (slice_get vs k ≡ Some v) × IsOf j v × (v.point ≡ t) × (v.held ≡ held)
  pub seen_at : (k : ℕ) (v : Visit) → slice_get vs k ≡ Some v → IsOf j v → (s : FactSet) × (slice_get seen (slot_of v.point v.held) ≡ Some s) × (has s j ≡ true)
  pub once : (k l : ℕ) (u v : Visit) → slice_get vs k ≡ Some u → slice_get vs l ≡ Some v → IsOf j u → IsOf j v → u.point ≡ v.point → u.held ≡ v.held → k ≡ l
  pub count : visits_of j vs + sets_without j seen ≡ 2 * length flow.points

of-search : (flow : Flow) (f : Fact) (j : ℕ) (vs : List Visit) (seen : List FactSet) → IsSearch flow f j vs seen → AreVisitsOf flow f j vs seen
of-search flow f j vs seen h = record { linked = h.linked; visited = h.visited; seen_at = h.seen_at; once = h.once; count = h.count }

pub to-search : (flow : Flow) (f : Fact) (j : ℕ) (vs : List Visit) (seen : List FactSet) → AreVisitsOf flow f j vs seen → IsFound j vs 0 (held_at_start f) 0 → IsSearch flow f j vs seen
to-search flow f j vs seen h begins = record { begins = begins; linked = h.linked; visited = h.visited; seen_at = h.seen_at; once = h.once; count = h.count }

module _ (vs : List Visit) (seen : List FactSet) (places : Places) (v : Visit) (s facts now : FactSet) (row more : Vec ℕ Global) (was : slice_get seen (slot_of v.point v.held) ≡ Some s) (stood : slice_get places (slot_of v.point v.held) ≡ Some row)
    (new : (j : ℕ) → has facts j ≡ (has v.facts j && not (has s j))) (all : (j : ℕ) → has now j ≡ (has s j || has facts j)) (some : (j : ℕ) × (j < 64) × (has facts j ≡ true)) (longer : more.items ≡ row.items ++ length vs ∷ []) where
  abbrev ws : List Visit
  ws = vs ++ with_facts v facts ∷ []

  abbrev sets : List FactSet
  sets = slice_set seen (slot_of v.point v.held) now

  abbrev rows : Places
  rows = slice_set places (slot_of v.point v.held) more

  kept : IsKept vs ws
  kept j u h = kept-more vs (with_facts v facts) j u h

  set-now : slice_get sets (slot_of v.point v.held) ≡ Some now
  set-now = set-here seen (slot_of v.point v.held) now (slice_get_within seen (slot_of v.point v.held) s was)

  row-now : slice_get rows (slot_of v.point v.held) ≡ Some more
  row-now = set-here places (slot_of v.point v.held) more (slice_get_within places (slot_of v.point v.held) row stood)

  -- of all facts
  module _ (flow : Flow) (before : HasVisits flow vs seen places) (there : v.point < length flow.points) (deepest : AreWithin vs v.depth) (back : (l : Link) → v.last ≡ Some l → l.from < length vs) (deep : v.depth ≤ length vs) where
    there-more : (k : ℕ) (u : Visit) → slice_get ws k ≡ Some u → u.point < length flow.points
    there-more k u at = by (old-or-last vs (with_facts v facts) k u at)
      where
        by : (slice_get vs k ≡ Some u) ⊎ ((k ≡ length vs) × (u ≡ with_facts v facts)) → u.point < length flow.points
        by (inl h) = before.there k u h
        by (inr h) = subst (λ w. w.point < length flow.points) (sym h.1) there

    rising-more : (j k : ℕ) (u w : Visit) → slice_get ws j ≡ Some u → slice_get ws k ≡ Some w → j ≤ k → u.depth ≤ w.depth
    rising-more j k u w at to less = by (old-or-last vs (with_facts v facts) j u at) (old-or-last vs (with_facts v facts) k w to)
      where
        by : (slice_get vs j ≡ Some u) ⊎ ((j ≡ length vs) × (u ≡ with_facts v facts)) → (slice_get vs k ≡ Some w) ⊎ ((k ≡ length vs) × (w ≡ with_facts v facts)) → u.depth ≤ w.depth
        by (inl g) (inl h) = before.rising j k u w g h less
        by (inl g) (inr h) = subst (λ x. u.depth ≤ x.depth) (sym h.1) (deepest j u g)
        by (inr g) (inl h) = let within = slice_get_within vs k w h in let e = g.0 in absurd (omega (arith, within, e, less))
        by (inr g) (inr h) = let e = ap (λ (x : Visit). x.depth) (g.1 ∙ sym h.1) in omega (arith, e)

    back-more : (k : ℕ) (u : Visit) (l : Link) → slice_get ws k ≡ Some u → u.last ≡ Some l → l.from < k
    back-more k u l at last = by (old-or-last vs (with_facts v facts) k u at)
      where
        by : (slice_get vs k ≡ Some u) ⊎ ((k ≡ length vs) × (u ≡ with_facts v facts)) → l.from < k
        by (inl h) = before.back k u l h last
        by (inr h) = subst (λ n. l.from < n) (sym h.0) (back l (subst (λ w. w.last ≡ Some l) h.1 last))

    deep-more : (k : ℕ) (u : Visit) → slice_get ws k ≡ Some u → u.depth ≤ k
    deep-more k u at = by (old-or-last vs (with_facts v facts) k u at)
      where
        by : (slice_get vs k ≡ Some u) ⊎ ((k ≡ length vs) × (u ≡ with_facts v facts)) → u.depth ≤ k
        by (inl h) = before.deep k u h
        by (inr h) = subst (λ n. u.depth ≤ n) (sym h.0) (subst (λ w. w.depth ≤ length vs) (sym h.1) deep)

    listed-more : (t : ℕ) (held : Bool) (r : Vec ℕ Global) (k : ℕ) → slice_get rows (slot_of t held) ≡ Some r → IsIn k r.items → (u : Visit) × (slice_get ws k ≡ Some u) × (u.point ≡ t) × (u.held ≡ held)
    listed-more t held r k is member = by (same_or_not (slot_of v.point v.held) (slot_of t held))
      where
        old : (r : Vec ℕ Global) → slice_get places (slot_of t held) ≡ Some r → IsIn k r.items → (u : Visit) × (slice_get ws k ≡ Some u) × (u.point ≡ t) × (u.held ≡ held)
        old r at member = let h = before.listed t held r k at member in (h.0, kept k h.0 h.1, h.2, h.3)

        in-row : slot_of v.point v.held ≡ slot_of t held → IsIn k row.items ⊎ IsIn k (length vs ∷ []) → (u : Visit) × (slice_get ws k ≡ Some u) × (u.point ≡ t) × (u.held ≡ held)
        in-row e (inl h) = old row (subst (λ n. slice_get places n ≡ Some row) e stood) h
        in-row e (inr (inl h)) = (with_facts v facts, subst (λ n. slice_get ws n ≡ Some (with_facts v facts)) (sym h) (at-end vs (with_facts v facts)), slot-point v.point t v.held held e, slot-held v.point t v.held held e)
        in-row e (inr (inr h)) = absurd h

        by : (slot_of v.point v.held ≡ slot_of t held) ⊎ (slot_of v.point v.held ≢ slot_of t held) → (u : Visit) × (slice_get ws k ≡ Some u) × (u.point ≡ t) × (u.held ≡ held)
        by (inl e) =
            let same : r ≡ more = one-at (slice_get rows (slot_of t held)) r more is (subst (λ n. slice_get rows n ≡ Some more) e row-now) in
            in-row e (in-append_cases k row.items (length vs ∷ []) (subst (IsIn k) longer (subst (λ x. IsIn k x.items) same member)))
        by (inr d) = old r (sym (set-elsewhere places (slot_of v.point v.held) (slot_of t held) more d) ∙ is) member

    placed-more : (k : ℕ) (u : Visit) → slice_get ws k ≡ Some u → (r : Vec ℕ Global) × (slice_get rows (slot_of u.point u.held) ≡ Some r) × IsIn k r.items
    placed-more k u at = by (old-or-last vs (with_facts v facts) k u at)
      where
        old : (r : Vec ℕ Global) → slice_get places (slot_of u.point u.held) ≡ Some r → IsIn k r.items → (slot_of v.point v.held ≡ slot_of u.point u.held) ⊎ (slot_of v.point v.held ≢ slot_of u.point u.held) → (r : Vec ℕ Global) × (slice_get rows (slot_of u.point u.held) ≡ Some r) × IsIn k r.items
        old r at member (inl e) =
            let same : r ≡ row = one-at (slice_get places (slot_of u.point u.held)) r row at (subst (λ n. slice_get places n ≡ Some row) e stood) in
            (more, subst (λ n. slice_get rows n ≡ Some more) e row-now, subst (IsIn k) (sym longer) (in-append_left k row.items (length vs ∷ []) (subst (λ x. IsIn k x.items) same member)))
        old r at member (inr d) = (r, set-elsewhere places (slot_of v.point v.held) (slot_of u.point u.held) more d ∙ at, member)

        by : (slice_get vs k ≡ Some u) ⊎ ((k ≡ length vs) × (u ≡ with_facts v facts)) → (r : Vec ℕ Global) × (slice_get rows (slot_of u.point u.held) ≡ Some r) × IsIn k r.items
        by (inl h) = let g = before.placed k u h in old g.0 g.1 g.2 (same_or_not (slot_of v.point v.held) (slot_of u.point u.held))
        by (inr h) = (
          more,
          subst (λ w. slice_get rows (slot_of w.point w.held) ≡ Some more) (sym h.1) row-now,
          subst (IsIn k) (sym longer) (in-append_right k row.items (length vs ∷ []) (inl h.0)),
        )

    visits-more : HasVisits flow ws sets rows
    visits-more = record {
      there = there-more;
      rising = rising-more;
      back = back-more;
      listed = listed-more;
      placed = placed-more;
      many = length-set seen (slot_of v.point v.held) now ∙ before.many;
      rows = length-set places (slot_of v.point v.held) more ∙ before.rows;
      count =
          let one = length-more vs (with_facts v facts) in
          let less = unseen-fewer seen (slot_of v.point v.held) s facts now was all some.0 some.1 some.2 (both-second (has v.facts some.0) (has s some.0) (has facts some.0) (new some.0) some.2) in
          omega (arith, one, less, before.count);
      deep = deep-more;
    }

  -- of one fact
  module _ (flow : Flow) (f : Fact) (j : ℕ) (before : AreVisitsOf flow f j vs seen) (linked : has v.facts j ≡ true → IsLast flow f j vs (length vs) v v.last) where
    wanted : has facts j ≡ true → has v.facts j ≡ true
    wanted h = both-first (has v.facts j) (has s j) (has facts j) (new j) h

    unseen_here : has facts j ≡ true → has s j ≡ false
    unseen_here h = both-second (has v.facts j) (has s j) (has facts j) (new j) h

    now-old : has s j ≡ true → has now j ≡ true
    now-old h = or-first (has s j) (has facts j) (has now j) (all j) h

    now-new : has facts j ≡ true → has now j ≡ true
    now-new h = or-second (has s j) (has facts j) (has now j) (all j) h

    linked-more : (k : ℕ) (u : Visit) → slice_get ws k ≡ Some u → IsOf j u → IsLast flow f j ws k u u.last
    linked-more k u at of = by (old-or-last vs (with_facts v facts) k u at)
      where
        by : (slice_get vs k ≡ Some u) ⊎ ((k ≡ length vs) × (u ≡ with_facts v facts)) → IsLast flow f j ws k u u.last
        by (inl h) = last-kept vs ws kept flow f j k u u.facts u.last (before.linked k u h of)
        by (inr h) =
            subst (λ n. IsLast flow f j ws n u u.last) (sym h.0)
            (subst (λ w. IsLast flow f j ws (length vs) w w.last) (sym h.1) (last-kept vs ws kept flow f j (length vs) v facts v.last (linked (wanted (subst (IsOf j) h.1 of)))))

    visited-more : (t : ℕ) (held : Bool) (x : FactSet) → slice_get sets (slot_of t held) ≡ Some x → has x j ≡ true → (k : ℕ) × (u : Visit) × (slice_get ws k ≡ Some u) × IsOf j u × (u.point ≡ t) × (u.held ≡ held)
    visited-more t held x is of = by (same_or_not (slot_of v.point v.held) (slot_of t held))
      where
        old : (y : FactSet) → slice_get seen (slot_of t held) ≡ Some y → has y j ≡ true → (k : ℕ) × (u : Visit) × (slice_get ws k ≡ Some u) × IsOf j u × (u.point ≡ t) × (u.held ≡ held)
        old y at of = let h = before.visited t held y at of in (h.0, h.1, kept h.0 h.1 h.2, h.3, h.4, h.5)

        here : slot_of v.point v.held ≡ slot_of t held → (has s j ≡ true) ⊎ (has facts j ≡ true) → (k : ℕ) × (u : Visit) × (slice_get ws k ≡ Some u) × IsOf j u × (u.point ≡ t) × (u.held ≡ held)
        here e (inl h) = old s (subst (λ n. slice_get seen n ≡ Some s) e was) h
        here e (inr h) = (length vs, with_facts v facts, at-end vs (with_facts v facts), h, slot-point v.point t v.held held e, slot-held v.point t v.held held e)

        by : (slot_of v.point v.held ≡ slot_of t held) ⊎ (slot_of v.point v.held ≢ slot_of t held) → (k : ℕ) × (u : Visit) × (slice_get ws k ≡ Some u) × IsOf j u × (u.point ≡ t) × (u.held ≡ held)
        by (inl e) =
            let same : x ≡ now = one-at (slice_get sets (slot_of t held)) x now is (subst (λ n. slice_get sets n ≡ Some now) e set-now) in
            here e (either-of (has s j) (has facts j) (has now j) (all j) (subst (λ y. has y j ≡ true) same of))
        by (inr d) = old x (sym (set-elsewhere seen (slot_of v.point v.held) (slot_of t held) now d) ∙ is) of

    seen-more : (k : ℕ) (u : Visit) → slice_get ws k ≡ Some u → IsOf j u → (x : FactSet) × (slice_get sets (slot_of u.point u.held) ≡ Some x) × (has x j ≡ true)
    seen-more k u at of = by (old-or-last vs (with_facts v facts) k u at)
      where
        old : (y : FactSet) → slice_get seen (slot_of u.point u.held) ≡ Some y → has y j ≡ true → (slot_of v.point v.held ≡ slot_of u.point u.held) ⊎ (slot_of v.point v.held ≢ slot_of u.point u.held) → (x : FactSet) × (slice_get sets (slot_of u.point u.held) ≡ Some x) × (has x j ≡ true)
        old y at of (inl e) =
            let same : y ≡ s = one-at (slice_get seen (slot_of u.point u.held)) y s at (subst (λ n. slice_get seen n ≡ Some s) e was) in
            (now, subst (λ n. slice_get sets n ≡ Some now) e set-now, now-old (subst (λ x. has x j ≡ true) same of))
        old y at of (inr d) = (y, set-elsewhere seen (slot_of v.point v.held) (slot_of u.point u.held) now d ∙ at, of)

        by : (slice_get vs k ≡ Some u) ⊎ ((k ≡ length vs) × (u ≡ with_facts v facts)) → (x : FactSet) × (slice_get sets (slot_of u.point u.held) ≡ Some x) × (has x j ≡ true)
        by (inl h) = let g = before.seen_at k u h of in old g.0 g.1 g.2 (same_or_not (slot_of v.point v.held) (slot_of u.point u.held))
        by (inr h) = (now, subst (λ w. slice_get sets (slot_of w.point w.held) ≡ Some now) (sym h.1) set-now, now-new (subst (IsOf j) h.1 of))

    -- a visit of the fact that was before is not of the same point with the fact held alike
    apart : (k : ℕ) (u : Visit) → slice_get vs k ≡ Some u → IsOf j u → has facts j ≡ true → u.point ≡ v.point → u.held ≡ v.held → ⊥
    apart k u at of fresh point held =
        let g = before.seen_at k u at of in
        let e : slot_of u.point u.held ≡ slot_of v.point v.held = ap₂ slot_of point held in
        let same : g.0 ≡ s = one-at (slice_get seen (slot_of u.point u.held)) g.0 s g.1 (subst (λ n. slice_get seen n ≡ Some s) (sym e) was) in
        true≢false (sym g.2 ∙ (ap (λ x. has x j) same ∙ unseen_here fresh))

    once-more : (k l : ℕ) (u w : Visit) → slice_get ws k ≡ Some u → slice_get ws l ≡ Some w → IsOf j u → IsOf j w → u.point ≡ w.point → u.held ≡ w.held → k ≡ l
    once-more k l u w at to of of_other point held = by (old-or-last vs (with_facts v facts) k u at) (old-or-last vs (with_facts v facts) l w to)
      where
        by : (slice_get vs k ≡ Some u) ⊎ ((k ≡ length vs) × (u ≡ with_facts v facts)) → (slice_get vs l ≡ Some w) ⊎ ((l ≡ length vs) × (w ≡ with_facts v facts)) → k ≡ l
        by (inl g) (inl h) = before.once k l u w g h of of_other point held
        by (inl g) (inr h) = absurd (apart k u g of (subst (IsOf j) h.1 of_other) (point ∙ ap (λ (x : Visit). x.point) h.1) (held ∙ ap (λ (x : Visit). x.held) h.1))
        by (inr g) (inl h) = absurd (apart l w h of_other (subst (IsOf j) g.1 of) (sym point ∙ ap (λ (x : Visit). x.point) g.1) (sym held ∙ ap (λ (x : Visit). x.held) g.1))
        by (inr g) (inr h) = g.0 ∙ sym h.0

    count-more : visits_of j ws + sets_without j sets ≡ 2 * length flow.points
    count-more =
        let visits = total-append (λ (u : Visit). cond {A = ℕ} (has u.facts j) 1 0) vs (with_facts v facts ∷ []) in
        let less = total-set (λ (x : FactSet). cond {A = ℕ} (has x j) 0 1) seen (slot_of v.point v.held) s now was in
        let one = one-of-both (has v.facts j) (has s j) (has facts j) (has now j) (new j) (all j) in
        omega (arith, visits, less, one, before.count)

    of-more : AreVisitsOf flow f j ws sets
    of-more = record { linked = linked-more; visited = visited-more; seen_at = seen-more; once = once-more; count = count-more }

    found-more : AreWithin vs v.depth → has v.facts j ≡ true → IsFound j ws v.point v.held v.depth
    found-more deepest of = record { at = g.0; visit = g.1; is = g.2; of = g.3; same_point = g.4; same_held = g.5; near = by (old-or-last vs (with_facts v facts) g.0 g.1 g.2) }
      where
        seen_now : (b : Bool) → has s j ≡ b → has now j ≡ true
        seen_now true e = now-old e
        seen_now false e = now-new (new j ∙ ap₂ (λ a b. a && not b) of e)

        g : (k : ℕ) × (u : Visit) × (slice_get ws k ≡ Some u) × IsOf j u × (u.point ≡ v.point) × (u.held ≡ v.held)
        g = visited-more v.point v.held now set-now (seen_now (has s j) refl)

        by : (slice_get vs g.0 ≡ Some g.1) ⊎ ((g.0 ≡ length vs) × (g.1 ≡ with_facts v facts)) → g.1.depth ≤ v.depth
        by (inl h) = deepest g.0 g.1 h
        by (inr h) = let e = ap (λ (x : Visit). x.depth) h.1 in omega (arith, e)

-- what is added, or was before
pub visit-kept : (v : Visit) (vs ws : List Visit) (seen now : List FactSet) (places rows : Places) → IsVisited v vs seen places ws now rows → IsKept vs ws
visit-kept v vs _ seen _ places _ (again s was of) k u h = h
visit-kept v vs _ seen _ places _ (added s facts set row more was stood new all some longer) k u h = kept-more vs (with_facts v facts) k u h

pub seen-many : (v : Visit) (vs ws : List Visit) (seen now : List FactSet) (places rows : Places) → IsVisited v vs seen places ws now rows → length now ≡ length seen
seen-many v vs _ seen _ places _ (again s was of) = refl
seen-many v vs _ seen _ places _ (added s facts set row more was stood new all some longer) = length-set seen (slot_of v.point v.held) set

pub visit-within : (v : Visit) (vs ws : List Visit) (seen now : List FactSet) (places rows : Places) (most : ℕ) → v.depth ≤ most → AreWithin vs most → IsVisited v vs seen places ws now rows → AreWithin ws most
visit-within v vs _ seen _ places _ most deep within (again s was of) i u at = within i u at
visit-within v vs _ seen _ places _ most deep within (added s facts set row more was stood new all some longer) i u at = by (old-or-last vs (with_facts v facts) i u at)
  where
    by : (slice_get vs i ≡ Some u) ⊎ ((i ≡ length vs) × (u ≡ with_facts v facts)) → u.depth ≤ most
    by (inl h) = within i u h
    by (inr h) = subst (λ w. w.depth ≤ most) (sym h.1) deep

pub visits-visited : (v : Visit) (vs ws : List Visit) (seen now : List FactSet) (places rows : Places) (flow : Flow) → HasVisits flow vs seen places → v.point < length flow.points → AreWithin vs v.depth → ((l : Link) → v.last ≡ Some l → l.from < length vs) → v.depth ≤ length vs
    → IsVisited v vs seen places ws now rows → HasVisits flow ws now rows
visits-visited v vs _ seen _ places _ flow before there deepest back deep (again s was of) = before
visits-visited v vs _ seen _ places _ flow before there deepest back deep (added s facts set row more was stood new all some longer) = visits-more vs seen places v s facts set row more was stood new all some longer flow before there deepest back deep

pub of-visited : (v : Visit) (vs ws : List Visit) (seen now : List FactSet) (places rows : Places) (flow : Flow) (f : Fact) (j : ℕ) → AreVisitsOf flow f j vs seen → (has v.facts j ≡ true → IsLast flow f j vs (length vs) v v.last) → IsVisited v vs seen places ws now rows → AreVisitsOf flow f j ws now
of-visited v vs _ seen _ places _ flow f j before linked (again s was of) = before
of-visited v vs _ seen _ places _ flow f j before linked (added s facts set row more was stood new all some longer) = of-more vs seen places v s facts set row more was stood new all some longer flow f j before linked

-- the point was visited with each fact of the visit, held as it says
pub found-visited : (v : Visit) (vs ws : List Visit) (seen now : List FactSet) (places rows : Places) (flow : Flow) (f : Fact) (j : ℕ) → AreVisitsOf flow f j vs seen → (has v.facts j ≡ true → IsLast flow f j vs (length vs) v v.last) → AreWithin vs v.depth → has v.facts j ≡ true
    → IsVisited v vs seen places ws now rows → IsFound j ws v.point v.held v.depth
found-visited v vs _ seen _ places _ flow f j before linked deepest of (again s was had) =
    let g = before.visited v.point v.held s was (had j of) in
    record { at = g.0; visit = g.1; is = g.2; of = g.3; same_point = g.4; same_held = g.5; near = deepest g.0 g.1 g.2 }
found-visited v vs _ seen _ places _ flow f j before linked deepest of (added s facts set row more was stood new all some longer) = found-more vs seen places v s facts set row more was stood new all some longer flow f j before linked deepest of

-- ---- edges are followed

-- what is held behind an edge
pub held-beyond : (facts : List Fact) (e : Edge) (effect : Effect) (u : Visit) (j : ℕ) (f : Fact) → IsEffect facts e effect → slice_get facts j ≡ Some f → has u.facts j ≡ true → is_held_beyond effect u j ≡ held_after_edge e f u.held
held-beyond facts e effect u j f is at of =
    let h = is j f at in
    ap (λ a. a && (has effect.made j || (u.held && not (has effect.killed j)))) of
    ∙ (ap₂ (λ m k. m || (u.held && not k)) h.0 h.1 ∙ by (is_made e f) (is_taken e f) u.held)
  where
    by : (m k h : Bool) → (m || (h && not k)) ≡ cond m true (cond k false h)
    by true k h = refl
    by false true true = refl
    by false true false = refl
    by false false true = refl
    by false false false = refl

-- Edges are being followed from the visit at a place: these were.
pub record IsFollowing (flow : Flow) (facts : List Fact) (old vs : List Visit) (seen : List FactSet) (places : Places) (u : Visit) (done : List Edge) : Type 0 where
  pub visits : HasVisits flow vs seen places
  pub each : (j : ℕ) (f : Fact) → slice_get facts j ≡ Some f → IsSearch flow f j vs seen
  pub kept : IsKept old vs
  pub near : AreWithin vs (u.depth + 1)
  pub followed : (j : ℕ) (f : Fact) → slice_get facts j ≡ Some f → IsOf j u → AreFollowed f j vs u done

module _ (flow : Flow) (facts : List Fact) (old : List Visit) (k : ℕ) (u : Visit) (p : Point) (e : Edge) (here : slice_get old k ≡ Some u) (at : slice_get flow.points u.point ≡ Some p) (member : IsIn e p.edges) (inside : IsThere (length flow.points) e.target) where
  joined : (f : Fact) (j : ℕ) (vs : List Visit) (done : List Edge) → AreFollowed f j vs u done → ((t : ℕ) → e.target ≡ node t → IsFound j vs t (held_after_edge e f u.held) (u.depth + 1)) → AreFollowed f j vs u (done ++ e ∷ [])
  joined f j vs [] h last d t (inl same) to = subst (λ x. IsFound j vs t (held_after_edge x f u.held) (u.depth + 1)) (sym same) (last t (subst (λ x. x.target ≡ node t) same to))
  joined f j vs [] h last d t (inr none) to = absurd none
  joined f j vs (x ∷ done) h last d t (inl same) to = h d t (inl same) to
  joined f j vs (x ∷ done) h last d t (inr m) to = joined f j vs done (λ y n i. h y n (inr i)) last d t m to

  -- the point behind the edge is visited with some of the facts, held or not as they are behind it
  module _ (t : ℕ) (l : Link) (held : Bool) (some : FactSet) (to : e.target ≡ node t) (from : l.from ≡ k) (hop : hop_view l.hop ≡ record { number = p.number; outcome = e.outcome })
      (are : (j : ℕ) (f : Fact) → slice_get facts j ≡ Some f → has some j ≡ true → IsOf j u × (held ≡ held_after_edge e f u.held))
      (vs ws : List Visit) (seen now : List FactSet) (places rows : Places) (done : List Edge) (h : IsFollowing flow facts old vs seen places u done) (visited : IsVisited (visit_by t held some (u.depth + 1) l) vs seen places ws now rows) where
    within : k < length vs
    within = slice_get_within vs k u (h.kept k u here)

    linked : (j : ℕ) (f : Fact) → slice_get facts j ≡ Some f → has some j ≡ true → IsLast flow f j vs (length vs) (visit_by t held some (u.depth + 1) l) (Some l)
    linked j f is of =
        let a = are j f is of in
        record {
          before = omega (arith, within, from);
          visit = u;
          is = subst (λ n. slice_get vs n ≡ Some u) (sym from) (h.kept k u here);
          of = a.0;
          point = p;
          point_is = at;
          edge = e;
          member = member;
          hop = hop;
          target = to;
          held = a.1;
          depth = refl;
        }

    kept_there : IsKept vs ws
    kept_there = visit-kept (visit_by t held some (u.depth + 1) l) vs ws seen now places rows visited

    pub goes-on : IsFollowing flow facts old ws now rows u done
    goes-on = record {
      visits = visits-visited (visit_by t held some (u.depth + 1) l) vs ws seen now places rows flow h.visits (subst (IsThere (length flow.points)) to inside) h.near
          (λ m last. let same : l ≡ m = some_link last in let same_from = ap (λ (x : Link). x.from) same in omega (arith, within, from, same_from))
          (let deep = h.visits.deep k u (h.kept k u here) in omega (arith, within, deep)) visited;
      each = λ j f is.
          let s = h.each j f is in
          to-search flow f j ws now (of-visited (visit_by t held some (u.depth + 1) l) vs ws seen now places rows flow f j (of-search flow f j vs seen s) (linked j f is) visited)
          (found-kept vs ws kept_there j 0 (held_at_start f) 0 s.begins);
      kept = λ i w is. kept_there i w (h.kept i w is);
      near = visit-within (visit_by t held some (u.depth + 1) l) vs ws seen now places rows (u.depth + 1) (omega arith) h.near visited;
      followed = λ j f is of. followed-kept vs ws kept_there f j u done (h.followed j f is of);
    }
      where
        some_link : {m : Link} → ◌≡◌ {A = Option Link} (Some l) (Some m) → l ≡ m
        some_link e = cc

    pub goes-there : (j : ℕ) (f : Fact) → slice_get facts j ≡ Some f → has some j ≡ true → IsFound j ws t held (u.depth + 1)
    goes-there j f is of = found-visited (visit_by t held some (u.depth + 1) l) vs ws seen now places rows flow f j (of-search flow f j vs seen (h.each j f is)) (linked j f is) h.near of visited

  pub followed : (effect : Effect) → IsEffect facts e effect → (vs ws : List Visit) (seen now : List FactSet) (places rows : Places) (done : List Edge) → IsFollowing flow facts old vs seen places u done → IsFollowedFrom p.number e effect k u vs seen places ws now rows → IsFollowing flow facts old ws now rows u (done ++ e ∷ [])
  followed effect is vs _ seen _ places _ done h (ends no_node) = record {
    visits = h.visits;
    each = h.each;
    kept = h.kept;
    near = h.near;
    followed = λ j f there of. joined f j vs done (h.followed j f there of) (λ t to. absurd (no_node t to));
  }
  followed effect is vs ws seen now places rows done h (leads t l held lost ms _ mid _ more _ to from hop are_held are_lost first second) = record {
    visits = then_there.visits;
    each = then_there.each;
    kept = then_there.kept;
    near = then_there.near;
    followed = λ j f there of. joined f j ws done (then_there.followed j f there of) (λ n node_there. subst (λ m. IsFound j ws m (held_after_edge e f u.held) (u.depth + 1)) (node-same t n (sym to ∙ node_there)) (by j f there of (held_after_edge e f u.held) refl));
  }
    where
      of_held : (j : ℕ) (f : Fact) → slice_get facts j ≡ Some f → has held j ≡ true → IsOf j u × (true ≡ held_after_edge e f u.held)
      of_held j f there x =
          let of = and-first (has u.facts j) _ (sym (are_held j) ∙ x) in
          (of, sym x ∙ (are_held j ∙ held-beyond facts e effect u j f is there of))

      of_lost : (j : ℕ) (f : Fact) → slice_get facts j ≡ Some f → has lost j ≡ true → IsOf j u × (false ≡ held_after_edge e f u.held)
      of_lost j f there x =
          let of = both-first (has u.facts j) (has held j) (has lost j) (are_lost j) x in
          (of, sym (both-second (has u.facts j) (has held j) (has lost j) (are_lost j) x) ∙ (are_held j ∙ held-beyond facts e effect u j f is there of))

      then_here : IsFollowing flow facts old ms mid more u done
      then_here = goes-on t l true held to from hop of_held vs ms seen mid places more done h first

      then_there : IsFollowing flow facts old ws now rows u done
      then_there = goes-on t l false lost to from hop of_lost ms ws mid now more rows done then_here second

      by : (j : ℕ) (f : Fact) → slice_get facts j ≡ Some f → IsOf j u → (b : Bool) → held_after_edge e f u.held ≡ b → IsFound j ws t b (u.depth + 1)
      by j f there of true value =
          found-kept ms ws (visit-kept (visit_by t false lost (u.depth + 1) l) ms ws mid now more rows second) j t true (u.depth + 1)
          (goes-there t l true held to from hop of_held vs ms seen mid places more done h first j f there (are_held j ∙ (held-beyond facts e effect u j f is there of ∙ value)))
      by j f there of false value =
          let not_held : has held j ≡ false = are_held j ∙ (held-beyond facts e effect u j f is there of ∙ value) in
          goes-there t l false lost to from hop of_lost ms ws mid now more rows done then_here second j f there (are_lost j ∙ ap₂ (λ a b. a && not b) of not_held)

-- before the first edge, and behind the last
pub follows : (flow : Flow) (facts : List Fact) (vs : List Visit) (seen : List FactSet) (places : Places) (k : ℕ) (u : Visit) → slice_get vs k ≡ Some u → HasVisits flow vs seen places → ((j : ℕ) (f : Fact) → slice_get facts j ≡ Some f → IsSearch flow f j vs seen) → IsNear vs k → IsFollowing flow facts vs vs seen places u []
follows flow facts vs seen places k u is visits each near = record { visits = visits; each = each; kept = λ j v h. h; near = λ j v h. near j u v is h; followed = λ j f there of e t member to. absurd member }

pub below : (m n : ℕ) → m ≤ n → m ≢ n → m < n
below zero zero h d = absurd (d refl)
below zero (suc n) h d = omega arith
below (suc m) zero h d = absurd (omega arith)
below (suc m) (suc n) h d = let less = below m n (omega arith) (λ e. d (ap suc e)) in omega (arith, less)

pub left-more : (flow : Flow) (f : Fact) (j : ℕ) (old vs : List Visit) (k : ℕ) (u : Visit) (p : Point) → slice_get old k ≡ Some u → slice_get flow.points u.point ≡ Some p → IsKept old vs → AreLeft flow f j old k → (IsOf j u → AreFollowed f j vs u p.edges) → AreLeft flow f j vs (k + 1)
left-more flow f j old vs k u p is at kept left followed i w q less to of there = by (same_or_not i k)
  where
    by : (i ≡ k) ⊎ (i ≢ k) → AreFollowed f j vs w q.edges
    by (inl e) =
        let same : u ≡ w = one-at (slice_get vs k) u w (kept k u is) (subst (λ n. slice_get vs n ≡ Some w) e to) in
        let point : p ≡ q = one-at (slice_get flow.points u.point) p q at (subst (λ x. slice_get flow.points x.point ≡ Some q) (sym same) there) in
        subst (λ x. AreFollowed f j vs x q.edges) same (subst (λ x. AreFollowed f j vs u x.edges) point (followed (subst (IsOf j) (sym same) of)))
    by (inr d) =
        let before : i < k = below i k (omega (arith, less)) d in
        let o = some-at old i (let within = slice_get_within old k u is in omega (arith, within, before)) in
        let same : o.0 ≡ w = one-at (slice_get vs i) o.0 w (kept i o.0 o.1) to in
        followed-kept old vs kept f j w q.edges (left i w q before (subst (λ x. slice_get old i ≡ Some x) same o.1) of there)

pub near-left : (flow : Flow) (vs : List Visit) (seen : List FactSet) (places : Places) (k : ℕ) → k < length vs → HasVisits flow vs seen places → IsNear vs k → IsNear vs (k + 1)
near-left flow vs seen places k within visits near i u v is at =
    let w = some-at vs k within in
    let rises = visits.rising k (k + 1) w.0 u w.1 is (omega arith) in
    let close = near i w.0 v w.1 at in
    omega (arith, rises, close)
