-- Edges that lead to nothing new need not be followed.
use Rattle.std.proofs.lemmas.Option.{slice_get_within, slice_get-get_or, slice_get_read}
use Rattle.std.proofs.Common.{◌≡◌, ◌≢◌, ◌⊎◌, inl, inr, ℕ, suc, ◌+◌, ◌*◌, ◌<◌, ◌≤◌, List, [], ◌∷◌, ◌++◌, length, Bool, true, false, true≢false, not, ◌&&◌, Some, get_or, slice_get, slice_set, refl, sym, ◌∙◌, ap, ap₂, subst, arith, length-set}
use Rattle.herm_model.specs.Lists.{IsIn}
use Rattle.herm_model.specs.Paths.{Fact}
use Rattle.herm_model.specs.Targets.{node}
use Rattle.herm_model.specs.ControlPaths.{Edge, Point, Flow, held_after_edge}
use Rattle.herm_model.proofs.Lists.{in-append_left, in-append_right, in-append_cases}
use Rattle.herm_model.proofs.FactTests.{got-IsIn}
use Rattle.herm_facts.specs.FactSets.{has}
use Rattle.herm_facts.specs.declared.fact_set.FactSet.{FactSet}
use Rattle.herm_check.specs.Effects.{IsEffect}
use Rattle.herm_check.specs.declared.effects.Effect.{Effect}
use Rattle.herm_check.specs.declared.search.Rest.{Rest}
use Rattle.herm_check.specs.declared.search.Search.{Search}
use Rattle.herm_check.specs.declared.search.Visit.{Visit}
use Rattle.herm_check.specs.Searched.{Places, slot_of, IsOf, IsFound, IsSearch, AreFollowed, IsKept, IsNear, IsSearching, is_held_beyond}
use Rattle.herm_check.specs.Remaining.{IsSeen, IsSeenBeyond, IsMet, IsRestAt, AreRests, ArePristine}
use Rattle.herm_check.proofs.Joined.{same_or_not, set-here, set-elsewhere}
use Rattle.herm_check.proofs.Searched.{one-at}
use Rattle.herm_check.proofs.Following.{IsFollowing, follows, found-kept, held-beyond, node-same, below, slot-point, slot-held, left-more, near-left}

inside : (a b c : Bool) → c ≡ (a && not b) → c ≡ false → a ≡ true → b ≡ true
inside true true c e f g = refl
inside true false c e f g = absurd (true≢false (sym e ∙ f))
inside false b c e f g = absurd (true≢false (sym g))

pub slot-inside : (t n : ℕ) (held : Bool) (slot count : ℕ) → slot ≡ slot_of t held → t < n → count ≡ 2 * n → slot < count
slot-inside t n true slot count same less many = omega (arith, same, less, many)
slot-inside t n false slot count same less many = omega (arith, same, less, many)

-- ---- what is known of edges stays so

pub met-kept : (vs ws : List Visit) → IsKept vs ws → (f : Fact) (j : ℕ) (held : Bool) (e : Edge) → IsMet vs f j held e → IsMet ws f j held e
met-kept vs ws kept f j held e m t to = let h = m t to in (h.0, found-kept vs ws kept j t (held_after_edge e f held) h.0 h.1)

module _ (flow : Flow) (facts : List Fact) where
  -- of more visits, and of fewer facts
  pub rest-kept : (vs ws : List Visit) → IsKept vs ws → (t : ℕ) (held : Bool) (all some : FactSet) (ns : List ℕ) → ((j : ℕ) (f : Fact) → slice_get facts j ≡ Some f → has some j ≡ true → has all j ≡ true) → IsRestAt flow facts vs t held all ns → IsRestAt flow facts ws t held some ns
  rest-kept vs ws kept t held all some ns less h = record { within = h.within; met = λ p n e at is. by n e (h.met p n e at is) }
    where
      by : (n : ℕ) (e : Edge) → IsIn n ns ⊎ ((j : ℕ) (f : Fact) → slice_get facts j ≡ Some f → has all j ≡ true → IsMet vs f j held e) → IsIn n ns ⊎ ((j : ℕ) (f : Fact) → slice_get facts j ≡ Some f → has some j ≡ true → IsMet ws f j held e)
      by n e (inl g) = inl g
      by n e (inr g) = inr (λ j f there of. met-kept vs ws kept f j held e (g j f there (less j f there of)))

  pub rests-kept : (vs ws : List Visit) → IsKept vs ws → (rs : List Rest) → AreRests flow facts vs rs → AreRests flow facts ws rs
  rests-kept vs ws kept rs h = record { many = h.many; each = λ t held r is. rest-kept vs ws kept t held r.facts r.facts r.edges.items (λ j f there of. of) (h.each t held r is) }

  pub rests-set : (vs : List Visit) (rs : List Rest) (t : ℕ) (held : Bool) (r : Rest) → slot_of t held < length rs → AreRests flow facts vs rs → IsRestAt flow facts vs t held r.facts r.edges.items → AreRests flow facts vs (slice_set rs (slot_of t held) r)
  rests-set vs rs t held r within h new = record { many = length-set rs (slot_of t held) r ∙ h.many; each = λ u is_held other is. by u is_held other is (same_or_not (slot_of t held) (slot_of u is_held)) }
    where
      by : (u : ℕ) (is_held : Bool) (other : Rest) → slice_get (slice_set rs (slot_of t held) r) (slot_of u is_held) ≡ Some other → (slot_of t held ≡ slot_of u is_held) ⊎ (slot_of t held ≢ slot_of u is_held) → IsRestAt flow facts vs u is_held other.facts other.edges.items
      by u is_held other is (inl e) =
          let same : r ≡ other = one-at (slice_get (slice_set rs (slot_of t held) r) (slot_of u is_held)) r other (subst (λ n. slice_get (slice_set rs (slot_of t held) r) n ≡ Some r) e (set-here rs (slot_of t held) r within)) is in
          subst (λ x. IsRestAt flow facts vs u is_held x.facts x.edges.items) same
          (subst (λ x. IsRestAt flow facts vs x is_held r.facts r.edges.items) (slot-point t u held is_held e)
          (subst (λ b. IsRestAt flow facts vs t b r.facts r.edges.items) (slot-held t u held is_held e) new))
      by u is_held other is (inr d) = h.each u is_held other (sym (set-elsewhere rs (slot_of t held) (slot_of u is_held) r d) ∙ is)

  -- where no edge was followed, no fact is known
  pub rests-begun : (vs : List Visit) (rs : List Rest) (count : ℕ) → count ≡ 2 * length flow.points → ArePristine count rs → AreRests flow facts vs rs
  rests-begun vs rs count same h = record {
    many = h.many ∙ same;
    each = λ t held r is. record {
      within = λ p n at member. absurd (subst (IsIn n) (h.edges (slot_of t held) r is) member);
      met = λ p n e at there. inr (λ j f known of. absurd (true≢false (sym of ∙ h.facts (slot_of t held) j r is)));
    };
  }

  -- each edge was followed from a visit
  pub rest-followed : (s : Search) (k : ℕ) (u : Visit) (all : FactSet) (ns : List ℕ) → IsSearching flow facts s (k + 1) → slice_get s.visits.items k ≡ Some u → IsRestAt flow facts s.visits.items u.point u.held all ns → IsRestAt flow facts s.visits.items u.point u.held u.facts ns
  rest-followed s k u all ns h here before = record {
    within = before.within;
    met = λ p n e at is. inr (λ j f there of t to. (u.depth + 1, h.left j f there k u p (omega arith) here of at e t (got-IsIn p.edges n e is) to));
  }

  -- so it is of all points, of which one was left
  pub rests-followed : (old : List Visit) (now : Search) (rs : List Rest) (k : ℕ) (u : Visit) (slot : ℕ) (r : Rest) → AreRests flow facts old rs → IsKept old now.visits.items → IsSearching flow facts now (k + 1) → slice_get old k ≡ Some u → slot ≡ slot_of u.point u.held → slot < length rs → r ≡ get_or rs slot r
      → AreRests flow facts now.visits.items (slice_set rs slot (record { facts = u.facts; edges = r.edges }))
  rests-followed old now rs k u slot r h kept left here same within is =
      let vs = now.visits.items in
      let new : Rest = record { facts = u.facts; edges = r.edges } in
      let at = subst (λ n. slice_get rs n ≡ Some r) same (slice_get_read rs (length rs) slot r refl within is) in
      let all = rests-kept old vs kept rs h in
      subst (λ n. AreRests flow facts vs (slice_set rs n new)) (sym same)
      (rests-set vs rs u.point u.held new (subst (λ n. n < length rs) same within) all (rest-followed now k u r.facts r.edges.items left (kept k u here) (all.each u.point u.held r at)))

  -- what is known of each point, and of the point of a visit for all the visit's facts
  pub record HasRest (vs : List Visit) (u : Visit) (slot : ℕ) (rs : List Rest) : Type 0 where
    pub within : slot < length rs
    pub rests : AreRests flow facts vs rs
    pub facts_of : (r : Rest) → slice_get rs slot ≡ Some r → (j : ℕ) (f : Fact) → slice_get facts j ≡ Some f → has u.facts j ≡ true → has r.facts j ≡ true

  pub rest-new : (vs : List Visit) (u : Visit) (slot : ℕ) (rs : List Rest) (r : Rest) → slot ≡ slot_of u.point u.held → slot < length rs → AreRests flow facts vs rs → IsRestAt flow facts vs u.point u.held r.facts r.edges.items → ((j : ℕ) (f : Fact) → slice_get facts j ≡ Some f → has u.facts j ≡ true → has r.facts j ≡ true)
      → HasRest vs u slot (slice_set rs slot r)
  rest-new vs u slot rs r same within h new all = record {
    within = subst (λ n. slot < n) (sym (length-set rs slot r)) within;
    rests = subst (λ n. AreRests flow facts vs (slice_set rs n r)) (sym same) (rests-set vs rs u.point u.held r (subst (λ n. n < length rs) same within) h new);
    facts_of = λ x is. subst (λ y. (j : ℕ) (f : Fact) → slice_get facts j ≡ Some f → has u.facts j ≡ true → has y.facts j ≡ true) (one-at (slice_get (slice_set rs slot r) slot) r x (set-here rs slot r within) is) all;
  }

  pub rest-old : (vs : List Visit) (u : Visit) (slot : ℕ) (rs : List Rest) (r : Rest) (new : FactSet) → slot < length rs → AreRests flow facts vs rs → r ≡ get_or rs slot r → ((j : ℕ) → has new j ≡ (has u.facts j && not (has r.facts j))) → ((j : ℕ) → has new j ≡ false) → HasRest vs u slot rs
  rest-old vs u slot rs r new within h is are none = record {
    within = within;
    rests = h;
    facts_of = λ x at. subst (λ y. (j : ℕ) (f : Fact) → slice_get facts j ≡ Some f → has u.facts j ≡ true → has y.facts j ≡ true) (one-at (slice_get rs slot) r x (slice_get_read rs (length rs) slot r refl within is) at) (λ j f there of. inside (has u.facts j) (has r.facts j) (has new j) (are j) (none j) of);
  }

  pub rest-here : (vs : List Visit) (u : Visit) (slot : ℕ) (rs : List Rest) (r : Rest) → slot ≡ slot_of u.point u.held → HasRest vs u slot rs → r ≡ get_or rs slot r → IsRestAt flow facts vs u.point u.held u.facts r.edges.items
  rest-here vs u slot rs r same h is =
      let at = slice_get_read rs (length rs) slot r refl h.within is in
      rest-kept vs vs (λ i v there. there) u.point u.held r.facts u.facts r.edges.items (h.facts_of r at) (h.rests.each u.point u.held r (subst (λ n. slice_get rs n ≡ Some r) same at))

  -- ---- edges are looked at

  -- where the point behind an edge was seen with the facts of a visit, it was visited with them
  pub seen-met : (vs : List Visit) (seen : List FactSet) → ((j : ℕ) (f : Fact) → slice_get facts j ≡ Some f → IsSearch flow f j vs seen) → (e : Edge) (effect : Effect) (u : Visit) (t : ℕ) → IsEffect facts e effect → e.target ≡ node t → IsSeenBeyond seen effect u t
      → (j : ℕ) (f : Fact) → slice_get facts j ≡ Some f → has u.facts j ≡ true → IsMet vs f j u.held e
  seen-met vs seen each e effect u t is to beyond j f there of n node_there = (g.1.depth, record { at = g.0; visit = g.1; is = g.2; of = g.3; same_point = g.4 ∙ node-same t n (sym to ∙ node_there); same_held = g.5 ∙ held-beyond facts e effect u j f is there of; near = omega arith })
    where
      s : IsSeen seen j t (is_held_beyond effect u j)
      s = beyond j of

      g : (k : ℕ) × (v : Visit) × (slice_get vs k ≡ Some v) × IsOf j v × (v.point ≡ t) × (v.held ≡ is_held_beyond effect u j)
      g = (each j f there).visited t (is_held_beyond effect u j) s.0 s.1 s.2

-- so many first edges of a point were looked at, and those with these numbers may lead to something new
pub record AreLookedAt (facts : List Fact) (vs : List Visit) (held : Bool) (set : FactSet) (edges : List Edge) (count : ℕ) (numbers : List ℕ) : Type 0 where
  pub within : (n : ℕ) → IsIn n numbers → n < length edges
  pub met : (n : ℕ) (e : Edge) → n < count → slice_get edges n ≡ Some e → IsIn n numbers ⊎ ((j : ℕ) (f : Fact) → slice_get facts j ≡ Some f → has set j ≡ true → IsMet vs f j held e)

less-or-last : (n m : ℕ) → n < m + 1 → (n < m) ⊎ (n ≡ m)
less-or-last n m h = by (same_or_not n m)
  where
    by : (n ≡ m) ⊎ (n ≢ m) → (n < m) ⊎ (n ≡ m)
    by (inl e) = inr e
    by (inr d) = inl (below n m (omega (arith, h)) d)

module _ (facts : List Fact) (vs : List Visit) (held : Bool) (set : FactSet) (edges : List Edge) (count : ℕ) (numbers : List ℕ) (h : AreLookedAt facts vs held set edges count numbers) (e : Edge) (is : slice_get edges count ≡ Some e) where
  pub looked-closed : ((j : ℕ) (f : Fact) → slice_get facts j ≡ Some f → has set j ≡ true → IsMet vs f j held e) → AreLookedAt facts vs held set edges (count + 1) numbers
  looked-closed closed = record { within = h.within; met = λ n other less at. by n other at (less-or-last n count less) }
    where
      by : (n : ℕ) (other : Edge) → slice_get edges n ≡ Some other → (n < count) ⊎ (n ≡ count) → IsIn n numbers ⊎ ((j : ℕ) (f : Fact) → slice_get facts j ≡ Some f → has set j ≡ true → IsMet vs f j held other)
      by n other at (inl less) = h.met n other less at
      by n other at (inr same) = inr (subst (λ x. (j : ℕ) (f : Fact) → slice_get facts j ≡ Some f → has set j ≡ true → IsMet vs f j held x) (one-at (slice_get edges n) e other (subst (λ i. slice_get edges i ≡ Some e) (sym same) is) at) closed)

  pub looked-listed : AreLookedAt facts vs held set edges (count + 1) (numbers ++ count ∷ [])
  looked-listed = record { within = λ n member. first n (in-append_cases n numbers (count ∷ []) member); met = λ n other less at. by n other at (less-or-last n count less) }
    where
      first : (n : ℕ) → IsIn n numbers ⊎ IsIn n (count ∷ []) → n < length edges
      first n (inl member) = h.within n member
      first n (inr (inl same)) = subst (λ i. i < length edges) (sym same) (slice_get_within edges count e is)
      first n (inr (inr none)) = absurd none

      older : (n : ℕ) (other : Edge) → IsIn n numbers ⊎ ((j : ℕ) (f : Fact) → slice_get facts j ≡ Some f → has set j ≡ true → IsMet vs f j held other) → IsIn n (numbers ++ count ∷ []) ⊎ ((j : ℕ) (f : Fact) → slice_get facts j ≡ Some f → has set j ≡ true → IsMet vs f j held other)
      older n other (inl member) = inl (in-append_left n numbers (count ∷ []) member)
      older n other (inr met) = inr met

      by : (n : ℕ) (other : Edge) → slice_get edges n ≡ Some other → (n < count) ⊎ (n ≡ count) → IsIn n (numbers ++ count ∷ []) ⊎ ((j : ℕ) (f : Fact) → slice_get facts j ≡ Some f → has set j ≡ true → IsMet vs f j held other)
      by n other at (inl less) = older n other (h.met n other less at)
      by n other at (inr same) = inl (in-append_right n numbers (count ∷ []) (inl same))

-- all of them were looked at
pub looked-all : (flow : Flow) (facts : List Fact) (vs : List Visit) (t : ℕ) (held : Bool) (set : FactSet) (p : Point) (count : ℕ) (numbers : List ℕ) → slice_get flow.points t ≡ Some p → length p.edges ≤ count → AreLookedAt facts vs held set p.edges count numbers → IsRestAt flow facts vs t held set numbers
looked-all flow facts vs t held set p count numbers at all h = record {
  within = λ q n is member. subst (λ x. n < length x.edges) (one-at (slice_get flow.points t) p q at is) (h.within n member);
  met = λ q n e is there.
      let of_point = subst (λ x. slice_get x.edges n ≡ Some e) (sym (one-at (slice_get flow.points t) p q at is)) there in
      let inside = slice_get_within p.edges n e of_point in
      h.met n e (omega (arith, inside, all)) of_point;
}

-- each fact of a visit is among those with which its point was seen alike
pub seen-whole : (flow : Flow) (facts : List Fact) (vs : List Visit) (seen : List FactSet) → ((j : ℕ) (f : Fact) → slice_get facts j ≡ Some f → IsSearch flow f j vs seen) → (k : ℕ) (u : Visit) (slot : ℕ) (whole : FactSet) → slice_get vs k ≡ Some u → slot ≡ slot_of u.point u.held → whole ≡ get_or seen slot whole
    → (j : ℕ) (f : Fact) → slice_get facts j ≡ Some f → has u.facts j ≡ true → has whole j ≡ true
seen-whole flow facts vs seen each k u slot whole here same is j f there of =
    let g = (each j f there).seen_at k u here of in
    let at : slice_get seen slot ≡ Some g.0 = subst (λ n. slice_get seen n ≡ Some g.0) (sym same) g.1 in
    let read = slice_get_read seen (length seen) slot whole refl (slice_get_within seen slot g.0 at) is in
    subst (λ s. has s j ≡ true) (one-at (slice_get seen slot) g.0 whole at read) g.2

-- ---- edges are followed by their numbers

pub record AreTaken (flow : Flow) (facts : List Fact) (old vs : List Visit) (seen : List FactSet) (places : Places) (u : Visit) (edges : List Edge) (numbers : List ℕ) : Type 0 where
  pub followed : List Edge
  pub following : IsFollowing flow facts old vs seen places u followed
  pub listed : (n : ℕ) (e : Edge) → IsIn n numbers → slice_get edges n ≡ Some e → IsIn e followed

pub taken-none : (flow : Flow) (facts : List Fact) (s : Search) (k : ℕ) (u : Visit) (edges : List Edge) → IsSearching flow facts s k → slice_get s.visits.items k ≡ Some u → AreTaken flow facts s.visits.items s.visits.items s.seen.items s.places.items u edges []
taken-none flow facts s k u edges h here = record { followed = []; following = follows flow facts s.visits.items s.seen.items s.places.items k u here h.visits h.each h.near; listed = λ n e member at. absurd member }

pub taken-more : (flow : Flow) (facts : List Fact) (old vs ws : List Visit) (seen now : List FactSet) (places rows : Places) (u : Visit) (edges : List Edge) (numbers : List ℕ) (n : ℕ) (e : Edge) → slice_get edges n ≡ Some e → (h : AreTaken flow facts old vs seen places u edges numbers)
    → IsFollowing flow facts old ws now rows u (h.followed ++ e ∷ []) → AreTaken flow facts old ws now rows u edges (numbers ++ n ∷ [])
taken-more flow facts old vs ws seen now places rows u edges numbers n e is h following = record { followed = h.followed ++ e ∷ []; following = following; listed = λ m x member at. by m x at (in-append_cases m numbers (n ∷ []) member) }
  where
    by : (m : ℕ) (x : Edge) → slice_get edges m ≡ Some x → IsIn m numbers ⊎ IsIn m (n ∷ []) → IsIn x (h.followed ++ e ∷ [])
    by m x at (inl member) = in-append_left x h.followed (e ∷ []) (h.listed m x member at)
    by m x at (inr (inl same)) = in-append_right x h.followed (e ∷ []) (inl (one-at (slice_get edges m) x e at (subst (λ i. slice_get edges i ≡ Some e) (sym same) is)))
    by m x at (inr (inr none)) = absurd none

in-place : {X : Type 0} (xs : List X) (x : X) → IsIn x xs → (n : ℕ) × (slice_get xs n ≡ Some x)
in-place [] x none = absurd none
in-place (y ∷ xs) x (inl same) = (0, ap Some (sym same))
in-place (y ∷ xs) x (inr member) = let g = in-place xs x member in (suc g.0, g.1)

-- So each edge was followed, as those that were left out lead to visits that are no more than one hop behind.
pub taken-all : (flow : Flow) (facts : List Fact) (old vs : List Visit) (seen : List FactSet) (places : Places) (u : Visit) (p : Point) (numbers : List ℕ) → slice_get flow.points u.point ≡ Some p → IsRestAt flow facts old u.point u.held u.facts numbers → AreTaken flow facts old vs seen places u p.edges numbers
    → (j : ℕ) (f : Fact) → slice_get facts j ≡ Some f → IsOf j u → AreFollowed f j vs u p.edges
taken-all flow facts old vs seen places u p numbers at rest h j f there of e t member to = by (rest.met p g.0 e at g.1)
  where
    g : (n : ℕ) × (slice_get p.edges n ≡ Some e)
    g = in-place p.edges e member

    close : (most : ℕ) → IsFound j old t (held_after_edge e f u.held) most → IsFound j vs t (held_after_edge e f u.held) (u.depth + 1)
    close most m = let is = h.following.kept m.at m.visit m.is in record { at = m.at; visit = m.visit; is = is; of = m.of; same_point = m.same_point; same_held = m.same_held; near = h.following.near m.at m.visit is }

    by : IsIn g.0 numbers ⊎ ((i : ℕ) (x : Fact) → slice_get facts i ≡ Some x → has u.facts i ≡ true → IsMet old x i u.held e) → IsFound j vs t (held_after_edge e f u.held) (u.depth + 1)
    by (inl in_list) = h.following.followed j f there of e t (h.listed g.0 e in_list g.1) to
    by (inr met) = let m = met j f there of t to in close m.0 m.1

-- so the visit was left
pub left-whole : (flow : Flow) (facts : List Fact) (old now : Search) (k : ℕ) (u : Visit) (p : Point) (followed : List Edge) → IsSearching flow facts old k → slice_get old.visits.items k ≡ Some u → slice_get flow.points u.point ≡ Some p
    → IsFollowing flow facts old.visits.items now.visits.items now.seen.items now.places.items u followed → ((j : ℕ) (f : Fact) → slice_get facts j ≡ Some f → IsOf j u → AreFollowed f j now.visits.items u p.edges) → IsSearching flow facts now (k + 1)
left-whole flow facts old now k u p followed h here at done all =
    let vs = now.visits.items in
    let is = done.kept k u here in
    let within : k < length vs = slice_get_within vs k u is in
    let near : IsNear vs k = λ i w v is_at to. let same = ap (λ (x : Visit). x.depth) (one-at (slice_get vs k) u w is is_at) in let close = done.near i v to in omega (arith, same, close) in
    record {
      visits = done.visits;
      within = omega (arith, within);
      near = near-left flow vs now.seen.items now.places.items k within done.visits near;
      each = done.each;
      left = λ j f there. left-more flow f j old.visits.items vs k u p here at done.kept (h.left j f there) (all j f there);
    }

pub set-at : (seen : List FactSet) (slot t : ℕ) (held : Bool) (d : FactSet) → slot ≡ slot_of t held → slot < length seen → slice_get seen (slot_of t held) ≡ Some (get_or seen slot d)
set-at seen slot t held d same within = subst (λ n. slice_get seen n ≡ Some (get_or seen slot d)) same (slice_get-get_or seen slot d within)

-- a point was seen with all facts of a visit that are held behind an edge, and with all that are not
pub seen-beyond : (seen : List FactSet) (effect : Effect) (u : Visit) (t : ℕ) (held lost here there rest_here rest_there : FactSet) → slice_get seen (slot_of t true) ≡ Some here → slice_get seen (slot_of t false) ≡ Some there
    → ((j : ℕ) → has held j ≡ is_held_beyond effect u j) → ((j : ℕ) → has lost j ≡ (has u.facts j && not (has held j)))
    → ((j : ℕ) → has rest_here j ≡ (has held j && not (has here j))) → ((j : ℕ) → has rest_there j ≡ (has lost j && not (has there j)))
    → ((j : ℕ) → has rest_here j ≡ false) → ((j : ℕ) → has rest_there j ≡ false) → IsSeenBeyond seen effect u t
seen-beyond seen effect u t held lost here there rest_here rest_there is_here is_there are_held are_lost left_here left_there none_here none_there j of = by (is_held_beyond effect u j) (are_held j)
  where
    by : (b : Bool) → has held j ≡ b → IsSeen seen j t b
    by true value = (here, is_here, inside (has held j) (has here j) (has rest_here j) (left_here j) (none_here j) value)
    by false value = (there, is_there, inside (has lost j) (has there j) (has rest_there j) (left_there j) (none_there j) (are_lost j ∙ ap₂ (λ a b. a && not b) of value))
