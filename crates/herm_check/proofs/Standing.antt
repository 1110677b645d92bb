-- Facts that edges treat alike.
use Rattle.std.proofs.Common.{◌≡◌, ◌↔◌, ◌⊎◌, inl, inr, ℕ, ◌+◌, ◌*◌, ◌/◌, ◌%◌, ◌<◌, List, [], ◌∷◌, length, map, Bool, true, false, cond, Option, Some, None, option_map, slice_get, refl, sym, ◌∙◌, ap, ap₂, subst, arith}
use Rattle.std.specs.declared.vec.Vec.{Vec}
use Rattle.std.specs.declared.alloc.Global.{Global}
use Rattle.std.proofs.lemmas.Option.{slice_get_within}
use Rattle.herm_model.specs.Lists.{IsIn, any_pass, map_or}
use Rattle.herm_model.specs.Paths.{Path, Fact, same_fact, path_of, is_at_or_below}
use Rattle.herm_model.specs.Targets.{node}
use Rattle.herm_model.specs.ControlPaths.{Edge, Point, Flow, held_after_edge, held_at_start}
use Rattle.herm_model.proofs.Lists.{in-map_from, slice_get-map, length-map}
use Rattle.herm_types.specs.declared.fact.Fact.{Fact as FactHere}
use Rattle.herm_types.specs.View.{fact_view}
use Rattle.herm_flow.specs.declared.onward.OnwardEdge.{OnwardEdge}
use Rattle.herm_flow.specs.declared.onward.OnwardPoint.{OnwardPoint}
use Rattle.herm_flow.specs.declared.onward.OnwardFlow.{OnwardFlow}
use Rattle.herm_flow.specs.OnwardView.{onward_point_view, onward_flow_view}
use Rattle.herm_facts.specs.declared.fact_numbers.FactNumbers.{FactNumbers}
use Rattle.herm_facts.specs.FactNumbers.{number_of, AreFacts}
use Rattle.herm_facts.specs.declared.sparse_set.SparseSet.{SparseSet}
use Rattle.herm_facts.specs.SparseSets.{has_sparse}
use Rattle.herm_facts.proofs.Listed.{facts-apart}
use Rattle.herm_check.specs.declared.lists.ListsOf.{ListsOf}
use Rattle.herm_check.specs.declared.search.Search.{Search}
use Rattle.herm_check.specs.declared.search.Visit.{Visit}
use Rattle.herm_check.specs.declared.search.Link.{Link}
use Rattle.herm_check.specs.View.{edge_in}
use Rattle.herm_check.specs.Lists.{at_has, AreListsIn}
use Rattle.herm_check.specs.Searched.{IsOf, IsFound, IsLinked, IsLast, IsSearch, AreLeft, IsSearched, AreSearched}
use Rattle.herm_check.specs.Alike.{Groups, AreAlike, IsStoodFor, AreStoodFor, AreSearchedBy, StartsAlike, StartAlike, IsCovered, AreCovered, AreListsCovered, AreGroups, AreListsAlike, AreNumbered}
use Rattle.herm_check.proofs.ListedFacts.{same_truth, any-same, made-all, gone-at}
use Rattle.herm_check.proofs.Searched.{some-at, one-at}

none-some : {X : Type 0} (x : X) → ◌≡◌ {A = Option X} None (Some x) → ⊥
none-some x e = cc

some-same : {X : Type 0} {x y : X} → ◌≡◌ {A = Option X} (Some x) (Some y) → x ≡ y
some-same e = cc

-- ---- the search for a fact is one for each fact that is treated alike

module _ (flow : Flow) (f g : Fact) (alike : AreAlike flow f g) (j : ℕ) (s : Search) where
  last-alike : (k : ℕ) (v : Visit) (l : Option Link) → IsLast flow g j s.visits.items k v l → IsLast flow f j s.visits.items k v l
  last-alike k v None h = (h.0, h.1 ∙ sym alike.first, h.2)
  last-alike k v (Some l) h = record {
    before = h.before;
    visit = h.visit;
    is = h.is;
    of = h.of;
    point = h.point;
    point_is = h.point_is;
    edge = h.edge;
    member = h.member;
    hop = h.hop;
    target = h.target;
    held = h.held ∙ sym (alike.behind h.visit.point h.point h.edge h.visit.held h.point_is h.member);
    depth = h.depth;
  }

  search-alike : IsSearch flow g j s.visits.items s.seen.items → IsSearch flow f j s.visits.items s.seen.items
  search-alike h = record {
    begins = subst (λ held. IsFound j s.visits.items 0 held 0) (sym alike.first) h.begins;
    linked = λ k v at of. last-alike k v v.last (h.linked k v at of);
    visited = h.visited;
    seen_at = h.seen_at;
    once = h.once;
    count = h.count;
  }

  left-alike : (n : ℕ) → AreLeft flow g j s.visits.items n → AreLeft flow f j s.visits.items n
  left-alike n h i u p before at of point e t member target = subst (λ held. IsFound j s.visits.items t held (u.depth + 1)) (sym (alike.behind u.point p e u.held point member)) (h i u p before at of point e t member target)

  pub searched-alike : IsSearched flow g j s → IsSearched flow f j s
  searched-alike h = record { visits = h.visits; search = search-alike h.search; left = left-alike (length s.visits.items) h.left }

-- each fact is searched for where the ones that stand for others are
pub searched-by : (flow : Flow) (lost numbers : FactNumbers) (by : List ℕ) (ss : List Search) → AreStoodFor flow lost by numbers → AreSearched flow numbers ss → AreSearchedBy flow lost by ss
searched-by flow lost numbers by ss stood searched f n number =
    let h = stood f n number in
    let s = searched h.fact h.number h.numbered in
    (h.number, h.is, s.0, s.1, searched-alike flow f h.fact h.alike (h.number % 64) s.0 s.2)

-- the tests are the same
pub covered-same : (has had : ℕ → Bool) (firsts : List ℕ) (groups : Groups) (n : ℕ) → ((m : ℕ) → had m ≡ true → has m ≡ true) → IsCovered had firsts groups n → IsCovered has firsts groups n
covered-same has had firsts groups n same h = record { first = λ m at. same m (h.first m at); group = λ g m at member. same m (h.group g m at member) }

-- what is so of a list is so of the one at its place
pub covered-at : (sets : List SparseSet) (i : ℕ) (set : SparseSet) (firsts : List ℕ) (groups : Groups) → slice_get sets i ≡ Some set → AreCovered (has_sparse set) firsts groups (length firsts) → AreCovered (at_has sets i) firsts groups (length firsts)
covered-at sets i set firsts groups at h n below has =
    let same : (m : ℕ) → at_has sets i m ≡ has_sparse set m = λ m. ap (map_or false (λ (s : SparseSet). has_sparse s m)) at in
    covered-same (at_has sets i) (has_sparse set) firsts groups n (λ m k. same m ∙ k) (h n below (sym (same n) ∙ has))

-- ---- lists that have all of a group of numbers, or none

module _ (firsts : List ℕ) (groups : Groups) (within : (n m : ℕ) → slice_get firsts n ≡ Some m → m < length firsts) (many : length groups ≡ length firsts) (are : AreGroups firsts groups) where
  has-alike : (has : ℕ → Bool) → AreCovered has firsts groups (length firsts) → (n m : ℕ) → slice_get firsts n ≡ Some m → has n ≡ has m
  has-alike has covered n m at = same_truth (has n) (has m)
      (λ t. (covered n (slice_get_within firsts n m at) t).first m at)
      (λ t.
      let below = within n m at in
      let g = some-at groups m (omega (arith, below, many)) in
      (covered m below t).group g.0 n g.1 (are n m g.0 at g.1))

  pub lists-alike : (lists : List ListsOf) → ((i : ℕ) (l : ListsOf) → slice_get lists i ≡ Some l → AreListsCovered l firsts groups (length firsts)) → AreListsAlike lists firsts
  lists-alike lists covered i l is k n m at = (has-alike (at_has l.made.items k) (covered i l is k).0 n m at, has-alike (at_has l.gone.items k) (covered i l is k).1 n m at)

-- ---- so each edge treats two facts alike

module _ (flow : OnwardFlow) (ns : FactNumbers) (facts : List Fact) (numbered : AreFacts ns facts) (lists : List ListsOf) (are : AreListsIn ns flow lists) (firsts : List ℕ) (alike : AreListsAlike lists firsts) where
  module _ (f g : Fact) (n m : ℕ) (of_f : number_of ns f ≡ Some n) (of_g : number_of ns g ≡ Some m) (first : slice_get firsts n ≡ Some m) where
    edge-alike : (q : OnwardPoint) (i : ℕ) → slice_get flow.points.items i ≡ Some q → (d : OnwardEdge) (held : Bool) → held_after_edge (edge_in q d) f held ≡ held_after_edge (edge_in q d) g held
    edge-alike q i is d held =
        let within = slice_get_within flow.points.items i q is in
        let l = some-at lists i (omega (arith, within, are.many)) in
        let h = are.each i q l.0 is l.1 in
        let apart = facts-apart ns facts numbered in
        let made : any_pass (same_fact f) (edge_in q d).makes ≡ any_pass (same_fact g) (edge_in q d).makes =
        sym (made-all ns apart q l.0 h f n of_f d.makes.items) ∙ (any-same (λ k. at_has l.0.made.items k n) (λ k. at_has l.0.made.items k m) d.makes.items (λ k. (alike i l.0 l.1 k n m first).0) ∙ made-all ns apart q l.0 h g m of_g d.makes.items) in
        let gone : any_pass (λ (p : Path). is_at_or_below p (path_of f)) (edge_in q d).kills ≡ any_pass (λ (p : Path). is_at_or_below p (path_of g)) (edge_in q d).kills =
        sym (gone-at ns apart q l.0 h f n of_f d.kills) ∙ ((alike i l.0 l.1 d.kills n m first).1 ∙ gone-at ns apart q l.0 h g m of_g d.kills) in
        ap₂ (λ a b. cond a true (cond b false held)) made gone

    pub behind-alike : (i : ℕ) (p : Point) (e : Edge) (held : Bool) → slice_get (onward_flow_view flow).points i ≡ Some p → IsIn e p.edges → held_after_edge e f held ≡ held_after_edge e g held
    behind-alike i p e held at member = by (slice_get flow.points.items i) refl (sym (slice_get-map onward_point_view flow.points.items i) ∙ at)
      where
        by : (o : Option OnwardPoint) → slice_get flow.points.items i ≡ o → option_map onward_point_view o ≡ Some p → held_after_edge e f held ≡ held_after_edge e g held
        by None is seen = absurd (none-some p seen)
        by (Some q) is seen =
            let d = in-map_from (edge_in q) e q.edges.items (subst (λ (x : Point). IsIn e x.edges) (sym (some-same seen)) member) in
            subst (λ x. held_after_edge x f held ≡ held_after_edge x g held) (sym d.2) (edge-alike q i is d.0 held)

-- ---- what stands for each fact

fact-at : (facts : List FactHere) (n : ℕ) (f : Fact) → slice_get (map fact_view facts) n ≡ Some f → (x : FactHere) × (slice_get facts n ≡ Some x) × (fact_view x ≡ f)
fact-at facts n f at =
    let many = length-map fact_view facts in
    let within = slice_get_within (map fact_view facts) n f at in
    let x = some-at facts n (omega (arith, many, within)) in
    (x.0, x.1, some-same (sym (ap (option_map fact_view) x.1) ∙ (sym (slice_get-map fact_view facts n) ∙ at)))

module _ (flow : Flow) (lost numbers : FactNumbers) (facts : List FactHere) (firsts by : List ℕ) (are : AreFacts lost (map fact_view facts)) (many : length firsts ≡ length facts) (start : StartAlike facts firsts) (numbered : AreNumbered facts firsts numbers by) where
  pub stood-for : ((f g : Fact) (n m : ℕ) → number_of lost f ≡ Some n → number_of lost g ≡ Some m → slice_get firsts n ≡ Some m → (i : ℕ) (p : Point) (e : Edge) (held : Bool) → slice_get flow.points i ≡ Some p → IsIn e p.edges → held_after_edge e f held ≡ held_after_edge e g held) → AreStoodFor flow lost by numbers
  stood-for behind f n number =
      let x = fact-at facts n f ((are f n).1 number) in
      let below = slice_get_within facts n x.0 x.1 in
      let m = some-at firsts n (omega (arith, many, below)) in
      let y = some-at facts m.0 ((start n).within m.0 m.1) in
      let k = numbered n m.0 y.0 m.1 y.1 in
      let seen : slice_get (map fact_view facts) m.0 ≡ Some (fact_view y.0) = slice_get-map fact_view facts m.0 ∙ ap (option_map fact_view) y.1 in
      record {
        number = k.0;
        is = k.1;
        fact = fact_view y.0;
        numbered = k.2;
        alike = record {
          first = ap held_at_start (sym x.2) ∙ (start n).alike m.0 x.0 y.0 m.1 x.1 y.1;
          behind = behind f (fact_view y.0) n m.0 number ((are (fact_view y.0) m.0).0 seen) m.1;
        };
      }

-- each fact stands for itself
pub start-own : (facts : List FactHere) (own : List ℕ) → length own ≡ length facts → ((n m : ℕ) → slice_get own n ≡ Some m → n ≡ m) → StartAlike facts own
start-own facts own many same n = record {
  within = λ m at. let within = slice_get_within own n m at in let e = same n m at in omega (arith, within, many, e);
  alike = λ m f g at here there. ap (λ x. held_at_start (fact_view x)) (one-at (slice_get facts n) f g here (subst (λ k. slice_get facts k ≡ Some g) (sym (same n m at)) there));
}

pub behind-own : (flow : Flow) (lost : FactNumbers) (facts : List Fact) (own : List ℕ) → AreFacts lost facts → ((n m : ℕ) → slice_get own n ≡ Some m → n ≡ m)
    → (f g : Fact) (n m : ℕ) → number_of lost f ≡ Some n → number_of lost g ≡ Some m → slice_get own n ≡ Some m → (i : ℕ) (p : Point) (e : Edge) (held : Bool) → slice_get flow.points i ≡ Some p → IsIn e p.edges → held_after_edge e f held ≡ held_after_edge e g held
behind-own flow lost facts own are same f g n m of_f of_g at i p e held there member =
    ap (λ x. held_after_edge e x held) (facts-apart lost facts are f g m (subst (λ k. number_of lost f ≡ Some k) (same n m at) of_f) of_g)

-- where there are facts, one has a number
pub some-numbered : (lost : FactNumbers) (facts : List FactHere) → AreFacts lost (map fact_view facts) → 0 < length facts → (g : Fact) × (m : ℕ) × (number_of lost g ≡ Some m)
some-numbered lost facts are some =
    let many = length-map fact_view facts in
    let first = some-at (map fact_view facts) 0 (omega (arith, some, many)) in
    (first.0, 0, (are first.0 0).0 first.1)
