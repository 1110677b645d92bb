use Rattle.std.proofs.Common.{◌≡◌, ◌<◌, ◌/◌, ◌%◌, ℕ, Option, IfSome, IfNone, Some, None, true≢false, List, length, get_or, slice_get, refl, sym, ◌∙◌, subst, arith}
use Rattle.std.proofs.lemmas.Option.{slice_get_read, slice_get_within}
use Rattle.herm_model.specs.Paths.{Fact}
use Rattle.herm_model.specs.ControlPaths.{Flow, Holds}
use Rattle.herm_types.specs.View.{fact_view}
use Rattle.herm_flow.specs.OnwardView.{onward_flow_view}
use Rattle.herm_facts.specs.declared.fact_numbers.FactNumbers.{FactNumbers}
use Rattle.herm_facts.specs.FactNumbers.{number_of}
use Rattle.herm_check.specs.declared.search.Search.{Search}
use Rattle.herm_check.specs.declared.missing.MissingAt.{MissingAt}
use Rattle.herm_check.specs.Trails.{trail}
use Rattle.herm_check.specs.Shortest.{IsShortest}
use Rattle.herm_check.specs.Searched.{IsSearched, IsNearest}
use Rattle.herm_check.specs.Alike.{AreSearchedBy}
use Rattle.herm_check.specs.Missing.{missing_of, demand}
use Rattle.herm_check.proofs.Places.{first-node}
use Rattle.herm_check.proofs.Searched.{one-at}
use Rattle.herm_check.proofs.Trails.{nearest-trail}
use Rattle.herm_check.proofs.Reported.{missing-held, missing-more}
use Rattle.herm_check.proofs.missing.push_lacking.Goals as goal

pub returns-then-holds : goal.returns-then-holds
returns-then-holds c ds facts are h =
    let f = fact_view c.args.fact.now in
    missing-held (onward_flow_view c.args.flow.now) (demand c.args.at c.args.stmt.0 f) ds (missing_of c.args.lost.now facts c.args.out.now) h ((c.requires.exact f).0 (sym c.holds.ensures ∙ c.if-holds.true))

none-some : (n : ℕ) → ◌≡◌ {A = Option ℕ} None (Some n) → ⊥
none-some n e = cc

pub unreachable-requires : goal.unreachable-requires
unreachable-requires c =
    let noted = c.requires.noted (sym c.holds.ensures ∙ c.if-holds.false) in
    none-some noted.0 (sym c.in_default.is ∙ (c.number_of.ensures ∙ noted.1))

-- the number of the one that stands for the fact is looked up
by-at : (by : List ℕ) (n k l : ℕ) → slice_get by n ≡ Some k → l ≡ get_or by n l → l ≡ k
by-at by n k l at is = one-at (slice_get by n) l k (slice_get_read by (length by) n l refl (slice_get_within by n k at) is) at

pub index-by-requires : goal.index-by-requires
index-by-requires c =
    let f = fact_view c.args.fact.now in
    let n = c.in-Some.number in
    let h = c.requires.searched f n (sym c.number_of.ensures ∙ c.in-Some.is) in
    let within = slice_get_within c.args.lost.now.by.items n h.0 h.1 in
    omega (arith, within, c.args.lost.now.by.ok)

pub index-requires : goal.index-requires
index-requires c =
    let f = fact_view c.args.fact.now in
    let n = c.in-Some.number in
    let h = c.requires.searched f n (sym c.number_of.ensures ∙ c.in-Some.is) in
    let same = by-at c.args.lost.now.by.items n h.0 c.index-by.result.now h.1 c.index-by.ensures in
    let within = slice_get_within c.args.lost.now.searches.items (h.0 / 64) h.2 h.3 in
    omega (arith, within, same, c.args.lost.now.searches.ok)

-- the search that is looked up is that of the fact
searched-at : (flow : Flow) (numbers : FactNumbers) (by : List ℕ) (ss : List Search) (f : Fact) (n k : ℕ) (s : Search) → AreSearchedBy flow numbers by ss → number_of numbers f ≡ Some n → k ≡ get_or by n k → s ≡ get_or ss (k / 64) s → (slice_get ss (k / 64) ≡ Some s) × IsSearched flow f (k % 64) s
searched-at flow numbers by ss f n k s are number found is =
    let h = are f n number in
    let same : h.0 ≡ k = sym (by-at by n h.0 k h.1 found) in
    let at : slice_get ss (k / 64) ≡ Some h.2 = subst (λ m. slice_get ss (m / 64) ≡ Some h.2) same h.3 in
    let read = slice_get_read ss (length ss) (k / 64) s refl (slice_get_within ss (k / 64) h.2 at) is in
    (read, subst (λ x. IsSearched flow f (k % 64) x) (one-at (slice_get ss (k / 64)) h.2 s at read) (subst (λ m. IsSearched flow f (m % 64) h.2) same h.4))

pub lost_place-requires-clause-visits : goal.lost_place-requires-clause-visits
lost_place-requires-clause-visits c =
    (searched-at (onward_flow_view c.args.flow.now) c.args.lost.now.numbers c.args.lost.now.by.items c.args.lost.now.searches.items (fact_view c.args.fact.now) c.in-Some.number c.index-by.result.now c.index.result.now c.requires.searched (sym c.number_of.ensures ∙ c.in-Some.is) c.index-by.ensures c.index.ensures).1.visits

pub unreachable-requires-in_default-lost_place : goal.unreachable-requires-in_default-lost_place
unreachable-requires-in_default-lost_place c =
    let flow = onward_flow_view c.args.flow.now in
    let f = fact_view c.args.fact.now in
    let k = c.index-by.result.now in
    let at = searched-at flow c.args.lost.now.numbers c.args.lost.now.by.items c.args.lost.now.searches.items f c.in-Some.number k c.index.result.now c.requires.searched (sym c.number_of.ensures ∙ c.in-Some.is) c.index-by.ensures c.index.ensures in
    let holds : Holds flow f c.args.at = subst (λ o. IfNone o ((g : Fact) → IsSearched flow g (k % 64) c.index.result.now → Holds flow g c.args.at)) c.in_default-lost_place.is c.lost_place.ensures.none f at.1 in
    true≢false (sym ((c.requires.exact f).1 holds) ∙ (sym c.holds.ensures ∙ c.if-holds.false))

pub returns : goal.returns
returns c ds facts are h =
    let flow = onward_flow_view c.args.flow.now in
    let f = fact_view c.args.fact.now in
    let lost = c.args.lost.now in
    let i = c.args.at in
    let n = c.in-Some.number in
    let l = c.index-by.result.now in
    let s = c.index.result.now in
    let k = c.in-Some-lost_place.place in
    let number : number_of lost.numbers f ≡ Some n = sym c.number_of.ensures ∙ c.in-Some.is in
    let at = searched-at flow lost.numbers lost.by.items lost.searches.items f n l s c.requires.searched number c.index-by.ensures c.index.ensures in
    let near : IsNearest flow f (l % 64) i s.visits.items k = subst (λ o. IfSome o (λ place. (g : Fact) → IsSearched flow g (l % 64) s → IsNearest flow g (l % 64) i s.visits.items place)) c.in-Some-lost_place.is c.lost_place.ensures.some f at.1 in
    let entry = first-node (length c.args.flow.now.points.items) (omega (arith, c.requires.within)) in
    let short : IsShortest flow f i (trail s.visits.items k) = nearest-trail flow c.requires.differ entry f (l % 64) s at.1 i k near in
    let m : MissingAt = record { stmt = c.args.stmt; fact = n; search = l / 64; place = k } in
    missing-more flow (demand i c.args.stmt.0 f) ds (missing_of lost facts c.args.out.now) h (missing_of lost facts c.push.new.self) m s refl refl c.in_ok-push.ensures.items ((are f n).1 number) at.0 refl short
