use Rattle.std.proofs.Common.{◌≡◌, ◌⊎◌, ◌≢◌, inl, inr, ℕ, ◌<◌, ◌+◌, ◌*◌, ◌/◌, ◌%◌, mod-lt, div-add-mod', List, [], ◌∷◌, ◌++◌, length, map, Some, slice_get, refl, sym, ap, subst, ◌∙◌, arith}
use Rattle.std.proofs.lemmas.Bool.{eqb-true}
use Rattle.std.proofs.lemmas.Option.{slice_get_within}
use Rattle.herm_model.specs.Paths.{Fact}
use Rattle.herm_model.proofs.Lists.{length-map}
use Rattle.herm_types.specs.declared.fact.Fact.{Fact as FactHere}
use Rattle.herm_types.specs.View.{fact_view}
use Rattle.herm_flow.specs.OnwardView.{onward_flow_view}
use Rattle.herm_facts.specs.FactNumbers.{number_of}
use Rattle.herm_check.specs.declared.search.Search.{Search}
use Rattle.herm_check.specs.Lists.{AreListsIn}
use Rattle.herm_check.specs.Searched.{IsSearched}
use Rattle.herm_check.proofs.Joined.{same_or_not}
use Rattle.herm_check.proofs.Following.{kept-more, at-end}
use Rattle.herm_check.proofs.Searched.{length-more, some-at}
use Rattle.herm_check.proofs.missing.searches_of.Goals as goal

none-at : (xs : List FactHere) (n : ℕ) (f : Fact) → length xs ≡ 0 → slice_get (map fact_view xs) n ≡ Some f → ⊥
none-at xs n f none at = let many = length-map fact_view xs in let within = slice_get_within (map fact_view xs) n f at in omega (arith, many, within, none)

pub returns-then-is_empty : goal.returns-then-is_empty
returns-then-is_empty c f n at = absurd (none-at c.args.facts.now n f (eqb-true (length c.args.facts.now) 0 (sym c.is_empty.ensures ∙ c.if-is_empty.true)) ((c.requires.numbers f n).1 at))

pub loop-first-init : goal.loop-first-init
loop-first-init c = record {
  lists = c.in_ok-lists.ensures;
  first = let none = ap length c.new-searches.ensures.items in omega (arith, none);
  searched = λ b j f before less number. absurd (let none = ap length c.new-searches.ensures.items in omega (arith, none, before));
}

pub search_for-requires-clause-lists : goal.search_for-requires-clause-lists
search_for-requires-clause-lists c = subst (AreListsIn c.args.lost.now c.args.flow.now) (sym c.as_slice.ensures.value) c.loop-first.invariant.lists

pub search_for-requires-clause-some : goal.search_for-requires-clause-some
search_for-requires-clause-some c = c.requires.some (omega (arith, c.loop-first-test.true))

pub search_for-requires-clause-first : goal.search_for-requires-clause-first
search_for-requires-clause-first c =
    let facts = map fact_view c.args.facts.now in
    let many = length-map fact_view c.args.facts.now in
    let n = 64 * c.len-number.result in
    let some = some-at facts n (omega (arith, many, c.loop-first-test.true, c.loop-first.invariant.first, c.len-number.ensures, c.loop-first.searches.ok)) in
    (some.0, (c.requires.numbers some.0 n).0 some.1)

pub loop-first-preserved : goal.loop-first-preserved
loop-first-preserved c = record {
  lists = c.loop-first.invariant.lists;
  first = let more = ap length c.in_ok-push.ensures.items in let one = length-more old new in omega (arith, more, one, c.loop-first.invariant.first);
  searched = λ b j f before less number. subst (λ ss. (s : Search) × (slice_get ss b ≡ Some s) × IsSearched (onward_flow_view c.args.flow.now) f j s) (sym c.in_ok-push.ensures.items) (by b j f before less number (same_or_not b (length old)));
}
  where
    old : List Search
    old = c.loop-first.searches.items

    new : Search
    new = c.in_ok-search_for.field-0

    by : (b j : ℕ) (f : Fact) → b < length c.push.new.self.items → j < 64 → number_of c.args.lost.now f ≡ Some (64 * b + j) → (b ≡ length old) ⊎ (b ≢ length old) → (s : Search) × (slice_get (old ++ new ∷ []) b ≡ Some s) × IsSearched (onward_flow_view c.args.flow.now) f j s
    by b j f before less number (inr d) =
        let more = ap length c.in_ok-push.ensures.items in
        let one = length-more old new in
        let h = c.loop-first.invariant.searched b j f (omega (arith, before, more, one, d)) less number in
        (h.0, kept-more old new b h.0 h.1, h.2)
    by b j f before less number (inl e) =
        let same : b ≡ c.len-number.result = omega (arith, e, c.len-number.ensures, c.loop-first.searches.ok) in
        (new, subst (λ n. slice_get (old ++ new ∷ []) n ≡ Some new) (sym e) (at-end old new), c.in_ok-search_for.ensures j f less (subst (λ n. number_of c.args.lost.now f ≡ Some (64 * n + j)) same number))

pub returns : goal.returns
returns c f n number =
    let at = (c.requires.numbers f n).1 number in
    let within = slice_get_within (map fact_view c.args.facts.now) n f at in
    let many = length-map fact_view c.args.facts.now in
    let parts : 64 * (n / 64) + n % 64 ≡ n = omega (arith, div-add-mod' n 64) in
    let less : n % 64 < 64 = (let some : 0 < 64 = omega arith in mod-lt n some) in
    c.loop-first.invariant.searched (n / 64) (n % 64) f (omega (arith, within, many, c.loop-first.invariant.first, c.loop-first-test.false, parts, less)) less (subst (λ m. number_of c.args.lost.now f ≡ Some m) (sym parts) number)
