use Rattle.std.proofs.Common.{◌≡◌, ◌++◌, ◌∷◌, [], inl, inr, ◌⊎◌, map, take, true, false, true≢false, refl, sym, ◌∙◌, ap, subst}
use Rattle.std.proofs.lemmas.List.{map_more, take_all}
use Rattle.herm_model.specs.Lists.{IsIn}
use Rattle.herm_model.specs.Paths.{Fact}
use Rattle.herm_model.proofs.Lists.{in-append_cases}
use Rattle.herm_types.specs.View.{fact_view}
use Rattle.herm_typestate.specs.Facts.{has_fact}
use Rattle.herm_check.specs.Missing.{IsNoted}
use Rattle.herm_check.proofs.Noted.{noted-kept}
use Rattle.herm_check.proofs.missing.note_point.Goals as goal

pub loop-fact-init : goal.loop-fact-init
loop-fact-init c = record { noted = λ f member lacks. absurd member; kept = λ f n number. number }

pub loop-fact-preserved : goal.loop-fact-preserved
loop-fact-preserved c =
    let items = c.deref-fact-items.result.now in
    let k = c.loop-fact.fact-index in
    let next = map_more fact_view items k c.fact-item.result c.loop-fact-test.true ∙ ap (λ x. map fact_view (take k items) ++ fact_view x ∷ []) (sym c.fact-item.is) in
    record {
      noted = λ f member lacks. noted f (in-append_cases f (map fact_view (take k items)) (fact_view c.fact-item.result ∷ []) (subst (IsIn f) next member)) lacks;
      kept = λ f n number. c.in_ok-note_lacking.ensures.kept f n (c.loop-fact.invariant.kept f n number);
    }
  where
    noted : (f : Fact) → IsIn f (map fact_view (take c.loop-fact.fact-index c.deref-fact-items.result.now)) ⊎ IsIn f (fact_view c.fact-item.result ∷ []) → has_fact c.args.state.now f ≡ false → IsNoted c.note_lacking.new.lost f
    noted f (inl h) lacks = noted-kept c.loop-fact.lost c.note_lacking.new.lost f c.in_ok-note_lacking.ensures.kept (c.loop-fact.invariant.noted f h lacks)
    noted f (inr (inl e)) lacks = subst (IsNoted c.note_lacking.new.lost) (sym e) (c.in_ok-note_lacking.ensures.noted (subst (λ g. has_fact c.args.state.now g ≡ false) e lacks))
    noted f (inr (inr never)) lacks = absurd never

pub returns-clause-noted : goal.returns-clause-noted
returns-clause-noted c f member lacks =
    let items = c.deref-fact-items.result.now in
    c.loop-fact.invariant.noted f (subst (λ xs. IsIn f (map fact_view xs)) (sym (take_all c.loop-fact.fact-index items c.loop-fact-test.false ∙ c.deref-fact-items.ensures.value)) member) lacks
