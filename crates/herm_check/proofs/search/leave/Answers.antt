use Rattle.std.proofs.Common.{Vec, Global, map, length, slice_get, refl, sym, subst, arith}
use Rattle.std.proofs.lemmas.Option.{slice_get_read}
use Rattle.herm_types.specs.View.{fact_view}
use Rattle.herm_flow.specs.OnwardView.{onward_flow_view}
use Rattle.herm_check.specs.declared.search.Rest.{Rest}
use Rattle.herm_check.specs.Remaining.{IsRestAt}
use Rattle.herm_check.proofs.Searched.{one-at}
use Rattle.herm_check.proofs.Remaining.{slot-inside, rests-kept, rests-followed, HasRest, rest-new, rest-old, rest-here}
use Rattle.herm_check.proofs.search.leave.Goals as goal
use Rattle.herm_check.proofs.search.leave.Goals.{then-not-is_empty+in_ok-rests, else-not-is_empty}

pub returns-then-count-lt-FEW-clause-rests : goal.returns-then-count-lt-FEW-clause-rests
returns-then-count-lt-FEW-clause-rests c =
    let visit = slice_get_read c.args.search.now.visits.items (length c.args.search.now.visits.items) c.args.k c.index-visit.result.now refl c.requires.within c.index-visit.ensures in
    let within = slot-inside c.index-visit.result.now.point (length (onward_flow_view c.args.flow.now).points) c.index-visit.result.now.held c.slot-slot.result (length c.args.rests.now.items) c.slot-slot.ensures (c.requires.search.visits.there c.args.k c.index-visit.result.now visit) c.requires.rests.many in
    rests-followed (onward_flow_view c.args.flow.now) (map fact_view c.args._facts.now) c.args.search.now.visits.items c.follow_all.new.search c.args.rests.now.items c.args.k c.index-visit.result.now c.slot-slot.result c.index_mut.result.now c.requires.rests c.in_ok-follow_all.ensures.kept c.in_ok-follow_all.ensures.search visit c.slot-slot.ensures within c.index_mut.ensures.value

pub index-requires-2 : goal.index-requires-2
index-requires-2 c =
    let visit = slice_get_read c.args.search.now.visits.items (length c.args.search.now.visits.items) c.args.k c.index-visit.result.now refl c.requires.within c.index-visit.ensures in
    let within = slot-inside c.index-visit.result.now.point (length (onward_flow_view c.args.flow.now).points) c.index-visit.result.now.held c.slot-slot.result (length c.args.rests.now.items) c.slot-slot.ensures (c.requires.search.visits.there c.args.k c.index-visit.result.now visit) c.requires.rests.many in
    omega (arith, within, c.args.rests.now.ok)

pub index_mut-requires-then-not-is_empty : goal.index_mut-requires-then-not-is_empty
index_mut-requires-then-not-is_empty c =
    let visit = slice_get_read c.args.search.now.visits.items (length c.args.search.now.visits.items) c.args.k c.index-visit.result.now refl c.requires.within c.index-visit.ensures in
    let within = slot-inside c.index-visit.result.now.point (length (onward_flow_view c.args.flow.now).points) c.index-visit.result.now.held c.slot-slot.result (length c.args.rests.now.items) c.slot-slot.ensures (c.requires.search.visits.there c.args.k c.index-visit.result.now visit) c.requires.rests.many in
    omega (arith, within, c.args.rests.now.ok)

pub index-requires-3 : goal.index-requires-3
index-requires-3 c =
    let visit = slice_get_read c.args.search.now.visits.items (length c.args.search.now.visits.items) c.args.k c.index-visit.result.now refl c.requires.within c.index-visit.ensures in
    let within = slot-inside c.index-visit.result.now.point (length (onward_flow_view c.args.flow.now).points) c.index-visit.result.now.held c.slot-slot.result (length c.args.rests.now.items) c.slot-slot.ensures (c.requires.search.visits.there c.args.k c.index-visit.result.now visit) c.requires.rests.many in
    let rest : HasRest (onward_flow_view c.args.flow.now) (map fact_view c.args._facts.now) c.args.search.now.visits.items c.index-visit.result.now c.slot-slot.result c.if-not-is_empty.rests.items = elim c.if-not-is_empty.branch [
      | then-not-is_empty+in_ok-rests w ↦ subst (λ (x : Vec Rest Global). HasRest (onward_flow_view c.args.flow.now) (map fact_view c.args._facts.now) c.args.search.now.visits.items c.index-visit.result.now c.slot-slot.result x.items) (sym w.rests-is)
          (rest-new (onward_flow_view c.args.flow.now) (map fact_view c.args._facts.now) c.args.search.now.visits.items c.index-visit.result.now c.slot-slot.result c.args.rests.now.items w.in_ok-rests.field-0 c.slot-slot.ensures within c.requires.rests (w.in_ok-rests.ensures.edges c.index-visit.result.now visit) (w.in_ok-rests.ensures.facts c.index-visit.result.now visit))
      | else-not-is_empty w ↦ subst (λ (x : Vec Rest Global). HasRest (onward_flow_view c.args.flow.now) (map fact_view c.args._facts.now) c.args.search.now.visits.items c.index-visit.result.now c.slot-slot.result x.items) (sym w.rests-is)
          (rest-old (onward_flow_view c.args.flow.now) (map fact_view c.args._facts.now) c.args.search.now.visits.items c.index-visit.result.now c.slot-slot.result c.args.rests.now.items c.index-2.result.now c.without.result within c.requires.rests c.index-2.ensures c.without.ensures (c.is_empty-2.ensures.none w.if-not-is_empty.false))
    ] in
    omega (arith, rest.within, c.if-not-is_empty.rests.ok)

pub follow_listed-requires-clause-listed : goal.follow_listed-requires-clause-listed
follow_listed-requires-clause-listed c v at =
    let visit = slice_get_read c.args.search.now.visits.items (length c.args.search.now.visits.items) c.args.k c.index-visit.result.now refl c.requires.within c.index-visit.ensures in
    let within = slot-inside c.index-visit.result.now.point (length (onward_flow_view c.args.flow.now).points) c.index-visit.result.now.held c.slot-slot.result (length c.args.rests.now.items) c.slot-slot.ensures (c.requires.search.visits.there c.args.k c.index-visit.result.now visit) c.requires.rests.many in
    let rest : HasRest (onward_flow_view c.args.flow.now) (map fact_view c.args._facts.now) c.args.search.now.visits.items c.index-visit.result.now c.slot-slot.result c.if-not-is_empty.rests.items = elim c.if-not-is_empty.branch [
      | then-not-is_empty+in_ok-rests w ↦ subst (λ (x : Vec Rest Global). HasRest (onward_flow_view c.args.flow.now) (map fact_view c.args._facts.now) c.args.search.now.visits.items c.index-visit.result.now c.slot-slot.result x.items) (sym w.rests-is)
          (rest-new (onward_flow_view c.args.flow.now) (map fact_view c.args._facts.now) c.args.search.now.visits.items c.index-visit.result.now c.slot-slot.result c.args.rests.now.items w.in_ok-rests.field-0 c.slot-slot.ensures within c.requires.rests (w.in_ok-rests.ensures.edges c.index-visit.result.now visit) (w.in_ok-rests.ensures.facts c.index-visit.result.now visit))
      | else-not-is_empty w ↦ subst (λ (x : Vec Rest Global). HasRest (onward_flow_view c.args.flow.now) (map fact_view c.args._facts.now) c.args.search.now.visits.items c.index-visit.result.now c.slot-slot.result x.items) (sym w.rests-is)
          (rest-old (onward_flow_view c.args.flow.now) (map fact_view c.args._facts.now) c.args.search.now.visits.items c.index-visit.result.now c.slot-slot.result c.args.rests.now.items c.index-2.result.now c.without.result within c.requires.rests c.index-2.ensures c.without.ensures (c.is_empty-2.ensures.none w.if-not-is_empty.false))
    ] in
    let flow = onward_flow_view c.args.flow.now in
    let facts = map fact_view c.args._facts.now in
    let vs = c.args.search.now.visits.items in
    subst (λ x. IsRestAt flow facts vs x.point x.held x.facts c.as_slice.result.now) (one-at (slice_get vs c.args.k) c.index-visit.result.now v visit at)
    (subst (λ ns. IsRestAt flow facts vs c.index-visit.result.now.point c.index-visit.result.now.held c.index-visit.result.now.facts ns) (sym c.as_slice.ensures.value)
    (rest-here flow facts vs c.index-visit.result.now c.slot-slot.result c.if-not-is_empty.rests.items c.index-3.result.now c.slot-slot.ensures rest c.index-3.ensures))

pub returns-clause-rests : goal.returns-clause-rests
returns-clause-rests c =
    let visit = slice_get_read c.args.search.now.visits.items (length c.args.search.now.visits.items) c.args.k c.index-visit.result.now refl c.requires.within c.index-visit.ensures in
    let within = slot-inside c.index-visit.result.now.point (length (onward_flow_view c.args.flow.now).points) c.index-visit.result.now.held c.slot-slot.result (length c.args.rests.now.items) c.slot-slot.ensures (c.requires.search.visits.there c.args.k c.index-visit.result.now visit) c.requires.rests.many in
    let rest : HasRest (onward_flow_view c.args.flow.now) (map fact_view c.args._facts.now) c.args.search.now.visits.items c.index-visit.result.now c.slot-slot.result c.if-not-is_empty.rests.items = elim c.if-not-is_empty.branch [
      | then-not-is_empty+in_ok-rests w ↦ subst (λ (x : Vec Rest Global). HasRest (onward_flow_view c.args.flow.now) (map fact_view c.args._facts.now) c.args.search.now.visits.items c.index-visit.result.now c.slot-slot.result x.items) (sym w.rests-is)
          (rest-new (onward_flow_view c.args.flow.now) (map fact_view c.args._facts.now) c.args.search.now.visits.items c.index-visit.result.now c.slot-slot.result c.args.rests.now.items w.in_ok-rests.field-0 c.slot-slot.ensures within c.requires.rests (w.in_ok-rests.ensures.edges c.index-visit.result.now visit) (w.in_ok-rests.ensures.facts c.index-visit.result.now visit))
      | else-not-is_empty w ↦ subst (λ (x : Vec Rest Global). HasRest (onward_flow_view c.args.flow.now) (map fact_view c.args._facts.now) c.args.search.now.visits.items c.index-visit.result.now c.slot-slot.result x.items) (sym w.rests-is)
          (rest-old (onward_flow_view c.args.flow.now) (map fact_view c.args._facts.now) c.args.search.now.visits.items c.index-visit.result.now c.slot-slot.result c.args.rests.now.items c.index-2.result.now c.without.result within c.requires.rests c.index-2.ensures c.without.ensures (c.is_empty-2.ensures.none w.if-not-is_empty.false))
    ] in
    rests-kept (onward_flow_view c.args.flow.now) (map fact_view c.args._facts.now) c.args.search.now.visits.items c.follow_listed.new.search.visits.items c.in_ok-follow_listed.ensures.kept c.if-not-is_empty.rests.items rest.rests
