use Rattle.std.proofs.Common.{◌≡◌, length, map, ap, arith}
use Rattle.std.proofs.lemmas.List.{nil_from_length}
use Rattle.herm_model.specs.MissingFacts.{demands}
use Rattle.herm_flow.specs.OnwardView.{onward_flow_view}
use Rattle.herm_check.specs.Missing.{refusal_of, refusals_of}
use Rattle.herm_check.proofs.Reported.{none-reported, all-shortest}
use Rattle.herm_check.proofs.checking.check.Goals as goal

pub returns-then-count-eq0-clause-accepted : goal.returns-then-count-eq0-clause-accepted
returns-then-count-eq0-clause-accepted c =
    let flow = onward_flow_view c.args.flow.now in
    let missing = c.in_ok-missing.missing in
    let none : length missing.facts.items ≡ 0 = omega (arith, c.len-count.ensures, missing.facts.ok) in
    none-reported flow (demands flow) (refusals_of missing) c.in_ok-missing.ensures.reported (ap (map (refusal_of missing.lost.items missing.searches.items)) (nil_from_length missing.facts.items none))

pub returns-clause-missing : goal.returns-clause-missing
returns-clause-missing c =
    let missing = c.in_ok-missing.missing in
    (omega (arith, c.len-count.ensures, missing.facts.ok), c.in_ok-missing.ensures.placed, all-shortest (onward_flow_view c.args.flow.now) (refusals_of missing) c.in_ok-missing.ensures.reported)
