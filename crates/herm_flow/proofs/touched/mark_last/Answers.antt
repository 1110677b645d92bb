use Rattle.std.proofs.Common.{◌≡◌, Some, cond, is_some, sym, ap, ◌∙◌}
use Rattle.std.specs.Option.{option_copied}
use Rattle.std.proofs.lemmas.Bool.{eq-eqb}
use Rattle.herm_flow.specs.NumberTables.{at_number}
use Rattle.herm_flow.proofs.Trails.{last_got}
use Rattle.herm_flow.proofs.touched.mark_last.Goals as goal

pub returns-clause-marked : goal.returns-clause-marked
returns-clause-marked c = λ n l.
    let got : Some c.in-Some.last.now ≡ Some n = sym (ap option_copied c.in-Some.is) ∙ (c.last.ensures.value ∙ last_got c.args.numbers.now n l) in
    let same : c.in-Some.last.now ≡ n = cc got in
    ap is_some (c.in_ok-put.ensures.entries n ∙ ap (λ b. cond b (Some 0) (at_number c.args.ends.now.items n)) (eq-eqb c.in-Some.last.now n same))
