use Rattle.std.proofs.Common.{◌-◌, map, take, drop, sym, ap, ◌∙◌, arith}
use Rattle.herm_report.specs.Turns.{without_first}
use Rattle.herm_report.proofs.Turns.{no-entry, none-at, same-without, list-is, without-is}
use Rattle.herm_report.proofs.journal.next_of.Goals.{then-number-eq0-via-then-number-eq0, then-number-eq0-via-else-number-eq0+then-number-len}
use Rattle.herm_report.proofs.journal.next_of.Goals as goal

pub returns-then-number-eq0-clause-rest : goal.returns-then-number-eq0-clause-rest
returns-then-number-eq0-clause-rest c =
    elim c.then-number-eq0.branch [
      | then-number-eq0-via-then-number-eq0 w ↦ sym (ap (without_first (map (λ l. l.now) c.args.rests.now.items)) w.if-number-eq0.true)
      | then-number-eq0-via-else-number-eq0+then-number-len w ↦ sym (same-without (λ l. l.now) c.args.rests.now.items c.args.number (none-at (λ l. l.now) c.args.rests.now.items c.args.number (omega (arith, w.if-number-len.true))))
    ]

pub returns-in-Some-clause-next : goal.returns-in-Some-clause-next
returns-in-Some-clause-next c =
    ap (take 1)
    (sym c.in-Some.ensures.cases.0
    ∙ sym (list-is (λ l. l.now) c.args.rests.now.items c.args.number (c.args.number - 1) c.index.result.now (omega (arith, c.if-number-eq0.false)) (omega (arith, c.if-number-eq0.false, c.if-number-len.false)) c.index.ensures))

pub returns-in-Some-clause-rest : goal.returns-in-Some-clause-rest
returns-in-Some-clause-rest c =
    without-is (λ l. l.now) c.args.rests.now.items c.args.number (c.args.number - 1) c.index.result.now c.in-Some.rest (omega (arith, c.if-number-eq0.false)) (omega (arith, c.if-number-eq0.false, c.if-number-len.false)) c.index.ensures
    (sym (ap (drop 1) c.in-Some.ensures.cases.0))

pub returns-in-None-clause-next : goal.returns-in-None-clause-next
returns-in-None-clause-next c =
    ap (take 1)
    (sym (no-entry c.index.result.now.now c.in-None.ensures.cases)
    ∙ sym (list-is (λ l. l.now) c.args.rests.now.items c.args.number (c.args.number - 1) c.index.result.now (omega (arith, c.if-number-eq0.false)) (omega (arith, c.if-number-eq0.false, c.if-number-len.false)) c.index.ensures))

pub returns-in-None-clause-rest : goal.returns-in-None-clause-rest
returns-in-None-clause-rest c =
    sym (same-without (λ l. l.now) c.args.rests.now.items c.args.number
    (list-is (λ l. l.now) c.args.rests.now.items c.args.number (c.args.number - 1) c.index.result.now (omega (arith, c.if-number-eq0.false)) (omega (arith, c.if-number-eq0.false, c.if-number-len.false)) c.index.ensures
    ∙ no-entry c.index.result.now.now c.in-None.ensures.cases))
