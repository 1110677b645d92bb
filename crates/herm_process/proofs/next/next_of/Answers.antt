use Rattle.std.proofs.Common.{refl, sym, ap, ◌∙◌, option_map, true, false, nat_lt, arith, ◌≡◌}
use Rattle.std.proofs.lemmas.Bool.Decides.{nat_tests}
use Rattle.herm_system.specs.Machines.{to_act, greatest_actions}
use Rattle.herm_exchanges.specs.Told.{want_view}
use Rattle.herm_steps.specs.Coming.{end_view}
use Rattle.herm_machine.specs.Machines.{code_of, nameless}
use Rattle.herm_process.proofs.NextStands.{stands-as}
use Rattle.herm_process.proofs.SomePort.{never-untold}
use Rattle.herm_process.proofs.Standings.{told-want}
use Rattle.herm_process.proofs.next.next_of.Goals as goal

pub returns-in-Some : goal.returns-in-Some
returns-in-Some c = record { next = λ image main s h. (stands-as image main c.args.limit (code_of c.args.machine.now) s h.sound).ends (end_view c.in-Some.end) (sym (ap (option_map end_view) c.in-Some.is) ∙ c.coming-coming.ensures.end image main s h) }

pub returns-then-is_out_of_steps : goal.returns-then-is_out_of_steps
returns-then-is_out_of_steps c = record { next = λ image main s h. ((stands-as image main c.args.limit (code_of c.args.machine.now) s h.sound).spends (sym (c.if-is_out_of_steps.ensures.spent image main s h (c.coming-coming.ensures.step image main s h))), refl) }

pub returns-in_default-want : goal.returns-in_default-want
returns-in_default-want c = record {
  next = λ image main s h. (stands-as image main c.args.limit (code_of c.args.machine.now) s h.sound).steps (sym (ap (option_map end_view) c.in_default.is) ∙ c.coming-coming.ensures.end image main s h) (sym (c.if-is_out_of_steps.ensures.spent image main s h (c.coming-coming.ensures.step image main s h)))
      (λ w e. never-untold image main (code_of c.args.machine.now) s w h.sound (sym (ap (option_map want_view) c.in_default-want.is) ∙ c.coming-coming.ensures.wanted image main s h) e);
}

pub returns-then-actions : goal.returns-then-actions
returns-then-actions c = record {
  next = λ image main s h.
      let w = told-want ((nameless image main).wanted s) (want_view c.in-Some-want.want) (sym (ap (option_map want_view) c.in-Some-want.is) ∙ c.coming-coming.ensures.wanted image main s h) in
      let n = c.counts-actions.ensures.counts image main s h in
      let above : nat_lt s.frame.actions greatest_actions ≡ false = grind (arith, nat_tests, n.1, c.if-actions.true) in
      ((stands-as image main c.args.limit (code_of c.args.machine.now) s h.sound).acts w.0 (sym (c.if-is_out_of_steps.ensures.spent image main s h (c.coming-coming.ensures.step image main s h))) w.1 ∙ ap to_act above, refl);
}

pub returns : goal.returns
returns c = record {
  next = λ image main s h.
      let w = told-want ((nameless image main).wanted s) (want_view c.in-Some-want.want) (sym (ap (option_map want_view) c.in-Some-want.is) ∙ c.coming-coming.ensures.wanted image main s h) in
      let n = c.counts-actions.ensures.counts image main s h in
      let left : nat_lt s.frame.actions greatest_actions ≡ true = grind (arith, nat_tests, n.1, c.if-actions.false) in
      ((stands-as image main c.args.limit (code_of c.args.machine.now) s h.sound).acts w.0 (sym (c.if-is_out_of_steps.ensures.spent image main s h (c.coming-coming.ensures.step image main s h))) w.1 ∙ ap to_act left, w.0, w.1, w.2);
}
