use Rattle.std.proofs.Common.{rules, sym, ap, [], arith, ◌∙◌, ◌≡◌}
use Rattle.herm_readers.specs.Combinators.{many}
use Rattle.herm_syntax.specs.Symbols.{is}
use Rattle.herm_syntax.specs.KeywordSymbols.{kw_on, kw_when}
use Rattle.herm_syntax.specs.ReadStatements.{inside}
use Rattle.herm_readers.specs.Reader.{Read}
use Rattle.herm_syntax.specs.Trees.{If as IfTree}
use Rattle.herm_syntax.specs.View.{stmt_form_view, expr_view, stmts_view}
use Rattle.herm_syntax.specs.declared.statements.Stmt.{Stmt}
use Rattle.herm_parser.specs.Blocks.{arm_view, port_arm_view, else_view, if_at, otherwise_at, case_arm_at, handler_at, port_arm_at, statement_at}
use Rattle.herm_parser.specs.Walk.{walk_arm, walk_port_arm}
use Rattle.herm_parser.specs.Gives.{kinds}
use Rattle.herm_parser.proofs.Loops.{loop_next, loop_start, loop_smaller}
use Rattle.herm_parser.proofs.Turns.{case_arm_goes, handler_goes, port_arm_goes, statement_goes, each_next, each_start, body_next, body_start}
use Rattle.herm_parser.proofs.Bodies.{statement_behind, no_kinds}
use Rattle.herm_parser.proofs.SeenForms.{if_seen}
use Rattle.herm_parser.proofs.blocks.+blocks.Goals as goal

pub case_arms-list-init : goal.case_arms-list-init
case_arms-list-init t c =
    (loop_start arm_view c.new-found.result.items (many (is kw_when) (case_arm_at c.args.depth) (kinds c.args.tokens.now)) (search rules), each_start walk_arm c.new-found.result.items (c.args.next, (c.args.end, c.args.tokens.now)) (search rules))

pub case_arms-list-smaller : goal.case_arms-list-smaller
case_arms-list-smaller t c =
    loop_smaller arm_view (is kw_when) (case_arm_at c.args.depth) (case_arm_goes c.args.depth) c.in_ok-item.item c.list.rest.now c.in_ok-item.behind.now c.in_ok-item.ensures.read

pub case_arms-list-preserved : goal.case_arms-list-preserved
case_arms-list-preserved t c = (
  loop_next arm_view (is kw_when) (case_arm_at c.args.depth) (case_arm_goes c.args.depth)
      c.list.found.items c.push.new.self.items c.in_ok-item.item (kinds c.list.rest.now) (kinds c.in_ok-item.behind.now)
      c.in_ok-push.ensures.items (search rules) c.in_ok-item.ensures.read ∙ c.list.invariant.0,
  each_next walk_arm c.list.found.items c.push.new.self.items c.in_ok-item.item (c.args.next, (c.args.end, c.args.tokens.now)) (c.list.number, (c.list.last, c.list.rest.now)) (c.in_ok-item.after, (c.in_ok-item.end, c.in_ok-item.behind.now))
      c.in_ok-push.ensures.items c.list.invariant.1 (c.in_ok-item.ensures.along c.list.last),
)

pub handlers-list-init : goal.handlers-list-init
handlers-list-init t c =
    (loop_start arm_view c.new-found.result.items (many (is kw_on) (handler_at c.args.depth) (kinds c.args.tokens.now)) (search rules), each_start walk_arm c.new-found.result.items (c.args.next, (c.args.end, c.args.tokens.now)) (search rules))

pub handlers-list-smaller : goal.handlers-list-smaller
handlers-list-smaller t c =
    loop_smaller arm_view (is kw_on) (handler_at c.args.depth) (handler_goes c.args.depth) c.in_ok-item.item c.list.rest.now c.in_ok-item.behind.now c.in_ok-item.ensures.read

pub handlers-list-preserved : goal.handlers-list-preserved
handlers-list-preserved t c = (
  loop_next arm_view (is kw_on) (handler_at c.args.depth) (handler_goes c.args.depth)
      c.list.found.items c.push.new.self.items c.in_ok-item.item (kinds c.list.rest.now) (kinds c.in_ok-item.behind.now)
      c.in_ok-push.ensures.items (search rules) c.in_ok-item.ensures.read ∙ c.list.invariant.0,
  each_next walk_arm c.list.found.items c.push.new.self.items c.in_ok-item.item (c.args.next, (c.args.end, c.args.tokens.now)) (c.list.number, (c.list.last, c.list.rest.now)) (c.in_ok-item.after, (c.in_ok-item.end, c.in_ok-item.behind.now))
      c.in_ok-push.ensures.items c.list.invariant.1 (c.in_ok-item.ensures.along c.list.last),
)

pub port_arms-list-init : goal.port_arms-list-init
port_arms-list-init t c =
    (loop_start port_arm_view c.new-found.result.items (many (is kw_when) (port_arm_at c.args.depth) (kinds c.args.tokens.now)) (search rules), each_start walk_port_arm c.new-found.result.items (c.args.next, (c.args.end, c.args.tokens.now)) (search rules))

pub port_arms-list-smaller : goal.port_arms-list-smaller
port_arms-list-smaller t c =
    loop_smaller port_arm_view (is kw_when) (port_arm_at c.args.depth) (port_arm_goes c.args.depth) c.in_ok-item.item c.list.rest.now c.in_ok-item.behind.now c.in_ok-item.ensures.read

pub port_arms-list-preserved : goal.port_arms-list-preserved
port_arms-list-preserved t c = (
  loop_next port_arm_view (is kw_when) (port_arm_at c.args.depth) (port_arm_goes c.args.depth)
      c.list.found.items c.push.new.self.items c.in_ok-item.item (kinds c.list.rest.now) (kinds c.in_ok-item.behind.now)
      c.in_ok-push.ensures.items (search rules) c.in_ok-item.ensures.read ∙ c.list.invariant.0,
  each_next walk_port_arm c.list.found.items c.push.new.self.items c.in_ok-item.item (c.args.next, (c.args.end, c.args.tokens.now)) (c.list.number, (c.list.last, c.list.rest.now)) (c.in_ok-item.after, (c.in_ok-item.end, c.in_ok-item.behind.now))
      c.in_ok-push.ensures.items c.list.invariant.1 (c.in_ok-item.ensures.along c.list.last),
)

pub further-list-init : goal.further-list-init
further-list-init t c =
    (loop_start (λ (s : Stmt). stmt_form_view s.form) c.new-found.result.items (many inside (statement_at c.args.depth) (kinds c.args.tokens.now)) (search rules), body_start c.new-found.result.items c.args.next c.args.tokens.now (search rules))

pub further-list-smaller : goal.further-list-smaller
further-list-smaller t c =
    loop_smaller (λ (s : Stmt). stmt_form_view s.form) inside (statement_at c.args.depth) (statement_goes c.args.depth) c.in_ok-item.item c.list.rest.now c.in_ok-item.behind.now c.in_ok-item.ensures.read

pub further-list-preserved : goal.further-list-preserved
further-list-preserved t c = (
  loop_next (λ (s : Stmt). stmt_form_view s.form) inside (statement_at c.args.depth) (statement_goes c.args.depth)
      c.list.found.items c.push.new.self.items c.in_ok-item.item (kinds c.list.rest.now) (kinds c.in_ok-item.behind.now)
      c.in_ok-push.ensures.items (search rules) c.in_ok-item.ensures.read ∙ c.list.invariant.0,
  body_next c.list.found.items c.push.new.self.items c.in_ok-item.item c.args.next c.list.number c.in_ok-item.after c.args.tokens.now c.list.rest.now c.in_ok-item.behind.now
      c.in_ok-push.ensures.items c.list.invariant.1 c.in_ok-item.ensures.along,
)

pub statement-returns-in-empty-clause-read : goal.statement-returns-in-empty-clause-read
statement-returns-in-empty-clause-read t c =
    let empty : kinds c.args.tokens.now ≡ [] = no_kinds c.args.tokens.now (omega arith) in
    ap (statement_at c.args.depth) empty ∙ statement_behind c.args.depth

pub if_form-returns-clause-read : goal.if_form-returns-clause-read
unfolding if_at otherwise_at
if_form-returns-clause-read t c =
    let rest = kinds c.in_ok-other.rest.now in
    let read : if_at c.args.depth (kinds c.args.tokens.now) ≡ Read (IfTree (expr_view c.in_ok-condition.condition) (stmts_view c.in_ok-inner.inner.items) (else_view c.in_ok-other.other)) rest = search rules in
    read ∙ ap (λ s. Read s rest) (sym (if_seen c.in_ok-condition.condition c.in_ok-inner.inner c.in_ok-other.other))
