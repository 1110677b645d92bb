use Rattle.std.proofs.Common.{◌≡◌, map, drop, option_map, ◌++◌, ◌+◌, sym, ap, subst, ◌∙◌}
use Rattle.std.specs.Prelude.{option_to_list}
use Rattle.herm_forms.specs.Frames.{putting_all}
use Rattle.herm_types.specs.View.{path_view}
use Rattle.herm_values.specs.View.{value_view}
use Rattle.herm_code.specs.View.{argument_view}
use Rattle.herm_code_machine.specs.CodeActions.{returned}
use Rattle.herm_exchanges.specs.Heard.{IsPut}
use Rattle.herm_exchanges.proofs.Items.{item_first}
use Rattle.herm_exchanges.proofs.Replied.{PutsOn, puts_stuck, returned_first}
use Rattle.herm_exchanges.proofs.hearing.put_returned.Goals as goal

pub returns-then-not-branch : goal.returns-then-not-branch
returns-then-not-branch c = record {
  settles = λ s o h e.
      let path = option_to_list (option_map (λ p. path_view p.now) c.path_of.result) in
      let rest = returned (map argument_view (drop (c.arguments.a-index + 1) c.args.arguments.now)) in
      let old = map value_view c.arguments.left.items in
      let left = map value_view c.put_next.new.left.items in
      let end = putting_all (returned (map argument_view c.args.arguments.now)) o (map value_view c.from-left.result.items) s in
      let first : returned (map argument_view (drop c.arguments.a-index c.args.arguments.now)) ≡ path ++ rest =
      ap (λ xs. returned (map argument_view xs)) (item_first c.args.arguments.now c.arguments.a-index c.a-item.result c.arguments-test.true c.a-item.is)
      ∙ sym (returned_first (argument_view c.a-item.result) (map argument_view (drop (c.arguments.a-index + 1) c.args.arguments.now)))
      ∙ ap (λ p. p ++ rest) (sym c.path_of.ensures.path) in
      ap (λ xs. putting_all (returned (map argument_view c.args.arguments.now)) o (map value_view xs) s) (sym c.from-left.ensures.0)
      ∙ puts_stuck c.arguments.frame c.put_next.new.frame path rest o old left end (λ b k. subst (λ t. IsPut t c.put_next.new.frame path old left b) c.if-not-branch.true (c.in_ok-put_next.ensures.put b k))
      (subst (λ ps. PutsOn c.arguments.frame ps o old end) first (c.arguments.invariant.0 s o h));
}
