use Rattle.std.proofs.Common.{◌≡◌, map, take}
use Rattle.herm_numbers.specs.View.{scope_view, behind_product, behind_sum, behind_and, behind_or, product_number, sum_number, and_number, or_number}
use Rattle.herm_typed.specs.View.{typed_unary_view, typed_prod_view, typed_comp_view, typed_conj_view}
use Rattle.herm_typed.specs.Beside.{unary_types, prod_types, comp_types, conj_types}
use Rattle.herm_numbers.specs.Beside.{types_read}
use Rattle.herm_numbers.proofs.expressions.+numbering.Given as goal

abbrev pub invariant-product_operands-products : goal.invariant-product_operands-products
invariant-product_operands-products l = record {
  meaning : map behind_product l.found.items ≡ map (product_number (scope_view l.scope)) (take l.op-index l.list);
  types : map (λ o. unary_types o.1) l.found.items ≡ map (λ o. types_read (scope_view l.scope) (typed_unary_view o.1)) l.found.items;
}

abbrev pub invariant-sum_operands-sums : goal.invariant-sum_operands-sums
invariant-sum_operands-sums l = record {
  meaning : map behind_sum l.found.items ≡ map (sum_number (scope_view l.scope)) (take l.op-index l.list);
  types : map (λ o. prod_types o.1) l.found.items ≡ map (λ o. types_read (scope_view l.scope) (typed_prod_view o.1)) l.found.items;
}

abbrev pub invariant-and_operands-ands : goal.invariant-and_operands-ands
invariant-and_operands-ands l = record {
  meaning : map behind_and l.found.items ≡ map (and_number (scope_view l.scope)) (take l.e-index l.list);
  types : map (λ o. comp_types o) l.found.items ≡ map (λ o. types_read (scope_view l.scope) (typed_comp_view o)) l.found.items;
}

abbrev pub invariant-or_operands-ors : goal.invariant-or_operands-ors
invariant-or_operands-ors l = record {
  meaning : map behind_or l.found.items ≡ map (or_number (scope_view l.scope)) (take l.e-index l.list);
  types : map (λ o. conj_types o) l.found.items ≡ map (λ o. types_read (scope_view l.scope) (typed_conj_view o)) l.found.items;
}
