use Rattle.std.proofs.Common.{◌≡◌, ◌++◌, map, take, flat_map}
use Rattle.herm_model.specs.Expressions.{paths_read}
use Rattle.herm_types.specs.View.{path_view}
use Rattle.herm_typed.specs.View.{typed_prod_view, typed_conj_view, typed_comp_view, typed_unary_view}
use Rattle.herm_effects.proofs.reads.+reading.Given as goal

abbrev pub invariant-product_operands-products : goal.invariant-product_operands-products
invariant-product_operands-products l = map path_view l.out.items ≡ map path_view l.fn.out.items ++ flat_map (λ o. paths_read (typed_unary_view o.1)) (take l.e-index l.operands)

abbrev pub invariant-sum_operands-sums : goal.invariant-sum_operands-sums
invariant-sum_operands-sums l = map path_view l.out.items ≡ map path_view l.fn.out.items ++ flat_map (λ o. paths_read (typed_prod_view o.1)) (take l.e-index l.operands)

abbrev pub invariant-and_operands-ands : goal.invariant-and_operands-ands
invariant-and_operands-ands l = map path_view l.out.items ≡ map path_view l.fn.out.items ++ flat_map (λ o. paths_read (typed_comp_view o)) (take l.e-index l.operands)

abbrev pub invariant-or_operands-ors : goal.invariant-or_operands-ors
invariant-or_operands-ors l = map path_view l.out.items ≡ map path_view l.fn.out.items ++ flat_map (λ o. paths_read (typed_conj_view o)) (take l.e-index l.operands)
