-- How many statements stand within a part of the text: no more within each of its parts.
use Rattle.std.proofs.Common.{◌≡◌, ℕ, zero, suc, ◌<◌, ◌≤◌, List, [], ◌∷◌, map, length, get_or, Vec, Global, Bor, arith, sym, subst}
use Rattle.herm_base.specs.declared.numbers.ExcNo.{ExcNo}
use Rattle.herm_model.specs.Statements.{numbers_of, numbers_of_block, numbers_of_blocks, numbers_of_handlers}
use Rattle.herm_typed.specs.declared.statements.TypedStmt.{TypedStmt}
use Rattle.herm_typed.specs.View.{typed_form_view, typed_stmts_view}
use Rattle.herm_typed.specs.Blocks.{handlers_list}
use Rattle.herm_flow.specs.Parts.{blocks_of}

pub block_size : (blocks : List (Bor (List TypedStmt))) (i : ℕ) (d : Bor (List TypedStmt)) → i < length blocks → numbers_of_block (typed_stmts_view (get_or blocks i d).now) ≤ numbers_of_blocks (blocks_of (map (λ b. b.now) blocks))
block_size [] i d h = absurd (omega (arith, h))
block_size (b ∷ blocks) zero d h = omega arith
block_size (b ∷ blocks) (suc i) d h = let k = block_size blocks i d (omega (arith, h)) in omega (arith, k)

pub handler_size : (handled : List (ExcNo × Vec TypedStmt Global)) (i : ℕ) (d : ExcNo × Vec TypedStmt Global) → i < length handled → numbers_of_block (typed_stmts_view (get_or handled i d).1.items) ≤ numbers_of_handlers (handlers_list handled)
handler_size [] i d h = absurd (omega (arith, h))
handler_size (a ∷ handled) zero d h = omega arith
handler_size (a ∷ handled) (suc i) d h = let k = handler_size handled i d (omega (arith, h)) in omega (arith, k)

pub item_size : (list : List TypedStmt) (i : ℕ) (d : TypedStmt) → i < length list → numbers_of (typed_form_view (get_or list i d).form) ≤ numbers_of_block (typed_stmts_view list)
item_size [] i d h = absurd (omega (arith, h))
item_size (s ∷ list) zero d h = omega arith
item_size (s ∷ list) (suc i) d h = let k = item_size list i d (omega (arith, h)) in omega (arith, k)

-- ---- elements as the code has them

pub size_of_block : (blocks : List (Bor (List TypedStmt))) (i : ℕ) (b : Bor (List TypedStmt)) → i < length blocks → b ≡ get_or blocks i b → numbers_of_block (typed_stmts_view b.now) ≤ numbers_of_blocks (blocks_of (map (λ b. b.now) blocks))
size_of_block blocks i b l e = subst (λ (x : Bor (List TypedStmt)). numbers_of_block (typed_stmts_view x.now) ≤ numbers_of_blocks (blocks_of (map (λ b. b.now) blocks))) (sym e) (block_size blocks i b l)

pub size_of_handler : (handled : List (ExcNo × Vec TypedStmt Global)) (i : ℕ) (b : ExcNo × Vec TypedStmt Global) (list : List TypedStmt) → i < length handled → b ≡ get_or handled i b → list ≡ b.1.items → numbers_of_block (typed_stmts_view list) ≤ numbers_of_handlers (handlers_list handled)
size_of_handler handled i b list l e f =
    subst (λ xs. numbers_of_block (typed_stmts_view xs) ≤ numbers_of_handlers (handlers_list handled)) (sym f)
    (subst (λ (x : ExcNo × Vec TypedStmt Global). numbers_of_block (typed_stmts_view x.1.items) ≤ numbers_of_handlers (handlers_list handled)) (sym e) (handler_size handled i b l))

pub size_of_item : (list : List TypedStmt) (i : ℕ) (s : TypedStmt) → i < length list → s ≡ get_or list i s → numbers_of (typed_form_view s.form) ≤ numbers_of_block (typed_stmts_view list)
size_of_item list i s l e = subst (λ (x : TypedStmt). numbers_of (typed_form_view x.form) ≤ numbers_of_block (typed_stmts_view list)) (sym e) (item_size list i s l)
