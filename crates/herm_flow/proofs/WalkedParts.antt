-- A statement as its parts say: how many statements it is, and its points.
use Rattle.std.proofs.Common.{◌≡◌, ℕ, ◌+◌, List, [], ◌∷◌, ◌++◌, map, flat_map, sym, ap, ◌∙◌, subst, Vec, Global, Bor}
use Rattle.herm_base.specs.declared.numbers.ExcNo.{ExcNo}
use Rattle.herm_model.specs.Types.{TypeTable}
use Rattle.herm_model.specs.Statements.{Form, choosing, trying, numbers_of, numbers_of_block, numbers_of_blocks, numbers_of_handlers}
use Rattle.herm_model.specs.Targets.{node}
use Rattle.herm_model.specs.Nodes.{Surroundings, starts, start_of_block, nodes, nodes_in, nodes_of_choices}
use Rattle.herm_model.specs.ControlPaths.{Point, point}
use Rattle.herm_typed.specs.declared.statements.TypedStmt.{TypedStmt}
use Rattle.herm_typed.specs.declared.statements.TypedForm.{TypedForm}
use Rattle.herm_typed.specs.View.{typed_form_view, typed_stmts_view}
use Rattle.herm_typed.specs.Within.{statements_within, all_statements}
use Rattle.herm_typed.specs.Blocks.{handlers_list}
use Rattle.herm_flow.specs.declared.parts.Parts.{Parts}
use Rattle.herm_flow.specs.declared.parts.Parts.TheVariants.{Simple, Choosing, Repeating, Leaving, Trying}
use Rattle.herm_flow.specs.Parts.{blocks_of, seen_as, GoesOn, within}
use Rattle.herm_flow.specs.Edges.{point_at}
use Rattle.herm_flow.specs.Around.{in_loop}
use Rattle.herm_flow.proofs.PointsSeen.{simple_points, choosing_points, repeating_points, leaving_points}

module _ (form : TypedForm) (f : Form) (p : Parts) (seen : typed_form_view form ≡ seen_as f p) where
  pub choosing_size : (blocks : Vec (Bor (List TypedStmt)) Global) (list : List (Bor (List TypedStmt))) → p ≡ Choosing blocks → list ≡ blocks.items → numbers_of (typed_form_view form) ≡ 1 + numbers_of_blocks (blocks_of (map (λ b. b.now) list))
  choosing_size blocks list e v = ap numbers_of (seen ∙ ap (seen_as f) e) ∙ ap (λ xs. 1 + numbers_of_blocks (blocks_of (map (λ b. b.now) xs))) (sym v)

  pub repeating_size : (body : Bor (List TypedStmt)) → p ≡ Repeating body → numbers_of (typed_form_view form) ≡ 1 + numbers_of_block (typed_stmts_view body.now)
  repeating_size body e = ap numbers_of (seen ∙ ap (seen_as f) e)

  pub trying_size : (body : Bor (List TypedStmt)) (handled : Bor (List (ExcNo × Vec TypedStmt Global))) → p ≡ Trying body handled → numbers_of (typed_form_view form) ≡ 1 + (numbers_of_block (typed_stmts_view body.now) + numbers_of_handlers (handlers_list handled.now))
  trying_size body handled e = ap numbers_of (seen ∙ ap (seen_as f) e)

  module _ (table : TypeTable) (variables : List ℕ) (number from : ℕ) (s : Surroundings) where
    abbrev all_points : List Point
    all_points = map (point table variables) (nodes (typed_form_view form) number from s)

    pub simple_walked : GoesOn f p → p ≡ Simple → (point_at table variables form number (s.behind ∷ []) s.catches) ∷ [] ≡ all_points
    simple_walked g e = simple_points table variables form f number from s (seen ∙ ap (seen_as f) e) (subst (GoesOn f) e g)

    pub choosing_walked : (blocks : Vec (Bor (List TypedStmt)) Global) (list : List (Bor (List TypedStmt))) → p ≡ Choosing blocks → list ≡ blocks.items → (point_at table variables form number (starts (blocks_of (map (λ b. b.now) list)) (from + 1) s.behind) s.catches) ∷ map (point table variables) (nodes_of_choices (blocks_of (map (λ b. b.now) list)) (number + 1) (from + 1) s) ≡ all_points
    choosing_walked blocks list e v = choosing_points table variables form f (blocks_of (map (λ b. b.now) list)) number from s (seen ∙ (ap (seen_as f) e ∙ ap (λ xs. choosing f (blocks_of (map (λ b. b.now) xs))) (sym v)))

    pub repeating_walked : (body : Bor (List TypedStmt)) → p ≡ Repeating body → (point_at table variables form number (start_of_block (typed_stmts_view body.now) (from + 1) (node from) ∷ s.behind ∷ []) s.catches) ∷ map (point table variables) (nodes_in (typed_stmts_view body.now) (number + 1) (from + 1) (in_loop from s)) ≡ all_points
    repeating_walked body e = repeating_points table variables form f (typed_stmts_view body.now) number from s (seen ∙ ap (seen_as f) e)

    pub leaving_walked : p ≡ Leaving → (point_at table variables form number (s.exit ∷ []) s.catches) ∷ [] ≡ all_points
    leaving_walked e = leaving_points table variables form number from s (seen ∙ ap (seen_as f) e)

    pub trying_walked : (body : Bor (List TypedStmt)) (handled : Bor (List (ExcNo × Vec TypedStmt Global))) → p ≡ Trying body handled → map (point table variables) (nodes (trying (typed_stmts_view body.now) (handlers_list handled.now)) number from s) ≡ all_points
    trying_walked body handled e = sym (ap (λ x. map (point table variables) (nodes x number from s)) (seen ∙ ap (seen_as f) e))

module _ (form : TypedForm) (p : Parts) (same : statements_within form ≡ within p) where
  pub choosing_within : (blocks : Vec (Bor (List TypedStmt)) Global) (list : List (Bor (List TypedStmt))) → p ≡ Choosing blocks → list ≡ blocks.items → statements_within form ≡ flat_map all_statements (map (λ b. b.now) list)
  choosing_within blocks list e v = same ∙ (ap within e ∙ ap (λ xs. flat_map all_statements (map (λ b. b.now) xs)) (sym v))

  pub repeating_within : (body : Bor (List TypedStmt)) → p ≡ Repeating body → statements_within form ≡ all_statements body.now
  repeating_within body e = same ∙ ap within e

  pub trying_within : (body : Bor (List TypedStmt)) (handled : Bor (List (ExcNo × Vec TypedStmt Global))) → p ≡ Trying body handled → statements_within form ≡ all_statements body.now ++ flat_map (λ h. all_statements h.1.items) handled.now
  trying_within body handled e = same ∙ ap within e
