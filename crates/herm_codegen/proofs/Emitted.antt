-- What is written for blocks is their code as it is defined, with its layout and labels.
use Rattle.std.proofs.Common.{◌≡◌, ℕ, zero, suc, ◌+◌, ◌<◌, List, [], ◌∷◌, ◌++◌, map, flat_map, length, get_or, Bool, cond, refl, sym, ap, ap₂, ◌∙◌, inl, inr, arith}
use mathlib.Core.Path.{fun_ext}
use Rattle.herm_model.specs.Lists.{IsIn, total}
use Rattle.herm_model.specs.Paths.{Path, Fact}
use Rattle.herm_model.specs.Types.{TypeTable}
use Rattle.herm_model.specs.Expressions.{Literal}
use Rattle.herm_model.specs.Statements.{Form}
use Rattle.herm_model.specs.Outcomes.{Outcome}
use Rattle.herm_model.specs.FactsOfStatements.{makes, kills}
use Rattle.herm_model.proofs.Lists.{length-map}
use Rattle.herm_instructions.specs.Instructions.{Step}
use Rattle.herm_instructions.specs.Labels.{ListedLabel}
use Rattle.herm_instructions.specs.Images.{CodeModule}
use Rattle.herm_types.specs.View.{path_view, fact_view}
use Rattle.herm_typed.specs.View.{outcome_view}
use Rattle.herm_translated.specs.Departures.{Departure, edge_code, edge_length, second_step}
use Rattle.herm_translated.specs.CodeBlocks.{CodeBlock, is_for}
use Rattle.herm_translated.specs.Layout.{Line, edge_at, line_by, edges_at, block_length, start_from, exit_of, block_code, block_lines, lines_from, start_of, lines_of}
use Rattle.herm_translated.specs.BlockLabels.{listed_with, is_named, labels_within, edge_labels, edge_slots, block_labels, labels_from, comes_first, comes_again}
use Rattle.herm_translated.specs.Translated.{laid_out}
use Rattle.herm_fronts.specs.declared.departures.Departure.{Departure as CodeDeparture}
use Rattle.herm_fronts.specs.Blocks.{departure_view, marked_view}
use Rattle.herm_fronts.specs.Operands.{instruction_of}
use Rattle.herm_fronts.specs.Lengths.{count_front, count_block, starts_from, end_from}
use Rattle.herm_fronts.proofs.Fronts.{front-keyed, front-counted}
use Rattle.herm_blocks.specs.declared.block.Block.{Block}
use Rattle.herm_blocks.specs.Views.{block_view, IsMarked}
use Rattle.herm_codegen.specs.Arrivals.{all_marks, is_marked_at}
use Rattle.herm_codegen.specs.Emitted.{keyed_exit, keyed_code, keyed_lines, keyed_lines_from}
use Rattle.herm_codegen.specs.Listed.{labels_inside, facts_behind, first_label, edge_labels_with, keyed_labels, keyed_labels_from}
use Rattle.herm_codegen.specs.Modules.{keyed_start, entry_lines, all_lines, all_labels, keyed_module}
use Rattle.herm_codegen.proofs.MarkedArrivals.{first-marked, again-marked}

module _ (types : TypeTable) (variables : List ℕ) where
  module _ (constants : List Literal) where
    pub block-counted : (b : CodeBlock) → count_block types variables b ≡ block_length types variables constants b
    block-counted b = ap (λ n. 1 + (n + total edge_length b.departures)) (front-counted types variables constants b.form)

    edges-counted : (at : ℕ) (b : CodeBlock) → at + (1 + count_front types variables b.form) ≡ edges_at types variables constants at b
    edges-counted at b = ap (λ n. at + (1 + n)) (front-counted types variables constants b.form)

    exit-same : (at : ℕ) (b : CodeBlock) → keyed_exit types variables at b ≡ exit_of types variables constants at b
    exit-same at b = ap (λ n o. edge_at n b.departures o) (edges-counted at b)

    code-same : (start : ℕ → ℕ) (at : ℕ) (b : CodeBlock) → keyed_code types variables constants start at (exit_of types variables constants at b) b ≡ block_code types variables constants start at b
    code-same start at b = ap (λ front. Step ∷ (front ++ flat_map (edge_code start) b.departures)) (sym (front-keyed constants types variables b.facts b.statement (at + 1) (exit_of types variables constants at b) b.form))

    lines-same : (start : ℕ → ℕ) (at : ℕ) (b : CodeBlock) → keyed_lines types variables constants start at b ≡ block_lines types variables constants start at b
    lines-same start at b =
        ap (λ exit. map (line_by types variables exit) (keyed_code types variables constants start at exit b)) (exit-same at b)
        ∙ ap (map (line_by types variables (exit_of types variables constants at b))) (code-same start at b)

    all-same : (start : ℕ → ℕ) (at : ℕ) (bs : List CodeBlock) → keyed_lines_from types variables constants start at bs ≡ lines_from types variables constants start at bs
    all-same start at [] = refl
    all-same start at (b ∷ bs) =
        ap₂ (λ xs n. xs ++ keyed_lines_from types variables constants start (at + n) bs) (lines-same start at b) (block-counted b)
        ∙ ap (λ ys. block_lines types variables constants start at b ++ ys) (all-same start (at + block_length types variables constants b) bs)

    starts-same : (first : ℕ) (bs : List CodeBlock) (n : ℕ) → get_or (starts_from first (map (count_block types variables) bs)) n (end_from first (map (count_block types variables) bs)) ≡ start_from types variables constants first bs n
    starts-same first [] n = refl
    starts-same first (b ∷ bs) zero = refl
    starts-same first (b ∷ bs) (suc n) = starts-same (first + count_block types variables b) bs n ∙ ap (λ k. start_from types variables constants (first + k) bs n) (block-counted b)

    start-same : (entry : Departure) (bs : List CodeBlock) → keyed_start types variables entry bs ≡ start_of types variables constants entry bs
    start-same entry bs = fun_ext (λ n. starts-same (edge_length entry) bs n)

    pub lines-laid_out : (entry : Departure) (bs : List CodeBlock) → all_lines types variables constants entry bs ≡ lines_of types variables constants entry bs
    lines-laid_out entry bs =
        ap (λ start. entry_lines types variables start entry ++ keyed_lines_from types variables constants start (edge_length entry) bs) (start-same entry bs)
        ∙ ap (λ ys. map (line_by types variables (λ o. 0)) (edge_code (start_of types variables constants entry bs) entry) ++ ys) (all-same (start_of types variables constants entry bs) (edge_length entry) bs)

  -- labels

  inside-same : (at : ℕ) (again : Bool) (b : CodeBlock) (form : Form) → labels_inside at again b.facts (edge_slots types variables b) form ≡ labels_within types variables at again b form
  inside-same at again b (Form.For r t) = ap (λ n. cond again (listed_with (at + second_step) b.facts (edge_slots types variables b) ∷ []) [] ++ listed_with n b.facts (edge_slots types variables b) ∷ []) (omega arith)
  inside-same at again b form = refl

  edge-labels-same : (at : ℕ) (b : CodeBlock) (ds : List CodeDeparture)
      → ((d : CodeDeparture) → IsIn d ds → map fact_view d.makes.now ≡ makes types variables b.form (outcome_view d.outcome))
      → ((d : CodeDeparture) → IsIn d ds → map path_view d.kills.now ≡ kills types variables b.form (outcome_view d.outcome))
      → edge_labels_with at b.facts (edge_slots types variables b) (map marked_view ds) ≡ edge_labels types variables at b (map departure_view ds)
  edge-labels-same at b [] made killed = refl
  edge-labels-same at b (d ∷ ds) made killed =
      ap₂ (λ (m : List Fact) (k : List Path). cond (is_named (outcome_view d.outcome)) (listed_with at (facts_behind m k b.facts) (edge_slots types variables b) ∷ []) [] ++ edge_labels_with (at + edge_length (departure_view d)) b.facts (edge_slots types variables b) (map marked_view ds))
      (made d (inl refl)) (killed d (inl refl))
      ∙ ap (λ ls. cond (is_named (outcome_view d.outcome)) (listed_with at (facts_behind (makes types variables b.form (outcome_view d.outcome)) (kills types variables b.form (outcome_view d.outcome)) b.facts) (edge_slots types variables b) ∷ []) [] ++ ls)
      (edge-labels-same (at + edge_length (departure_view d)) b ds (λ e i. made e (inr i)) (λ e i. killed e (inr i)))

  module _ (constants : List Literal) where
    block-labels-same : (at : ℕ) (first again : Bool) (b : Block) → IsMarked types variables b → keyed_labels types variables at first again b ≡ block_labels types variables constants at first again (block_view b)
    block-labels-same at first again b marked =
        ap₂ (λ xs ys. first_label at first (block_view b).facts (block_view b).slots ++ (xs ++ ys)) (inside-same at again (block_view b) (block_view b).form)
        (ap (λ n. edge_labels_with n (block_view b).facts (edge_slots types variables (block_view b)) (map marked_view b.departures.items)) (edges-counted constants at (block_view b))
        ∙ edge-labels-same (edges_at types variables constants at (block_view b)) (block_view b) b.departures.items marked.made marked.killed)

    labels-same : (first again led re_led : ℕ → Bool) (i at : ℕ) (bs : List Block) → ((b : Block) → IsIn b bs → IsMarked types variables b)
        → ((j : ℕ) → j < i + length bs → first j ≡ led j) → ((j : ℕ) → j < i + length bs → again j ≡ re_led j)
        → keyed_labels_from types variables first again i at bs ≡ labels_from types variables constants led re_led i at (map block_view bs)
    labels-same first again led re_led i at [] marked f g = refl
    labels-same first again led re_led i at (b ∷ bs) marked f g =
        ap₂ (λ xs n. xs ++ keyed_labels_from types variables first again (suc i) (at + n) bs) (block-labels-same at (first i) (again i) b (marked b (inl refl))) (block-counted constants (block_view b))
        ∙ (ap₂ (λ x y. block_labels types variables constants at x y (block_view b) ++ keyed_labels_from types variables first again (suc i) (at + block_length types variables constants (block_view b)) bs) (f i (omega arith)) (g i (omega arith))
        ∙ ap (λ ys. block_labels types variables constants at (led i) (re_led i) (block_view b) ++ ys)
        (labels-same first again led re_led (suc i) (at + block_length types variables constants (block_view b)) bs (λ c j. marked c (inr j)) (λ j h. f j (omega (arith, h))) (λ j h. g j (omega (arith, h)))))

    labels-laid_out : (entry : Departure) (bs : List Block) → ((b : Block) → IsIn b bs → IsMarked types variables b)
        → all_labels types variables entry bs ≡ labels_from types variables constants (comes_first entry (map block_view bs)) (comes_again (map block_view bs)) 0 (edge_length entry) (map block_view bs)
    labels-laid_out entry bs marked =
        labels-same _ _ (comes_first entry (map block_view bs)) (comes_again (map block_view bs)) 0 (edge_length entry) bs marked
        (λ j h. first-marked entry (map block_view bs) j (let e = length-map block_view bs in omega (arith, h, e)))
        (λ j h. again-marked entry (map block_view bs) j (let e = length-map block_view bs in omega (arith, h, e)))

    abbrev a_module : List Line → List ListedLabel → CodeModule
    a_module ls labels = record { variables = variables; code = map (λ (l : Line). l.instruction) ls; landings = map (λ (l : Line). l.landings) ls; labels = labels }

    -- the module that is written is the module of the blocks
    pub module-laid_out : (entry : Departure) (bs : List Block) → ((b : Block) → IsIn b bs → IsMarked types variables b) → keyed_module types variables constants entry bs ≡ laid_out types variables constants entry (map block_view bs)
    module-laid_out entry bs marked = ap₂ a_module (lines-laid_out constants entry (map block_view bs)) (labels-laid_out entry bs marked)
