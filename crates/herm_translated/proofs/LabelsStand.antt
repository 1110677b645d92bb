-- Where labels of blocks stand.
use Rattle.std.proofs.Common.{◌≡◌, ℕ, ◌+◌, ◌<◌, List, map, true, cond, Some, None, option_and_then, slice_get, refl, ap, subst, ◌∙◌, arith}
use Rattle.herm_model.specs.Lists.{total}
use Rattle.herm_model.specs.Types.{TypeTable}
use Rattle.herm_model.specs.Expressions.{Literal}
use Rattle.herm_model.specs.Statements.{Differ}
use Rattle.herm_model.proofs.FactTests.{got-IsIn}
use Rattle.herm_instructions.specs.Instructions.{Instruction, Step}
use Rattle.herm_instructions.specs.Labels.{Label, ListedLabel, listed_at}
use Rattle.herm_instructions.specs.Images.{CodeModule}
use Rattle.herm_instructions.specs.Places.{Place, label_at_start, places, label_at}
use Rattle.herm_instructions.proofs.PlacesOfCode.{instruction-place, listed-label}
use Rattle.herm_translated.specs.Departures.{Departure, edge_length}
use Rattle.herm_translated.specs.CodeBlocks.{CodeBlock}
use Rattle.herm_translated.specs.Layout.{edges_at, exit_of, block_length}
use Rattle.herm_translated.specs.BlockLabels.{label_with, comes_first, comes_again, block_labels, labels_from}
use Rattle.herm_translated.specs.laws.LayoutLaws.{module_of, start, IsInBlock}
use Rattle.herm_translated.specs.laws.LabelsOfBlocks.{AreBlockLabels, BlocksAreLabelled}
use Rattle.herm_translated.proofs.Addresses.{edge-behind, edge-within, code-block}
use Rattle.herm_translated.proofs.ListedLabels.{none-below, within-rise, labels-rise, listed-in_block, listed-first, listed-within, listed-edges}
use Rattle.herm_translated.proofs.EdgeLabels.{listed-edge, listed-along}
use Rattle.herm_translated.proofs.Joined.{rest-behind}

-- where a label is listed for an instruction, it is the label there
pub label-where_listed : (types : TypeTable) (constants : List Literal) (m : CodeModule) (n : ℕ) (i : Instruction) (l : Label) → slice_get m.code n ≡ Some i → listed_at m.labels n ≡ Some l → label_at types constants m n ≡ Some l
label-where_listed types constants m n i l e listed =
    let r = instruction-place types constants m.variables m.labels m.code (Some label_at_start) 0 m.landings n i e in
    let q = r.2 in
    let at : r.0.index ≡ n = omega (arith, q) in
    ap (option_and_then (λ (p : Place). p.label)) r.1
    ∙ listed-label types constants m.variables m.labels m.code (Some label_at_start) 0 m.landings r.0 (got-IsIn (places types constants m) n r.0 r.1) l (ap (listed_at m.labels) at ∙ listed)

module _ (types : TypeTable) (variables : List ℕ) (constants : List Literal) (entry : Departure) (blocks : List CodeBlock) where
  abbrev labels : List ListedLabel
  labels = labels_from types variables constants (comes_first entry blocks) (comes_again blocks) 0 (edge_length entry) blocks

  all-rise : (low : ℕ) → low ≡ edge_length entry → (n : ℕ) → n < low → listed_at labels n ≡ None
  all-rise low e n h = none-below (edge_length entry) (edge_length entry + total (block_length types variables constants) blocks) labels (labels-rise types variables constants (comes_first entry blocks) (comes_again blocks) 0 (edge_length entry) blocks) n (subst (λ x. n < x) e h)

  pub in-block : (n i k : ℕ) (b : CodeBlock) → IsInBlock types variables constants entry blocks n i k b → listed_at labels n ≡ listed_at (block_labels types variables constants (start types variables constants entry blocks i) (comes_first entry blocks i) (comes_again blocks i) b) n
  in-block n i k b h =
      listed-in_block types variables constants (comes_first entry blocks) (comes_again blocks) 0 (edge_length entry) blocks i k b n h.0 h.1 h.2
      ∙ ap (λ y. listed_at (block_labels types variables constants (start types variables constants entry blocks i) (comes_first entry blocks y) (comes_again blocks y) b) n) (omega arith)

  at-first : (i : ℕ) (b : CodeBlock) → slice_get blocks i ≡ Some b → IsInBlock types variables constants entry blocks (start types variables constants entry blocks i) i 0 b
  at-first i b e = (e, omega arith, omega arith)

  first-listed : (i : ℕ) (b : CodeBlock) → slice_get blocks i ≡ Some b → listed_at labels (start types variables constants entry blocks i) ≡ cond (comes_first entry blocks i) (Some (label_with b.facts b.slots)) None
  first-listed i b e =
      in-block (start types variables constants entry blocks i) i 0 b (at-first i b e) ∙ listed-first types variables constants (start types variables constants entry blocks i) (comes_first entry blocks i) (comes_again blocks i) b

  -- where an edge leads there its label is that of its node
  pub first-led : (i : ℕ) (b : CodeBlock) → slice_get blocks i ≡ Some b → comes_first entry blocks i ≡ true → label_at types constants (module_of types variables constants entry blocks) (start types variables constants entry blocks i) ≡ Some (label_with b.facts b.slots)
  first-led i b e led =
      label-where_listed types constants (module_of types variables constants entry blocks) (start types variables constants entry blocks i) Step (label_with b.facts b.slots) (code-block types variables constants entry blocks (start types variables constants entry blocks i) i 0 b (at-first i b e))
      (first-listed i b e ∙ ap (λ t. cond t (Some (label_with b.facts b.slots)) None) led)

  -- an index on an edge is in the block
  on-edge : (i j k : ℕ) (b : CodeBlock) (d : Departure) → slice_get blocks i ≡ Some b → slice_get b.departures j ≡ Some d → Differ (map (λ (e : Departure). e.outcome) b.departures) → k < edge_length d → (n : ℕ) → n ≡ exit_of types variables constants (start types variables constants entry blocks i) b d.outcome + k
      → listed_at labels n ≡ listed_at (block_labels types variables constants (start types variables constants entry blocks i) (comes_first entry blocks i) (comes_again blocks i) b) n
  on-edge i j k b d at-i at-j differ h n m =
      let s = start types variables constants entry blocks i in
      let at = edges_at types variables constants s b in
      let low = edge-behind at b.departures d.outcome in
      let high = edge-within at b.departures j d at-j differ in
      let g = rest-behind s n (omega (arith, low, m)) in
      let q = g.1 in
      in-block n i g.0 b (at-i, omega (arith, high, q, h, m), q)

  pub blocks-labelled : AreBlockLabels types variables constants entry blocks
  blocks-labelled = record {
    rise = within-rise (edge_length entry) (edge_length entry + total (block_length types variables constants) blocks) labels (labels-rise types variables constants (comes_first entry blocks) (comes_again blocks) 0 (edge_length entry) blocks);
    entry_none = λ n h. all-rise (edge_length entry) refl n h;
    first = first-listed;
    within = λ n i k b h low high. in-block n i k b h ∙ listed-within types variables constants (start types variables constants entry blocks i) (comes_first entry blocks i) (comes_again blocks i) b n (let q = h.2 in omega (arith, q, low)) (let q = h.2 in omega (arith, q, high));
    edges = λ i j b d at-i at-j differ.
        on-edge i j 0 b d at-i at-j differ (omega arith) (exit_of types variables constants (start types variables constants entry blocks i) b d.outcome) (omega arith)
        ∙ listed-edges types variables constants (start types variables constants entry blocks i) (comes_first entry blocks i) (comes_again blocks i) b (exit_of types variables constants (start types variables constants entry blocks i) b d.outcome) (edge-behind (edges_at types variables constants (start types variables constants entry blocks i) b) b.departures d.outcome)
        ∙ listed-edge types variables b (edges_at types variables constants (start types variables constants entry blocks i) b) b.departures j d (exit_of types variables constants (start types variables constants entry blocks i) b d.outcome) at-j differ refl;
    along = λ i j k b d at-i at-j differ low high.
        on-edge i j k b d at-i at-j differ high (exit_of types variables constants (start types variables constants entry blocks i) b d.outcome + k) refl
        ∙ listed-edges types variables constants (start types variables constants entry blocks i) (comes_first entry blocks i) (comes_again blocks i) b (exit_of types variables constants (start types variables constants entry blocks i) b d.outcome + k)
        (let l = edge-behind (edges_at types variables constants (start types variables constants entry blocks i) b) b.departures d.outcome in omega (arith, l))
        ∙ listed-along types variables b (edges_at types variables constants (start types variables constants entry blocks i) b) b.departures j d (exit_of types variables constants (start types variables constants entry blocks i) b d.outcome + k) k at-j differ low high refl;
  }

pub blocks-are_labelled : BlocksAreLabelled
blocks-are_labelled = blocks-labelled
