-- The lines and labels of a module are those of its entry and of its blocks.
use Rattle.std.proofs.Common.{◌≡◌, ℕ, List, ◌++◌, map, get_or, Bool, sym, ap, ap₂, ◌∙◌}
use Rattle.std.proofs.lemmas.List.{map-append}
use Rattle.herm_model.specs.Types.{TypeTable}
use Rattle.herm_model.specs.Expressions.{Literal}
use Rattle.herm_translated.specs.Departures.{Departure, edge_length}
use Rattle.herm_translated.specs.CodeBlocks.{CodeBlock}
use Rattle.herm_translated.specs.Layout.{Line}
use Rattle.herm_fronts.specs.declared.departures.Starts.{Starts}
use Rattle.herm_fronts.specs.Blocks.{starts_view}
use Rattle.herm_fronts.specs.Lengths.{count_block, starts_from, end_from}
use Rattle.herm_codegen.specs.Emitted.{keyed_lines_from}
use Rattle.herm_codegen.specs.Modules.{keyed_start, entry_lines, all_lines}

pub starts_keyed : (types : TypeTable) (variables : List ℕ) (entry : Departure) (bs : List CodeBlock) (s : Starts) (first : ℕ) → first ≡ edge_length entry
    → s.at.items ≡ starts_from first (map (count_block types variables) bs) → s.end ≡ end_from first (map (count_block types variables) bs) → starts_view s ≡ keyed_start types variables entry bs
starts_keyed types variables entry bs s first e a b =
    ap₂ (λ xs k n. get_or xs n k) (a ∙ ap (λ k. starts_from k (map (count_block types variables) bs)) e) (b ∙ ap (λ k. end_from k (map (count_block types variables) bs)) e)

pub lines_joined : {X : Type 0} (f : Line → X) (types : TypeTable) (variables : List ℕ) (constants : List Literal) (start : ℕ → ℕ) (first : ℕ) (entry : Departure) (bs : List CodeBlock) (old new : List X)
    → start ≡ keyed_start types variables entry bs → first ≡ edge_length entry → old ≡ map f (entry_lines types variables start entry) → new ≡ old ++ map f (keyed_lines_from types variables constants start first bs)
    → new ≡ map f (all_lines types variables constants entry bs)
lines_joined f types variables constants start first entry bs old new s e o n =
    n ∙ (ap (λ xs. xs ++ map f (keyed_lines_from types variables constants start first bs)) o
    ∙ (sym (map-append f (entry_lines types variables start entry) (keyed_lines_from types variables constants start first bs))
    ∙ ap₂ (λ st k. map f (entry_lines types variables st entry ++ keyed_lines_from types variables constants st k bs)) s e))
