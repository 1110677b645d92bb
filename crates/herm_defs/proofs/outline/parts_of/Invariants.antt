use Rattle.std.proofs.Common.{◌≡◌, map, take}
use Rattle.herm_syntax.specs.View.{field_view}
use Rattle.herm_meaning.specs.Walks.{place_of}
use Rattle.herm_defs.proofs.outline.parts_of.Given as goal

abbrev pub invariant-loop-field : goal.invariant-loop-field
invariant-loop-field l = record {
  types : map (λ p. p.of.0) l.parts.items ≡ map (λ f. place_of l.types f.1) (map field_view (take l.field-index l.fields));
  names : map (λ p. p.name) l.parts.items ≡ map (λ f. f.0) (map field_view (take l.field-index l.fields));
}
