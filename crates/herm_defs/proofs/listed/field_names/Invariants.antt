use Rattle.std.proofs.Common.{◌≡◌, map, take}
use Rattle.herm_defs.proofs.listed.field_names.Given as goal

abbrev pub invariant-loop-field : goal.invariant-loop-field
invariant-loop-field l = l.words.items ≡ map (λ f. f.name.text) (take l.field-index l.fields)
