-- The types of the parts of copyable shapes, and tests of shapes.
use Rattle.std.specs.Prelude.{ℕ, List, [], Bool, false, ◌||◌, not, cond, nat_lt, map}
use Rattle.std.specs.List.{list_any}
use Rattle.herm_model.specs.Types.{Shape, fields, cases, callmessage, named_types}
use Rattle.herm_model.specs.Copyable.{is_composed}

abbrev pub composed_types : Shape → List ℕ
composed_types s = cond (is_composed s) (named_types s) []

-- the types of fields, components and parameters
abbrev pub path_types : Shape → List ℕ
path_types (fields ts) = ts
path_types (cases ts) = ts
path_types (callmessage ps raises) = map (λ p. p.content) ps
path_types s = []

-- some of these numbers is beyond those of types
abbrev pub names_beyond : ℕ → List ℕ → Bool
names_beyond count ts = list_any (λ t. not (nat_lt t count)) ts

-- the shape raises an exception beyond those that there are
abbrev pub raises_beyond : ℕ → Shape → Bool
raises_beyond exceptions (callmessage ps raises) = list_any (λ r. not (nat_lt r.exception exceptions)) raises
raises_beyond exceptions s = false

-- a name in the shape is unknown, where there are so many types and exceptions
abbrev pub has_unknown : ℕ → ℕ → Shape → Bool
has_unknown count exceptions s = names_beyond count (named_types s) || raises_beyond exceptions s
