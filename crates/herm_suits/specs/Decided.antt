-- Tests of which values a type has. A lemma says that they decide it.
use Rattle.std.specs.Prelude.{ℕ, List, [], ◌∷◌, map, filter, flat_map, Bool, true, false, ◌&&◌, nat_eq, Option, slice_get}
use Rattle.herm_model.specs.Lists.{list_of, any_pass}
use Rattle.herm_model.specs.Types.{Shape, fields, callmessage, Parameter, Raised, TypeTable}
use Rattle.herm_model.specs.Values.{Cell, cell, Parts, no_parts, gap, part}
use Rattle.herm_model.specs.Typed.{Degree, whole, partly, Content, a_value, nothing, Layout, exactly, many, unfit, parameter_content, layout, layout_at, is_bounded, is_bounded_at}
use Rattle.herm_model.specs.Calls.{is_returned}
use Rattle.herm_journal.specs.Actions.{values, raised, gone}
use Rattle.herm_journal.specs.Messages.{CellReply, types_back, types_kept, raises_for}

abbrev pub may_be_empty : Content → Bool
may_be_empty (a_value whole u) = false
may_be_empty (a_value partly u) = true
may_be_empty nothing = true

-- the cell is a value of the type to this degree, and the parts are as the layout says
abbrev mutual
  pub is_of : {N : Type 0} → Degree → TypeTable → ℕ → Cell N → Bool
  is_of d table t (cell n k ps) = fits table (layout_at d table t k) ps && is_bounded_at table t ps

  pub fits : {N : Type 0} → TypeTable → Layout → Parts N → Bool
  fits table (exactly []) no_parts = true
  fits table (exactly []) (gap ps) = false
  fits table (exactly []) (part c ps) = false
  fits table (exactly (x ∷ xs)) no_parts = false
  fits table (exactly (x ∷ xs)) (gap ps) = may_be_empty x && fits table (exactly xs) ps
  fits table (exactly (a_value d u ∷ xs)) (part c ps) = is_of d table u c && fits table (exactly xs) ps
  fits table (exactly (nothing ∷ xs)) (part c ps) = false
  fits table (many u) no_parts = true
  fits table (many u) (gap ps) = false
  fits table (many u) (part c ps) = is_of whole table u c && fits table (many u) ps
  fits table unfit ps = false

-- the cell is a value of a type of this shape
abbrev pub is_shaped : {N : Type 0} → Degree → TypeTable → Shape → Cell N → Bool
is_shaped d table s (cell n k ps) = fits table (layout d s k) ps && is_bounded s ps

-- what may stand at the places of a record and of a callmessage
abbrev pub contents : Degree → Shape → List Content
contents d (fields ts) = map (a_value d) ts
contents d (callmessage ps raises) = map (λ p. parameter_content d p.mode p.content) ps
contents d s = []

-- each is a full value of its type
abbrev pub are_full : {N : Type 0} → TypeTable → List ℕ → List (Cell N) → Bool
are_full types [] [] = true
are_full types [] (c ∷ cs) = false
are_full types (t ∷ ts) [] = false
are_full types (t ∷ ts) (c ∷ cs) = is_of whole types t c && are_full types ts cs

-- the types of the parameters that come back, and of those at some places
abbrev pub returned_types : List Parameter → List ℕ
returned_types parameters = map (λ (p : Parameter). p.content) (filter (λ (p : Parameter). is_returned p.mode) parameters)

abbrev pub types_at : List Parameter → List ℕ → List ℕ
types_at parameters places = flat_map (λ i. list_of (λ (p : Parameter). p.content ∷ []) (slice_get parameters i)) places

-- the exception is declared
abbrev pub is_declared : List Raised → ℕ → Bool
is_declared raises e = any_pass (λ (r : Raised). nat_eq r.exception e) raises

-- the reply is one to a call of this type
abbrev pub is_reply : {N : Type 0} → TypeTable → (call : Option ℕ) → CellReply N → Bool
is_reply types call (values cs) = are_full types (types_back types call) cs
is_reply types call (raised e cs) = is_declared (raises_for types call) e && are_full types (types_kept types call e) cs
is_reply types call gone = true
