-- What a process holds at places with types is among the kinds of its cells.
use Rattle.std.proofs.Common.{◌⊎◌, inl, inr, ℕ, List, [], ◌∷◌, ◌++◌, slice_get, ap}
use Rattle.herm_model.specs.Lists.{IsIn}
use Rattle.herm_model.specs.Types.{TypeTable}
use Rattle.herm_model.specs.Values.{Name, Kind, Cell, cell, Parts, no_parts, gap, part}
use Rattle.herm_model.proofs.Lists.{in-append_left, in-append_right, in-append_cases, in-flat_map, in-flat_map_from}
use Rattle.herm_journal.specs.PartTypes.{PartTypes, each, all_of, part_types_at}
use Rattle.herm_system.specs.Machines.{Held, Machine}
use Rattle.herm_system.specs.Kinds.{kinds_of, kinds_in, kinds_by, typed_of, typed_in, typed_held}
use Rattle.herm_sound.specs.Standing.{typed_places}
use Rattle.herm_sound.proofs.TypedCells.{in-list_of}

either-kind : {A B : Type 0} (k : Kind) (xs ys : List Kind) → A ⊎ B → (A → IsIn k xs) → (B → IsIn k ys) → IsIn k (xs ++ ys)
either-kind k xs ys (inl a) f g = in-append_left k xs ys (f a)
either-kind k xs ys (inr b) f g = in-append_right k xs ys (g b)

mutual
  kinds-typed : (types : TypeTable) (u : ℕ) (c : Cell Name) (t : ℕ) (k : Kind) → IsIn (t, k) (typed_of types u c) → IsIn k (kinds_of c)
  kinds-typed types u (cell n j ps) t k (inl e) = inl (ap (λ (x : ℕ × Kind). x.1) e)
  kinds-typed types u (cell n j ps) t k (inr h) = inr (kinds-typed_in types (part_types_at (slice_get types u) j) ps t k h)

  kinds-typed_in : (types : TypeTable) (us : PartTypes) (ps : Parts Name) (t : ℕ) (k : Kind) → IsIn (t, k) (typed_in types us ps) → IsIn k (kinds_in ps)
  kinds-typed_in types (each []) no_parts t k h = absurd h
  kinds-typed_in types (each []) (gap ps) t k h = absurd h
  kinds-typed_in types (each []) (part c ps) t k h = absurd h
  kinds-typed_in types (each (u ∷ us)) no_parts t k h = absurd h
  kinds-typed_in types (each (u ∷ us)) (gap ps) t k h = kinds-typed_in types (each us) ps t k h
  kinds-typed_in types (each (u ∷ us)) (part c ps) t k h =
      either-kind k (kinds_of c) (kinds_in ps) (in-append_cases (t, k) (typed_of types u c) (typed_in types (each us) ps) h) (kinds-typed types u c t k) (kinds-typed_in types (each us) ps t k)
  kinds-typed_in types (all_of u) no_parts t k h = absurd h
  kinds-typed_in types (all_of u) (gap ps) t k h = kinds-typed_in types (all_of u) ps t k h
  kinds-typed_in types (all_of u) (part c ps) t k h =
      either-kind k (kinds_of c) (kinds_in ps) (in-append_cases (t, k) (typed_of types u c) (typed_in types (all_of u) ps) h) (kinds-typed types u c t k) (kinds-typed_in types (all_of u) ps t k)

pub held-kinds : {P : Type 0} (machine : Machine Name P) (x : P) (t : ℕ) (k : Kind) → IsIn (t, k) (typed_places machine x) → IsIn k (kinds_by machine x)
held-kinds machine x t k h =
    let v = in-flat_map_from (typed_held machine.types) (t, k) (machine.held x) h in
    let u = in-list_of (λ u. typed_of machine.types u (v.0).value) (t, k) (v.0).place_type v.2 in
    in-flat_map (λ (h : Held Name). kinds_of h.value) v.0 k (machine.held x) v.1 (kinds-typed machine.types u.0 (v.0).value t k u.2)
