-- What is so with the keys of tables is so without them.
use Rattle.std.proofs.Common.{◌≡◌, ℕ, List, [], ◌∷◌, Bool, map, Option, Some, None, Result, Ok, Err, IfOk, OnOk, OnErr, option_map, refl, sym, ap, ◌∙◌}
use Rattle.std.specs.Prelude.{nat_lt}
use denote.Bor.{Bor}
use Rattle.herm_model.specs.Paths.{Path}
use Rattle.herm_model.specs.Values.{Cell, Parts, gap, part, part_at, inside, cell_at, read_at, set_at, put_at, clear_at, has_place, change_at}
use Rattle.herm_model.specs.CellNames.{forget, forget_in}
use Rattle.herm_model.proofs.Renaming.{part_at-rename, inside-rename, cell_at-rename, read_at-rename, set_at-rename, change_at-rename, size-rename}
use Rattle.herm_values.specs.Parts.{parts_from}
use Rattle.herm_values.specs.Keyed.{keyed_view, keyed_of}
use Rattle.herm_values.specs.View.{value_view}
use Rattle.herm_values.specs.declared.value.Value.{Value}
use Rattle.herm_values.proofs.Forgotten.{forgotten, views-keyed}
use Rattle.herm_places.specs.Held.{keyed_places, seen_places}

parts_forgotten : (os : List (Option (Cell (List ℕ)))) → forget_in (parts_from os) ≡ parts_from (map (option_map forget) os)
parts_forgotten [] = refl
parts_forgotten (None ∷ os) = ap gap (parts_forgotten os)
parts_forgotten (Some c ∷ os) = ap (part (forget c)) (parts_forgotten os)

pub places_seen : (vs : List (Option Value)) → forget_in (keyed_places vs) ≡ seen_places vs
places_seen vs = parts_forgotten (keyed_of vs) ∙ ap parts_from (views-keyed vs)

place_forgotten : (p : Path) (ps : Parts (List ℕ)) → has_place (forget_in ps) p ≡ has_place ps p
place_forgotten [] ps = refl
place_forgotten (i ∷ []) ps = ap (nat_lt i) (size-rename (λ n. tt) ps)
place_forgotten (i ∷ j ∷ p) ps =
    ap (λ o. has_place (inside o) (j ∷ p)) (part_at-rename (λ n. tt) i ps) ∙ ap (λ qs. has_place qs (j ∷ p)) (inside-rename (λ n. tt) (part_at i ps)) ∙ place_forgotten (j ∷ p) (inside (part_at i ps))

lent_forgotten : (o : Option (Bor Value)) → option_map (λ v. value_view v.now) o ≡ option_map forget (option_map (λ v. keyed_view v.now) o)
lent_forgotten None = refl
lent_forgotten (Some v) = ap Some (sym (forgotten v.now))

held_forgotten : (o : Option Value) → option_map value_view o ≡ option_map forget (option_map keyed_view o)
held_forgotten None = refl
held_forgotten (Some v) = ap Some (sym (forgotten v))

pub read_seen : (o : Option (Bor Value)) (p : Path) (vs : List (Option Value)) → option_map (λ v. keyed_view v.now) o ≡ read_at p (keyed_places vs) → option_map (λ v. value_view v.now) o ≡ read_at p (seen_places vs)
read_seen o p vs h = lent_forgotten o ∙ ap (option_map forget) h ∙ sym (read_at-rename (λ n. tt) p (keyed_places vs)) ∙ ap (read_at p) (places_seen vs)

pub cell_seen : (o : Option (Bor Value)) (p : Path) (vs : List (Option Value)) → option_map (λ v. keyed_view v.now) o ≡ cell_at p (keyed_places vs) → option_map (λ v. value_view v.now) o ≡ cell_at p (seen_places vs)
cell_seen o p vs h = lent_forgotten o ∙ ap (option_map forget) h ∙ sym (cell_at-rename (λ n. tt) p (keyed_places vs)) ∙ ap (cell_at p) (places_seen vs)

pub taken_seen : (o : Option Value) (p : Path) (vs : List (Option Value)) → option_map keyed_view o ≡ cell_at p (keyed_places vs) → option_map value_view o ≡ cell_at p (seen_places vs)
taken_seen o p vs h = held_forgotten o ∙ ap (option_map forget) h ∙ sym (cell_at-rename (λ n. tt) p (keyed_places vs)) ∙ ap (cell_at p) (places_seen vs)

set_seen : (p : Path) (o : Option (Cell (List ℕ))) (vs new : List (Option Value)) → keyed_places new ≡ set_at p o (keyed_places vs) → seen_places new ≡ set_at p (option_map forget o) (seen_places vs)
set_seen p o vs new h = sym (places_seen new) ∙ ap forget_in h ∙ set_at-rename (λ n. tt) p o (keyed_places vs) ∙ ap (set_at p (option_map forget o)) (places_seen vs)

pub cleared_seen : (p : Path) (vs new : List (Option Value)) → keyed_places new ≡ clear_at p (keyed_places vs) → seen_places new ≡ clear_at p (seen_places vs)
cleared_seen p vs new h = set_seen p None vs new h

pub put_seen : (p : Path) (v : Value) (vs new : List (Option Value)) → keyed_places new ≡ put_at p (keyed_view v) (keyed_places vs) → seen_places new ≡ put_at p (value_view v) (seen_places vs)
put_seen p v vs new h = set_seen p (Some (keyed_view v)) vs new h ∙ ap (λ c. put_at p c (seen_places vs)) (forgotten v)

pub exchanged_seen : (o : Option Value) (p : Path) (vs : List (Option Value)) → option_map keyed_view o ≡ read_at p (keyed_places vs) → option_map value_view o ≡ read_at p (seen_places vs)
exchanged_seen o p vs h = held_forgotten o ∙ ap (option_map forget) h ∙ sym (read_at-rename (λ n. tt) p (keyed_places vs)) ∙ ap (read_at p) (places_seen vs)

pub changed_seen : (p : Path) (v : Value) (vs new : List (Option Value)) → keyed_places new ≡ change_at p (λ d. keyed_view v) (keyed_places vs) → seen_places new ≡ change_at p (λ d. value_view v) (seen_places vs)
changed_seen p v vs new h =
    sym (places_seen new) ∙ ap forget_in h ∙ change_at-rename (λ n. tt) p (λ d. keyed_view v) (λ d. value_view v) (λ d. forgotten v) (keyed_places vs) ∙ ap (change_at p (λ d. value_view v)) (places_seen vs)

pub place_seen : (p : Path) (vs : List (Option Value)) → has_place (keyed_places vs) p ≡ has_place (seen_places vs) p
place_seen p vs = sym (place_forgotten p (keyed_places vs)) ∙ ap (λ ps. has_place ps p) (places_seen vs)

pub ruleset seen = (read_seen, cell_seen, taken_seen, cleared_seen, put_seen, place_seen)

pub place_told : (b : Bool) (p : Path) (vs : List (Option Value)) → b ≡ has_place (keyed_places vs) p → b ≡ has_place (seen_places vs) p
place_told b p vs h = h ∙ place_seen p vs

pub old_told : (r : Result (Option Value) Value) (p : Path) (vs : List (Option Value)) → IfOk r (λ o. option_map keyed_view o ≡ cell_at p (keyed_places vs)) → IfOk r (λ o. option_map value_view o ≡ cell_at p (seen_places vs))
old_told (Err w) p vs h = tt
old_told (Ok o) p vs h = taken_seen o p vs h

pub put_told : {X : Type 0} (r : Result X Value) (p : Path) (v : Value) (vs new : List (Option Value)) → OnOk r (keyed_places new ≡ put_at p (keyed_view v) (keyed_places vs)) → OnOk r (seen_places new ≡ put_at p (value_view v) (seen_places vs))
put_told (Err w) p v vs new h = tt
put_told (Ok o) p v vs new h = put_seen p v vs new h

pub kept_told : {X : Type 0} (r : Result X Value) (vs new : List (Option Value)) → OnErr r (keyed_places new ≡ keyed_places vs) → OnErr r (seen_places new ≡ seen_places vs)
kept_told (Err w) vs new h = sym (places_seen new) ∙ ap forget_in h ∙ places_seen vs
kept_told (Ok o) vs new h = tt

pub ruleset told = (read_seen, cell_seen, taken_seen, cleared_seen, place_told, old_told, put_told)
