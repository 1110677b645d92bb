-- Places of names in parts, and paths of names step by step.
use Rattle.std.proofs.Common.{◌≡◌, ◌≤◌, ◌<◌, ℕ, zero, suc, ◌+◌, List, [], ◌∷◌, ◌++◌, map, drop, length, slice_get, get_or, Bool, true, false, cond, not, Option, Some, None, option_map, refl, sym, ◌∙◌, ap, subst, arith, append_assoc, append-nil}
use Rattle.std.specs.Prelude.{nat_lt}
use Rattle.std.specs.Str.{bytes_eq}
use Rattle.std.specs.List.{position, position_or_len, prefix_len}
use Rattle.std.proofs.lemmas.Bool.{ltb-false, eqb-true}
use Rattle.std.specs.Prelude.{◌==◌}
use Rattle.std.proofs.lemmas.List.Sums.{prefix_len-le-length}
use Rattle.std.proofs.Math.Seq.{drop-cons}
use Rattle.herm_base.specs.declared.word.Name.{Name}
use Rattle.herm_model.specs.Lists.{map_or}
use Rattle.herm_model.specs.Types as types
use Rattle.herm_model.specs.WellFormedTables.{field_type}
use Rattle.herm_model.proofs.Options.{some-injective, none-not_some}
use Rattle.herm_syntax.specs.Trees.{Letters}
use Rattle.herm_syntax.specs.View.{name_view}
use Rattle.herm_meaning.specs.Names.{NamedTable}
use Rattle.herm_meaning.specs.Walks.{place_of, parts_of, Walked, ended, left_fields, met_unknown, further, walk, walk_fields}
use Rattle.herm_defs.specs.Steps.{step_from, end_of}

first-map : {X : Type 0} (f : X → Letters) (p : Letters → Bool) (xs : List X) → position_or_len p (map f xs) ≡ position_or_len (λ x. p (f x)) xs
first-map f p [] = refl
first-map f p (x ∷ xs) = rw (first-map f p xs) refl

pub place-some : {X : Type 0} (f : X → Letters) (xs : List X) (name : Letters) (i : ℕ) → Some i ≡ position (λ x. bytes_eq name (f x)) xs → i ≡ place_of (map f xs) name
place-some f xs name i e = by (nat_lt (position_or_len (λ x. bytes_eq name (f x)) xs) (length xs)) e ∙ sym (first-map f (bytes_eq name) xs)
  where
    by : (b : Bool) → Some i ≡ cond b (Some (position_or_len (λ x. bytes_eq name (f x)) xs)) None → i ≡ position_or_len (λ x. bytes_eq name (f x)) xs
    by true e' = some-injective e'
    by false e' = none-not_some (sym e')

pub place-none : {X : Type 0} (f : X → Letters) (xs : List X) (name : Letters) → None ≡ position (λ x. bytes_eq name (f x)) xs → length xs ≡ place_of (map f xs) name
place-none f xs name e = by (nat_lt (position_or_len (λ x. bytes_eq name (f x)) xs) (length xs)) refl e ∙ sym (first-map f (bytes_eq name) xs)
  where
    by : (b : Bool) → nat_lt (position_or_len (λ x. bytes_eq name (f x)) xs) (length xs) ≡ b → None ≡ cond b (Some (position_or_len (λ x. bytes_eq name (f x)) xs)) None → length xs ≡ position_or_len (λ x. bytes_eq name (f x)) xs
    by true t e' = none-not_some e'
    by false t e' = omega (arith, ltb-false _ _ t, prefix_len-le-length (λ x. not (bytes_eq name (f x))) xs)

map-self : (xs : List Letters) → map (λ x. x) xs ≡ xs
map-self [] = refl
map-self (x ∷ xs) = ap (x ∷◌) (map-self xs)

pub word-some : (xs : List Letters) (name : Letters) (i : ℕ) → Some i ≡ position (λ x. bytes_eq name x) xs → i ≡ place_of xs name
word-some xs name i e = place-some (λ x. x) xs name i e ∙ ap (λ ns. place_of ns name) (map-self xs)

pub word-none : (xs : List Letters) (name : Letters) → None ≡ position (λ x. bytes_eq name x) xs → length xs ≡ place_of xs name
word-none xs name e = place-none (λ x. x) xs name e ∙ ap (λ ns. place_of ns name) (map-self xs)

pub place-within : (names : List Letters) (name : Letters) → place_of names name ≤ length names
place-within names name = prefix_len-le-length (λ x. not (bytes_eq name x)) names

-- ---- paths

-- an end behind places that were passed
abbrev pub behind : List ℕ → Option (List ℕ × ℕ) → Option (List ℕ × ℕ)
behind ps e = option_map (λ e'. (ps ++ e'.0, e'.1)) e

end-further : (i : ℕ) (w : Walked) → end_of (further i w) ≡ behind (i ∷ []) (end_of w)
end-further i (ended ps t) = refl
end-further i left_fields = refl
end-further i met_unknown = refl

-- a path goes on by a step
pub one-step : (table : NamedTable) (t : ℕ) (name : Letters) (p : List Letters) → end_of (walk table t (name ∷ p)) ≡ map_or None (λ f. behind (f.0 ∷ []) (end_of (walk table f.1 p))) (step_from table t name)
one-step table t name p = by (slice_get table.shapes t)
  where
    by : (o : Option types.Shape) → end_of (map_or met_unknown (λ s. map_or left_fields (λ u. further (place_of (parts_of table t) name) (walk table u p)) (field_type s (place_of (parts_of table t) name))) o) ≡ map_or None (λ (f : ℕ × ℕ). behind (f.0 ∷ []) (end_of (walk table f.1 p))) (map_or None (λ s. option_map (λ u. (place_of (parts_of table t) name, u)) (field_type s (place_of (parts_of table t) name))) o)
    by None = refl
    by (Some s) = at (field_type s (place_of (parts_of table t) name))
      where
        at : (o : Option ℕ) → end_of (map_or left_fields (λ u. further (place_of (parts_of table t) name) (walk table u p)) o) ≡ map_or None (λ (f : ℕ × ℕ). behind (f.0 ∷ []) (end_of (walk table f.1 p))) (option_map (λ u. (place_of (parts_of table t) name, u)) o)
        at None = refl
        at (Some u) = end-further (place_of (parts_of table t) name) (walk table u p)

behind-nothing : (e : Option (List ℕ × ℕ)) → behind [] e ≡ e
behind-nothing None = refl
behind-nothing (Some e) = refl

behind-twice : (ps qs : List ℕ) (e : Option (List ℕ × ℕ)) → behind ps (behind qs e) ≡ behind (ps ++ qs) e
behind-twice ps qs None = refl
behind-twice ps qs (Some e) = ap (λ rs. Some (rs, e.1)) (sym (append_assoc ps qs e.0))

-- nothing was passed
pub walk-begins : (table : NamedTable) (t : ℕ) (path : List Name) → behind [] (end_of (walk table t (map name_view (drop 0 path)))) ≡ end_of (walk table t (map name_view path))
walk-begins table t path = behind-nothing (end_of (walk table t (map name_view path)))

-- the rest of a path from a name that is read
rest-of : (path : List Name) (i : ℕ) (o : Name) → i < length path → o ≡ get_or path i o → map name_view (drop i path) ≡ o.text ∷ map name_view (drop (i + 1) path)
rest-of path i o l e = ap (map name_view) (drop-cons path i o l) ∙ (ap (λ (n : Name). n.text ∷ map name_view (drop (suc i) path)) (sym e) ∙ ap (λ k. o.text ∷ map name_view (drop k path)) (let one : suc i ≡ i + 1 = omega arith in one))

-- the name leads to no field
pub walk-stops : (table : NamedTable) (t : ℕ) (path : List Name) (i : ℕ) (o : Name) (ps : List ℕ) (whole : Option (List ℕ × ℕ)) → i < length path → o ≡ get_or path i o → step_from table t o.text ≡ None → behind ps (end_of (walk table t (map name_view (drop i path)))) ≡ whole → None ≡ whole
walk-stops table t path i o ps whole l e stop before =
    sym (ap (λ p. behind ps (end_of (walk table t p))) (rest-of path i o l e) ∙ ap (behind ps) (one-step table t o.text (map name_view (drop (i + 1) path)) ∙ ap (map_or None (λ (f : ℕ × ℕ). behind (f.0 ∷ []) (end_of (walk table f.1 (map name_view (drop (i + 1) path)))))) stop)) ∙ before

-- the name leads to a field
pub walk-goes : (table : NamedTable) (t : ℕ) (path : List Name) (i : ℕ) (o : Name) (ps : List ℕ) (place u : ℕ) (whole : Option (List ℕ × ℕ)) → i < length path → o ≡ get_or path i o → step_from table t o.text ≡ Some (place, u) → behind ps (end_of (walk table t (map name_view (drop i path)))) ≡ whole → behind (ps ++ place ∷ []) (end_of (walk table u (map name_view (drop (i + 1) path)))) ≡ whole
walk-goes table t path i o ps place u whole l e step before =
    sym (behind-twice ps (place ∷ []) (end_of (walk table u (map name_view (drop (i + 1) path)))))
    ∙ (sym (ap (λ p. behind ps (end_of (walk table t p))) (rest-of path i o l e) ∙ ap (behind ps) (one-step table t o.text (map name_view (drop (i + 1) path)) ∙ ap (map_or None (λ (f : ℕ × ℕ). behind (f.0 ∷ []) (end_of (walk table f.1 (map name_view (drop (i + 1) path)))))) step)) ∙ before)

dropped : (path : List Name) (i : ℕ) → length path ≤ i → drop i path ≡ []
dropped [] zero l = refl
dropped [] (suc i) l = refl
dropped (n ∷ path) zero l = absurd (omega (arith, l))
dropped (n ∷ path) (suc i) l = dropped path i (omega (arith, l))

-- all names were passed
pub walk-done : (table : NamedTable) (t : ℕ) (path : List Name) (i : ℕ) (ps : List ℕ) (whole : Option (List ℕ × ℕ)) → length path ≤ i → behind ps (end_of (walk table t (map name_view (drop i path)))) ≡ whole → Some (ps, t) ≡ whole
walk-done table t path i ps whole l before =
    ap (λ qs. Some (qs, t)) (sym (append-nil ps)) ∙ (ap (λ p. behind ps (end_of (walk table t (map name_view p)))) (sym (dropped path i l)) ∙ before)

-- ---- paths of one field at least

pub no-fields : (table : NamedTable) (t : ℕ) (path : List Name) → true ≡ (length path == 0) → None ≡ end_of (walk_fields table t (map name_view path))
no-fields table t [] e = refl
no-fields table t (n ∷ path) e = absurd (omega (arith, eqb-true (length (n ∷ path)) 0 (sym e)))

pub some-fields : (table : NamedTable) (t : ℕ) (path : List Name) (end : Option (List ℕ × ℕ)) → false ≡ (length path == 0) → end ≡ end_of (walk table t (map name_view path)) → end ≡ end_of (walk_fields table t (map name_view path))
some-fields table t [] end e h = absurd cc
some-fields table t (n ∷ path) end e h = h
