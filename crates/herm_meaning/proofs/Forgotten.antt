-- A table and the same without keys, declared facts and kept parameters: depth, paths, what is reached and what is copyable are the same.
use Rattle.std.proofs.Common.{◌≡◌, ℕ, zero, suc, List, [], ◌∷◌, ◌++◌, map, flat_map, slice_get, Bool, false, Option, Some, None, option_map, option_and_then, is_some, refl, sym, ◌∙◌, ap, ap₂, subst}
use Rattle.herm_model.specs.Lists.{IsIn, all_pass, map_or, list_of}
use Rattle.herm_model.specs.Types.{Raised, Shape, boolean, integer, text, polymorph, names, fields, cases, rows, inport, outport, callmessage, TypeTable, named_types, is_within_depth, all_parts, full_parts, part_paths_within}
use Rattle.herm_model.specs.Copyable.{is_plain, is_composed, IsCopyable, plain, composed}
use Rattle.herm_model.specs.TypedExpressions.{is_scalar_shape}
use Rattle.herm_model.specs.WellFormedTables.{Reaches, at_once, further, field_type, field_below, IsType}
use Rattle.herm_model.proofs.Lists.{slice_get-map}
use Rattle.herm_model.proofs.Options.{map-some, is_some-map}

-- without what it keeps
abbrev pub unkept : Raised → Raised
unkept r = record { exception = r.exception; kept = [] }

-- the shape without its key, its declared facts and its kept parameters
abbrev pub bare : Shape → Shape
bare boolean = boolean
bare integer = integer
bare text = text
bare polymorph = polymorph
bare (names n) = names n
bare (fields ts) = fields ts
bare (cases ts) = cases ts
bare (rows row key) = rows row []
bare (inport message declared) = inport message []
bare (outport port) = outport port
bare (callmessage ps rs) = callmessage ps (map unkept rs)

pub bare-named : (s : Shape) → named_types (bare s) ≡ named_types s
bare-named boolean = refl
bare-named integer = refl
bare-named text = refl
bare-named polymorph = refl
bare-named (names n) = refl
bare-named (fields ts) = refl
bare-named (cases ts) = refl
bare-named (rows row key) = refl
bare-named (inport message declared) = refl
bare-named (outport port) = refl
bare-named (callmessage ps rs) = refl

pub bare-all : (s : Shape) → all_parts (bare s) ≡ all_parts s
bare-all boolean = refl
bare-all integer = refl
bare-all text = refl
bare-all polymorph = refl
bare-all (names n) = refl
bare-all (fields ts) = refl
bare-all (cases ts) = refl
bare-all (rows row key) = refl
bare-all (inport message declared) = refl
bare-all (outport port) = refl
bare-all (callmessage ps rs) = refl

pub bare-full : (s : Shape) → full_parts (bare s) ≡ full_parts s
bare-full boolean = refl
bare-full integer = refl
bare-full text = refl
bare-full polymorph = refl
bare-full (names n) = refl
bare-full (fields ts) = refl
bare-full (cases ts) = refl
bare-full (rows row key) = refl
bare-full (inport message declared) = refl
bare-full (outport port) = refl
bare-full (callmessage ps rs) = refl

pub bare-field : (s : Shape) (i : ℕ) → field_type (bare s) i ≡ field_type s i
bare-field boolean i = refl
bare-field integer i = refl
bare-field text i = refl
bare-field polymorph i = refl
bare-field (names n) i = refl
bare-field (fields ts) i = refl
bare-field (cases ts) i = refl
bare-field (rows row key) i = refl
bare-field (inport message declared) i = refl
bare-field (outport port) i = refl
bare-field (callmessage ps rs) i = refl

bare-plain : (s : Shape) → is_plain (bare s) ≡ is_plain s
bare-plain boolean = refl
bare-plain integer = refl
bare-plain text = refl
bare-plain polymorph = refl
bare-plain (names n) = refl
bare-plain (fields ts) = refl
bare-plain (cases ts) = refl
bare-plain (rows row key) = refl
bare-plain (inport message declared) = refl
bare-plain (outport port) = refl
bare-plain (callmessage ps rs) = refl

bare-composed : (s : Shape) → is_composed (bare s) ≡ is_composed s
bare-composed boolean = refl
bare-composed integer = refl
bare-composed text = refl
bare-composed polymorph = refl
bare-composed (names n) = refl
bare-composed (fields ts) = refl
bare-composed (cases ts) = refl
bare-composed (rows row key) = refl
bare-composed (inport message declared) = refl
bare-composed (outport port) = refl
bare-composed (callmessage ps rs) = refl

pub bare-scalar : (s : Shape) → is_scalar_shape (bare s) ≡ is_scalar_shape s
bare-scalar boolean = refl
bare-scalar integer = refl
bare-scalar text = refl
bare-scalar polymorph = refl
bare-scalar (names n) = refl
bare-scalar (fields ts) = refl
bare-scalar (cases ts) = refl
bare-scalar (rows row key) = refl
bare-scalar (inport message declared) = refl
bare-scalar (outport port) = refl
bare-scalar (callmessage ps rs) = refl

pub fields-bare : (s : Shape) (ts : List ℕ) → bare s ≡ fields ts → s ≡ fields ts
fields-bare (fields us) ts e = e
fields-bare boolean ts e = let k : ⊥ = cc e in absurd k
fields-bare integer ts e = let k : ⊥ = cc e in absurd k
fields-bare text ts e = let k : ⊥ = cc e in absurd k
fields-bare polymorph ts e = let k : ⊥ = cc e in absurd k
fields-bare (names n) ts e = let k : ⊥ = cc e in absurd k
fields-bare (cases us) ts e = let k : ⊥ = cc e in absurd k
fields-bare (rows row key) ts e = let k : ⊥ = cc e in absurd k
fields-bare (inport message declared) ts e = let k : ⊥ = cc e in absurd k
fields-bare (outport port) ts e = let k : ⊥ = cc e in absurd k
fields-bare (callmessage ps rs) ts e = let k : ⊥ = cc e in absurd k

pub cases-bare : (s : Shape) (ts : List ℕ) → bare s ≡ cases ts → s ≡ cases ts
cases-bare (cases us) ts e = e
cases-bare boolean ts e = let k : ⊥ = cc e in absurd k
cases-bare integer ts e = let k : ⊥ = cc e in absurd k
cases-bare text ts e = let k : ⊥ = cc e in absurd k
cases-bare polymorph ts e = let k : ⊥ = cc e in absurd k
cases-bare (names n) ts e = let k : ⊥ = cc e in absurd k
cases-bare (fields us) ts e = let k : ⊥ = cc e in absurd k
cases-bare (rows row key) ts e = let k : ⊥ = cc e in absurd k
cases-bare (inport message declared) ts e = let k : ⊥ = cc e in absurd k
cases-bare (outport port) ts e = let k : ⊥ = cc e in absurd k
cases-bare (callmessage ps rs) ts e = let k : ⊥ = cc e in absurd k

every-same : (f g : ℕ → Bool) (ts : List ℕ) → ((t : ℕ) → f t ≡ g t) → all_pass f ts ≡ all_pass g ts
every-same f g [] same = refl
every-same f g (t ∷ ts) same = rw (same t, every-same f g ts same) refl

flat-same : {X Y : Type 0} (f g : X → List Y) (xs : List X) → ((x : X) → f x ≡ g x) → flat_map f xs ≡ flat_map g xs
flat-same f g [] e = refl
flat-same f g (x ∷ xs) e = ap₂ ◌++◌ (e x) (flat-same f g xs e)

module _ (table : TypeTable) where
  -- the shape at a number in the two
  pub bare-at : (t : ℕ) → slice_get (map bare table) t ≡ option_map bare (slice_get table t)
  bare-at t = slice_get-map bare table t

  pub bare-of : (t : ℕ) (s : Shape) → slice_get table t ≡ Some s → slice_get (map bare table) t ≡ Some (bare s)
  bare-of t s e = bare-at t ∙ ap (option_map bare) e

  pub of-bare : (t : ℕ) (s : Shape) → slice_get (map bare table) t ≡ Some s → (r : Shape) × (slice_get table t ≡ Some r) × (bare r ≡ s)
  of-bare t s e = map-some bare (slice_get table t) s (sym (bare-at t) ∙ e)

  pub type-bare : (t : ℕ) → IsType (map bare table) t → IsType table t
  type-bare t h = sym (ap is_some (bare-at t) ∙ is_some-map bare (slice_get table t)) ∙ h

  pub bare-type : (t : ℕ) → IsType table t → IsType (map bare table) t
  bare-type t h = ap is_some (bare-at t) ∙ (is_some-map bare (slice_get table t) ∙ h)

  named-bare : (t : ℕ) → list_of named_types (slice_get (map bare table) t) ≡ list_of named_types (slice_get table t)
  named-bare t = ap (list_of named_types) (bare-at t) ∙ by (slice_get table t)
    where
      by : (o : Option Shape) → list_of named_types (option_map bare o) ≡ list_of named_types o
      by None = refl
      by (Some s) = bare-named s

  pub reaches-bare : (t u : ℕ) → Reaches table t u → Reaches (map bare table) t u
  reaches-bare t u (at_once t' u' i) = at_once t u (subst (IsIn u) (sym (named-bare t)) i)
  reaches-bare t u (further t' w u' i r) = further t w u (subst (IsIn w) (sym (named-bare t)) i) (reaches-bare w u r)

  pub reached-bare : (t u : ℕ) → Reaches (map bare table) t u → Reaches table t u
  reached-bare t u (at_once t' u' i) = at_once t u (subst (IsIn u) (named-bare t) i)
  reached-bare t u (further t' w u' i r) = further t w u (subst (IsIn w) (named-bare t) i) (reached-bare w u r)

  pub within-bare : (n t : ℕ) → is_within_depth n (map bare table) t ≡ is_within_depth n table t
  within-bare zero t = refl
  within-bare (suc n) t = ap (map_or false (λ s. all_pass (is_within_depth n (map bare table)) (named_types s))) (bare-at t) ∙ by (slice_get table t) (within-bare n)
    where
      by : (o : Option Shape) → ((u : ℕ) → is_within_depth n (map bare table) u ≡ is_within_depth n table u) → map_or false (λ s. all_pass (is_within_depth n (map bare table)) (named_types s)) (option_map bare o) ≡ map_or false (λ s. all_pass (is_within_depth n table) (named_types s)) o
      by None again = refl
      by (Some s) again = ap (all_pass (is_within_depth n (map bare table))) (bare-named s) ∙ every-same (is_within_depth n (map bare table)) (is_within_depth n table) (named_types s) again

  pub steps-bare : (parts : Shape → List (ℕ × ℕ)) → ((s : Shape) → parts (bare s) ≡ parts s) → (n t : ℕ) → part_paths_within parts n (map bare table) t ≡ part_paths_within parts n table t
  steps-bare parts same zero t = refl
  steps-bare parts same (suc n) t = ap (map_or [] (λ s. [] ∷ flat_map (λ (part : ℕ × ℕ). map (part.0 ∷◌) (part_paths_within parts n (map bare table) part.1)) (parts s))) (bare-at t) ∙ by (slice_get table t) (steps-bare parts same n)
    where
      by : (o : Option Shape) → ((u : ℕ) → part_paths_within parts n (map bare table) u ≡ part_paths_within parts n table u) → map_or [] (λ s. [] ∷ flat_map (λ (part : ℕ × ℕ). map (part.0 ∷◌) (part_paths_within parts n (map bare table) part.1)) (parts s)) (option_map bare o) ≡ map_or [] (λ s. [] ∷ flat_map (λ (part : ℕ × ℕ). map (part.0 ∷◌) (part_paths_within parts n table part.1)) (parts s)) o
      by None again = refl
      by (Some s) again = ap ([] ∷◌) (ap (flat_map (λ (part : ℕ × ℕ). map (part.0 ∷◌) (part_paths_within parts n (map bare table) part.1))) (same s) ∙ flat-same (λ (part : ℕ × ℕ). map (part.0 ∷◌) (part_paths_within parts n (map bare table) part.1)) (λ (part : ℕ × ℕ). map (part.0 ∷◌) (part_paths_within parts n table part.1)) (parts s) (λ part. ap (map (part.0 ∷◌)) (again part.1)))

  pub copyable-bare : (t : ℕ) → IsCopyable (map bare table) t → IsCopyable table t
  copyable-bare t (plain t' s e p) =
      let r = of-bare t s e in
      plain t r.0 r.1 (sym (bare-plain r.0) ∙ (ap is_plain r.2 ∙ p))
  copyable-bare t (composed t' s e p each) =
      let r = of-bare t s e in
      composed t r.0 r.1 (sym (bare-composed r.0) ∙ (ap is_composed r.2 ∙ p)) (λ u i. copyable-bare u (each u (subst (IsIn u) (sym (bare-named r.0) ∙ ap named_types r.2) i)))

  pub bare-copyable : (t : ℕ) → IsCopyable table t → IsCopyable (map bare table) t
  bare-copyable t (plain t' s e p) = plain t (bare s) (bare-of t s e) (bare-plain s ∙ p)
  bare-copyable t (composed t' s e p each) = composed t (bare s) (bare-of t s e) (bare-composed s ∙ p) (λ u i. bare-copyable u (each u (subst (IsIn u) (bare-named s) i)))

  field-bare : (t i : ℕ) → option_and_then (λ s. field_type s i) (slice_get (map bare table) t) ≡ option_and_then (λ s. field_type s i) (slice_get table t)
  field-bare t i = ap (option_and_then (λ s. field_type s i)) (bare-at t) ∙ by (slice_get table t)
    where
      by : (o : Option Shape) → option_and_then (λ s. field_type s i) (option_map bare o) ≡ option_and_then (λ s. field_type s i) o
      by None = refl
      by (Some s) = bare-field s i

  pub below-bare : (o : Option ℕ) (p : List ℕ) → field_below (map bare table) o p ≡ field_below table o p
  below-bare o [] = refl
  below-bare None (i ∷ p) = below-bare None p
  below-bare (Some t) (i ∷ p) = ap (λ x. field_below (map bare table) x p) (field-bare t i) ∙ below-bare (option_and_then (λ s. field_type s i) (slice_get table t)) p
