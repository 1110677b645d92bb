-- A row of a record type keeps the scalars of its key without what it holds beyond a full value.
use Rattle.std.proofs.Common.{◌≡◌, inl, inr, ℕ, zero, suc, ◌+◌, List, [], ◌∷◌, ◌++◌, Bool, true, false, cond, not, ◌||◌, Option, Some, None, refl, sym, ap, ap₂, subst, ◌∙◌, append_assoc, append-nil, slice_get, arith}
use Rattle.std.specs.Prelude.{⊤, IsTrue, nat_eq}
use borrow.Author.Tests.{eqb-true}
use Rattle.herm_model.specs.Lists.{IsIn, map_or, list_of}
use Rattle.herm_model.specs.Paths.{Path, are_apart}
use Rattle.herm_model.specs.Types.{TypeTable, Shape, boolean, integer, text, polymorph, names, fields, cases, rows, inport, outport, callmessage, Mode, by_in, by_inout, by_out, Parameter, type_at}
use Rattle.herm_model.specs.TypedExpressions.{is_scalar_shape}
use Rattle.herm_model.specs.Tables.{scalars_of, key_of}
use Rattle.herm_model.specs.Values.{Cell, Parts, part_at, inside, cell_at, has_value, clear_at}
use Rattle.herm_model.specs.Finalising.{clear_all}
use Rattle.herm_model.proofs.Lists.{not_true, or-left, or-right}
use Rattle.herm_model.proofs.Options.{chain-some}
use Rattle.herm_model.proofs.Places.{cell_at-set_apart}
use Rattle.herm_forms.specs.Excess.{excess_over_full}
use Rattle.herm_forms.specs.Frames.{Frame}
use Rattle.herm_forms.specs.Modules.{Module}
use Rattle.herm_frames.specs.Excesses.{if_here, if_here_within, of_mode, beyond_fields, beyond_parameters, beyond_parts, beyond}
use Rattle.herm_frames.specs.KeyedTables.{HasKeyFields}
use Rattle.herm_frames.proofs.Exceeding.{all-there}

module _ (x : Path) where
  -- each of the paths is apart from this one
  abbrev Apart : List Path → Type 0
  Apart [] = Unit {0}
  Apart (p ∷ ps) = IsTrue (are_apart p x) × Apart ps

  both : (ps qs : List Path) → Apart ps → Apart qs → Apart (ps ++ qs)
  both [] qs h k = k
  both (p ∷ ps) qs h k = (h.0, both ps qs h.1 k)

  -- so is each path from this one on
  abbrev From : Path → Type 0
  From p = (r : Path) → IsTrue (are_apart (p ++ r) x)

  from-step : (p : Path) (k : ℕ) → From p → From (p ++ k ∷ [])
  from-step p k h r = subst (λ q. IsTrue (are_apart q x)) (sym (append_assoc p (k ∷ []) r)) (h (k ∷ r))

  itself : (p : Path) → From p → (b : Bool) → Apart (cond b (p ∷ []) [])
  itself p h true = (subst (λ q. IsTrue (are_apart q x)) (append-nil p) (h []), tt)
  itself p h false = tt

  mode-apart : (m : Mode) (inner itself : List Path) → Apart inner → Apart itself → Apart (of_mode inner itself m)
  mode-apart by_in inner itself h k = h
  mode-apart by_inout inner itself h k = h
  mode-apart by_out inner itself h k = k

  module _ (here : Path → Bool) (table : TypeTable) where
    within-apart : (n : ℕ) (p : Path) → From p → Apart (if_here_within here n p)
    within-apart zero p h = tt
    within-apart (suc n) p h = itself p h (here p)

    abbrev Again : ℕ → Type 0
    Again n = (q : Path) (u : ℕ) → From q → Apart (beyond here table n q u)

    fields-apart : (n : ℕ) (p : Path) (k : ℕ) (ts : List ℕ) → Again n → From p → Apart (beyond_fields (beyond here table n) p k ts)
    fields-apart n p k [] again h = tt
    fields-apart n p k (t ∷ ts) again h = both (beyond here table n (p ++ k ∷ []) t) (beyond_fields (beyond here table n) p (suc k) ts) (again (p ++ k ∷ []) t (from-step p k h)) (fields-apart n p (suc k) ts again h)

    params-apart : (n : ℕ) (p : Path) (k : ℕ) (ps : List Parameter) → Again n → From p → Apart (beyond_parameters here n (beyond here table n) p k ps)
    params-apart n p k [] again h = tt
    params-apart n p k (y ∷ ps) again h =
        both (of_mode (beyond here table n (p ++ k ∷ []) y.content) (if_here_within here n (p ++ k ∷ [])) y.mode) (beyond_parameters here n (beyond here table n) p (suc k) ps)
        (mode-apart y.mode (beyond here table n (p ++ k ∷ []) y.content) (if_here_within here n (p ++ k ∷ [])) (again (p ++ k ∷ []) y.content (from-step p k h)) (within-apart n (p ++ k ∷ []) (from-step p k h)))
        (params-apart n p (suc k) ps again h)

    shape-apart : (n : ℕ) (p : Path) (o : Option Shape) → Again n → From p → Apart (map_or (if_here here p) (beyond_parts here n (beyond here table n) p) o)
    shape-apart n p None again h = itself p h (here p)
    shape-apart n p (Some (fields ts)) again h = fields-apart n p 0 ts again h
    shape-apart n p (Some (callmessage ps raises)) again h = params-apart n p 0 ps again h
    shape-apart n p (Some boolean) again h = tt
    shape-apart n p (Some integer) again h = tt
    shape-apart n p (Some text) again h = tt
    shape-apart n p (Some polymorph) again h = tt
    shape-apart n p (Some (names count)) again h = tt
    shape-apart n p (Some (cases ts)) again h = tt
    shape-apart n p (Some (rows row key)) again h = tt
    shape-apart n p (Some (inport message declared)) again h = tt
    shape-apart n p (Some (outport port)) again h = tt

    beyond-apart : (n : ℕ) (p : Path) (t : ℕ) → From p → Apart (beyond here table n p t)
    beyond-apart zero p t h = tt
    beyond-apart (suc n) p t h = shape-apart n p (slice_get table t) (λ q u k. beyond-apart n q u k) h

module _ (here : Path → Bool) (table : TypeTable) where
  -- a scalar holds nothing beyond itself
  scalar-parts : (n : ℕ) (p : Path) (s : Shape) → IsTrue (is_scalar_shape s) → beyond_parts here n (beyond here table n) p s ≡ []
  scalar-parts n p boolean h = refl
  scalar-parts n p integer h = refl
  scalar-parts n p text h = refl
  scalar-parts n p (names count) h = refl
  scalar-parts n p polymorph h = not_true h
  scalar-parts n p (fields ts) h = not_true h
  scalar-parts n p (cases ts) h = not_true h
  scalar-parts n p (rows row key) h = not_true h
  scalar-parts n p (inport message declared) h = not_true h
  scalar-parts n p (outport port) h = not_true h
  scalar-parts n p (callmessage ps raises) h = not_true h

  scalar-none : (n : ℕ) (p : Path) (t : ℕ) (s : Shape) → slice_get table t ≡ Some s → IsTrue (is_scalar_shape s) → beyond here table n p t ≡ []
  scalar-none zero p t s is h = refl
  scalar-none (suc n) p t s is h = ap (map_or (if_here here p) (beyond_parts here n (beyond here table n) p)) is ∙ scalar-parts n p s h

  -- two fields are apart, with all behind the first
  step-apart : (p : Path) (j k : ℕ) (r : Path) → nat_eq j k ≡ false → IsTrue (are_apart ((p ++ j ∷ []) ++ r) (p ++ k ∷ []))
  step-apart [] j k r e = ap (λ b. not b || are_apart r []) e
  step-apart (i ∷ p) j k r e = or-right (not (nat_eq i i)) (are_apart ((p ++ j ∷ []) ++ r) (p ++ k ∷ [])) (step-apart p j k r e)

  -- what is beyond fields is apart from a field beyond which nothing is
  fields-beyond : (n : ℕ) (p : Path) (m k : ℕ) (ts : List ℕ) → ((j t : ℕ) → slice_get ts j ≡ Some t → m + j ≡ k → beyond here table n (p ++ k ∷ []) t ≡ []) → Apart (p ++ k ∷ []) (beyond_fields (beyond here table n) p m ts)
  fields-beyond n p m k [] none = tt
  fields-beyond n p m k (t ∷ ts) none =
      both (p ++ k ∷ []) (beyond here table n (p ++ m ∷ []) t) (beyond_fields (beyond here table n) p (suc m) ts) (by (nat_eq m k) refl)
      (fields-beyond n p (suc m) k ts (λ j u at e. none (suc j) u at (let f : m + suc j ≡ k = omega (arith, e) in f)))
    where
      by : (b : Bool) → nat_eq m k ≡ b → Apart (p ++ k ∷ []) (beyond here table n (p ++ m ∷ []) t)
      by true e =
          let same : m ≡ k = eqb-true m k e in
          subst (Apart (p ++ k ∷ [])) (sym (ap (λ i. beyond here table n (p ++ i ∷ []) t) same ∙ none 0 t refl (let f : m + 0 ≡ k = omega (arith, same) in f))) tt
      by false e = beyond-apart (p ++ k ∷ []) here table n (p ++ m ∷ []) t (λ r. step-apart p m k r e)

-- what is apart from all that is cleared stays
cleared-apart : (x : Path) (lost : List Path) (ps : Parts ⊤) → Apart x lost → cell_at x (clear_all lost ps) ≡ cell_at x ps
cleared-apart x [] ps h = refl
cleared-apart x (p ∷ lost) ps h = cleared-apart x lost (clear_at p ps) h.1 ∙ cell_at-set_apart p x None ps h.0

part-below : (i : ℕ) (q : Path) (k : ℕ) (ps : Parts ⊤) → cell_at ((i ∷ q) ++ k ∷ []) ps ≡ part_at k (inside (cell_at (i ∷ q) ps))
part-below i [] k ps = refl
part-below i (j ∷ q) k ps = part-below j q k (inside (part_at i ps))

key-same : (key : List ℕ) (d e : Cell ⊤) → ((k : ℕ) → IsIn k key → part_at k (inside (Some e)) ≡ part_at k (inside (Some d))) → key_of key e ≡ key_of key d
key-same [] d e same = refl
key-same (k ∷ key) d e same = ap₂ ◌++◌ (ap (list_of scalars_of) (same k (inl refl))) (key-same key d e (λ j h. same j (inr h)))

pub row-key_stays : (c : Module) (i : ℕ) (q : Path) (key : List ℕ) (b : Frame ⊤) (d e : Cell ⊤) → HasKeyFields c key (i ∷ q) → cell_at (i ∷ q) b.variables ≡ Some d
    → cell_at (i ∷ q) (clear_all (excess_over_full c (i ∷ q) b) b.variables) ≡ Some e → key_of key e ≡ key_of key d
row-key_stays c i q key b d e has at now = key-same key d e each
  where
    typed : (t : ℕ) × (type_at c.types c.variables (i ∷ q) ≡ Some t) × (slice_get c.types t ≡ Some (fields has.types))
    typed = chain-some (slice_get c.types) (type_at c.types c.variables (i ∷ q)) (fields has.types) has.shape

    here : Path → Bool
    here = has_value b.variables

    lost-is : excess_over_full c (i ∷ q) b ≡ beyond_fields (beyond here c.types 31) (i ∷ q) 0 has.types
    lost-is = sym (all-there c b i q d typed.0 (sym at) (sym typed.1)) ∙ ap (map_or (if_here here (i ∷ q)) (beyond_parts here 31 (beyond here c.types 31) (i ∷ q))) typed.2

    none : (k : ℕ) → IsIn k key → (j t : ℕ) → slice_get has.types j ≡ Some t → 0 + j ≡ k → beyond here c.types 31 ((i ∷ q) ++ k ∷ []) t ≡ []
    none k h j t is same =
        let scalar = has.scalars k h in
        let here' : j ≡ k = omega (arith, same) in
        let known : Some t ≡ Some scalar.0 = sym is ∙ ap (slice_get has.types) here' ∙ scalar.2 in
        scalar-none here c.types 31 ((i ∷ q) ++ k ∷ []) t scalar.1 (ap (λ (o : Option ℕ). map_or None (slice_get c.types) o) known ∙ scalar.3) scalar.4

    each : (k : ℕ) → IsIn k key → part_at k (inside (Some e)) ≡ part_at k (inside (Some d))
    each k h =
        ap (λ o. part_at k (inside o)) (sym now)
        ∙ sym (part-below i q k (clear_all (excess_over_full c (i ∷ q) b) b.variables))
        ∙ ap (λ lost. cell_at ((i ∷ q) ++ k ∷ []) (clear_all lost b.variables)) lost-is
        ∙ cleared-apart ((i ∷ q) ++ k ∷ []) (beyond_fields (beyond here c.types 31) (i ∷ q) 0 has.types) b.variables (fields-beyond here c.types 31 (i ∷ q) 0 k has.types (none k h))
        ∙ part-below i q k b.variables
        ∙ ap (λ o. part_at k (inside o)) at
