-- What typed forms copy are values of copyable types, of which no cell waits to be finalised.
use Rattle.std.proofs.Common.{◌≡◌, ◌⊎◌, inl, inr, ℕ, List, [], ◌∷◌, map, Bool, true, false, Option, Some, None, refl, sym, subst, ◌∙◌}
use Rattle.std.specs.Prelude.{slice_get, IsTrue, IsFalse, ⊤}
use Rattle.herm_model.specs.Lists.{IsIn, map_or}
use Rattle.herm_model.specs.Paths.{Path}
use Rattle.herm_model.specs.Types.{TypeTable, Shape, boolean, integer, text, polymorph, names, fields, cases, rows, inport, outport, callmessage, Parameter, named_types, type_at}
use Rattle.herm_model.specs.Copyable.{is_plain, is_composed, IsCopyable, plain, composed}
use Rattle.herm_model.specs.Expressions.{Expression, copy, Atom}
use Rattle.herm_model.specs.Statements.{Form, Process, Assign, Get, For, Call}
use Rattle.herm_model.specs.Values.{Kind, a_boolean, an_integer, a_text, a_tag, a_scalar, a_record, a_variant, a_table, a_callmessage, an_inport, an_outport, Cell, cell, Parts, no_parts, gap, part, parts_of, read_at, Value}
use Rattle.herm_model.specs.Typed.{Degree, whole, partly, Content, a_value, nothing, Layout, exactly, many, unfit, leaf_if, one_whole, layout, layout_at, IsOf, Fits, HaveTypes}
use Rattle.herm_model.specs.Finalising.{waits}
use Rattle.herm_model.specs.TypedExpressions.{IsTyped}
use Rattle.herm_model.specs.TypedStatements.{IsTypedAtom, IsArgument, AreArguments, IsTypedForm}
use Rattle.herm_model.proofs.Lists.{not_true}
use Rattle.herm_model.proofs.FactTests.{got-IsIn}
use Rattle.herm_model.proofs.Options.{none-not_some, some-injective}
use Rattle.herm_model.proofs.TypedCalls.{parameters-are}
use Rattle.herm_journal.specs.Kinds.{HasKinds, HaveKinds}
use Rattle.herm_forms.specs.Evaluate.{Evaluated, gives, evaluate, atom_value}
use Rattle.herm_forms.specs.Modules.{Module}
use Rattle.herm_forms.specs.Acts.{inputs_of}
use Rattle.herm_forms.proofs.forms.ReadTypes.{read-typed, is-table}
use Rattle.herm_forms.proofs.known.KindsKept.{AllowsPlain, IfParts, GivesKinds, evaluate-kinds_from, atom-kinds_from}
use Rattle.herm_forms.proofs.known.KindsExchanged.{inputs-from}
use Rattle.herm_forms.proofs.known.HeldKinds.{IfKinds}
use Rattle.herm_forms.proofs.Copies.{CopiesKinds}

-- a cell that is finalised at once
abbrev pub IsPlainKind : Kind → Type 0
IsPlainKind k = IsFalse (waits k)

plain-allowed : AllowsPlain IsPlainKind
plain-allowed = record { scalars = λ s. refl; records = refl; variants = λ c. refl; tables = refl; polymorphs = λ t. refl; outports = λ n h. refl }

module _ (table : TypeTable) where
  abbrev ForEach : Shape → Type 0
  ForEach s = (u : ℕ) → IsIn u (named_types s) → IsCopyable table u

  -- a shape of copyable types
  abbrev Copied : Shape → Type 0
  Copied s = IsTrue (is_plain s) ⊎ (IsTrue (is_composed s) × ForEach s)

  -- the types of a layout are copyable
  abbrev ContentsCopied : List Content → Type 0
  ContentsCopied [] = ⊤
  ContentsCopied (nothing ∷ xs) = ContentsCopied xs
  ContentsCopied (a_value d u ∷ xs) = IsCopyable table u × ContentsCopied xs

  abbrev LayoutCopied : Layout → Type 0
  LayoutCopied (exactly xs) = ContentsCopied xs
  LayoutCopied (many u) = IsCopyable table u
  LayoutCopied unfit = ⊤

  values-copied : (d : Degree) (ts : List ℕ) → ((u : ℕ) → IsIn u ts → IsCopyable table u) → ContentsCopied (map (a_value d) ts)
  values-copied d [] each = tt
  values-copied d (t ∷ ts) each = (each t (inl refl), values-copied d ts (λ u h. each u (inr h)))

  one-copied : (o : Option ℕ) → ((u : ℕ) → o ≡ Some u → IsCopyable table u) → LayoutCopied (one_whole o)
  one-copied None each = tt
  one-copied (Some u) each = (each u refl, tt)

  leaf-copied : (b : Bool) → LayoutCopied (leaf_if b)
  leaf-copied true = tt
  leaf-copied false = tt

  plain-copied : (d : Degree) (s : Shape) (k : Kind) → IsTrue (is_plain s) → LayoutCopied (layout d s k)
  plain-copied d boolean (a_scalar (a_boolean b)) h = tt
  plain-copied d integer (a_scalar (an_integer z)) h = leaf-copied _
  plain-copied d text (a_scalar (a_text bytes)) h = leaf-copied _
  plain-copied d (names count) (a_scalar (a_tag i)) h = leaf-copied _
  plain-copied d (outport t) (an_outport n) h = tt
  plain-copied d polymorph k h = not_true h
  plain-copied d (fields ts) k h = not_true h
  plain-copied d (cases ts) k h = not_true h
  plain-copied d (rows row key) k h = not_true h
  plain-copied d (inport m declared) k h = not_true h
  plain-copied d (callmessage ps raises) k h = not_true h
  plain-copied d s k h = tt

  composed-copied : (d : Degree) (s : Shape) (k : Kind) → IsTrue (is_composed s) → ForEach s → LayoutCopied (layout d s k)
  composed-copied d (fields ts) a_record h each = values-copied d ts each
  composed-copied d (cases ts) (a_variant c) h each = one-copied (slice_get ts c) (λ u e. each u (got-IsIn ts c u e))
  composed-copied d (rows row key) a_table h each = each row (inl refl)
  composed-copied d boolean k h each = not_true h
  composed-copied d integer k h each = not_true h
  composed-copied d text k h each = not_true h
  composed-copied d (names count) k h each = not_true h
  composed-copied d polymorph k h each = not_true h
  composed-copied d (inport m declared) k h each = not_true h
  composed-copied d (outport t) k h each = not_true h
  composed-copied d (callmessage ps raises) k h each = not_true h
  composed-copied d s k h each = tt

  layout-copied : (d : Degree) (s : Shape) (k : Kind) → Copied s → LayoutCopied (layout d s k)
  layout-copied d s k (inl h) = plain-copied d s k h
  layout-copied d s k (inr h) = composed-copied d s k h.0 h.1

  -- an inport and a callmessage are of no copyable type
  no-inport : {N : Type 0} (d : Degree) (s : Shape) (n : ℕ) (ps : Parts N) → Copied s → Fits table (layout d s (an_inport n)) ps → IsPlainKind (an_inport n)
  no-inport d (inport m declared) n ps (inl h) fits = not_true h
  no-inport d (inport m declared) n ps (inr h) fits = not_true h.0
  no-inport d s n ps copied fits = absurd fits

  no-callmessage : {N : Type 0} (d : Degree) (s : Shape) (caller call : ℕ) (ps : Parts N) → Copied s → Fits table (layout d s (a_callmessage caller call)) ps → IsPlainKind (a_callmessage caller call)
  no-callmessage d (callmessage qs raises) caller call ps (inl h) fits = not_true h
  no-callmessage d (callmessage qs raises) caller call ps (inr h) fits = not_true h.0
  no-callmessage d s caller call ps copied fits = absurd fits

  kind-plain : {N : Type 0} (d : Degree) (s : Shape) (k : Kind) (ps : Parts N) → Copied s → Fits table (layout d s k) ps → IsPlainKind k
  kind-plain d s (an_inport n) ps copied fits = no-inport d s n ps copied fits
  kind-plain d s (a_callmessage caller call) ps copied fits = no-callmessage d s caller call ps copied fits
  kind-plain d s k ps copied fits = refl

  copied-of : (t : ℕ) (s : Shape) → slice_get table t ≡ Some s → IsCopyable table t → Copied s
  copied-of t s e (plain t' s' e' h) = inl (subst (λ s. IsTrue (is_plain s)) (some-injective (sym e' ∙ e)) h)
  copied-of t s e (composed t' s' e' h each) = subst Copied (some-injective (sym e' ∙ e)) (inr (h, each))

  shape-there : {N : Type 0} (d : Degree) (t : ℕ) (k : Kind) (ps : Parts N) → IsCopyable table t → Fits table (layout_at d table t k) ps → IsPlainKind k × LayoutCopied (layout_at d table t k)
  shape-there d t k ps copyable fits = by (slice_get table t) refl fits
    where
      by : (o : Option Shape) → slice_get table t ≡ o → Fits table (map_or unfit (λ s. layout d s k) o) ps → IsPlainKind k × LayoutCopied (map_or unfit (λ s. layout d s k) o)
      by None e fits = absurd fits
      by (Some s) e fits = let copied = copied-of t s e copyable in (kind-plain d s k ps copied fits, layout-copied d s k copied)

  mutual
    pub copyable-plain : {N : Type 0} (d : Degree) (t : ℕ) (c : Cell N) → IsCopyable table t → IsOf d table t c → HasKinds IsPlainKind c
    copyable-plain d t (cell n k ps) copyable h =
        let x = shape-there d t k ps copyable h.0 in (x.0, fits-plain (layout_at d table t k) ps x.1 h.0)

    fits-plain : {N : Type 0} (l : Layout) (ps : Parts N) → LayoutCopied l → Fits table l ps → HaveKinds IsPlainKind ps
    fits-plain (exactly []) no_parts copied h = tt
    fits-plain (exactly []) (gap ps) copied h = absurd h
    fits-plain (exactly []) (part c ps) copied h = absurd h
    fits-plain (exactly (x ∷ xs)) no_parts copied h = absurd h
    fits-plain (exactly (a_value d u ∷ xs)) (gap ps) copied h = fits-plain (exactly xs) ps copied.1 h.1
    fits-plain (exactly (nothing ∷ xs)) (gap ps) copied h = fits-plain (exactly xs) ps copied h.1
    fits-plain (exactly (a_value d u ∷ xs)) (part c ps) copied h = (copyable-plain d u c copied.0 h.0, fits-plain (exactly xs) ps copied.1 h.1)
    fits-plain (exactly (nothing ∷ xs)) (part c ps) copied h = absurd h
    fits-plain (many u) no_parts copied h = tt
    fits-plain (many u) (gap ps) copied h = absurd h
    fits-plain (many u) (part c ps) copied h = (copyable-plain whole u c copied h.0, fits-plain (many u) ps copied h.1)
    fits-plain unfit ps copied h = absurd h

module _ {N : Type 0} (c : Module) (ps : Parts N) (typed : HaveTypes c.types c.variables ps) where
  -- what is read at a path of a copyable type
  read-plain : (p : Path) (t : ℕ) → type_at c.types c.variables p ≡ Some t → IsCopyable c.types t → IfKinds IsPlainKind (read_at p ps)
  read-plain [] t at copyable = tt
  read-plain (i ∷ q) t at copyable = by (read_at (i ∷ q) ps) refl
    where
      by : (o : Option (Cell N)) → read_at (i ∷ q) ps ≡ o → IfKinds IsPlainKind o
      by None e = tt
      by (Some d) e = copyable-plain c.types partly t d copyable (read-typed N c.types c.variables i q t ps d typed at e)

  value-plain : (e : Expression) (t : ℕ) → IsTyped c.types c.variables e t → GivesKinds IsPlainKind (evaluate ps e)
  value-plain e t h = evaluate-kinds_from IsPlainKind plain-allowed ps e (by e t h)
    where
      by : (e : Expression) (t : ℕ) → IsTyped c.types c.variables e t → (p : Path) → e ≡ copy p → IfKinds IsPlainKind (read_at p ps)
      by (copy q) t h p is = let same : q ≡ p = cc is in subst (λ p. IfKinds IsPlainKind (read_at p ps)) same (read-plain q t h.0.0 h.1)
      by e t h p is = cc is

  atom-plain : (a : Atom) (t : ℕ) → IsTypedAtom c.types c.variables a t → GivesKinds IsPlainKind (atom_value ps a)
  atom-plain (Atom.literal l) t h = atom-kinds_from IsPlainKind plain-allowed ps (Atom.literal l) (λ p is. cc is)
  atom-plain (Atom.path q) t h = atom-kinds_from IsPlainKind plain-allowed ps (Atom.path q) (λ p is. let same : q ≡ p = cc is in subst (λ p. IfKinds IsPlainKind (read_at p ps)) same (read-plain q t h.0.0 h.1))

  given-of : (e : Evaluated) (v : Value) → GivesKinds IsPlainKind e → e ≡ gives v → HasKinds IsPlainKind v
  given-of e v h is = subst (GivesKinds IsPlainKind) is h

  rows-plain : (i : ℕ) (q : Path) (u row : ℕ) (key : List ℕ) → type_at c.types c.variables (i ∷ q) ≡ Some u → slice_get c.types u ≡ Some (rows row key) → IsCopyable c.types row
      → (d : Cell N) → read_at (i ∷ q) ps ≡ Some d → HaveKinds IsPlainKind (parts_of d)
  rows-plain i q u row key at shape copyable d is =
      let x = is-table N c.types u row key d shape (read-typed N c.types c.variables i q u ps d typed at is) in
      subst (λ (d : Cell N). HaveKinds IsPlainKind (parts_of d)) (sym x.is) (fits-plain c.types (many row) x.rows' copyable x.fits)

  pub table-plain : (p : Path) (u row : ℕ) (key : List ℕ) → type_at c.types c.variables p ≡ Some u → slice_get c.types u ≡ Some (rows row key) → IsCopyable c.types row
      → (d : Cell N) → read_at p ps ≡ Some d → HaveKinds IsPlainKind (parts_of d)
  table-plain [] u row key at shape copyable d is = none-not_some is
  table-plain (i ∷ q) u row key at shape copyable d is = rows-plain i q u row key at shape copyable d is

  arguments-plain : (parameters : List Parameter) (atoms : List Atom) → AreArguments c.types c.variables parameters atoms → IfParts IsPlainKind (inputs_of parameters atoms ps)
  arguments-plain [] atoms h = tt
  arguments-plain (p ∷ parameters) [] h = absurd h
  arguments-plain (p ∷ parameters) (a ∷ atoms) h = inputs-from IsPlainKind p.mode (atom_value ps a) (inputs_of parameters atoms ps) (λ is. atom-plain a p.content (subst (λ m. IsArgument c.types c.variables m a p.content) is h.0)) (arguments-plain parameters atoms h.1)

  -- so of all that a typed form copies
  pub typed-copies : (exceptions : ℕ) (processes : List Process) (form : Form) → IsTypedForm c.types c.variables exceptions processes form → CopiesKinds IsPlainKind c form ps
  typed-copies exceptions processes (Assign x e) h = λ v is. given-of (evaluate ps e) v (value-plain e h.0 h.2) is
  typed-copies exceptions processes (Get r t keys) h = λ d is. let x = (h.1).2 in table-plain t x.0 h.0 (h.1).0 x.1.0 x.2 h.2 d is
  typed-copies exceptions processes (For r t) h = λ d is. let x = h.2 in table-plain t x.0 h.0 h.1 x.1.0 x.2 h.4 d is
  typed-copies exceptions processes (Call o arguments) h = λ inputs is.
      let are = subst (λ ps. AreArguments c.types c.variables ps arguments) (sym (parameters-are c.types c.variables o h.0 h.3 h.1 h.2 h.4)) h.5 in
      subst (IfParts IsPlainKind) is (arguments-plain _ arguments are)
  typed-copies exceptions processes form h = tt
