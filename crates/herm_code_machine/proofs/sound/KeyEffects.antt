-- With the values of a key on the stack, `Remove` and `Get` do the statement whose keys are literals.
use Rattle.std.proofs.Common.{◌≡◌, inl, inr, ℕ, suc, List, [], ◌∷◌, ◌++◌, map, reverse, drop, length, Option, Some, option_map, refl, sym, ap, ap₂, subst, ◌∙◌, append_assoc}
use Rattle.std.specs.Prelude.{slice_get, IsTrue, option_and_then}
use Rattle.std.proofs.lemmas.List.{reverse-reverse, length-reverse, append-nil}
use Rattle.std.proofs.lemmas.Grind.{reverse_onto}
use Rattle.std.proofs.Math.Seq.{drop-append_seam}
use Rattle.herm_model.specs.Lists.{IsIn, list_of}
use Rattle.herm_model.specs.Paths.{Path}
use Rattle.herm_model.specs.Types.{TypeTable, Shape, boolean, integer, text, names, fields, rows}
use Rattle.herm_model.specs.Expressions.{Literal, Atom, paths_among}
use Rattle.herm_model.specs.Outcomes.{Outcome}
use Rattle.herm_model.specs.Statements.{Form}
use Rattle.herm_model.specs.FactsOfStatements.{row, room_for, present, full, full_of_each, at_ok}
use Rattle.herm_model.specs.TypedExpressions.{HasShape, IsLiteralOf, is_scalar_shape}
use Rattle.herm_model.specs.TypedStatements.{IsTableOf}
use Rattle.herm_model.specs.Values.{Scalar, a_boolean, an_integer, a_text, a_tag, Parts, Value}
use Rattle.herm_model.specs.WellFormedTables.{IsType, IsWellFormedTable, IsScalarField}
use Rattle.herm_journal.specs.Messages.{AreFull}
use Rattle.herm_forms.specs.Evaluate.{scalar_of, key_values, key_of_value, gives_scalar}
use Rattle.herm_forms.specs.Frames.{Name, Frame}
use Rattle.herm_forms.proofs.evaluated.TypedExpressions.{FitsShape, full-scalar}
use Rattle.herm_instructions.specs.Instructions.{Remove, Get}
use Rattle.herm_instructions.specs.Labels.{Label}
use Rattle.herm_instructions.specs.Images.{CodeModule, Image}
use Rattle.herm_instructions.specs.Operands.{type_of_literal, types_of_key, types_of_row_key}
use Rattle.herm_instructions.specs.laws.KeyLaws.{AreLiteralsOf, key_types}
use Rattle.herm_instructions.proofs.KeysOnStack.{keys-are_typed}
use Rattle.herm_code_machine.specs.ReadyCode.{ReadyCode}
use Rattle.herm_code_machine.specs.Stacks.{pop_onto, pop, scalars_of, scalar_before}
use Rattle.herm_code_machine.proofs.DoneForms.{instructions-do-forms}
use Rattle.herm_code_machine.proofs.sound.AtLabels.{Holds, GoesWell}
use Rattle.herm_code_machine.proofs.sound.EachEffect.{ready, processes, Goes, Found, form-goes, one-way}

-- values of these types, taken from the stack in the order in which they were pushed
abbrev pub turned : List ℕ → List ℕ → List ℕ
turned [] acc = acc
turned (t ∷ ts) acc = turned ts (t ∷ acc)

pub record Taken (types : TypeTable) (ts others : List ℕ) (n : ℕ) (taken stack : List Value) : Type 0 where
  pub values : List Value
  pub rest : List Value
  pub is : pop_onto n taken stack ≡ Some (record { values = values; rest = rest })
  pub whole : AreFull types ts values
  pub left : AreFull types others rest

pub pop-full : (types : TypeTable) (ts others acc : List ℕ) (taken stack : List Value) → AreFull types (ts ++ others) stack → AreFull types acc taken → Taken types (turned ts acc) others (length ts) taken stack
pop-full types [] others acc taken stack h k = record { values = taken; rest = stack; is = refl; whole = k; left = h }
pop-full types (t ∷ ts) others acc taken [] h k = absurd h
pop-full types (t ∷ ts) others acc taken (v ∷ stack) h k =
    let r = pop-full types ts others (t ∷ acc) (v ∷ taken) stack h.1 (h.0, k) in
    record { values = r.values; rest = r.rest; is = r.is; whole = r.whole; left = r.left }

pub turned-reverse : (ts acc : List ℕ) → turned ts acc ≡ reverse ts ++ acc
turned-reverse ts acc = by ts acc
  where
    by : (ts acc : List ℕ) → turned ts acc ≡ reverse ts ++ acc
    by [] acc = refl
    by (t ∷ ts) acc = by ts (t ∷ acc) ∙ sym (append_assoc (reverse ts) (t ∷ []) acc) ∙ ap (λ xs. xs ++ acc) (sym (reverse_onto ts t []))

-- so many values in the order in which they were pushed
pub pops : (types : TypeTable) (ts others : List ℕ) (stack : List Value) → AreFull types (reverse ts ++ others) stack → Taken types ts others (length ts) [] stack
pops types ts others stack h =
    let r = pop-full types (reverse ts) others [] [] stack h tt in
    let same : turned (reverse ts) [] ≡ ts = turned-reverse (reverse ts) [] ∙ append-nil (reverse (reverse ts)) ∙ reverse-reverse ts in
    record { values = r.values; rest = r.rest; is = ap (λ n. pop_onto n [] stack) (sym (length-reverse ts)) ∙ r.is; whole = subst (λ ts. AreFull types ts r.values) same r.whole; left = r.left }

-- a full scalar is a literal of its type
literal-typed : (types : TypeTable) (t : ℕ) (s : Shape) (x : Scalar) → HasShape types t s → FitsShape s x → (l : Literal) × (scalar_of l ≡ x) × IsLiteralOf types l t
literal-typed types t boolean (a_boolean b) shape h = (Literal.boolean b, refl, shape)
literal-typed types t integer (an_integer z) shape h = (Literal.integer z, refl, (shape, h))
literal-typed types t text (a_text bytes) shape h = (Literal.text bytes, refl, (shape, h))
literal-typed types t (names count) (a_tag i) shape h = (Literal.tag t i, refl, (refl, count, shape, h))
literal-typed types t s x shape h = absurd h

-- full values of scalar types are the values of literals
pub record AsLiterals (types : TypeTable) (ts : List ℕ) (values : List Value) : Type 0 where
  pub literals : List Literal
  pub key : List Scalar
  pub scalars : scalars_of values ≡ Some key
  pub typed : AreLiteralsOf types literals ts
  pub are : (ps : Parts Name) → key_values ps (map Atom.literal literals) ≡ Some key

abbrev AreScalars : TypeTable → List ℕ → Type 0
AreScalars types ts = (t : ℕ) → IsIn t ts → (s : Shape) × HasShape types t s × IsTrue (is_scalar_shape s)

pub as-literals : (types : TypeTable) (ts : List ℕ) (values : List Value) → AreScalars types ts → AreFull types ts values → AsLiterals types ts values
as-literals types [] [] of h = record { literals = []; key = []; scalars = refl; typed = tt; are = λ ps. refl }
as-literals types [] (v ∷ values) of h = absurd h
as-literals types (t ∷ ts) [] of h = absurd h
as-literals types (t ∷ ts) (v ∷ values) of h =
    let s = of t (inl refl) in
    let x = full-scalar types t s.0 v s.1 s.2 h.0 in
    let l = literal-typed types t s.0 x.scalar s.1 x.fits in
    let more = as-literals types ts values (λ u m. of u (inr m)) h.1 in
    record {
      literals = l.0 ∷ more.literals;
      key = x.scalar ∷ more.key;
      scalars = ap (λ v. scalar_before v (scalars_of values)) x.is ∙ ap (option_map (x.scalar ∷◌)) more.scalars;
      typed = (l.2, more.typed);
      are = λ ps. ap (key_of_value (gives_scalar (scalar_of l.0))) (more.are ps) ∙ ap (λ x. Some (x ∷ more.key)) l.1;
    }

-- the fields of a key are scalars, one for each
key-scalars : (types : TypeTable) (ts key : List ℕ) → ((i : ℕ) → IsIn i key → IsScalarField types ts i) → AreScalars types (types_of_key key (fields ts)) × (length (types_of_key key (fields ts)) ≡ length key)
key-scalars types ts [] of = ((λ t h. absurd h), refl)
key-scalars types ts (i ∷ key) of =
    let s = of i (inl refl) in
    let more = key-scalars types ts key (λ j h. of j (inr h)) in
    let same : types_of_key (i ∷ key) (fields ts) ≡ s.0 ∷ types_of_key key (fields ts) = ap (λ o. list_of (λ t. t ∷ []) o ++ types_of_key key (fields ts)) s.2 in (
      (λ t h. by t s more.0 (subst (IsIn t) same h)),
      ap length same ∙ ap suc more.1,
    )
  where
    by : (t : ℕ) (s : IsScalarField types ts i) → AreScalars types (types_of_key key (fields ts)) → IsIn t (s.0 ∷ types_of_key key (fields ts)) → (s : Shape) × HasShape types t s × IsTrue (is_scalar_shape s)
    by t s more (inl e) = (s.1, subst (λ t. HasShape types t s.1) (sym e) s.3, s.4)
    by t s more (inr h) = more t h

no-paths : (ls : List Literal) → paths_among (map Atom.literal ls) ≡ []
no-paths [] = refl
no-paths (l ∷ ls) = no-paths ls

module _ (exceptions' : ℕ) (image : Image) (formed : IsWellFormedTable exceptions' image.types) (literals : (l : Literal) → IsIn l image.constants → IsLiteralOf image.types l (type_of_literal l))
    (m : CodeModule) (known : (t : ℕ) → IsIn t m.variables → IsType image.types t) (labels : CodeModule → ℕ → Option Label) (name : Name → Name) (HasWay : Outcome → Type 0)
    (l : Label) (stack : List Value) (b : Frame Name) (holds : Holds (ready exceptions' image formed literals m known labels name HasWay) l stack b) where
  -- the values of a key on the stack, and what is left
  pub record KeyThere (t : Path) (n : ℕ) : Type 0 where
    pub values : List Value
    pub rest : List Value
    pub popped : pop n stack ≡ Some (record { values = values; rest = rest })
    pub key : AsLiterals image.types (key_types image.types m.variables t) values
    pub left : AreFull image.types (drop n l.stack) rest

  pub key-there : (t : Path) (n row : ℕ) (key : List ℕ) → IsTableOf image.types m.variables t row key → n ≡ length key → (others : List ℕ) → l.stack ≡ reverse (key_types image.types m.variables t) ++ others → KeyThere t n
  key-there t n row key of count others is =
      let k = formed.keys of.0 (rows row key) of.2 in
      let ts = k.0 in
      let same : key_types image.types m.variables t ≡ types_of_key key (fields ts) =
      ap (λ o. list_of (types_of_row_key image.types) (option_and_then (slice_get image.types) o)) (of.1).0 ∙ ap (list_of (types_of_row_key image.types)) of.2 ∙ ap (list_of (types_of_key key)) k.1 in
      let scalars = key-scalars image.types ts key k.3 in
      let long : length (key_types image.types m.variables t) ≡ n = ap length same ∙ scalars.1 ∙ sym count in
      let r = pops image.types (key_types image.types m.variables t) others stack (subst (λ ts. AreFull image.types ts stack) is holds.stack) in
      record {
        values = r.values;
        rest = r.rest;
        popped = ap (λ n. pop n stack) (sym long) ∙ r.is;
        key = as-literals image.types (key_types image.types m.variables t) r.values (subst (AreScalars image.types) (sym same) scalars.0) r.whole;
        left = subst (λ ts. AreFull image.types ts r.rest) (sym (ap₂ drop (sym long ∙ sym (length-reverse (key_types image.types m.variables t))) is ∙ drop-append_seam (reverse (key_types image.types m.variables t)) others)) r.left;
      }

  abbrev c : ReadyCode
  c = ready exceptions' image formed literals m known labels name HasWay

  pub remove-goes : (r t : Path) (n : ℕ) → Found exceptions' image formed literals m known labels name HasWay (Remove r t n) l → Goes exceptions' image formed literals m known labels name HasWay (Remove r t n) l stack b
  remove-goes r t n finds =
      let x = finds.typed in
      let s = finds.stack in
      let k = key-there t n x.0 x.1 x.2 x.4 s.0 s.1 in
      let ls = (k.key).literals in
      let form = Form.Remove r t (map Atom.literal ls) in
      let typed = (keys-are_typed exceptions' image.types m.variables image.constants (processes exceptions' image formed literals m known labels name HasWay) formed).remove r t n ls finds.typed (k.key).typed in
      subst (GoesWell exceptions' image m HasWay c (Remove r t n) l) (sym ((instructions-do-forms name c 0 b).remove r t n (map Atom.literal ls) k.values stack k.rest (k.key).key k.popped (k.key).scalars ((k.key).are b.variables)))
      (form-goes exceptions' image formed literals m known labels name HasWay l stack b holds (Remove r t n) form finds typed refl (λ v. v)
      (ap (λ ps. record { needed = room_for image.types m.variables r ++ present image.types m.variables t ++ full_of_each image.types m.variables ps; made = at_ok (full image.types m.variables r); gone = at_ok (r ∷ []) }) (sym (no-paths ls)))
      refl k.rest k.left (one-way exceptions' image formed literals m known labels name HasWay l stack b holds (Remove r t n) form finds refl refl refl))

  pub get-goes : (r t : Path) (n : ℕ) → Found exceptions' image formed literals m known labels name HasWay (Get r t n) l → Goes exceptions' image formed literals m known labels name HasWay (Get r t n) l stack b
  get-goes r t n finds =
      let x = finds.typed in
      let s = finds.stack in
      let k = key-there t n x.0 x.1 x.2 x.4 s.0 s.1 in
      let ls = (k.key).literals in
      let form = Form.Get r t (map Atom.literal ls) in
      let typed = (keys-are_typed exceptions' image.types m.variables image.constants (processes exceptions' image formed literals m known labels name HasWay) formed).get r t n ls finds.typed (k.key).typed in
      subst (GoesWell exceptions' image m HasWay c (Get r t n) l) (sym ((instructions-do-forms name c 0 b).get r t n (map Atom.literal ls) k.values stack k.rest (k.key).key k.popped (k.key).scalars ((k.key).are b.variables)))
      (form-goes exceptions' image formed literals m known labels name HasWay l stack b holds (Get r t n) form finds typed refl (λ v. v)
      (ap (λ ps. record { needed = room_for image.types m.variables r ++ present image.types m.variables t ++ full_of_each image.types m.variables ps; made = at_ok (full image.types m.variables r); gone = at_ok (r ∷ []) }) (sym (no-paths ls)))
      refl k.rest k.left (one-way exceptions' image formed literals m known labels name HasWay l stack b holds (Get r t n) form finds refl refl refl))
