-- Any typed local form goes on, to an outcome of its own.
use Rattle.std.proofs.Common.{◌≡◌, ℕ, ◌<◌, List, [], ◌∷◌, length, Bool, false, true, Some, sym, ◌∙◌, subst, true≢false}
use Rattle.std.specs.Prelude.{IsTrue, IsFalse}
use Rattle.herm_model.specs.Lists.{IsIn}
use Rattle.herm_model.specs.Paths.{Path, Fact}
use Rattle.herm_model.specs.Types.{type_at}
use Rattle.herm_model.specs.Statements.{Form, Assign, Move, New, Discard, Unite, Dissolve, Reveal, Case, Wrap, Unwrap, Insert, Remove, Get, For, Connect, If, While, Raise, Leave, Process}
use Rattle.herm_model.specs.FactsOfStatements.{needs}
use Rattle.herm_model.specs.Outcomes.{Outcome, outcomes}
use Rattle.herm_model.specs.Values.{a_variant, Cell, cell, Parts}
use Rattle.herm_model.specs.Typed.{partly, Fits, many, HasType}
use Rattle.herm_model.proofs.Options.{none-not_some, some-injective}
use Rattle.herm_forms.specs.Frames.{Name, Frame, Completion, goes}
use Rattle.herm_forms.specs.LoopForms.{rows_for}
use Rattle.herm_forms.specs.Forms.{component_of}
use Rattle.herm_forms.specs.Modules.{Module}
use Rattle.herm_forms.specs.Acts.{is_action, act}
use Rattle.herm_forms.specs.laws.EdgeLaws.{AreSound}
use Rattle.herm_forms.specs.laws.TypedForms.{IsTypedIn}
use Rattle.herm_forms.proofs.forms.ReadTypes.{read-typed, variant-component}
use Rattle.herm_forms.proofs.typed.FormsGo.{forms-go}
use Rattle.herm_forms.proofs.typed.LocalGoes.{Comes}
use Rattle.herm_forms.proofs.typed.LocalOutcomes.{EndsIn, went, CoversCase, acts-end}
use Rattle.herm_model.proofs.TypedPaths.{slice_get-below}

ended : (S : List Outcome) (r : Completion Name) (o : Outcome) (b : Frame Name) → r ≡ goes o b → EndsIn S r → IsIn o S
ended S r o b e h = by (subst (EndsIn S) e h)
  where
    by : EndsIn S (goes o b) → IsIn o S
    by (went o' b' h) = h

module _ (exceptions : ℕ) (processes : List Process) (c : Module) where
  -- a `case` has an arm for each component that the variant may have
  covers : (form : Form) → IsTypedIn exceptions processes c form → (has : Fact → Bool) (b : Frame Name) → AreSound c has b.variables → (name : Name → Name) (s : ℕ) → CoversCase c name s b form
  covers (Case [] ks) is has b sound name s = none-not_some is.typed.2.0
  covers (Case (i ∷ q) ks) is has b sound name s = λ d k at of.
      by d k of (read-typed Name c.types c.variables i q is.typed.0 b.variables d sound.types is.typed.2.0 at)
    where
      by : (d : Cell Name) (k : ℕ) → component_of d ≡ Some k → HasType c.types is.typed.0 d → IsIn k ks
      by (cell n (a_variant m) ps) k of h =
          let x = variant-component Name c.types partly is.typed.0 m n ps h in
          let same : x.types ≡ is.typed.1 = cc (sym x.found ∙ is.typed.3) in
          let below' : m < length is.typed.1 = subst (λ ts. m < length ts) same (slice_get-below x.types m x.type x.at) in
          (is.typed.5 k).1 (subst (λ k. k < length is.typed.1) (some-injective of) below')
      by d k of h = none-not_some of
  covers form is has b sound name s = tt

  abbrev Needs : Form → (Fact → Bool) → Type 0
  Needs form has = (f : Fact) → IsIn f (needs c.types c.variables form) → IsTrue (has f)

  each-comes : (form : Form) → IsTypedIn exceptions processes c form → IsFalse (is_action c form) → (name : Name → Name) (s : ℕ) (has : Fact → Bool) (b : Frame Name) → AreSound c has b.variables → Needs form has
      → ((r t : Path) (row : ℕ) → form ≡ For r t → type_at c.types c.variables r ≡ Some row → (rs : Parts Name) → rows_for s b.loops ≡ Some rs → Fits c.types (many row) rs) → Comes (act name c s form b)
  each-comes (Assign x e) is local name s has b sound needed rows' = (forms-go exceptions processes c).assign x e is name s has b sound needed
  each-comes (Move y x) is local name s has b sound needed rows' = (forms-go exceptions processes c).move y x is name s has b sound needed
  each-comes (New x) is local name s has b sound needed rows' = (forms-go exceptions processes c).new x is local name s has b sound needed
  each-comes (Discard x) is local name s has b sound needed rows' = (forms-go exceptions processes c).discard x is name s has b sound needed
  each-comes (Unite v k y) is local name s has b sound needed rows' = (forms-go exceptions processes c).unite v k y is name s has b sound needed
  each-comes (Dissolve v k y) is local name s has b sound needed rows' = (forms-go exceptions processes c).dissolve v k y is name s has b sound needed
  each-comes (Reveal v k) is local name s has b sound needed rows' = (forms-go exceptions processes c).reveal v k is name s has b sound needed
  each-comes (Case v ks) is local name s has b sound needed rows' = (forms-go exceptions processes c).choose v ks is name s has b sound needed
  each-comes (Wrap y p) is local name s has b sound needed rows' = (forms-go exceptions processes c).wrap y p is name s has b sound needed
  each-comes (Unwrap p t y) is local name s has b sound needed rows' = (forms-go exceptions processes c).unwrap p t y is name s has b sound needed
  each-comes (Insert r t) is local name s has b sound needed rows' = (forms-go exceptions processes c).insert r t is name s has b sound needed
  each-comes (Remove r t keys) is local name s has b sound needed rows' = (forms-go exceptions processes c).remove r t keys is name s has b sound needed
  each-comes (Get r t keys) is local name s has b sound needed rows' = (forms-go exceptions processes c).get r t keys is name s has b sound needed
  each-comes (For r t) is local name s has b sound needed rows' = (forms-go exceptions processes c).visit r t is is.typed.0 is.typed.3.0.0 name s has b sound needed (rows' r t is.typed.0 (Rattle.std.proofs.Common.refl) is.typed.3.0.0)
  each-comes (Connect o i) is local name s has b sound needed rows' = (forms-go exceptions processes c).connect o i is name s has b sound needed
  each-comes (If e) is local name s has b sound needed rows' = (forms-go exceptions processes c).if_test e is name s has b sound needed
  each-comes (While e) is local name s has b sound needed rows' = (forms-go exceptions processes c).while_test e is name s has b sound needed
  each-comes (Raise e) is local name s has b sound needed rows' = (forms-go exceptions processes c).raise e is name s has b sound needed
  each-comes Leave is local name s has b sound needed rows' = (forms-go exceptions processes c).leave is name s has b sound needed
  each-comes form is local name s has b sound needed rows' = absurd (true≢false local)

  -- with its outcome
  pub each-goes : (form : Form) → IsTypedIn exceptions processes c form → IsFalse (is_action c form) → (name : Name → Name) (s : ℕ) (has : Fact → Bool) (b : Frame Name) → AreSound c has b.variables → Needs form has
      → ((r t : Path) (row : ℕ) → form ≡ For r t → type_at c.types c.variables r ≡ Some row → (rs : Parts Name) → rows_for s b.loops ≡ Some rs → Fits c.types (many row) rs)
      → (o : Outcome) × (b' : Frame Name) × (act name c s form b ≡ goes o b') × IsIn o (outcomes c.types c.variables form)
  each-goes form is local name s has b sound needed rows' =
      let x = each-comes form is local name s has b sound needed rows' in
      (x.0, x.1, x.2, ended (outcomes c.types c.variables form) (act name c s form b) x.0 x.1 x.2 (acts-end c name s b form (covers form is has b sound name s)))
