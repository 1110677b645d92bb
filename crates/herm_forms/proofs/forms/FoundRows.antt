-- Rows that are found by their keys: a copy of one, set at any place, keeps values sound.
use Rattle.std.proofs.Common.{◌≡◌, ◌⊎◌, inl, inr, ℕ, ◌+◌, List, ◌∷◌, Bool, cond, Option, Some, None, refl, sym, ◌∙◌, subst}
use Rattle.std.specs.Prelude.{slice_get, IsTrue, ⊤}
use Rattle.herm_model.specs.Paths.{Path, Fact}
use Rattle.herm_model.specs.Types.{TypeTable, rows, type_at, is_within_depth, greatest_depth}
use Rattle.herm_model.specs.Expressions.{Atom}
use Rattle.herm_model.specs.Statements.{Form, Get}
use Rattle.herm_model.specs.Outcomes.{Outcome, ok, raised, not_found}
use Rattle.herm_model.specs.Values.{Scalar, Cell, part_at, parts_of, read_at, has_place}
use Rattle.herm_model.specs.CellNames.{count, copy_from, rename}
use Rattle.herm_model.specs.Tables.{place_of_key}
use Rattle.herm_model.specs.Typed.{whole, IsOf, IsFull}
use Rattle.herm_model.proofs.Renaming.{rename-copy_from, copy_from-constant}
use Rattle.herm_model.proofs.Typing.{IsOf-renamed, renamed-IsOf}
use Rattle.herm_forms.specs.Frames.{Name, Frame, Completion, goes, stuck, if_there, put}
use Rattle.herm_forms.specs.RemoveAndGet
use Rattle.herm_forms.specs.RemoveAndGet.{finding}
use Rattle.herm_forms.specs.Modules.{Module}
use Rattle.herm_forms.specs.Acts.{key_at}
use Rattle.herm_forms.specs.laws.EdgeLaws.{AreSound, held_after}
use Rattle.herm_forms.proofs.forms.PlainForms.{same_body, same_outcome_of, never, same_facts}
use Rattle.herm_forms.proofs.forms.SetTargets.{put-full}
use Rattle.herm_forms.proofs.forms.ReadTypes.{read-typed, row-full}

-- a copy of a full value is full
copy-full : (types : TypeTable) (t : ℕ) (name : ℕ → Name) (s : ℕ) (value : Cell Name) → IsFull types t value → IsFull types t (copy_from name s value)
copy-full types t name s value h =
    let none : Name → ⊤ = λ n. tt in
    let same : rename none (copy_from name s value) ≡ rename none value = rename-copy_from name none s value ∙ copy_from-constant {N = Name} {M = ⊤} tt s value in
    renamed-IsOf none types whole t (copy_from name s value) (subst (IsOf whole types t) (sym same) (IsOf-renamed none types whole t value h))

-- the row that was found
pub record Found (t : Path) (next : ℕ → Cell Name → Completion Name) (b : Frame Name) (r : Completion Name) : Type 0 where
  pub table : Cell Name
  pub at : read_at t b.variables ≡ Some table
  pub place : ℕ
  pub row : Cell Name
  pub there : part_at place (parts_of table) ≡ Some row
  pub on : next place row ≡ r

module _ (key : List ℕ) (k : List Scalar) (t : Path) (next : ℕ → Cell Name → Completion Name) (b : Frame Name) (o : Outcome) (b' : Frame Name) where
  found-at : (d : Cell Name) → read_at t b.variables ≡ Some d → (i : ℕ) (x : Option (Cell Name)) → part_at i (parts_of d) ≡ x → if_there (next i) x ≡ goes o b' → Found t next b (goes o b')
  found-at d at i None there is = never o b' is
  found-at d at i (Some row) there is = record { table = d; at = at; place = i; row = row; there = there; on = is }

  found-in : (d : Cell Name) → read_at t b.variables ≡ Some d → (x : Option ℕ) → elim x [ None ↦ goes (raised not_found) b | Some i ↦ if_there (next i) (part_at i (parts_of d)) ] ≡ goes o b'
      → (goes (raised not_found) b ≡ goes o b') ⊎ Found t next b (goes o b')
  found-in d at None is = inl is
  found-in d at (Some i) is = inr (found-at d at i (part_at i (parts_of d)) refl is)

  pub found-or : finding key k t next b ≡ goes o b' → (goes (raised not_found) b ≡ goes o b') ⊎ Found t next b (goes o b')
  found-or is = by (read_at t b.variables) refl is
    where
      by : (x : Option (Cell Name)) → read_at t b.variables ≡ x
          → if_there (λ table. elim (place_of_key key k (parts_of table)) [ None ↦ goes (raised not_found) b | Some i ↦ if_there (next i) (part_at i (parts_of table)) ]) x ≡ goes o b'
          → (goes (raised not_found) b ≡ goes o b') ⊎ Found t next b (goes o b')
      by None at is = never o b' is
      by (Some d) at is = found-in d at (place_of_key key k (parts_of d)) is

-- a form that goes on with sound values
pub goes-sound : (c : Module) (form : Form) (before has : Fact → Bool) (b : Frame Name) → AreSound c has b.variables → (x : Outcome) → ((f : Fact) → has f ≡ held_after c.types c.variables form x before f) → (o : Outcome) (b' : Frame Name) → goes x b ≡ goes o b'
    → AreSound c (held_after c.types c.variables form o before) b'.variables
goes-sound c form before has b sound x same o b' is =
    subst (λ o. AreSound c (held_after c.types c.variables form o before) b'.variables) (same_outcome_of x o b b' is)
    (subst (λ (b : Frame Name). AreSound c (held_after c.types c.variables form x before) b.variables) (same_body x o b b' is) (same_facts c has (held_after c.types c.variables form x before) b.variables same sound))

module _ (c : Module) (i : ℕ) (q : List ℕ) (j : ℕ) (r : List ℕ) (row u : ℕ) (key : List ℕ) (table : type_at c.types c.variables (i ∷ q) ≡ Some u) (shape : slice_get c.types u ≡ Some (rows row key)) (target : type_at c.types c.variables (j ∷ r) ≡ Some row)
    (deep : IsTrue (is_within_depth greatest_depth c.types row)) (keys : List Atom) (has : Fact → Bool) (b : Frame Name) (sound : AreSound c has b.variables) where
  -- a row that is found is full
  pub found-full : (next : ℕ → Cell Name → Completion Name) (x : Completion Name) (f : Found (i ∷ q) next b x) → IsFull c.types row f.row
  found-full next x f = row-full Name c.types u row key f.place f.table f.row shape (read-typed Name c.types c.variables i q u b.variables f.table sound.types table f.at) f.there

  got : (name : Name → Name) (k : List Scalar) (o : Outcome) (b' : Frame Name) → RemoveAndGet.get name (key_at c (i ∷ q)) k (j ∷ r) (i ∷ q) b ≡ goes o b' → AreSound c (held_after c.types c.variables (Get (j ∷ r) (i ∷ q) keys) o has) b'.variables
  got name k o b' is = by (found-or (key_at c (i ∷ q)) k (i ∷ q) next b o b' is)
    where
      next : ℕ → Cell Name → Completion Name
      next n row = cond (has_place b.variables (j ∷ r)) (goes ok (put (j ∷ r) (copy_from (λ s. name (b.number, s)) b.serial row) (record b { serial = b.serial + count row }))) stuck

      by : (goes (raised not_found) b ≡ goes o b') ⊎ Found (i ∷ q) next b (goes o b') → AreSound c (held_after c.types c.variables (Get (j ∷ r) (i ∷ q) keys) o has) b'.variables
      by (inl e) = goes-sound c (Get (j ∷ r) (i ∷ q) keys) has has b sound (raised not_found) (λ f. refl) o b' e
      by (inr f) =
          put-full c j r row target deep (Get (j ∷ r) (i ∷ q) keys) ok has has (copy_from (λ s. name (b.number, s)) b.serial f.row) (record b { serial = b.serial + count f.row }) sound
          (copy-full c.types row (λ s. name (b.number, s)) b.serial f.row (found-full next (goes o b') f)) (λ f. refl) o b' (has_place b.variables (j ∷ r)) refl f.on

  pub got-sound : (name : Name → Name) (o : Outcome) (b' : Frame Name) (x : Option (List Scalar)) → if_there (λ k. RemoveAndGet.get name (key_at c (i ∷ q)) k (j ∷ r) (i ∷ q) b) x ≡ goes o b'
      → AreSound c (held_after c.types c.variables (Get (j ∷ r) (i ∷ q) keys) o has) b'.variables
  got-sound name o b' None is = never o b' is
  got-sound name o b' (Some k) is = got name k o b' is
