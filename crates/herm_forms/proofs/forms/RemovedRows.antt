-- A row that is taken out of a table, wherever that stands, and set at any place keeps values sound.
use Rattle.std.proofs.Common.{◌≡◌, ◌⊎◌, inl, inr, ℕ, zero, suc, ◌≤◌, List, ◌∷◌, Bool, Option, Some, None, refl, ap, ◌∙◌, nat_le, arith, leb-true, le-leb}
use Rattle.std.specs.Prelude.{slice_get, IsTrue}
use Rattle.herm_model.specs.Paths.{Fact}
use Rattle.herm_model.specs.Types.{TypeTable, rows, type_at, is_within_depth, greatest_depth}
use Rattle.herm_model.specs.Expressions.{Atom}
use Rattle.herm_model.specs.Statements.{Remove}
use Rattle.herm_model.specs.Outcomes.{Outcome, ok, raised, not_found}
use Rattle.herm_model.specs.Values.{Scalar, Cell, Parts, no_parts, gap, part, size, read_at, has_place}
use Rattle.herm_model.specs.Tables.{has_distinct_keys, without_part}
use Rattle.herm_model.specs.Typed.{many, greatest_rows, is_bounded, Fits}
use Rattle.herm_model.proofs.Lists.{and-both, both-and}
use Rattle.herm_model.proofs.Keys.{distinct-without}
use Rattle.herm_forms.specs.Evaluate.{key_values}
use Rattle.herm_forms.specs.Frames.{Name, Frame, Completion, goes, if_there, putting}
use Rattle.herm_forms.specs.RemoveAndGet
use Rattle.herm_forms.specs.InsertForm.{change_rows}
use Rattle.herm_forms.specs.Modules.{Module}
use Rattle.herm_forms.specs.Acts.{key_at}
use Rattle.herm_forms.specs.laws.EdgeLaws.{AreSound, held_after}
use Rattle.herm_forms.specs.laws.ComponentLaws.{RowsAreFound}
use Rattle.herm_forms.proofs.forms.PlainForms.{never}
use Rattle.herm_forms.proofs.forms.SetTargets.{put-full}
use Rattle.herm_forms.proofs.forms.ReadTypes.{read-typed, is-table}
use Rattle.herm_forms.proofs.forms.FoundRows.{Found, found-or, found-full, got-sound, goes-sound}
use Rattle.herm_forms.proofs.forms.ChangedTables.{change-sound}

without-fits : (N : Type 0) (table : TypeTable) (row i : ℕ) (ps : Parts N) → Fits table (many row) ps → Fits table (many row) (without_part i ps)
without-fits N table row i no_parts h = h
without-fits N table row i (gap ps) h = absurd h
without-fits N table row zero (part c ps) h = h.1
without-fits N table row (suc i) (part c ps) h = (h.0, without-fits N table row i ps h.1)

without-size : {N : Type 0} (i : ℕ) (ps : Parts N) → size (without_part i ps) ≤ size ps
without-size i no_parts = omega arith
without-size zero (gap ps) = omega arith
without-size zero (part c ps) = omega arith
without-size (suc i) (gap ps) = let h = without-size i ps in omega (arith, h)
without-size (suc i) (part c ps) = let h = without-size i ps in omega (arith, h)

without-bounded : {N : Type 0} (row : ℕ) (key : List ℕ) (i : ℕ) (ps : Parts N) → IsTrue (is_bounded (rows row key) ps) → IsTrue (is_bounded (rows row key) (without_part i ps))
without-bounded row key i ps h =
    let both = and-both (nat_le (size ps) greatest_rows) (has_distinct_keys key ps) h in
    let few : size ps ≤ greatest_rows = leb-true (size ps) greatest_rows both.0 in
    let less = without-size i ps in
    let fewer : size (without_part i ps) ≤ greatest_rows = omega (arith, few, less) in
    both-and (nat_le (size (without_part i ps)) greatest_rows) (has_distinct_keys key (without_part i ps)) (le-leb (size (without_part i ps)) greatest_rows fewer) (distinct-without key i ps both.1)

module _ (c : Module) (i : ℕ) (q : List ℕ) (j : ℕ) (r : List ℕ) (row u : ℕ) (key : List ℕ) (table : type_at c.types c.variables (i ∷ q) ≡ Some u) (shape : slice_get c.types u ≡ Some (rows row key)) (target : type_at c.types c.variables (j ∷ r) ≡ Some row)
    (deep : IsTrue (is_within_depth greatest_depth c.types row)) (keys : List Atom) (has : Fact → Bool) (b : Frame Name) (sound : AreSound c has b.variables) where
  -- the table without the row
  pub less-sound : (d : Cell Name) → read_at (i ∷ q) b.variables ≡ Some d → (n : ℕ) → AreSound c has (change_rows (i ∷ q) (without_part n) b).variables
  less-sound d at n =
      let x = is-table Name c.types u row key d shape (read-typed Name c.types c.variables i q u b.variables d sound.types table at) in
      change-sound c has b.variables sound i q u row key table shape (without_part n) (λ m rs at fits bounded. (without-fits Name c.types row n rs fits, without-bounded row key n rs bounded)) x.name x.rows' (at ∙ ap Some x.is)

  removed : (k : List Scalar) (o : Outcome) (b' : Frame Name) → RemoveAndGet.remove (key_at c (i ∷ q)) k (j ∷ r) (i ∷ q) b ≡ goes o b' → AreSound c (held_after c.types c.variables (Remove (j ∷ r) (i ∷ q) keys) o has) b'.variables
  removed k o b' is = by (found-or (key_at c (i ∷ q)) k (i ∷ q) next b o b' is)
    where
      next : ℕ → Cell Name → Completion Name
      next n row = putting (j ∷ r) ok row (change_rows (i ∷ q) (without_part n) b)

      by : (goes (raised not_found) b ≡ goes o b') ⊎ Found (i ∷ q) next b (goes o b') → AreSound c (held_after c.types c.variables (Remove (j ∷ r) (i ∷ q) keys) o has) b'.variables
      by (inl e) = goes-sound c (Remove (j ∷ r) (i ∷ q) keys) has has b sound (raised not_found) (λ f. refl) o b' e
      by (inr f) =
          let cut = change_rows (i ∷ q) (without_part f.place) b in
          put-full c j r row target deep (Remove (j ∷ r) (i ∷ q) keys) ok has has f.row cut (less-sound f.table f.at f.place)
          (found-full c i q j r row u key table shape target deep keys has b sound next (goes o b') f) (λ f. refl) o b' (has_place cut.variables (j ∷ r)) refl f.on

  removed-sound : (o : Outcome) (b' : Frame Name) (x : Option (List Scalar)) → if_there (λ k. RemoveAndGet.remove (key_at c (i ∷ q)) k (j ∷ r) (i ∷ q) b) x ≡ goes o b'
      → AreSound c (held_after c.types c.variables (Remove (j ∷ r) (i ∷ q) keys) o has) b'.variables
  removed-sound o b' None is = never o b' is
  removed-sound o b' (Some k) is = removed k o b' is

pub rows-found : (c : Module) → RowsAreFound c
rows-found c = record {
  get = λ i q j r row u key keys table shape target deep name s has b b' o sound is.
      got-sound c i q j r row u key table shape target deep keys has b sound name o b' (key_values b.variables keys) is;
  remove = λ i q j r row u key keys table shape target deep name s has b b' o sound is.
      removed-sound c i q j r row u key table shape target deep keys has b sound o b' (key_values b.variables keys) is;
}
