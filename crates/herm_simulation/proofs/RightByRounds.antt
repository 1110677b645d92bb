-- What labels in rounds give of a process is right.
use Rattle.std.proofs.Common.{◌≡◌, ◌↔◌, inl, inr, ℕ, zero, suc, ◌+◌, List, [], ◌∷◌, map, Bool, true, false, Some, None, option_map, slice_get, refl, sym, ap, ap₂, subst, ◌∙◌, arith}
use Rattle.std.specs.Prelude.{◌||◌, IsTrue}
use Rattle.herm_model.specs.Lists.{IsIn, list_of, numbered, any_pass}
use Rattle.herm_model.specs.Paths.{Fact, same_fact}
use Rattle.herm_model.specs.Types.{TypeTable}
use Rattle.herm_model.specs.ControlPaths.{Point, edge, point, flow_of}
use Rattle.herm_model.specs.Exits.{exits}
use Rattle.herm_model.specs.Nodes.{process_nodes}
use Rattle.herm_model.specs.Statements.{Process}
use Rattle.herm_model.proofs.FactTests.{listed-IsIn, IsIn-listed}
use Rattle.herm_model.proofs.Lists.{slice_get-map, not_true}
use Rattle.herm_model.proofs.Options.{none-not_some, some-injective}
use Rattle.herm_source.specs.Checked.{IsChecked}
use Rattle.herm_source.specs.LabelRounds.{LabelLists, has_label, ready}
use Rattle.herm_source.specs.Modules.{Program}
use Rattle.herm_source.specs.examples.RunExamples.{ready_program}
use Rattle.herm_instructions.specs.tests.GoodTests.{is_good}
use Rattle.herm_instructions.proofs.DecidedCode.{test-images}
use Rattle.herm_translated.specs.CodeBlocks.{CheckedModule}
use Rattle.herm_translated.specs.examples.CheckedByRounds.{dropped_along, checked_with, checked_by, image_by}
use Rattle.herm_simulation.specs.Checks.{list_at, IsRight}
use Rattle.herm_simulation.specs.examples.TranslatedExamples.{IsTranslatedByRounds}

-- the facts of a list of labels
or-nothing : (b : Bool) → (b || false) ≡ b
or-nothing true = refl
or-nothing false = refl

facts-right : (ls : LabelLists) (i : ℕ) (f : Fact) → IsIn f (list_at (map (list_of (λ facts. facts)) ls) i) ↔ IsTrue (has_label ls i f)
facts-right [] i f = ((λ h. absurd h), (λ h. not_true h))
facts-right (None ∷ ls) zero f = ((λ h. absurd h), (λ h. not_true h))
facts-right (Some fs ∷ ls) zero f = ((λ h. or-nothing (any_pass (same_fact f) fs) ∙ IsIn-listed f fs h), (λ h. listed-IsIn f fs (sym (or-nothing (any_pass (same_fact f) fs)) ∙ h)))
facts-right (l ∷ ls) (suc i) f = facts-right ls i f

numbered-at : {X : Type 0} (k i : ℕ) (xs : List X) (x : X) → slice_get xs i ≡ Some x → slice_get (numbered k xs) i ≡ Some (k + i, x)
numbered-at k i [] x e = none-not_some e
numbered-at k zero (y ∷ xs) x e = let same : k ≡ k + 0 = omega arith in ap₂ (λ n y. Some (n, y)) same (some-injective e)
numbered-at k (suc i) (y ∷ xs) x e = let same : suc k + i ≡ k + suc i = omega arith in numbered-at (suc k) i xs x e ∙ ap (λ n. Some (n, x)) same

module _ (types : TypeTable) (p : Process) (ls : LabelLists) where
  pub right-with : IsRight (checked_with types p ls)
  right-with = record {
    facts = λ i n at f. facts-right ls i f;
    drops = λ i j n x at at-j.
        (let points : slice_get (numbered 0 (flow_of types p).points) i ≡ Some (i, point types p.variables n)
        = numbered-at 0 i (flow_of types p).points (point types p.variables n) (slice_get-map (point types p.variables) (process_nodes p) i ∙ ap (option_map (point types p.variables)) at)
        ∙ ap (λ m. Some (m, point types p.variables n)) (omega arith) in
        ap (λ o. list_at (list_of (λ xs. xs) o) j)
        (slice_get-map (λ (q : ℕ × Point). map (dropped_along types p.variables ls q.0) (q.1).edges) (numbered 0 (flow_of types p).points) i ∙ ap (option_map (λ (q : ℕ × Point). map (dropped_along types p.variables ls q.0) (q.1).edges)) points)
        ∙ ap (list_of (λ xs. xs))
        (slice_get-map (dropped_along types p.variables ls i) (map (edge types p.variables n.form) (exits types p.variables n)) j
        ∙ ap (option_map (dropped_along types p.variables ls i)) (slice_get-map (edge types p.variables n.form) (exits types p.variables n) j ∙ ap (option_map (edge types p.variables n.form)) at-j)));
    entry = refl;
  }

right-each : (n : ℕ) (types : TypeTable) (ps : List Process) (m : CheckedModule) → IsIn m (map (checked_by n types) ps) → IsRight m
right-each n types [] m h = absurd h
right-each n types (p ∷ ps) m (inl e) = subst IsRight (sym e) (right-with types p _)
right-each n types (p ∷ ps) m (inr h) = right-each n types ps m h

codes-each : (n : ℕ) (types : TypeTable) (ps : List Process) → map (λ (m : CheckedModule). m.code) (map (checked_by n types) ps) ≡ map (ready n types) ps
codes-each n types [] = refl
codes-each n types (p ∷ ps) = ap (λ cs. ready n types p ∷ cs) (codes-each n types ps)

-- a checked program whose image passes the test
pub translated-by_test : (exceptions : ℕ) (program : Program) → IsChecked exceptions program (ready_program program) → IsTrue (is_good exceptions (image_by 3 program)) → IsTranslatedByRounds exceptions program
translated-by_test exceptions program accepted good = record {
  accepted = accepted;
  codes = codes-each 3 program.types program.processes;
  right = right-each 3 program.types program.processes;
  good = record { good = (test-images exceptions (image_by 3 program) (accepted.typed).types).0 good; table = (accepted.typed).types };
}
