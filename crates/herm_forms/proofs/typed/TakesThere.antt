-- What typed calls and returns take out of their paths is there, and a callmessage is composed.
use Rattle.std.proofs.Common.{◌≡◌, inl, inr, ℕ, suc, ◌+◌, arith, List, [], ◌∷◌, map, flat_map, Bool, true, false, cond, Option, Some, None, option_map, refl, sym, ap, ◌∙◌}
use Rattle.std.specs.Prelude.{IsTrue, ⊤}
use Rattle.herm_model.specs.Lists.{IsIn}
use Rattle.herm_model.specs.Paths.{Path, Fact, init}
use Rattle.herm_model.specs.Types.{Mode, by_in, by_inout, by_out, Parameter, passes_component}
use Rattle.herm_model.specs.Facts.{facts_to}
use Rattle.herm_model.specs.Expressions.{Atom, literal, path}
use Rattle.herm_model.specs.Calls.{arguments_by, is_returned, returned_places}
use Rattle.herm_model.specs.Statements.{Differ}
use Rattle.herm_model.specs.FactsOfStatements.{full_of_each}
use Rattle.herm_model.specs.TypedStatements.{AreApart, IsArgument, AreArguments}
use Rattle.herm_model.specs.Values.{Cell, Parts, no_parts, gap, part, cell_at}
use Rattle.herm_model.specs.CellNames.{count, copy_from, copy_in}
use Rattle.herm_model.proofs.Lists.{in-append_left}
use Rattle.herm_model.proofs.Options.{none-not_some, some-injective, map-some}
use Rattle.herm_model.proofs.Places.{cell_at-set_apart}
use Rattle.herm_model.proofs.TypedCalls.{returned-there}
use Rattle.herm_forms.specs.Frames.{Name, Frame, cleared, drop, Taken, with_taken, take_all}
use Rattle.herm_forms.specs.Evaluate.{Evaluated, gives, raises, no_value, atom_value}
use Rattle.herm_forms.specs.Excess.{excess_over_full}
use Rattle.herm_forms.specs.Modules.{Module}
use Rattle.herm_forms.specs.Callmessages.{assemble}
use Rattle.herm_forms.specs.Acts.{is_inout, input_of, inputs_of}
use Rattle.herm_forms.specs.laws.EdgeLaws.{AreSound}
use Rattle.herm_forms.specs.laws.CallLaws.{HaveTypesAt}
use Rattle.herm_forms.proofs.Arrived.{to-direct, drop-variables}
use Rattle.herm_model.specs.Finalising.{clear_all}
use Rattle.herm_forms.proofs.forms.SetTargets.{in-full}
use Rattle.herm_forms.proofs.forms.ExcessDropped.{source-full}
use Rattle.herm_forms.proofs.called.LostApart.{lost-own}
use Rattle.herm_forms.proofs.called.TakenApart.{fit-in, fit-below}
use Rattle.herm_forms.proofs.typed.Room.{value-there}

-- as many cells as paths
abbrev pub AreAsMany : List Path → List (Cell Name) → Type 0
AreAsMany [] [] = ⊤
AreAsMany [] (d ∷ ds) = ⊥
AreAsMany (p ∷ paths) [] = ⊥
AreAsMany (p ∷ paths) (d ∷ ds) = AreAsMany paths ds

-- what is taken of paths that are apart, where each has something
pub takes-there : (xs : List Path) → AreApart xs → (cut : Frame Name) → ((x : Path) → IsIn x xs → (d : Cell Name) × (cell_at x cut.variables ≡ Some d)) → (t : Taken Name) × (take_all xs cut ≡ Some t) × AreAsMany xs t.cells
takes-there [] apart cut there = (record { cells = []; frame = cut }, refl, tt)
takes-there (x ∷ xs) apart cut there =
    let d = there x (inl refl) in
    let r = takes-there xs apart.1 (cleared x cut) (λ y h. let e = there y (inr h) in (e.0, cell_at-set_apart x y None cut.variables (apart.0 y h) ∙ e.1)) in (
      record { cells = d.0 ∷ r.0.cells; frame = r.0.frame },
      ap (λ (o : Option (Cell Name)). elim o [ None ↦ None | Some d ↦ with_taken d (take_all xs (cleared x cut)) ]) d.1 ∙ ap (with_taken d.0) r.1,
      r.2,
    )

-- each path with its full facts has something, without what is lost of all
pub fit-there : (c : Module) (has : Fact → Bool) (b : Frame Name) (sound : AreSound c has b.variables) (xs : List Path) (ts : List ℕ) → HaveTypesAt c xs ts → AreApart xs → ((x : Path) → IsIn x xs → passes_component c.types c.variables x ≡ false)
    → ((f : Fact) → IsIn f (full_of_each c.types c.variables xs) → IsTrue (has f)) → (cut : Frame Name) → cut.variables ≡ b.variables → (x : Path) → IsIn x xs
    → (d : Cell Name) × (cell_at x (drop (flat_map (λ p. excess_over_full c p b) xs) cut).variables ≡ Some d)
fit-there c has b sound xs ts at apart direct needed cut before x h =
    let lost = flat_map (λ p. excess_over_full c p b) xs in
    let f = fit-in c has b sound xs ts at needed x h in
    let i = f.first in
    let q = f.more in
    let direct' : passes_component c.types c.variables (i ∷ q) ≡ false = ap (passes_component c.types c.variables) (sym f.is) ∙ direct x h in
    let own = value-there c has b.variables sound i q (f.needed (init (i ∷ q)) (in-append_left (init (i ∷ q)) (facts_to c.types c.variables (i ∷ q)) _ (to-direct c.types c.variables i q direct'))) in
    let s = source-full c i q has b sound f.type f.typed f.deep (λ g m. f.needed g (in-full c i q f.type f.typed direct' g m)) own.0 own.1 in (
      s.0,
      ap (cell_at x) (drop-variables lost cut ∙ ap (clear_all lost) before)
          ∙ lost-own (λ p. excess_over_full c p b) xs (λ y k p l. fit-below c has b sound y (fit-in c has b sound xs ts at needed y k) p l) apart x h b.variables b.variables refl
          ∙ ap (λ x. cell_at x (clear_all (excess_over_full c x b) b.variables)) f.is ∙ ap (cell_at (i ∷ q)) (sym (drop-variables (excess_over_full c (i ∷ q) b) b)) ∙ s.1,
    )

-- the parameters of a callmessage, from as many values as its arguments of mode inout
module _ (c : Module) (copy : ℕ → Name) (variables : Parts Name) where
  abbrev modes : List Parameter → List Mode
  modes params = map (λ (p : Parameter). p.mode) params

  abbrev Assembles : List Parameter → List Atom → Type 0
  Assembles params atoms = (inputs : Parts ⊤) (s : ℕ) (moved : List (Cell Name)) → inputs_of params atoms variables ≡ Some inputs → AreAsMany (arguments_by is_inout params atoms) moved → (ps : Parts Name) × (assemble (modes params) (copy_in copy s inputs) moved ≡ Some ps)

  abbrev AssemblesAfter : Mode → Evaluated → List Path → List Parameter → List Atom → Type 0
  AssemblesAfter m v paths params atoms = (inputs : Parts ⊤) (s : ℕ) (moved : List (Cell Name)) → input_of m v (inputs_of params atoms variables) ≡ Some inputs → AreAsMany paths moved → (ps : Parts Name) × (assemble (m ∷ modes params) (copy_in copy s inputs) moved ≡ Some ps)

  copied-there : (v : Evaluated) (params : List Parameter) (atoms : List Atom) → Assembles params atoms → AssemblesAfter by_in v (arguments_by is_inout params atoms) params atoms
  copied-there (raises x) params atoms more inputs s moved e many = none-not_some e
  copied-there no_value params atoms more inputs s moved e many = none-not_some e
  copied-there (gives v) params atoms more inputs s moved e many =
      let x = map-some (part v) (inputs_of params atoms variables) inputs e in
      let y = more x.0 (s + count v) moved x.1 many in
      (part (copy_from copy s v) y.0, ap (λ inputs. assemble (by_in ∷ modes params) (copy_in copy s inputs) moved) (sym x.2) ∙ ap (option_map (part (copy_from copy s v))) y.1)

  moved-there : (v : Evaluated) (q : Path) (params : List Parameter) (atoms : List Atom) → Assembles params atoms → AssemblesAfter by_inout v (q ∷ arguments_by is_inout params atoms) params atoms
  moved-there v q params atoms more inputs s [] e many = absurd many
  moved-there v q params atoms more inputs s (d ∷ moved) e many = let y = more inputs s moved e many in (part d y.0, ap (option_map (part d)) y.1)

  left-there : (v : Evaluated) (params : List Parameter) (atoms : List Atom) → Assembles params atoms → AssemblesAfter by_out v (arguments_by is_inout params atoms) params atoms
  left-there v params atoms more inputs s moved e many = let y = more inputs s moved e many in (gap y.0, ap (option_map gap) y.1)

  literal-there : (m : Mode) (u : ℕ) (l : _) (params : List Parameter) (atoms : List Atom) → IsArgument c.types c.variables m (literal l) u → Assembles params atoms → AssemblesAfter m (atom_value variables (literal l)) (arguments_by is_inout params atoms) params atoms
  literal-there by_in u l params atoms h more = copied-there (atom_value variables (literal l)) params atoms more
  literal-there by_inout u l params atoms h more = absurd h
  literal-there by_out u l params atoms h more = absurd h

  path-there : (m : Mode) (q : Path) (params : List Parameter) (atoms : List Atom) → Assembles params atoms → AssemblesAfter m (atom_value variables (path q)) (cond (is_inout m) (q ∷ arguments_by is_inout params atoms) (arguments_by is_inout params atoms)) params atoms
  path-there by_in q params atoms more = copied-there (atom_value variables (path q)) params atoms more
  path-there by_inout q params atoms more = moved-there (atom_value variables (path q)) q params atoms more
  path-there by_out q params atoms more = left-there (atom_value variables (path q)) params atoms more

  nothing-there : (inputs : Parts ⊤) (s : ℕ) (moved : List (Cell Name)) → no_parts ≡ inputs → AreAsMany [] moved → (ps : Parts Name) × (assemble [] (copy_in copy s inputs) moved ≡ Some ps)
  nothing-there inputs s [] e many = (no_parts, ap (λ inputs. assemble [] (copy_in copy s inputs) []) (sym e))
  nothing-there inputs s (d ∷ moved) e many = absurd many

  pub assembles-there : (params : List Parameter) (atoms : List Atom) → AreArguments c.types c.variables params atoms → Assembles params atoms
  assembles-there [] [] h inputs s moved e many = nothing-there inputs s moved (some-injective e) many
  assembles-there [] (a ∷ atoms) h inputs s moved e many = absurd h
  assembles-there (p ∷ params) [] h inputs s moved e many = absurd h
  assembles-there (p ∷ params) (literal l ∷ atoms) h inputs s moved e many = literal-there p.mode p.content l params atoms h.0 (assembles-there params atoms h.1) inputs s moved e many
  assembles-there (p ∷ params) (path q ∷ atoms) h inputs s moved e many = path-there p.mode q params atoms (assembles-there params atoms h.1) inputs s moved e many

-- the places of the parameters that come back differ
pub returned-differ : (k : ℕ) (ps : List Parameter) → Differ (returned_places k ps)
returned-differ k [] = tt
returned-differ k (p ∷ ps) = by (is_returned p.mode) (returned-differ (suc k) ps)
  where
    by : (b : Bool) → Differ (returned_places (suc k) ps) → Differ (cond b (k ∷ returned_places (suc k) ps) (returned_places (suc k) ps))
    by true d = ((λ h. let j = returned-there (suc k) k ps h in let same = j.1 in let z : ⊥ = omega (arith, same) in z), d)
    by false d = d
