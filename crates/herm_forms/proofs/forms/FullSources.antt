-- What moves with its full facts is taken full, without what it held beyond them.
use Rattle.std.proofs.Common.{◌≡◌, ℕ, List, [], ◌∷◌, ◌++◌, Bool, Option, Some, None, refl, sym, ap, ◌∙◌}
use Rattle.std.specs.Prelude.{IsTrue}
use Rattle.herm_model.specs.Lists.{IsIn, list_of}
use Rattle.herm_model.specs.Paths.{Path, Fact}
use Rattle.herm_model.specs.Types.{type_at, is_within_depth, greatest_depth}
use Rattle.herm_model.specs.Facts.{full_facts}
use Rattle.herm_model.specs.FactsOfStatements.{full}
use Rattle.herm_model.specs.Outcomes.{Outcome}
use Rattle.herm_model.specs.Values.{Cell, cell_at}
use Rattle.herm_model.specs.Typed.{IsFull}
use Rattle.herm_forms.specs.Frames.{Name, Frame, Completion, goes, if_there, cleared, drop}
use Rattle.herm_forms.specs.Forms.{moving}
use Rattle.herm_forms.specs.Excess.{excess_over_full}
use Rattle.herm_forms.specs.Modules.{Module}
use Rattle.herm_forms.specs.laws.EdgeLaws.{AreSound, without}
use Rattle.herm_forms.proofs.forms.PlainForms.{never}
use Rattle.herm_forms.proofs.forms.SetTargets.{there-direct, in-full}
use Rattle.herm_forms.proofs.forms.ExcessDropped.{source-taken, no-source, below-source, source-full, inside-source}

module _ (c : Module) (i : ℕ) (q : List ℕ) (t : ℕ) (type : type_at c.types c.variables (i ∷ q) ≡ Some t) (deep : IsTrue (is_within_depth greatest_depth c.types t)) (has : Fact → Bool) (b : Frame Name) (sound : AreSound c has b.variables)
    (needed : (f : Fact) → IsIn f (full c.types c.variables (i ∷ q)) → IsTrue (has f)) where
  abbrev pub lost : List Path
  lost = excess_over_full c (i ∷ q) b

  module _ (d : Cell Name) (at : cell_at (i ∷ q) b.variables ≡ Some d) where
    facts-there : (f : Fact) → IsIn f (full_facts c.types t (i ∷ q)) → IsTrue (has f)
    facts-there f h = needed f (in-full c i q t type (there-direct c i q b.variables d sound.types at) f h)

    -- what is dropped is below the path itself
    pub lost-below : (p : Path) → IsIn p lost → (j : ℕ) × (s : Path) × (p ≡ (i ∷ q) ++ j ∷ s)
    lost-below = inside-source c i q has b sound t type deep facts-there d at

  -- what is taken, and what is left behind it
  pub record Taken (next : Cell Name → Frame Name → Completion Name) (r : Completion Name) : Type 0 where
    pub content : Cell Name
    pub at : cell_at (i ∷ q) (drop lost b).variables ≡ Some content
    pub whole : IsFull c.types t content
    pub frame : Frame Name
    pub cut : frame ≡ cleared (i ∷ q) (drop lost b)
    pub rest : AreSound c (without (i ∷ q) has) frame.variables
    pub on : next content frame ≡ r

  pub taken-full : (next : Cell Name → Frame Name → Completion Name) (o : Outcome) (b' : Frame Name) → moving lost (i ∷ q) next b ≡ goes o b' → Taken next (goes o b')
  taken-full next o b' is = by (cell_at (i ∷ q) b.variables) refl
    where
      by : (x : Option (Cell Name)) → cell_at (i ∷ q) b.variables ≡ x → Taken next (goes o b')
      by None at =
          let none : cell_at (i ∷ q) (drop lost b).variables ≡ None =
          ap (λ lost. cell_at (i ∷ q) (drop lost b).variables) (no-source c i q has b sound (type_at c.types c.variables (i ∷ q)) (list_of (λ t. full_facts c.types t (0 ∷ [])) (type_at c.types c.variables (i ∷ q))) at) ∙ at in
          never o b' (sym (ap (if_there (λ d. next d (cleared (i ∷ q) (drop lost b)))) none) ∙ is)
      by (Some d) at =
          let s = source-full c i q has b sound t type deep (facts-there d at) d at in
          record {
            content = s.0;
            at = s.1;
            whole = s.2;
            frame = cleared (i ∷ q) (drop lost b);
            cut = refl;
            rest = source-taken c i q has b sound lost (below-source c i q has b sound t type);
            on = sym (ap (if_there (λ d. next d (cleared (i ∷ q) (drop lost b)))) s.1) ∙ is;
          }
