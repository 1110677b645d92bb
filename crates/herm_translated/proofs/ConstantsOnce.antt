-- The constants of an image: each literal once.
use Rattle.std.proofs.Common.{◌≡◌, List, [], ◌∷◌, map, flat_map, filter, Bool, true, false, not, cond, inl, inr, IsTrue, refl, sym, ap, subst, ◌∙◌, true≢false}
use Rattle.herm_model.specs.Lists.{IsIn}
use Rattle.herm_model.specs.Types.{TypeTable}
use Rattle.herm_model.specs.Expressions.{Literal}
use Rattle.herm_model.specs.Statements.{Form, Differ}
use Rattle.herm_model.specs.Nodes.{Node}
use Rattle.herm_model.proofs.Lists.{in-map, in-map_from, in-flat_map, in-flat_map_from, in-filter, in-filter_from}
use Rattle.herm_translated.specs.CodeBlocks.{CheckedModule}
use Rattle.herm_translated.specs.Constants.{same_literal, literals_in, once, constants_of}
use Rattle.herm_translated.specs.Translated.{forms_in}
use Rattle.herm_translated.specs.laws.ConstantsOfImages.{HasLiteral, HasItsConstants, ImagesHaveTheirConstants}
use Rattle.herm_translated.proofs.FoundConstants.{same_literal-is, same_literal_self}

not-self : (l : Literal) → IsTrue (not (same_literal l l)) → ⊥
not-self l h = true≢false (sym h ∙ ap not (same_literal_self l))

-- each literal is kept once
in-once : (l : Literal) (ls : List Literal) → IsIn l ls → IsIn l (once ls)
in-once l [] m = m
in-once l (k ∷ ls) (inl e) = inl e
in-once l (k ∷ ls) (inr m) = by (same_literal k l) refl (in-once l ls m)
  where
    by : (b : Bool) → same_literal k l ≡ b → IsIn l (once ls) → IsIn l (k ∷ filter (λ x. not (same_literal k x)) (once ls))
    by true e i = inl (sym (same_literal-is k l e))
    by false e i = inr (in-filter (λ x. not (same_literal k x)) l (once ls) i (ap not e))

once-in : (l : Literal) (ls : List Literal) → IsIn l (once ls) → IsIn l ls
once-in l [] m = m
once-in l (k ∷ ls) (inl e) = inl e
once-in l (k ∷ ls) (inr m) = inr (once-in l ls (in-filter_from (λ x. not (same_literal k x)) l (once ls) m).0)

-- the literals of a form are among the constants, and no others
pub constant-known : (forms : List Form) (form : Form) (l : Literal) → IsIn form forms → IsIn l (literals_in form) → IsIn l (constants_of forms)
constant-known forms form l m i = in-once l (flat_map literals_in forms) (in-flat_map literals_in form l forms m i)

pub constant-of : (forms : List Form) (l : Literal) → IsIn l (constants_of forms) → (form : Form) × IsIn form forms × IsIn l (literals_in form)
constant-of forms l m = in-flat_map_from literals_in l forms (once-in l (flat_map literals_in forms) m)

filter-Differ : (test : Literal → Bool) (ls : List Literal) → Differ ls → Differ (filter test ls)
filter-Differ test [] d = tt
filter-Differ test (k ∷ ls) d = by (test k) (filter-Differ test ls d.1)
  where
    by : (b : Bool) → Differ (filter test ls) → Differ (cond b (k ∷ filter test ls) (filter test ls))
    by true rest = ((λ h. d.0 (in-filter_from test k ls h).0), rest)
    by false rest = rest

once-Differ : (ls : List Literal) → Differ (once ls)
once-Differ [] = tt
once-Differ (k ∷ ls) = ((λ h. not-self k (in-filter_from (λ x. not (same_literal k x)) k (once ls) h).1), filter-Differ (λ x. not (same_literal k x)) (once ls) (once-Differ ls))

module _ (modules : List CheckedModule) where
  abbrev forms_at : CheckedModule → List Form
  forms_at m = map (λ (n : Node). n.form) m.code.nodes

  form-in : (m : CheckedModule) (n : Node) → IsIn m modules → IsIn n m.code.nodes → IsIn n.form (forms_in modules)
  form-in m n there node = in-flat_map forms_at m n.form modules there (in-map (λ (n : Node). n.form) n m.code.nodes node)

  literal-from : (l : Literal) → IsIn l (constants_of (forms_in modules)) → HasLiteral modules l
  literal-from l h =
      let found = constant-of (forms_in modules) l h in
      let home = in-flat_map_from forms_at found.0 modules found.1 in
      let node = in-map_from (λ (n : Node). n.form) found.0 home.0.code.nodes home.2 in
      record { its_module = home.0; its_node = node.0; is_module = home.1; is_node = node.1; is_literal = subst (λ f. IsIn l (literals_in f)) node.2 found.2 }

pub images-have_constants : ImagesHaveTheirConstants
images-have_constants types modules = record {
  literals = λ l. (
    (λ h. literal-from modules l h),
    (λ h. constant-known (forms_in modules) h.its_node.form l (form-in modules h.its_module h.its_node h.is_module h.is_node) h.is_literal),
  );
  once = once-Differ (flat_map literals_in (forms_in modules));
}
