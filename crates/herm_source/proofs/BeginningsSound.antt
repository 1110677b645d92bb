-- The values of an accepted process are sound as it begins.
use Rattle.std.proofs.Common.{◌≡◌, ℕ, zero, suc, List, [], ◌∷◌, length, Bool, true, false, Some, refl, sym, ap, ◌∙◌, subst, arith}
use Rattle.std.specs.Prelude.{pred, IsTrue}
use mathlib.Core.Bool.{false≢true}
use Rattle.herm_model.specs.Paths.{Path, Fact, init, same_path}
use Rattle.herm_model.specs.Nodes.{entry_of}
use Rattle.herm_model.specs.Targets.{Target, node, end, end_by}
use Rattle.herm_model.specs.ControlPaths.{flow_of, held_at_start, IsReached, IsControlPath}
use Rattle.herm_model.specs.Labels.{label_at}
use Rattle.herm_model.specs.Values.{Cell, cell, Parts, no_parts, gaps, part, inside, has_value, kind_of, opens}
use Rattle.herm_model.specs.FactsOfValues.{HasExactly}
use Rattle.herm_model.specs.Typed.{HaveTypes}
use Rattle.herm_model.proofs.NothingThere.{nothing-there, nothing-in_gaps}
use Rattle.herm_model.proofs.Typing.{gaps-typed}
use Rattle.herm_forms.specs.Frames.{Name}
use Rattle.herm_forms.specs.Modules.{module_of}
use Rattle.herm_source.specs.Arriving.{BeginningsAreSound}
use Rattle.herm_forms.proofs.Arrived.{edges-exact}
use Rattle.herm_forms.proofs.Arrivals.{closed-at}
use Rattle.herm_source.proofs.OpeningFrame.{opening_frame}

-- the values of a process that begins
module _ (port : Cell Name) (plain : opens (kind_of port) ≡ false) (n : ℕ) where
  abbrev first : Parts Name
  first = part port (gaps n)

  inside_port : (c : Cell Name) → opens (kind_of c) ≡ false → inside (Some c) ≡ no_parts
  inside_port (cell m k ps) h = ap (λ b. Rattle.std.specs.Prelude.cond b ps no_parts) h

  later_same : (i : ℕ) (p : Path) (b : Bool) → Rattle.std.specs.Prelude.nat_eq (suc i) 0 ≡ b → Rattle.std.specs.Prelude.◌&&◌ b (same_path p []) ≡ false
  later_same i p true e = absurd (let s : suc i ≡ 0 = borrow.Author.Tests.eqb-true (suc i) 0 e in omega arith)
  later_same i p false e = refl

  first_has : (p : Path) → has_value first p ≡ held_at_start (init p)
  first_has [] = refl
  first_has (zero ∷ []) = refl
  first_has (suc i ∷ []) = nothing-in_gaps Name n (i ∷ []) ∙ sym (later_same i [] (Rattle.std.specs.Prelude.nat_eq (suc i) 0) refl)
  first_has (zero ∷ j ∷ p) = ap (λ ps. has_value ps (j ∷ p)) (inside_port port plain) ∙ nothing-there Name (j ∷ p)
  first_has (suc i ∷ j ∷ p) = nothing-in_gaps Name n (i ∷ j ∷ p) ∙ sym (later_same i (j ∷ p) (Rattle.std.specs.Prelude.nat_eq (suc i) 0) refl)

  first_exact : HasExactly first (λ f. IsTrue (held_at_start f))
  first_exact = record {
    values = λ p. ((λ h. sym (first_has p) ∙ h), (λ h. first_has p ∙ h));
    components = λ p c h. absurd (false≢true h);
  }

pub beginnings-sound : BeginningsAreSound
beginnings-sound types p labels exact deep t more are code number port typed plain =
    let c = module_of types p labels in
    let variables = first port plain (pred (length p.variables)) in
    let one_less : pred (length p.variables) ≡ length more = ap (λ (ts : List ℕ). pred (length ts)) are in
    let fits : HaveTypes types p.variables variables =
    subst (λ ts. HaveTypes types ts variables) (sym are) (subst (λ n. HaveTypes types (t ∷ more) (part port (gaps n))) (sym one_less) (typed, gaps-typed Name types more)) in
    let reached : IsReached (flow_of types p) (entry_of p) = ([], held_at_start (init (0 ∷ [])), refl) in
    edges-exact c (entry_of p)
    (opening_frame c number port)
    held_at_start deep (record { types = fits; facts = first_exact port plain (pred (length p.variables)) })
    (held-first (entry_of p) reached refl)
    (closed-at types p labels exact (entry_of p) reached)
  where
    held-first : (e : Target) → IsReached (flow_of types p) e → e ≡ entry_of p → (f : Fact) → IsTrue (label_at labels e f) → IsTrue (held_at_start f)
    held-first (node i) r is f label = (exact i f r).0 label [] (held_at_start f) (subst (λ t. IsControlPath (flow_of types p) f [] t (held_at_start f)) (sym is) refl)
    held-first end r is f label = absurd (false≢true label)
    held-first (end_by e) r is f label = absurd (false≢true label)
