-- Refusals at places are refusals at what is seen of the places.
use Rattle.std.proofs.Common.{◌≡◌, Bool, true, false, cond, List, [], ◌∷◌, ◌++◌, map, Option, Some, None, refl, ap, ◌∙◌}
use Rattle.std.proofs.lemmas.List.{map-append}
use Rattle.herm_model.specs.Lists.{any_pass}
use Rattle.herm_model.specs.Types.{TypeTable}
use Rattle.herm_model.specs.Statements as model
use Rattle.herm_syntax.specs.Trees.{Letters, Module}
use Rattle.herm_meaning.specs.Names.{NamedTable}
use Rattle.herm_naming.specs.Meaning.{ProcessText, processes_in, process_meaning}
use Rattle.herm_naming.specs.StatementFaults.{Code, unreachable, no_main, process_codes}
use Rattle.herm_naming.specs.RefusalsOfNames.{Places, at_places, all_places, are_none, is_main, main_refusals, RefusesBy, RefusesProcesses, AreRefusals}

abbrev pub seen : {P Q : Type 0} → (P → Q) → Code × P → Code × Q
seen f r = (r.0, f r.1)

abbrev pub seen_places : {P Q : Type 0} → (P → Q) → Places P → Places Q
seen_places f x = record { name = f x.name; declared = map f x.declared; statements = map f x.statements }

module _ {P Q : Type 0} (f : P → Q) where
  codes_seen : (places : List P) (codes : List (Option Code)) → map (seen f) (at_places places codes) ≡ at_places (map f places) codes
  codes_seen [] codes = refl
  codes_seen (p ∷ places) [] = refl
  codes_seen (p ∷ places) (None ∷ codes) = codes_seen places codes
  codes_seen (p ∷ places) (Some c ∷ codes) = ap (λ rs. (c, f p) ∷ rs) (codes_seen places codes)

  by_seen : (faultless : Bool) (table : TypeTable) (p : model.Process) (codes : List (Option Code)) (x : Places P) (rs : List (Code × P)) → RefusesBy faultless table p codes x rs →
      RefusesBy faultless table p codes (seen_places f x) (map (seen f) rs)
  by_seen true table p codes x rs h = (h.0, h.1, ap (map (seen f)) h.2 ∙ codes_seen x.statements (map (λ m. cond m (Some unreachable) None) h.0))
  by_seen false table p codes x rs h =
      ap (map (seen f)) h ∙ (codes_seen (all_places x) codes ∙ ap (λ ps. at_places (f x.name ∷ ps) codes) (map-append f x.declared x.statements))

  each_seen : (known : NamedTable) (all : List ProcessText) (before : List Letters) (ps : List ProcessText) (places : List (Places P)) (rs : List (Code × P)) → RefusesProcesses known all before ps places rs →
      RefusesProcesses known all before ps (map (seen_places f) places) (map (seen f) rs)
  each_seen known all before [] places rs h = ap (map (seen f)) h
  each_seen known all before (p ∷ ps) [] rs h = absurd h
  each_seen known all before (p ∷ ps) (x ∷ places) rs h = (
    map (seen f) h.0,
    map (seen f) h.1,
    by_seen (are_none (process_codes known all before p)) known.shapes (process_meaning known all p) (process_codes known all before p) x h.0 h.2,
    each_seen known all (before ++ (p.name ∷ [])) ps places h.1 h.3,
    ap (map (seen f)) h.4 ∙ map-append (seen f) h.0 h.1,
  )

  main_seen : (there : Bool) (nowhere : P) → map (seen f) (cond there [] ((no_main, nowhere) ∷ [])) ≡ cond there [] ((no_main, f nowhere) ∷ [])
  main_seen true nowhere = refl
  main_seen false nowhere = refl

  pub refusals_seen : (known : NamedTable) (modules : List Module) (places : List (Places P)) (nowhere : P) (rs : List (Code × P)) → AreRefusals known modules places nowhere rs →
      AreRefusals known modules (map (seen_places f) places) (f nowhere) (map (seen f) rs)
  refusals_seen known modules places nowhere rs h = (
    map (seen f) h.0,
    each_seen known (processes_in modules) [] (processes_in modules) places h.0 h.1,
    ap (map (seen f)) h.2 ∙ (map-append (seen f) h.0 (main_refusals known (processes_in modules) nowhere)
        ∙ ap (λ ms. map (seen f) h.0 ++ ms) (main_seen (any_pass (is_main known) (processes_in modules)) nowhere)),
  )
