-- Sites of the parts of a form, one after another.
use Rattle.std.proofs.Common.{◌≡◌, List, ◌++◌, map, ◌∙◌, sym, ap, append_assoc}
use Rattle.std.proofs.lemmas.List.{map-append}
use Rattle.herm_typed.specs.declared.statements.TypedStmt.{TypedStmt}
use Rattle.herm_typed.specs.declared.statements.TypedForm.{TypedForm}
use Rattle.herm_typed.specs.Within.{statements_within}
use Rattle.herm_words.specs.declared.sites.Site.{Site}
use Rattle.herm_words.specs.Sites.{site_of}

pub one_part : (form g : TypedForm) (old new : List Site) (part : List TypedStmt) → form ≡ g → statements_within g ≡ part → new ≡ old ++ map site_of part → new ≡ old ++ map site_of (statements_within form)
one_part form g old new part is within e = e ∙ ap (λ ts. old ++ map site_of ts) (sym within ∙ ap statements_within (sym is))

pub two_parts : (form g : TypedForm) (old between new : List Site) (first second : List TypedStmt) → form ≡ g → statements_within g ≡ first ++ second → between ≡ old ++ map site_of first → new ≡ between ++ map site_of second → new ≡ old ++ map site_of (statements_within form)
two_parts form g old between new first second is within e k =
    one_part form g old new (first ++ second) is within
    (k ∙ (ap (λ xs. xs ++ map site_of second) e ∙ (append_assoc old (map site_of first) (map site_of second) ∙ ap (λ xs. old ++ xs) (sym (map-append site_of first second)))))
