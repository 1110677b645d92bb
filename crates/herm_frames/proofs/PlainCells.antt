-- One cell that is finalised at once, and a frame whose variables have another value in its place.
use Rattle.std.proofs.Common.{◌≡◌, ℕ, suc, ◌+◌, append-nil, arith, List, [], ◌∷◌, ◌++◌, length, true, false, Option, Some, None, is_some, refl, sym, ap, ap₂, subst, ◌∙◌}
use Rattle.std.specs.Prelude.{⊤, IfSome, ◌&&◌}
use Rattle.herm_model.specs.Paths.{Path}
use Rattle.herm_model.specs.Values as model
use Rattle.herm_model.specs.Values.{Parts, part, kind_of, cell_at, put_at, has_value}
use Rattle.herm_model.specs.Finalising.{finalised, finalised_in, pending, pending_in}
use Rattle.herm_forms.specs.Frames.{Frame, finalise, finalise_name, put}
use Rattle.herm_places.specs.Held.{seen_places}
use Rattle.herm_places.specs.Plain.{IsPlain, is_plain_kind}
use Rattle.herm_values.specs.declared.value.Value.{Value}
use Rattle.herm_frames.specs.Counts.{cut}
use Rattle.herm_frames.specs.HeldFrames.{HeldFrame}
use Rattle.herm_frames.specs.PlainRecords.{are_plain}
use Rattle.herm_frames.specs.Standing.{Stands}
use Rattle.herm_frames.proofs.Stood.{with_variables, put_none, put_found}

pub nothing_waits : (w : List model.Value) (c : model.Value) → IsPlain c → w ≡ w ++ pending c
nothing_waits w c h = sym (append-nil w) ∙ ap (λ p. w ++ p) (sym h.nothing_waits)

pub one_counts : (n : ℕ) (c : model.Value) → IsPlain c → cut (n + 1) ≡ cut (n + length (finalised c))
one_counts n c h = ap (λ names. cut (n + length names)) (sym h.one_cell)

-- a record of such cells
pub none_waits : (w : List model.Value) (c : model.Value) → pending c ≡ [] → w ≡ w ++ pending c
none_waits w c h = sym (append-nil w) ∙ ap (λ p. w ++ p) (sym h)

pub all_count : (b n : ℕ) (c : model.Value) → cut n ≡ cut (length (finalised c)) → cut (b + n) ≡ cut (b + length (finalised c))
all_count b n c h = omega (arith, h)

pub ruleset counting = (nothing_waits, one_counts, none_waits, all_count)

pub plain_part : (c : model.Value) (ps : Parts ⊤) → true ≡ is_plain_kind (kind_of c) → are_plain (part c ps) ≡ are_plain ps
plain_part c ps h = ap (λ b. b && are_plain ps) (sym h)

pub other_part : (c : model.Value) (ps : Parts ⊤) → false ≡ is_plain_kind (kind_of c) → are_plain (part c ps) ≡ false
other_part c ps h = ap (λ b. b && are_plain ps) (sym h)

pub part_waits : (c : model.Value) (ps : Parts ⊤) → IsPlain c → pending_in (part c ps) ≡ pending_in ps
part_waits c ps h = ap (λ w. w ++ pending_in ps) h.nothing_waits

pub part_counts : (c : model.Value) (ps : Parts ⊤) → IsPlain c → length (finalised_in (part c ps)) ≡ suc (length (finalised_in ps))
part_counts c ps h = ap (λ names. length (names ++ finalised_in ps)) h.one_cell

pub ruleset plain_places = (plain_part, other_part, part_waits, part_counts)

plain_finalised : (c : model.Value) (s : Frame ⊤) → IsPlain c → finalise c s ≡ finalise_name tt s
plain_finalised c s h =
    ap₂ (λ w names. record s { work = s.work ++ w; finalised = s.finalised ++ names }) h.nothing_waits h.one_cell
    ∙ ap (λ w. record s { work = w; finalised = s.finalised ++ tt ∷ [] }) (append-nil s.work)

pub put_in_empty : (f : HeldFrame) (s : Frame ⊤) (vs : List (Option Value)) (p : Path) (c : model.Value) → Stands f s → false ≡ has_value (seen_places f.variables) p → seen_places vs ≡ put_at p c (seen_places f.variables) → Stands (record f { variables = vs }) (put p c s)
put_in_empty f s vs p c h none is =
    subst (λ b. Stands (record f { variables = vs }) b) (sym (put_none s p c (empty (cell_at p (seen_places f.variables)) none ∙ ap (cell_at p) (sym h.variables))))
    (with_variables f s vs (put_at p c s.variables) h (ap (put_at p c) h.variables ∙ sym is)) where
      empty : (o : Option model.Value) → false ≡ is_some o → None ≡ o
      empty None e = refl
      empty (Some d) e = cc

pub put_over_plain : (f : HeldFrame) (s : Frame ⊤) (vs : List (Option Value)) (p : Path) (c : model.Value) (new : HeldFrame) → Stands f s → true ≡ has_value (seen_places f.variables) p → IfSome (cell_at p (seen_places f.variables)) IsPlain
    → seen_places vs ≡ put_at p c (seen_places f.variables) → ((t : Frame ⊤) → Stands (record f { variables = vs }) t → Stands new (finalise_name tt t)) → Stands new (put p c s)
put_over_plain f s vs p c new h some plain is on = by_what (cell_at p (seen_places f.variables)) refl some plain where
  by_what : (o : Option model.Value) → o ≡ cell_at p (seen_places f.variables) → true ≡ is_some o → IfSome o IsPlain → Stands new (put p c s)
  by_what None at some plain = absurd (cc some)
  by_what (Some d) at some plain = put_found f s vs p c d new h at is (λ t st. subst (λ b. Stands new b) (sym (plain_finalised d t plain)) (on t st))

pub as_it_stood : (f : HeldFrame) (s : Frame ⊤) (vs : List (Option Value)) → Stands f s → seen_places vs ≡ seen_places f.variables → Stands (record f { variables = vs }) s
as_it_stood f s vs h is = with_variables f s vs s.variables h (h.variables ∙ sym is)

pub ruleset replaced = (put_in_empty, put_over_plain, as_it_stood)
