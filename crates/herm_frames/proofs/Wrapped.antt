-- What a wrap comes to, by how deep the content is.
use Rattle.std.proofs.Common.{◌≡◌, ◌≤◌, ◌<◌, ℕ, List, true, false, cond, Option, Some, None, option_map, refl, sym, ap, subst, ◌∙◌, arith}
use Rattle.std.proofs.lemmas.Bool.{lt-ltb, le-ltb}
use Rattle.std.specs.Prelude.{⊤, nat_lt}
use Rattle.herm_journal.specs.Renaming.{forget_name}
use Rattle.herm_model.specs.Outcomes.{ok, raised, depletion}
use Rattle.herm_model.specs.Paths.{Path}
use Rattle.herm_model.specs.Values.{a_polymorph, part, no_parts, cell_at, polymorph_depth, Value}
use Rattle.herm_model.proofs.Options.{map-some, some-injective}
use Rattle.herm_forms.specs.Forms.{moving, wrap}
use Rattle.herm_forms.specs.Frames.{Frame, Completion, goes, stuck, if_there, drop, making, putting}

module _ (t : ℕ) (lost : List Path) (y p : Path) (s : Frame ⊤) where
  abbrev pub wrapping : Value → Frame ⊤ → Completion ⊤
  wrapping content b = making forget_name (a_polymorph t) (part content no_parts) (putting p ok) b

  abbrev on_depth : Value → Completion ⊤
  on_depth c = cond (nat_lt (polymorph_depth c) 16) (moving lost y wrapping s) (goes (raised depletion) s)

  abbrev there : Option Value
  there = cell_at y (drop lost s).variables

  none_there : (o : Option Value) → None ≡ option_map polymorph_depth o → o ≡ None
  none_there None h = refl
  none_there (Some c) h = cc

  pub wrapped_none : (o : Option ℕ) → o ≡ option_map polymorph_depth there → o ≡ None → wrap forget_name t lost y p s ≡ stuck
  wrapped_none o at none = ap (if_there on_depth) (none_there there (sym none ∙ at))

  pub wrapped_deep : (o : Option ℕ) (d : ℕ) → o ≡ option_map polymorph_depth there → o ≡ Some d → 16 ≤ d → wrap forget_name t lost y p s ≡ goes (raised depletion) s
  wrapped_deep o d at some deep =
      let c = map-some polymorph_depth there d (sym at ∙ some) in
      ap (if_there on_depth) c.1 ∙ ap (λ b. cond b (moving lost y wrapping s) (goes (raised depletion) s)) (le-ltb (polymorph_depth c.0) 16 (subst (λ n. 16 ≤ n) (sym c.2) deep))

  pub wrapped_on : (o : Option ℕ) (d : ℕ) → o ≡ option_map polymorph_depth there → o ≡ Some d → d < 16 → wrap forget_name t lost y p s ≡ moving lost y wrapping s
  wrapped_on o d at some less =
      let c = map-some polymorph_depth there d (sym at ∙ some) in
      ap (if_there on_depth) c.1 ∙ ap (λ b. cond b (moving lost y wrapping s) (goes (raised depletion) s)) (lt-ltb (polymorph_depth c.0) 16 (subst (λ n. n < 16) (sym c.2) less))

  pub depth_is : (o : Option ℕ) (d : ℕ) (c : Value) → o ≡ option_map polymorph_depth there → o ≡ Some d → Some c ≡ there → d ≡ polymorph_depth c
  depth_is o d c at some is = some-injective (sym some ∙ at ∙ ap (option_map polymorph_depth) (sym is))
