use Rattle.std.proofs.Common.{◌++◌, [], ◌∷◌, map, Vec, Global, ℕ, sym, ap, ◌∙◌}
use Rattle.std.specs.Prelude.{if◌then◌else◌}
use Rattle.std.proofs.lemmas.List.{map-append}
use Rattle.herm_model.specs.Facts.{without_repeats}
use Rattle.herm_types.specs.View.{fact_view}
use Rattle.herm_defs.specs.Distinct.{number_key}
use Rattle.herm_defs.proofs.DistinctLaws.{not-false, not-true, known-once, unknown-once}
use Rattle.herm_defs.proofs.distinct.DistinctFacts.add.Goals as goal

pub returns-then-not-branch : goal.returns-then-not-branch
returns-then-not-branch c = λ fs h.
    let found = not-false _ (sym c.in_ok-insert.ensures.added ∙ c.if-not-branch.true) in
    let same = known-once fs (fact_view c.args.fact) c.args.self.now.keys.keys c.in_ok-key.key h.keys c.in_ok-key.ensures found in
    record {
      listed = h.listed ∙ sym same;
      keys = ap (map (λ (k : Vec ℕ Global). k.items)) (c.in_ok-insert.ensures.keys ∙ ap (λ b. if b then c.args.self.now.keys.keys else (c.args.self.now.keys.keys ++ c.in_ok-key.key ∷ [])) found) ∙ (h.keys ∙ ap (map number_key) (sym same));
    }

pub returns : goal.returns
returns c = λ fs h.
    let new = not-true _ (sym c.in_ok-insert.ensures.added ∙ c.if-not-branch.false) in
    let more = unknown-once fs (fact_view c.args.fact) c.args.self.now.keys.keys c.in_ok-key.key h.keys c.in_ok-key.ensures new in
    record {
      listed = ap (map fact_view) c.in_ok-push.ensures.items ∙ (map-append fact_view c.args.self.now.facts.items (c.args.fact ∷ []) ∙ (ap (λ fs'. fs' ++ fact_view c.args.fact ∷ []) h.listed ∙ sym more));
      keys = ap (map (λ (k : Vec ℕ Global). k.items)) (c.in_ok-insert.ensures.keys ∙ ap (λ b. if b then c.args.self.now.keys.keys else (c.args.self.now.keys.keys ++ c.in_ok-key.key ∷ [])) new)
          ∙ (map-append (λ (k : Vec ℕ Global). k.items) c.args.self.now.keys.keys (c.in_ok-key.key ∷ [])
          ∙ (ap (λ ks. ks ++ c.in_ok-key.key.items ∷ []) h.keys
          ∙ (ap (λ k. map number_key (without_repeats fs) ++ k ∷ []) c.in_ok-key.ensures
          ∙ (sym (map-append number_key (without_repeats fs) (fact_view c.args.fact ∷ [])) ∙ ap (map number_key) (sym more)))));
    }
