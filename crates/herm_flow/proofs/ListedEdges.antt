-- Edges that name lists of their point are those of their outcomes.
use Rattle.std.proofs.Common.{◌≡◌, ℕ, zero, suc, ◌<◌, ◌≤◌, ◌⊎◌, inl, inr, List, [], ◌∷◌, ◌++◌, map, flat_map, length, Bool, true, false, cond, Some, slice_get, Vec, Global, refl, sym, ap, ap₂, subst, ◌∙◌, arith}
use Rattle.std.proofs.lemmas.List.{append-nil, length-append}
use Rattle.std.proofs.lemmas.Option.{slice_get_past}
use Rattle.herm_model.specs.Lists.{IsIn, any_pass, list_of}
use Rattle.herm_model.specs.Paths as model
use Rattle.herm_model.specs.Paths.{same_fact, path_of, is_at_or_below}
use Rattle.herm_model.proofs.Lists.{in-append_cases}
use Rattle.herm_types.specs.declared.fact.Path.{Path}
use Rattle.herm_types.specs.declared.fact.Fact.{Fact}
use Rattle.herm_types.specs.View.{path_view, fact_view}
use Rattle.herm_typed.specs.declared.statements.TypedForm.{TypedForm}
use Rattle.herm_typed.specs.declared.outcome_list.Outcome.{Outcome}
use Rattle.herm_judge.specs.declared.frame.Frame.{Frame}
use Rattle.herm_effects.specs.Rows.{makes_at, kills_at}
use Rattle.herm_flow.specs.declared.onward.OnwardEdge.{OnwardEdge}
use Rattle.herm_flow.specs.declared.lists.Listed.{Listed}
use Rattle.herm_flow.specs.OnwardView.{facts_in, paths_in}
use Rattle.herm_flow.specs.Listed.{no_list, Grows, AreNamed, AreListed, AreAsTabled}

-- ---- lists that grow

got-before : {X : Type 0} (xs ys : List X) (i : ℕ) → i < length xs → slice_get (xs ++ ys) i ≡ slice_get xs i
got-before [] ys i below = absurd (omega (arith, below))
got-before (x ∷ xs) ys zero below = refl
got-before (x ∷ xs) ys (suc i) below = got-before xs ys i (omega (arith, below))

pub facts-before : (made new : List (Vec Fact Global)) → Grows made new → (i : ℕ) → i < length made → facts_in new i ≡ facts_in made i
facts-before made new g i below = ap (list_of (λ (v : Vec Fact Global). map fact_view v.items)) (ap (λ ls. slice_get ls i) g.1 ∙ got-before made g.0 i below)

made-before : (made new : List (Vec Fact Global)) → Grows made new → (is : List ℕ) → ((i : ℕ) → IsIn i is → i < length made) → flat_map (facts_in new) is ≡ flat_map (facts_in made) is
made-before made new g [] within = refl
made-before made new g (i ∷ is) within = ap₂ ◌++◌ (facts-before made new g i (within i (inl refl))) (made-before made new g is (λ k m. within k (inr m)))

not-shorter : {X : Type 0} (old new : List X) → Grows old new → length old ≤ length new
not-shorter old new g = let e = ap length g.1 ∙ length-append old g.0 in omega (arith, e)

paths-before : (gone new : List (Vec Path Global)) → Grows gone new → length new ≤ no_list → (k : ℕ) → (k < length gone) ⊎ (k ≡ no_list) → paths_in new k ≡ paths_in gone k
paths-before gone new g few k (inl below) = ap (list_of (λ (v : Vec Path Global). map path_view v.items)) (ap (λ ls. slice_get ls k) g.1 ∙ got-before gone g.0 k below)
paths-before gone new g few k (inr is) =
    let longer = not-shorter gone new g in
    ap (list_of (λ (v : Vec Path Global). map path_view v.items)) (slice_get_past new k (omega (arith, few, is)) ∙ sym (slice_get_past gone k (omega (arith, few, is, longer))))

pub got-last : {X : Type 0} (xs : List X) (x : X) → slice_get (xs ++ x ∷ []) (length xs) ≡ Some x
got-last [] x = refl
got-last (y ∷ xs) x = got-last xs x

-- the list that was put behind the others
pub made_last : (old new : List (Vec Fact Global)) (facts : Vec Fact Global) (n : ℕ) (ns : List ℕ) → new ≡ old ++ facts ∷ [] → n ≡ length old → ns ≡ n ∷ [] → flat_map (facts_in new) ns ≡ map fact_view facts.items
made_last old new facts n ns pushed is named =
    ap (flat_map (facts_in new)) named
    ∙ (append-nil (facts_in new n)
    ∙ ap (list_of (λ (v : Vec Fact Global). map fact_view v.items)) (ap₂ slice_get pushed is ∙ got-last old facts))

pub gone_last : (old new : List (Vec Path Global)) (paths : Vec Path Global) (n : ℕ) → new ≡ old ++ paths ∷ [] → n ≡ length old → paths_in new n ≡ map path_view paths.items
gone_last old new paths n pushed is = ap (list_of (λ (v : Vec Path Global). map path_view v.items)) (ap₂ slice_get pushed is ∙ got-last old paths)

-- no list has the number of none
pub gone_empty : (gone : List (Vec Path Global)) (paths : List Path) → length gone ≤ no_list → length paths ≡ 0 → paths_in gone no_list ≡ map path_view paths
gone_empty gone [] few empty = ap (list_of (λ (v : Vec Path Global). map path_view v.items)) (slice_get_past gone no_list few)
gone_empty gone (p ∷ paths) few empty = absurd (omega (arith, empty))

module _ (frame : Frame) (form : TypedForm) where
  named-grown : (made made' : List (Vec Fact Global)) (gone gone' : List (Vec Path Global)) (outcome : Outcome) (makes : List ℕ) (kills : ℕ) → Grows made made' → Grows gone gone' → length gone' ≤ no_list
      → AreNamed frame form made gone outcome makes kills → AreNamed frame form made' gone' outcome makes kills
  named-grown made made' gone gone' outcome makes kills g h few is = record {
    makes = made-before made made' g makes is.within ∙ is.makes;
    kills = paths-before gone gone' h few kills is.settled ∙ is.kills;
    within = λ i m. let below = is.within i m in let longer = not-shorter made made' g in omega (arith, below, longer);
    settled = by is.settled;
  }
    where
      by : (kills < length gone) ⊎ (kills ≡ no_list) → (kills < length gone') ⊎ (kills ≡ no_list)
      by (inl below) = let longer = not-shorter gone gone' h in inl (omega (arith, below, longer))
      by (inr e) = inr e

  -- more lists behind those that edges name
  pub listed_grown : (old new : Listed) → Grows old.made.items new.made.items → Grows old.gone.items new.gone.items → new.edges ≡ old.edges → length new.gone.items ≤ no_list → AreListed frame form old → AreListed frame form new
  listed_grown old new g h same few is = record {
    edges = λ e m. named-grown old.made.items new.made.items old.gone.items new.gone.items e.outcome e.makes.items e.kills g h few (is.edges e (subst (λ (es : Vec OnwardEdge Global). IsIn e es.items) same m));
    few = few;
  }

  -- what an edge names serves an outcome that makes and takes away the same
  pub named_alike : (l : Listed) (e : OnwardEdge) (outcome : Outcome) (es : List OnwardEdge) (copied numbers : List ℕ) → AreListed frame form l → IsIn e es → es ≡ l.edges.items → makes_at frame form e.outcome ≡ makes_at frame form outcome → kills_at frame form e.outcome ≡ kills_at frame form outcome
      → numbers ≡ copied → copied ≡ e.makes.items → AreNamed frame form l.made.items l.gone.items outcome numbers e.kills
  named_alike l e outcome es copied numbers is m same makes kills a b = let named = is.edges e (subst (IsIn e) same m) in record {
    makes = ap (flat_map (facts_in l.made.items)) (a ∙ b) ∙ (named.makes ∙ makes);
    kills = named.kills ∙ kills;
    within = λ i k. named.within i (subst (IsIn i) (a ∙ b) k);
    settled = named.settled;
  }

  -- one edge more
  pub listed_more : (old new : Listed) (e : OnwardEdge) → new.made ≡ old.made → new.gone ≡ old.gone → new.edges.items ≡ old.edges.items ++ e ∷ [] → AreNamed frame form old.made.items old.gone.items e.outcome e.makes.items e.kills
      → AreListed frame form old → AreListed frame form new
  listed_more old new e made gone edges named is = record {
    edges = λ d m. again d (by d (in-append_cases d old.edges.items (e ∷ []) (subst (IsIn d) edges m)));
    few = subst (λ (ls : Vec (Vec Path Global) Global). length ls.items ≤ no_list) (sym gone) is.few;
  }
    where
      Before : OnwardEdge → Type 0
      Before d = AreNamed frame form old.made.items old.gone.items d.outcome d.makes.items d.kills

      by : (d : OnwardEdge) → IsIn d old.edges.items ⊎ IsIn d (e ∷ []) → Before d
      by d (inl m) = is.edges d m
      by d (inr (inl same)) = subst Before (sym same) named
      by d (inr (inr m)) = absurd m

      again : (d : OnwardEdge) → Before d → AreNamed frame form new.made.items new.gone.items d.outcome d.makes.items d.kills
      again d h = subst (λ (ls : Vec (Vec Fact Global) Global). AreNamed frame form ls.items new.gone.items d.outcome d.makes.items d.kills) (sym made) (subst (λ (ls : Vec (Vec Path Global) Global). AreNamed frame form old.made.items ls.items d.outcome d.makes.items d.kills) (sym gone) h)

-- ---- what is held behind an edge

abbrev pub after : List model.Fact → List model.Path → model.Fact → Bool → Bool
after makes kills f held = cond (any_pass (same_fact f) makes) true (cond (any_pass (λ p. is_at_or_below p (path_of f)) kills) false held)

-- it depends on which facts the edge makes, not on how often nor in which order
pub after-told : (f : model.Fact) (held : Bool) (ms ns : List model.Fact) (ps qs : List model.Path) → any_pass (same_fact f) ms ≡ any_pass (same_fact f) ns → ps ≡ qs → after ms ps f held ≡ after ns qs f held
after-told f held ms ns ps qs told same = ap₂ (λ b ks. cond b true (cond (any_pass (λ p. is_at_or_below p (path_of f)) ks) false held)) told same

module _ (frame : Frame) (form : TypedForm) where
  -- edges that name what the table has
  pub listed_as_tabled : (l : Listed) → AreListed frame form l → AreAsTabled frame form l
  listed_as_tabled l is e m = let named = is.edges e m in record {
    outcome = refl;
    target = refl;
    held = λ f held. ap₂ (λ ms ks. after ms ks f held) named.makes named.kills;
  }
