-- What is reported of one list of demands after another.
use Rattle.std.proofs.Common.{◌≡◌, ℕ, suc, ◌+◌, ◌<◌, ◌≤◌, ◌*◌, List, [], ◌∷◌, ◌++◌, map, flat_map, length, Option, Some, None, option_map, slice_get, false, refl, sym, ◌∙◌, ap, ap₂, arith, append_assoc, append-nil, inl, inr, subst, true≢false}
use Rattle.std.proofs.lemmas.Option.{slice_get_within, slice_get-map}
use Rattle.herm_model.specs.Lists.{IsIn, numbered, map_or, list_of}
use Rattle.herm_model.specs.Paths.{Fact, init}
use Rattle.herm_model.specs.ControlPaths.{Point, Flow, Hop, Holds}
use Rattle.herm_model.specs.MissingFacts as model
use Rattle.herm_model.specs.MissingFacts.{Demand, demands_at, demands, Refusal, AreRefusals}
use Rattle.herm_model.proofs.Lists.{each-joined, length-map}
use Rattle.herm_types.specs.View.{fact_view}
use Rattle.herm_types.specs.declared.fact.Fact.{Fact as FactHere}
use Rattle.herm_check.specs.declared.search.Search.{Search}
use Rattle.herm_check.specs.declared.missing.MissingAt.{MissingAt}
use Rattle.herm_check.specs.declared.missing.Missing.{Missing}
use Rattle.herm_check.specs.Trails.{trail}
use Rattle.herm_check.specs.Missing.{refusal_of, refusals_of, AreMissing}
use Rattle.herm_check.proofs.Noted.{IsNumberOf}
use Rattle.herm_check.specs.Shortest.{IsShortest, AreReported, none, missing, holds, AreNoLonger, AreShortest}

pub reported-append : (flow : Flow) (ds es : List Demand) (rs ss : List Refusal) → AreReported flow ds rs → AreReported flow es ss → AreReported flow (ds ++ es) (rs ++ ss)
reported-append flow _ es _ ss none h = h
reported-append flow _ es _ ss (missing d ds hops rs short g) h = missing d (ds ++ es) hops (rs ++ ss) short (reported-append flow ds es rs ss g h)
reported-append flow _ es _ ss (holds d ds rs held g) h = holds d (ds ++ es) (rs ++ ss) held (reported-append flow ds es rs ss g h)

pub reported-held : (flow : Flow) (d : Demand) → Holds flow d.fact d.at → (ds : List Demand) (rs : List Refusal) → AreReported flow ds rs → AreReported flow (ds ++ d ∷ []) rs
reported-held flow d held ds rs h = subst (AreReported flow (ds ++ d ∷ [])) (append-nil rs) (reported-append flow ds (d ∷ []) rs [] h (holds d [] [] held none))

pub reported-missing : (flow : Flow) (d : Demand) (hops : List Hop) → IsShortest flow d.fact d.at hops → (ds : List Demand) (rs : List Refusal) → AreReported flow ds rs → AreReported flow (ds ++ d ∷ []) (rs ++ record { number = d.number; fact = d.fact; path = hops } ∷ [])
reported-missing flow d hops short ds rs h = reported-append flow ds (d ∷ []) rs (record { number = d.number; fact = d.fact; path = hops } ∷ []) h (missing d [] hops [] short none)

pub map-last : {X Y : Type 0} (f : X → Y) (xs : List X) (x : X) → map f (xs ++ x ∷ []) ≡ map f xs ++ f x ∷ []
map-last f [] x = refl
map-last f (y ∷ xs) x = ap (λ zs. f y ∷ zs) (map-last f xs x)

pub demands-more : (k : ℕ) (ps : List Point) (p : Point) → flat_map demands_at (numbered k (ps ++ p ∷ [])) ≡ flat_map demands_at (numbered k ps) ++ demands_at (k + length ps, p)
demands-more k [] p = append-nil (demands_at (k, p)) ∙ ap (λ n. demands_at (n, p)) (let e : k ≡ k + 0 = omega arith in e)
demands-more k (q ∷ ps) p =
    ap (λ xs. demands_at (k, q) ++ xs) (demands-more (suc k) ps p)
    ∙ (sym (append_assoc (demands_at (k, q)) (flat_map demands_at (numbered (suc k) ps)) (demands_at (suc k + length ps, p)))
    ∙ ap (λ n. (demands_at (k, q) ++ flat_map demands_at (numbered (suc k) ps)) ++ demands_at (n, p)) (let e : suc k + length ps ≡ k + suc (length ps) = omega arith in e))

-- where nothing is reported each fact holds
pub none-reported : (flow : Flow) (ds : List Demand) (rs : List Refusal) → AreReported flow ds rs → rs ≡ [] → (d : Demand) → IsIn d ds → Holds flow d.fact d.at
none-reported flow _ _ none e d member = absurd member
none-reported flow _ _ (missing x ds hops rs short g) e d member = absurd (let k : ⊥ = cc in k)
none-reported flow _ _ (holds x ds rs held g) e d (inl same) = subst (λ (z : Demand). Holds flow z.fact z.at) (sym same) held
none-reported flow _ _ (holds x ds rs held g) e d (inr m) = none-reported flow ds rs g e d m

are-refusals : (flow : Flow) (ds : List Demand) (rs : List Refusal) → AreReported flow ds rs → AreRefusals flow ds rs
are-refusals flow _ _ none = model.none
are-refusals flow _ _ (missing d ds hops rs short g) = model.missing d ds hops rs short.lacks (are-refusals flow ds rs g)
are-refusals flow _ _ (holds d ds rs held g) = model.holds d ds rs held (are-refusals flow ds rs g)

no-longer : (flow : Flow) (ds : List Demand) (rs os : List Refusal) → AreReported flow ds rs → AreRefusals flow ds os → AreNoLonger rs os
no-longer flow _ _ _ none model.none = tt
no-longer flow _ _ _ (missing d ds hops rs short g) (model.missing _ _ others os lacks h) = (short.least others lacks, no-longer flow ds rs os g h)
no-longer flow _ _ _ (missing d ds hops rs short g) (model.holds _ _ os held h) = absurd (true≢false (sym (held hops false short.lacks)))
no-longer flow _ _ _ (holds d ds rs held g) (model.missing _ _ others os lacks h) = absurd (true≢false (sym (held others false lacks)))
no-longer flow _ _ _ (holds d ds rs held g) (model.holds _ _ os _ h) = no-longer flow ds rs os g h

all-few : (flow : Flow) (ds : List Demand) (rs : List Refusal) → AreReported flow ds rs → (r : Refusal) → IsIn r rs → length r.path ≤ 2 * length flow.points
all-few flow _ _ none r member = absurd member
all-few flow _ _ (missing d ds hops rs short g) r (inl same) = subst (λ (z : Refusal). length z.path ≤ 2 * length flow.points) (sym same) short.few
all-few flow _ _ (missing d ds hops rs short g) r (inr m) = all-few flow ds rs g r m
all-few flow _ _ (holds d ds rs held g) r member = all-few flow ds rs g r member

pub all-shortest : (flow : Flow) (rs : List Refusal) → AreReported flow (demands flow) rs → AreShortest flow rs
all-shortest flow rs h = record { refusals = are-refusals flow (demands flow) rs h; least = λ others k. no-longer flow (demands flow) rs others h k; few = all-few flow (demands flow) rs h }

-- the refusal of a missing fact whose fact and search are there
pub refusal-at : (lost : List FactHere) (ss : List Search) (m : MissingAt) (f : Fact) (s : Search) → IsNumberOf lost f m.fact → slice_get ss m.search ≡ Some s → refusal_of lost ss m ≡ record { number = m.stmt.0; fact = f; path = trail s.visits.items m.place }
refusal-at lost ss m f s fact search =
    ap₂ (λ (g : Fact) (hops : List Hop). record { number = m.stmt.0; fact = g; path = hops })
    (sym (mapped (slice_get lost m.fact)) ∙ ap (λ (o : Option Fact). map_or (init []) (λ x. x) o) (sym (slice_get-map fact_view lost m.fact) ∙ fact))
    (ap (λ (o : Option Search). list_of (λ (x : Search). trail x.visits.items m.place) o) search)
  where
    mapped : (o : Option FactHere) → map_or (init []) (λ x. x) (option_map fact_view o) ≡ map_or (init []) fact_view o
    mapped None = refl
    mapped (Some x) = refl

module _ (flow : Flow) (d : Demand) (ds : List Demand) (old : Missing) (h : AreMissing flow ds old) where
  pub missing-held : Holds flow d.fact d.at → AreMissing flow (ds ++ d ∷ []) old
  missing-held held = record { placed = h.placed; reported = reported-held flow d held ds (refusals_of old) h.reported }

  -- one more is missing: its fact and its search are there, and a shortest path leads to its place
  pub missing-more : (new : Missing) (m : MissingAt) (s : Search) → new.lost.items ≡ old.lost.items → new.searches.items ≡ old.searches.items → new.facts.items ≡ old.facts.items ++ m ∷ [] → IsNumberOf old.lost.items d.fact m.fact → slice_get old.searches.items m.search ≡ Some s → m.stmt.0 ≡ d.number
      → IsShortest flow d.fact d.at (trail s.visits.items m.place) → AreMissing flow (ds ++ d ∷ []) new
  missing-more new m s lost searches facts fact is number short = record {
    placed = λ f member. subst (λ (xs : List FactHere). (f.fact < length xs) × (f.search < length new.searches.items)) (sym lost)
        (subst (λ (ss : List Search). (f.fact < length old.lost.items) × (f.search < length ss)) (sym searches)
        (each-joined (λ x. (x.fact < length old.lost.items) × (x.search < length old.searches.items)) old.facts.items (m ∷ []) h.placed (λ x one. last x one) f (subst (IsIn f) facts member)));
    reported = subst (AreReported flow (ds ++ d ∷ [])) (sym (ap₂ (λ (xs : List FactHere) (ss : List Search). map (refusal_of xs ss) new.facts.items) lost searches ∙ (ap (map (refusal_of old.lost.items old.searches.items)) facts ∙ (map-last (refusal_of old.lost.items old.searches.items) old.facts.items m ∙ ap (λ r. refusals_of old ++ r ∷ []) told))))
        (reported-missing flow d (trail s.visits.items m.place) short ds (refusals_of old) h.reported);
  }
    where
      told : refusal_of old.lost.items old.searches.items m ≡ record { number = d.number; fact = d.fact; path = trail s.visits.items m.place }
      told = refusal-at old.lost.items old.searches.items m d.fact s fact is ∙ ap (λ n. record { number = n; fact = d.fact; path = trail s.visits.items m.place }) number

      last : (x : MissingAt) → IsIn x (m ∷ []) → (x.fact < length old.lost.items) × (x.search < length old.searches.items)
      last x (inl e) = subst (λ y. (y.fact < length old.lost.items) × (y.search < length old.searches.items)) (sym e) (
        let many = length-map fact_view old.lost.items in let within = slice_get_within (map fact_view old.lost.items) m.fact d.fact fact in omega (arith, many, within),
        slice_get_within old.searches.items m.search s is,
      )
      last x (inr never) = absurd never

-- no statement was asked of yet
pub none-missing : (flow : Flow) (m : Missing) → m.facts.items ≡ [] → AreMissing flow [] m
none-missing flow m empty = record { placed = λ f member. absurd (subst (IsIn f) empty member); reported = subst (λ fs. AreReported flow [] (map (refusal_of m.lost.items m.searches.items) fs)) (sym empty) none }
