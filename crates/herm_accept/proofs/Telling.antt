-- What is told of each fact and of each search is what is told of the missing facts that are found by them.
use Rattle.std.proofs.Common.{◌≡◌, ℕ, zero, suc, ◌<◌, List, [], ◌∷◌, ◌++◌, map, length, Some, option_map, get_or, slice_get, refl, sym, ap, ap₂, subst, ◌∙◌, inl, inr, Global, append_assoc}
use Rattle.std.proofs.lemmas.List.{map-append}
use Rattle.std.proofs.lemmas.Option.{slice_get_read, slice_get-map}
use Rattle.std.specs.Iterator.{Yields}
use Rattle.std.specs.Vec.Iter.{into_iter_items, into_iter_steps}
use Rattle.std.specs.declared.vec.IntoIter.{IntoIter}
use Rattle.std.specs.declared.rc.Rc.{Rc}
use Rattle.herm_model.specs.Lists.{map_or, list_of, IsIn}
use Rattle.herm_model.specs.Paths.{init}
use Rattle.herm_model.specs.Paths as model
use Rattle.herm_model.specs.ControlPaths.{Hop}
use Rattle.herm_model.specs.MissingFacts.{Refusal}
use Rattle.herm_model.proofs.Lists.{length-map}
use Rattle.herm_types.specs.declared.fact.Fact.{Fact}
use Rattle.herm_types.specs.View.{fact_view}
use Rattle.herm_meaning.specs.Names.{NamedTable}
use Rattle.herm_typed.specs.declared.statements.TypedProcess.{TypedProcess}
use Rattle.herm_check.specs.Missing.{refusal_of}
use Rattle.herm_check.specs.Trails.{trail}
use Rattle.herm_check.specs.declared.missing.MissingAt.{MissingAt}
use Rattle.herm_check.specs.declared.search.Search.{Search}
use Rattle.herm_check.specs.declared.search.Visit.{Visit}
use Rattle.herm_words.specs.MissingFactWords.{refusal_words}
use Rattle.herm_words.specs.ToldWords.{told_words}
use Rattle.herm_words.specs.Sites.{sites_in}
use Rattle.herm_words.specs.declared.lost.LostFact.{LostFact}
use Rattle.herm_words.specs.declared.paths.Paths.{Paths}
use Rattle.herm_words.proofs.Told.{words-told}
use Rattle.herm_accept.specs.declared.accepting.Lack.{Lack}
use Rattle.herm_accept.specs.Lacking.{Lacking, lacking, lack_view, start_in, EachOf, IsLost, IsTold}

abbrev pub values : {Y : Type 0} → List (Rc Y Global) → List Y
values {Y} rs = map (λ (r : Rc Y Global). r.value) rs

module _ {X Y : Type 0} (R : X → Y → Type 0) where
  same : (a b : Y) → Some a ≡ Some b → a ≡ b
  same a b e = cc

  -- what stands at a number is told of what has this number
  told-at : (xs : List X) (ys : List Y) (n : ℕ) (y : Y) → EachOf R xs ys → slice_get ys n ≡ Some y → (x : X) × (slice_get xs n ≡ Some x) × R x y
  told-at [] [] n y are at = let k : ⊥ = cc in absurd k
  told-at [] (z ∷ ys) n y are at = absurd are
  told-at (x ∷ xs) [] n y are at = absurd are
  told-at (x ∷ xs) (z ∷ ys) zero y are at = (x, refl, subst (R x) (same z y at) are.0)
  told-at (x ∷ xs) (z ∷ ys) (suc n) y are at = told-at xs ys n y are.1 at

  told-more : (xs : List X) (ys : List Y) (x : X) (y : Y) → EachOf R xs ys → R x y → EachOf R (xs ++ x ∷ []) (ys ++ y ∷ [])
  told-more [] [] x y are is = (is, tt)
  told-more [] (z ∷ ys) x y are is = absurd are
  told-more (w ∷ xs) [] x y are is = absurd are
  told-more (w ∷ xs) (z ∷ ys) x y are is = (are.0, told-more xs ys x y are.1 is)

  as-many : (xs : List X) (ys : List Y) → EachOf R xs ys → length xs ≡ length ys
  as-many [] [] are = refl
  as-many [] (z ∷ ys) are = absurd are
  as-many (w ∷ xs) [] are = absurd are
  as-many (w ∷ xs) (z ∷ ys) are = ap suc (as-many xs ys are.1)

  -- what is read at a number is told of what has this number
  pub told-read : (xs : List X) (rs : List (Rc Y Global)) (n : ℕ) (r : Rc Y Global) → n < length rs → r ≡ get_or rs n r → EachOf R xs (values rs) → (x : X) × (slice_get xs n ≡ Some x) × R x r.value
  told-read xs rs n r below is are =
      told-at xs (values rs) n r.value are (slice_get-map (λ (r : Rc Y Global). r.value) rs n ∙ ap (option_map (λ (r : Rc Y Global). r.value)) (slice_get_read rs (length rs) n r refl below is))

  pub told-pushed : (xs : List X) (rs more : List (Rc Y Global)) (x : X) (y : Y) (r : Rc Y Global) → EachOf R xs (values rs) → R x y → r.value ≡ y → more ≡ rs ++ r ∷ [] → EachOf R (xs ++ x ∷ []) (values more)
  told-pushed xs rs more x y r are is holds pushed =
      let all : values more ≡ values rs ++ y ∷ [] = ap (λ (rs : List (Rc Y Global)). values rs) pushed ∙ map-append (λ (r : Rc Y Global). r.value) rs (r ∷ []) ∙ ap (λ x. values rs ++ x ∷ []) holds in
      subst (EachOf R (xs ++ x ∷ [])) (sym all) (told-more xs (values rs) x y are is)

  pub values-many : (xs : List X) (rs : List (Rc Y Global)) → EachOf R xs (values rs) → length xs ≡ length rs
  values-many xs rs are = as-many xs (values rs) are ∙ length-map (λ (r : Rc Y Global). r.value) rs

-- the refusal of a statement for a fact on a path
abbrev refused : ℕ → model.Fact → List Hop → Refusal
refused number f hops = record { number = number; fact = f; path = hops }

abbrev lacked : ℕ → ℕ → List ℕ → Refusal → Lacking
lacked number start words r = record { process = number; start = start; words = words; refusal = r }

-- a missing fact with what is told of it and of its search is what the process lacks
pub lack-told : (types : NamedTable) (number : ℕ) (p : TypedProcess) (lost : List Fact) (ss : List Search) (m : MissingAt) (f : Fact) (l : LostFact) (s : Search) (paths : Paths) (start : ℕ)
    → slice_get lost m.fact ≡ Some f → IsLost types p f l → slice_get ss m.search ≡ Some s → IsTold types (sites_in p) s paths → start ≡ start_in (sites_in p) m.stmt.0
    → lacked number start (told_words l paths m.place) (refused m.stmt.0 (fact_view l.fact) (trail paths.visits.items m.place)) ≡ lacking types number p (refusal_of lost ss m)
lack-told types number p lost ss m f l s paths start at is found told place =
    let meant : Refusal = refused m.stmt.0 (fact_view f) (trail s.visits.items m.place) in
    let refusal : refusal_of lost ss m ≡ meant =
    ap₂ (λ o q. refused m.stmt.0 (map_or (init []) fact_view o) (list_of (λ (s : Search). trail s.visits.items m.place) q)) at found in
    let same : refused m.stmt.0 (fact_view l.fact) (trail paths.visits.items m.place) ≡ meant =
    ap₂ (λ g (vs : List Visit). refused m.stmt.0 g (trail vs m.place)) is.fact told.visits in
    let words : told_words l paths m.place ≡ refusal_words types p meant = words-told types p (fact_view f) s.visits.items l paths is.head told.text m.stmt.0 m.place in
    ap (λ n. lacked number n (told_words l paths m.place) (refused m.stmt.0 (fact_view l.fact) (trail paths.visits.items m.place))) place
    ∙ (ap₂ (λ ws r. lacked number (start_in (sites_in p) m.stmt.0) ws r) words same ∙ ap (λ r. lacking types number p r) (sym refusal))

-- one lack more
pub lacks-more : (types : NamedTable) (number : ℕ) (p : TypedProcess) (lost : List Fact) (ss : List Search) (ms : List MissingAt) (m : MissingAt) (before now more : List Lack) (l : Lack)
    → map lack_view now ≡ map lack_view before ++ map (lacking types number p) (map (refusal_of lost ss) ms) → more ≡ now ++ l ∷ [] → lack_view l ≡ lacking types number p (refusal_of lost ss m)
    → map lack_view more ≡ map lack_view before ++ map (lacking types number p) (map (refusal_of lost ss) (ms ++ m ∷ []))
lacks-more types number p lost ss ms m before now more l so_far pushed is =
    let said : MissingAt → Lacking = λ m. lacking types number p (refusal_of lost ss m) in
    let one : map (lacking types number p) (map (refusal_of lost ss) (ms ++ m ∷ [])) ≡ map (lacking types number p) (map (refusal_of lost ss) ms) ++ said m ∷ [] =
    ap (map (lacking types number p)) (map-append (refusal_of lost ss) ms (m ∷ [])) ∙ map-append (lacking types number p) (map (refusal_of lost ss) ms) (refusal_of lost ss m ∷ []) in
    ap (map lack_view) pushed ∙ map-append lack_view now (l ∷ []) ∙ ap (λ x. map lack_view now ++ x ∷ []) is
    ∙ ap (λ xs. xs ++ said m ∷ []) so_far
    ∙ append_assoc (map lack_view before) (map (lacking types number p) (map (refusal_of lost ss) ms)) (said m ∷ [])
    ∙ ap (λ xs. map lack_view before ++ xs) (sym one)

-- what the iterator of a vector has given is a front of its items
taken_front : {X A : Type 0} (s : IntoIter X A) (xs : List X) (t : IntoIter X A) → Yields into_iter_steps s xs t → into_iter_items s ≡ xs ++ into_iter_items t
taken_front s [] t y = ap into_iter_items y
taken_front s (x ∷ xs) t y = y.1.0 ∙ ap (λ ys. x ∷ ys) (taken_front y.0 xs t y.2)

in_middle : {X : Type 0} (xs ys : List X) (x : X) → IsIn x (xs ++ x ∷ ys)
in_middle [] ys x = inl refl
in_middle (z ∷ xs) ys x = inr (in_middle xs ys x)

-- what the iterator of a vector gives next is in the vector
pub next-in : {X A : Type 0} (all : List X) (s t u : IntoIter X A) (xs : List X) (x : X) → into_iter_items s ≡ all → Yields into_iter_steps s xs t → into_iter_steps t (Some x) u → IsIn x all
next-in all s t u xs x start gave next =
    subst (IsIn x) (sym (taken_front s xs t gave ∙ ap (λ ys. xs ++ ys) next.0) ∙ start) (in_middle xs (into_iter_items u) x)
