-- The texts of paths, one hop behind another.
use Rattle.std.proofs.Common.{◌≡◌, ℕ, ◌<◌, List, [], ◌∷◌, ◌++◌, flat_map, Bool, true, false, cond, nat_lt, Option, Some, None, slice_get, option_and_then, refl, sym, ap, ap₂, ◌∙◌, append-nil}
use Rattle.std.proofs.lemmas.Grind.{flat_map-append}
use Rattle.herm_model.specs.Lists.{list_of}
use Rattle.herm_model.specs.ControlPaths.{Hop}
use Rattle.herm_meaning.specs.Names.{NamedTable}
use Rattle.herm_check.specs.View.{hop_view}
use Rattle.herm_check.specs.Trails.{trail, trail_by}
use Rattle.herm_check.specs.declared.search.Link.{Link}
use Rattle.herm_check.specs.declared.search.Visit.{Visit}
use Rattle.herm_words.specs.declared.sites.Site.{Site}
use Rattle.herm_words.specs.MissingFactWords.{hop_text}
use Rattle.herm_words.specs.ToldWords.{hops_text}
use Rattle.herm_words.specs.Stretches.{linked_text}
use Rattle.herm_words.proofs.Enough.{guarded, unfolds}

-- the hops by a link, where the hops that lead to each place are given
abbrev by_link : (ℕ → List Hop) → ℕ → Option Link → List Hop
by_link trails k o = list_of (λ (l : Link). cond (nat_lt l.from k) (trails l.from) [] ++ hop_view l.hop ∷ []) o

-- the link by which the visit at a place was reached
abbrev link_at : List Visit → ℕ → Option Link
link_at vs k = option_and_then (λ (v : Visit). v.last) (slice_get vs k)

links-near : (o : Option Link) (f g : ℕ → List Hop) (k : ℕ) → ((j : ℕ) → j < k → f j ≡ g j) → by_link f k o ≡ by_link g k o
links-near None f g k alike = refl
links-near (Some l) f g k alike = ap (λ hs. hs ++ hop_view l.hop ∷ []) (guarded f g k l.from alike)

trail-unfolds : (vs : List Visit) (k : ℕ) → trail vs k ≡ by_link (trail vs) k (link_at vs k)
trail-unfolds vs k = unfolds (λ n j. trail_by n vs j) (λ f j. by_link f j (link_at vs j)) (λ n j. refl) (λ f g j alike. links-near (link_at vs j) f g j alike) k

chosen : (said : Hop → List ℕ) (b : Bool) (hs : List Hop) → flat_map said (cond b hs []) ≡ cond b (flat_map said hs) []
chosen said true hs = refl
chosen said false hs = refl

-- the text of the path to a visit is that by its link
pub text-linked : (types : NamedTable) (sites : List Site) (vs : List Visit) (k : ℕ) (v : Visit) → slice_get vs k ≡ Some v → hops_text types sites vs k ≡ linked_text types sites (hops_text types sites vs) k v.last
text-linked types sites vs k v at =
    ap (flat_map (hop_text types sites)) (trail-unfolds vs k ∙ ap (λ o. by_link (trail vs) k (option_and_then (λ (w : Visit). w.last) o)) at) ∙ by v.last
  where
    by : (o : Option Link) → flat_map (hop_text types sites) (by_link (trail vs) k o) ≡ linked_text types sites (hops_text types sites vs) k o
    by None = refl
    by (Some l) =
        flat_map-append (hop_text types sites) (cond (nat_lt l.from k) (trail vs l.from) []) (hop_view l.hop ∷ [])
        ∙ ap₂ (λ xs ys. xs ++ ys) (chosen (hop_text types sites) (nat_lt l.from k) (trail vs l.from)) (append-nil (hop_text types sites (hop_view l.hop)))

-- no visit, no hop
pub nothing-told : (types : NamedTable) (sites : List Site) (vs : List Visit) (k : ℕ) → slice_get vs k ≡ None → hops_text types sites vs k ≡ []
nothing-told types sites vs k none = ap (λ o. flat_map (hop_text types sites) (by_link (λ j. trail_by k vs j) k (option_and_then (λ (w : Visit). w.last) o))) none

-- the text of the path to a place is that by the link there, if there is one
pub text-by-link : (types : NamedTable) (sites : List Site) (vs : List Visit) (k : ℕ) (o : Option Link) → o ≡ option_and_then (λ (v : Visit). v.last) (slice_get vs k) → hops_text types sites vs k ≡ linked_text types sites (hops_text types sites vs) k o
text-by-link types sites vs k o is = by (slice_get vs k) refl ∙ ap (linked_text types sites (hops_text types sites vs) k) (sym is)
  where
    by : (p : Option Visit) → slice_get vs k ≡ p → hops_text types sites vs k ≡ linked_text types sites (hops_text types sites vs) k (option_and_then (λ (v : Visit). v.last) p)
    by None e = nothing-told types sites vs k e
    by (Some v) e = text-linked types sites vs k v e
