-- Where the texts of paths lie, beside what these texts are: the text of the path to each place is given.
use Rattle.std.specs.Prelude.{◌≡◌, ℕ, ◌<◌, ◌≤◌, List, [], ◌++◌, length, cond, nat_lt, Option, Some, None, slice_range}
use Rattle.herm_model.specs.Lists.{list_of}
use Rattle.herm_meaning.specs.Names.{NamedTable}
use Rattle.herm_check.specs.View.{hop_view}
use Rattle.herm_check.specs.declared.search.Link.{Link}
use Rattle.herm_words.specs.declared.sites.Site.{Site}
use Rattle.herm_words.specs.declared.paths.Stretch.{Stretch}
use Rattle.herm_words.specs.declared.paths.Paths.{Paths}
use Rattle.herm_words.specs.MissingFactWords.{hop_text}
use Rattle.herm_words.specs.ToldWords.{hops_text, stretch_in}

-- The text of the path from which a link leads to a place. A link that does not lead back leads from nowhere.
abbrev pub text_before : (ℕ → List ℕ) → ℕ → Link → List ℕ
text_before texts k link = cond (nat_lt link.from k) (texts link.from) []

-- the text of the path to a place by a link, or of no hop
abbrev pub linked_text : NamedTable → List Site → (ℕ → List ℕ) → ℕ → Option Link → List ℕ
linked_text types sites texts k None = []
linked_text types sites texts k (Some link) = text_before texts k link ++ hop_text types sites (hop_view link.hop)

-- A stretch is the end of a text, which is that of a path to a place: behind the text of the path from which it goes on, which leads to an earlier place, stands
-- what lies from its beginning to its end.
pub record EndsText (texts : ℕ → List ℕ) (hops : List ℕ) (k : ℕ) (text : List ℕ) (s : Stretch) : Type 0 where
  pub whole : text ≡ list_of texts s.before ++ slice_range hops s.begin s.end
  pub back : (b : ℕ) → s.before ≡ Some b → b < k
  pub rising : s.begin ≤ s.end
  pub within : s.end ≤ length hops

-- each stretch is the end of the text of the path to its place
abbrev pub AreTold : (ℕ → List ℕ) → List ℕ → List (Option Stretch) → Type 0
AreTold texts hops stretches = (k : ℕ) (s : Stretch) → stretch_in stretches k ≡ Some s → EndsText texts hops k (texts k) s

-- a place has its stretch
abbrev pub IsLaid : List (Option Stretch) → ℕ → Type 0
IsLaid stretches k = (s : Stretch) × (stretch_in stretches k ≡ Some s)

-- There is room for the stretches of all visits, and those that were laid out are right.
pub record AreLaid (types : NamedTable) (sites : List Site) (paths : Paths) : Type 0 where
  pub many : length paths.stretches.items ≡ length paths.visits.items
  pub told : AreTold (hops_text types sites paths.visits.items) paths.hops.items paths.stretches.items
