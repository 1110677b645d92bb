-- What is told of facts that are missing somewhere: the words of each, and of each control path on which one is not held, as they lie in memory.
use Rattle.std.specs.Prelude.{ℕ, zero, suc, List, [], ◌++◌, length, cond, nat_lt, nat_le, ◌&&◌, Option, Some, None, slice_get, slice_range, option_and_then}
use Rattle.std.specs.List.{flat_map}
use Rattle.herm_model.specs.Lists.{list_of}
use Rattle.herm_model.specs.MissingFacts.{Refusal}
use Rattle.herm_types.specs.View.{fact_view}
use Rattle.herm_meaning.specs.Names.{NamedTable}
use Rattle.herm_check.specs.Trails.{trail}
use Rattle.herm_check.specs.declared.search.Visit.{Visit}
use Rattle.herm_words.specs.declared.sites.Site.{Site}
use Rattle.herm_words.specs.MissingFactWords.{hop_text}
use Rattle.herm_words.specs.declared.paths.Stretch.{Stretch}
use Rattle.herm_words.specs.declared.paths.Paths.{Paths}
use Rattle.herm_words.specs.declared.lost.LostFact.{LostFact}
use Rattle.herm_words.specs.declared.reason.MissingFact.{MissingFact}
use Rattle.herm_words.specs.declared.reason.Reason.{Reason}
use Rattle.herm_words.specs.declared.reason.Reason.TheVariants.{Said, Missing}

-- the texts of the hops that lead to the visit at a place
abbrev pub hops_text : NamedTable → List Site → List Visit → ℕ → List ℕ
hops_text types sites visits k = flat_map (hop_text types sites) (trail visits k)

-- the bytes from one place up to another, or none where these do not lie within in this order
abbrev pub text_within : List ℕ → ℕ → ℕ → List ℕ
text_within text begin end = cond (nat_le begin end && nat_le end (length text)) (slice_range text begin end) []

-- the stretch that was laid out for a place
abbrev pub stretch_in : List (Option Stretch) → ℕ → Option Stretch
stretch_in stretches k = option_and_then (λ s. s) (slice_get stretches k)

-- The text of the path to a place, by at most so many stretches: the text of the path behind which its last stretch goes on, which is to an earlier place, and that stretch.
abbrev pub trail_by : ℕ → Paths → ℕ → List ℕ
trail_by zero paths k = []
trail_by (suc n) paths k = list_of (λ (s : Stretch). list_of (λ (j : ℕ). cond (nat_lt j k) (trail_by n paths j) []) s.before ++ text_within paths.hops.items s.begin s.end) (stretch_in paths.stretches.items k)

-- the text of the path to a place
abbrev pub trail_text : Paths → ℕ → List ℕ
trail_text paths k = trail_by (suc k) paths k

-- the text of the last stretch of the path to a place
abbrev pub stretch_text : Paths → ℕ → List ℕ
stretch_text paths k = list_of (λ (s : Stretch). text_within paths.hops.items s.begin s.end) (stretch_in paths.stretches.items k)

-- the words of a refusal for a fact, with the path to a place
abbrev pub told_words : LostFact → Paths → ℕ → List ℕ
told_words lost paths k = lost.head.items ++ trail_text paths k

-- the refusal that a missing fact is: the number of its statement, the fact, and the hops of the path to its place
abbrev pub refusal_view : MissingFact → Refusal
refusal_view m = record { number = m.stmt.0; fact = fact_view m.lost.value.fact; path = trail m.paths.value.visits.items m.place }

abbrev pub missing_words : MissingFact → List ℕ
missing_words m = told_words m.lost.value m.paths.value m.place

-- the words behind the code of a refusal
abbrev pub reason_words : Reason → List ℕ
reason_words (Said words) = words
reason_words (Missing m) = missing_words m

-- what is missing, where a refusal is of typestate
abbrev pub reason_refusal : Reason → Option Refusal
reason_refusal (Said words) = None
reason_refusal (Missing m) = Some (refusal_view m)
