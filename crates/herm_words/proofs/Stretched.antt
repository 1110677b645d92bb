-- Stretches of texts that grow, and the text of the path to each place.
use Rattle.std.proofs.Common.{◌≡◌, ◌≢◌, slice_set, replicate, ℕ, zero, suc, ◌-◌, ◌<◌, ◌≤◌, ◌⊎◌, inl, inr, List, [], ◌∷◌, ◌++◌, length, take, drop, reverse, flat_map, Bool, true, false, cond, ◌&&◌, nat_lt, Option, Some, None, option_and_then, slice_get, slice_range, refl, sym, ap, ap₂, subst, ◌∙◌, arith, length-append, append_assoc, append-nil, lt-ltb, le-ltb, le-leb}
use Rattle.std.proofs.lemmas.List.{reverse-append, take_all, take-append-le, drop-append-le, length-drop}
use Rattle.std.proofs.Math.Seq.{drop-length}
use Rattle.herm_model.specs.Lists.{list_of}
use Rattle.herm_meaning.specs.Names.{NamedTable}
use Rattle.herm_check.specs.declared.search.Link.{Link}
use Rattle.herm_check.specs.declared.search.Visit.{Visit}
use Rattle.herm_words.specs.declared.paths.Stretch.{Stretch}
use Rattle.herm_words.specs.declared.paths.Paths.{Paths}
use Rattle.herm_words.specs.declared.sites.Site.{Site}
use Rattle.herm_words.specs.ToldWords.{hops_text, text_within, stretch_in, trail_by, trail_text}
use Rattle.herm_words.specs.Stretches.{text_before, EndsText, AreTold, IsLaid, AreLaid}
use Rattle.herm_check.proofs.Joined.{same_or_not, set-here, set-elsewhere}
use Rattle.herm_words.proofs.Enough.{guarded, unfolds}

-- the stretch of no hop at the end of texts
abbrev end_of : List ℕ → Option ℕ → Stretch
end_of hops before = record { before = before; begin = length hops; end = length hops }

none-in : (k : ℕ) (s : Stretch) → stretch_in [] k ≡ Some s → ⊥
none-in k s e = let none : None ≡ Some s = e in cc

-- of places without a stretch none has one
blank : (n k : ℕ) (s : Stretch) → stretch_in (replicate n None) k ≡ Some s → ⊥
blank zero k s e = none-in k s e
blank (suc n) zero s e = let none : None ≡ Some s = e in cc
blank (suc n) (suc k) s e = blank n k s e

pub nothing-told-yet : (texts : ℕ → List ℕ) (hops : List ℕ) (n : ℕ) → AreTold texts hops (replicate n None)
nothing-told-yet texts hops n k s e = absurd (blank n k s e)

-- a part as far as the end is what lies behind its beginning
part-rest : {X : Type 0} (xs : List X) (b : ℕ) → slice_range xs b (length xs) ≡ drop b xs
part-rest xs b = take_all (length xs - b) (drop b xs) (omega (arith, length-drop b xs))

part-none : {X : Type 0} (xs : List X) → slice_range xs (length xs) (length xs) ≡ []
part-none xs = part-rest xs (length xs) ∙ drop-length xs

-- a part within a list is the same in a longer one
part-more : {X : Type 0} (xs ys : List X) (b e : ℕ) → b ≤ e → e ≤ length xs → slice_range (xs ++ ys) b e ≡ slice_range xs b e
part-more xs ys b e low high =
    ap (take (e - b)) (drop-append-le b xs ys (omega (arith, low, high))) ∙ take-append-le (e - b) (drop b xs) ys (omega (arith, low, high, length-drop b xs))

-- a part as far as the end grows with the list
part-grows : {X : Type 0} (xs ys : List X) (b : ℕ) → b ≤ length xs → slice_range (xs ++ ys) b (length (xs ++ ys)) ≡ slice_range xs b (length xs) ++ ys
part-grows xs ys b low =
    part-rest (xs ++ ys) b ∙ (drop-append-le b xs ys low ∙ ap (λ zs. zs ++ ys) (sym (part-rest xs b)))

module _ (texts : ℕ → List ℕ) (hops : List ℕ) where
  -- no hop, behind nothing
  pub ends-nowhere : (k : ℕ) → EndsText texts hops k [] (end_of hops None)
  ends-nowhere k = record { whole = sym (part-none hops); back = λ b e. absurd (let none : ⊥ = cc e in none); rising = omega arith; within = omega arith }

  -- no hop, behind the path to an earlier place
  pub ends-behind : (k j : ℕ) → j < k → EndsText texts hops k (texts j) (end_of hops (Some j))
  ends-behind k j low = record { whole = sym (append-nil (texts j)) ∙ ap (λ ys. texts j ++ ys) (sym (part-none hops)); back = λ b e. (let same : j ≡ b = cc e in subst (λ i. i < k) same low); rising = omega arith; within = omega arith }

  -- the stretch on the path to a place is one on the path to a later place
  pub ends-later : (j k : ℕ) (text : List ℕ) (s : Stretch) → j < k → EndsText texts hops j text s → EndsText texts hops k text s
  ends-later j k text s low h = record { whole = h.whole; back = λ b e. omega (arith, low, h.back b e); rising = h.rising; within = h.within }

  -- more text behind the end of all changes no stretch
  pub ends-more : (more : List ℕ) (k : ℕ) (text : List ℕ) (s : Stretch) → EndsText texts hops k text s → EndsText texts (hops ++ more) k text s
  ends-more more k text s h =
      record {
        whole = h.whole ∙ ap (λ ys. list_of texts s.before ++ ys) (sym (part-more hops more s.begin s.end h.rising h.within));
        back = h.back;
        rising = h.rising;
        within = omega (arith, h.within, length-append hops more);
      }

  -- a stretch that ends where all ends grows with it
  pub ends-grown : (more : List ℕ) (k : ℕ) (text : List ℕ) (s : Stretch) → s.end ≡ length hops → EndsText texts hops k text s → EndsText texts (hops ++ more) k (text ++ more) (record { before = s.before; begin = s.begin; end = length (hops ++ more) })
  ends-grown more k text s last h =
      let low : s.begin ≤ length hops = omega (arith, last, h.rising) in
      record {
        whole = ap (λ xs. xs ++ more) (h.whole ∙ ap (λ e. list_of texts s.before ++ slice_range hops s.begin e) last) ∙ (append_assoc (list_of texts s.before) (slice_range hops s.begin (length hops)) more ∙ ap (λ ys. list_of texts s.before ++ ys) (sym (part-grows hops more s.begin low)));
        back = h.back;
        rising = omega (arith, low, length-append hops more);
        within = omega arith;
      }

  -- the texts before a link to a place
  before-nowhere : (k : ℕ) (link : Link) → k ≤ link.from → text_before texts k link ≡ []
  before-nowhere k link high = ap (λ b. cond b (texts link.from) []) (le-ltb link.from k high)

  before-there : (k : ℕ) (link : Link) → link.from < k → text_before texts k link ≡ texts link.from
  before-there k link low = ap (λ b. cond b (texts link.from) []) (lt-ltb link.from k low)

  -- the ends of the text before a link: that of no path, that of a stretch which ends where all ends, and that behind a stretch which does not
  pub link-nowhere : (k : ℕ) (link : Link) → k ≤ link.from → EndsText texts hops k (text_before texts k link) (end_of hops None)
  link-nowhere k link high = subst (λ xs. EndsText texts hops k xs (end_of hops None)) (sym (before-nowhere k link high)) (ends-nowhere k)

  pub link-goes_on : (ss : List (Option Stretch)) (k : ℕ) (link : Link) (s : Stretch) → link.from < k → stretch_in ss link.from ≡ Some s → AreTold texts hops ss → EndsText texts hops k (text_before texts k link) s
  link-goes_on ss k link s low e h = subst (λ xs. EndsText texts hops k xs s) (sym (before-there k link low)) (ends-later link.from k (texts link.from) s low (h link.from s e))

  pub link-behind : (k : ℕ) (link : Link) → link.from < k → EndsText texts hops k (text_before texts k link) (end_of hops (Some link.from))
  link-behind k link low = subst (λ xs. EndsText texts hops k xs (end_of hops (Some link.from))) (sym (before-there k link low)) (ends-behind k link.from low)

pub told-longer : (texts : ℕ → List ℕ) (hops more : List ℕ) (ss : List (Option Stretch)) → AreTold texts hops ss → AreTold texts (hops ++ more) ss
told-longer texts hops more ss h k s at = ends-more texts hops more k (texts k) s (h k s at)

-- a place without a link
pub told-nowhere : (texts : ℕ → List ℕ) (hops : List ℕ) (k : ℕ) → texts k ≡ [] → EndsText texts hops k (texts k) (end_of hops None)
told-nowhere texts hops k none = subst (λ xs. EndsText texts hops k xs (end_of hops None)) (sym none) (ends-nowhere texts hops k)

-- a place by a link, behind a stretch that ends where all ends
pub told-linked : (texts : ℕ → List ℕ) (hops more new : List ℕ) (k : ℕ) (text : List ℕ) (s : Stretch) (end : ℕ) → new ≡ hops ++ more → end ≡ length new → s.end ≡ length hops → EndsText texts hops k text s → texts k ≡ text ++ more → EndsText texts new k (texts k) (record { before = s.before; begin = s.begin; end = end })
told-linked texts hops more new k text s end grown last ended ends is =
    subst (λ n. EndsText texts new k (texts k) (record { before = s.before; begin = s.begin; end = n })) (sym last) (subst (λ xs. EndsText texts xs k (texts k) (longer xs)) (sym grown)
    (subst (λ xs. EndsText texts (hops ++ more) k xs (longer (hops ++ more))) (sym is) (ends-grown texts hops more k text s ended ends)))
  where
    longer : List ℕ → Stretch
    longer xs = record { before = s.before; begin = s.begin; end = length xs }

set-same : (ss : List (Option Stretch)) (k : ℕ) (s t : Stretch) → stretch_in (slice_set ss k (Some s)) k ≡ Some t → s ≡ t
set-same [] k s t e = absurd (none-in k t e)
set-same (x ∷ ss) zero s t e = let same : Some s ≡ Some t = e in cc
set-same (x ∷ ss) (suc k) s t e = set-same ss k s t e

-- a stretch more
pub told-set : (texts : ℕ → List ℕ) (hops : List ℕ) (ss : List (Option Stretch)) (k : ℕ) (s : Stretch) → AreTold texts hops ss → EndsText texts hops k (texts k) s → AreTold texts hops (slice_set ss k (Some s))
told-set texts hops ss k s h new j t at = by (same_or_not k j)
  where
    by : (k ≡ j) ⊎ (k ≢ j) → EndsText texts hops j (texts j) t
    by (inl e) = subst (λ i. EndsText texts hops i (texts i) t) e (subst (λ u. EndsText texts hops k (texts k) u) (set-same ss k s t (subst (λ i. stretch_in (slice_set ss k (Some s)) i ≡ Some t) (sym e) at)) new)
    by (inr d) = h j t (sym (ap (option_and_then (λ o. o)) (set-elsewhere ss k j (Some s) d)) ∙ at)

pub laid-here : (ss : List (Option Stretch)) (k : ℕ) (s : Stretch) → k < length ss → IsLaid (slice_set ss k (Some s)) k
laid-here ss k s within = (s, ap (option_and_then (λ o. o)) (set-here ss k (Some s) within))

pub laid-kept : (ss : List (Option Stretch)) (k j : ℕ) (s : Stretch) → k < length ss → IsLaid ss j → IsLaid (slice_set ss k (Some s)) j
laid-kept ss k j s within laid = by (same_or_not k j)
  where
    by : (k ≡ j) ⊎ (k ≢ j) → IsLaid (slice_set ss k (Some s)) j
    by (inl e) = subst (IsLaid (slice_set ss k (Some s))) e (laid-here ss k s within)
    by (inr d) = (laid.0, ap (option_and_then (λ o. o)) (set-elsewhere ss k j (Some s) d) ∙ laid.1)

-- the stretches are laid out of the visits that are kept
pub laid-of : (types : NamedTable) (sites : List Site) (visits : List Visit) (paths : Paths) → paths.visits.items ≡ visits → length paths.stretches.items ≡ length visits
    → AreTold (hops_text types sites visits) paths.hops.items paths.stretches.items → AreLaid types sites paths
laid-of types sites visits paths kept many told =
    record { many = many ∙ sym (ap length kept); told = subst (λ (vs : List Visit). AreTold (hops_text types sites vs) paths.hops.items paths.stretches.items) (sym kept) told }

-- the text of a path by its last stretch, where the texts of the paths before it are given
abbrev from_stretch : Paths → (ℕ → List ℕ) → ℕ → Option Stretch → List ℕ
from_stretch paths f k o = list_of (λ (s : Stretch). list_of (λ (j : ℕ). cond (nat_lt j k) (f j) []) s.before ++ text_within paths.hops.items s.begin s.end) o

-- the text by stretches is that of the path to each place
pub text-told : (texts : ℕ → List ℕ) (paths : Paths) → AreTold texts paths.hops.items paths.stretches.items → ((k : ℕ) → stretch_in paths.stretches.items k ≡ None → texts k ≡ []) → (k : ℕ) → trail_text paths k ≡ texts k
text-told texts paths h past k = by-steps (suc k) k (omega arith)
  where
    within-text : (text : List ℕ) (b e : ℕ) → b ≤ e → e ≤ length text → text_within text b e ≡ slice_range text b e
    within-text text b e low high = ap₂ (λ p q. cond (p && q) (slice_range text b e) []) (le-leb b e low) (le-leb e (length text) high)

    by-steps : (n j : ℕ) → j < n → trail_by n paths j ≡ texts j
    by-steps zero j low = absurd (omega (arith, low))
    by-steps (suc n) j low = by (λ b before. by-steps n b (omega (arith, before, low))) (stretch_in paths.stretches.items j) refl
      where
        goes-on : ((b : ℕ) → b < j → trail_by n paths b ≡ texts b) → (o : Option ℕ) → ((b : ℕ) → o ≡ Some b → b < j) → list_of (λ (i : ℕ). cond (nat_lt i j) (trail_by n paths i) []) o ≡ list_of texts o
        goes-on again None back = refl
        goes-on again (Some b) back = let before = back b refl in ap (λ c. cond c (trail_by n paths b) []) (lt-ltb b j before) ∙ again b before

        by : ((b : ℕ) → b < j → trail_by n paths b ≡ texts b) → (o : Option Stretch) → stretch_in paths.stretches.items j ≡ o → from_stretch paths (trail_by n paths) j o ≡ texts j
        by again None e = sym (past j e)
        by again (Some s) e =
            let ends = h j s e in
            ap₂ (λ xs ys. xs ++ ys) (goes-on again s.before ends.back) (within-text paths.hops.items s.begin s.end ends.rising ends.within) ∙ sym ends.whole

text-unfolds : (paths : Paths) (k : ℕ) → trail_text paths k ≡ from_stretch paths (trail_text paths) k (stretch_in paths.stretches.items k)
text-unfolds paths k = unfolds (λ n j. trail_by n paths j) (λ f j. from_stretch paths f j (stretch_in paths.stretches.items j)) (λ n j. refl) (λ f g j alike. near f g j alike (stretch_in paths.stretches.items j)) k
  where
    before : (f g : ℕ → List ℕ) (j : ℕ) → ((i : ℕ) → i < j → f i ≡ g i) → (o : Option ℕ) → list_of (λ (i : ℕ). cond (nat_lt i j) (f i) []) o ≡ list_of (λ (i : ℕ). cond (nat_lt i j) (g i) []) o
    before f g j alike None = refl
    before f g j alike (Some i) = guarded f g j i alike

    near : (f g : ℕ → List ℕ) (j : ℕ) → ((i : ℕ) → i < j → f i ≡ g i) → (o : Option Stretch) → from_stretch paths f j o ≡ from_stretch paths g j o
    near f g j alike None = refl
    near f g j alike (Some s) = ap (λ xs. xs ++ text_within paths.hops.items s.begin s.end) (before f g j alike s.before)

-- the text of the path to a place, by its last stretch
pub text-split : (paths : Paths) (k : ℕ) (s : Stretch) → stretch_in paths.stretches.items k ≡ Some s → (o : Option ℕ) → o ≡ option_and_then (λ b. cond (nat_lt b k) (Some b) None) s.before → (text : List ℕ) → text ≡ text_within paths.hops.items s.begin s.end → trail_text paths k ≡ list_of (trail_text paths) o ++ text
text-split paths k s at o back text is =
    text-unfolds paths k ∙ (ap (from_stretch paths (trail_text paths) k) at ∙ ap₂ (λ xs ys. xs ++ ys) (by s.before ∙ ap (list_of (trail_text paths)) (sym back)) (sym is))
  where
    chosen : (j : ℕ) (b : Bool) → cond b (trail_text paths j) [] ≡ list_of (trail_text paths) (cond b (Some j) None)
    chosen j true = refl
    chosen j false = refl

    by : (p : Option ℕ) → list_of (λ (j : ℕ). cond (nat_lt j k) (trail_text paths j) []) p ≡ list_of (trail_text paths) (option_and_then (λ b. cond (nat_lt b k) (Some b) None) p)
    by None = refl
    by (Some j) = chosen j (nat_lt j k)

-- how many places a walk back may still come to
abbrev pub places_left : Option ℕ → ℕ
places_left None = 0
places_left (Some k) = suc k

-- the text of a path as far as a stretch, and the texts of those behind it
pub text-walked : (f g : ℕ → List ℕ) (k : ℕ) (before : Option ℕ) (text : List ℕ) (ps qs : List ℕ) → f k ≡ list_of f before ++ text → text ≡ g k → qs ≡ ps ++ k ∷ [] → f k ++ flat_map g (reverse ps) ≡ list_of f before ++ flat_map g (reverse qs)
text-walked f g k before text ps qs whole is grown =
    let turned : reverse (ps ++ k ∷ []) ≡ k ∷ reverse ps = reverse-append ps (k ∷ []) in
    ap (λ xs. xs ++ flat_map g (reverse ps)) (whole ∙ ap (λ xs. list_of f before ++ xs) is)
    ∙ (append_assoc (list_of f before) (g k) (flat_map g (reverse ps)) ∙ ap (λ ks. list_of f before ++ flat_map g ks) (sym (ap reverse grown ∙ turned)))

-- a place up to another is that one or lies before it
pub upto : (k n : ℕ) → k < suc n → (k ≡ n) ⊎ (k < n)
upto zero zero h = inl refl
upto zero (suc n) h = inr (omega arith)
upto (suc k) zero h = absurd (omega (arith, h))
upto (suc k) (suc n) h = again (upto k n (omega (arith, h)))
  where
    again : (k ≡ n) ⊎ (k < n) → (suc k ≡ suc n) ⊎ (suc k < suc n)
    again (inl e) = inl (ap suc e)
    again (inr less) = inr (omega (arith, less))

none-past : {X : Type 0} (xs : List X) (k : ℕ) → (k < length xs → ⊥) → slice_get xs k ≡ None
none-past [] k past = refl
none-past (x ∷ xs) zero past = absurd (past (omega arith))
none-past (x ∷ xs) (suc k) past = none-past xs k (λ less. past (omega (arith, less)))

-- where each visit has its stretch, a place without one is of no visit
pub unlaid-past : {X : Type 0} (xs : List X) (ss : List (Option Stretch)) → ((k : ℕ) → k < length xs → IsLaid ss k) → (k : ℕ) → stretch_in ss k ≡ None → slice_get xs k ≡ None
unlaid-past xs ss all k none = none-past xs k (λ less. no-stretch (all k less).0 (sym none ∙ (all k less).1))
  where
    no-stretch : (s : Stretch) → None ≡ Some s → ⊥
    no-stretch s e = cc
