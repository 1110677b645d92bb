-- Words of `check` that clap takes name a file.
use Rattle.std.proofs.Common.{◌≡◌, ◌∙◌, ◌++◌, ◌||◌, ◌&&◌, ℕ, zero, suc, Bool, cond, true, false, not, List, [], ◌∷◌, Option, Some, None, refl, sym, ap, subst, arith, drop, length, true≢false}
use Rattle.std.specs.Prelude.{⊤, codes, encode_utf8, find, fold, option_map, slice_get, unwrap_or}
use Rattle.std.specs.Option.{option_map_or}
use Rattle.std.specs.Str.{bytes_eq, chars}
use Rattle.std.proofs.lemmas.Bool.Decides.{nat_tests}
use Rattle.clap.specs.Facts.{explicit_source}
use Rattle.clap.specs.Faults.{check_fault, defaults_fault, entered_fault, level_fault, settle_fault, walk_fault}
use Rattle.clap.specs.Kinds.{Kinds, check_kinds, or_else}
use Rattle.clap.specs.Simple.{Shape, built, built_leaf, entered, filled, inherited, label_of, marked_built, rows_at, with_index, with_leaf_noted}
use Rattle.clap.specs.Takes.{is_given}
use Rattle.clap.specs.Walk.{Held, Names, Outcome, Row, Rule, Step, Text, Waiting, Walk, after_flag, after_step, answers_to, arg_by_id, arg_by_index, bundle, bundle_met, bundle_step, default_rows, done, finished, has_row, idle, is_empty, is_pending, long_or_other, more_values, next, nothing_held, option, option_word, plain, plain_word, positional, pushed, reading_by, refused, rows_after, settled, settled_rows, short_or_plain, started, subcommand, subcommand_met, subcommand_or_other, takes_several, to_positional, trailing, used, used_by_id, value, waits, walk, walk_from, walked, walked_from, with_values, word_met}
use Rattle.clap.specs.Lexer.{long_of, short_of}
use Rattle.clap.specs.declared.builder.value_parser.Reading.{Reading}
use Rattle.clap.specs.declared.parser.matches.ValueSource.{ValueSource}
use Rattle.herm_commands.specs.Program.{check_app, files_rule, program}
use Rattle.herm_commands.specs.Words.{files_of}

-- ---- elements of a list

abbrev Each : {X : Type 0} → (X → Type 0) → List X → Type 0
Each P [] = ⊤
Each P (x ∷ xs) = P x × Each P xs

found_holds : {X : Type 0} (P : X → Type 0) (p : X → Bool) (xs : List X) (x : X) → Each P xs → find p xs ≡ Some x → P x
found_holds P p [] x h e = absurd cc
found_holds P p (y ∷ ys) x h e = go (p y) e (λ e. found_holds P p ys x h.1 e)
  where
    go : (b : Bool) → cond b (Some y) (find p ys) ≡ Some x → (find p ys ≡ Some x → P x) → P x
    go true e later = subst P (ap (λ o. unwrap_or o y) e) h.0
    go false e later = later e

cons_some : {X : Type 0} (x : X) (xs : List X) → is_empty (x ∷ xs) ≡ false
cons_some x xs = grind (arith, nat_tests)

append_some : {X : Type 0} (xs : List X) (y : X) (ys : List X) → is_empty (xs ++ y ∷ ys) ≡ false
append_some [] y ys = cons_some y ys
append_some (x ∷ xs) y ys = cons_some x (xs ++ y ∷ ys)

-- ---- `check`, as built

abbrev file_rule : Rule
file_rule = with_index 1 (filled (record files_rule { required = true }))

abbrev rules : List Rule
rules = file_rule ∷ []

abbrev check_shape : Shape
check_shape = built_leaf (inherited (with_leaf_noted (marked_built program.top)) check_app.top)

only_check : Each (λ (s : Shape). bytes_eq s.name (codes "check") ≡ true → s ≡ check_shape) (built program).subs
only_check = (λ e. refl, (λ e. absurd (true≢false (sym e)), (λ e. absurd (true≢false (sym e)), tt)))

-- ---- each row of a walk has a value

abbrev IsFull : Row → Type 0
IsFull r = is_empty r.values ≡ false

abbrev IsPendingFull : Option (Text × List Text) → Type 0
IsPendingFull None = ⊤
IsPendingFull (Some p) = is_empty p.1 ≡ false

abbrev IsHeldFull : Held → Type 0
IsHeldFull h = Each IsFull h.rows × IsPendingFull h.pending

values_full : (id : Text) (how : Reading) (s : ValueSource) (v : Text) (vs : List Text) (rows : List Row) → Each IsFull rows
    → Each IsFull (with_values id how s (v ∷ vs) rows)
values_full id how s v vs [] h = (cons_some v vs, tt)
values_full id how s v vs (r ∷ rs) h = go (bytes_eq r.id id) (values_full id how s v vs rs h.1)
  where
    go : (b : Bool) → Each IsFull (with_values id how s (v ∷ vs) rs)
        → Each IsFull (cond b (more_values s (v ∷ vs) r ++ rs) (r ∷ with_values id how s (v ∷ vs) rs))
    go true later = (append_some r.values v vs, h.1)
    go false later = (h.0, later)

used_full : (values : List Text) (rows : List Row) → is_empty values ≡ false → Each IsFull rows → Each IsFull (used file_rule values rows)
used_full [] rows some h = absurd (true≢false some)
used_full (v ∷ vs) rows some h = values_full _ _ _ v vs rows h

rows_settled : (p : Option (Text × List Text)) (rows : List Row) → IsPendingFull p → Each IsFull rows → Each IsFull (settled_rows rules p rows)
rows_settled None rows some h = h
rows_settled (Some p) rows some h = go (bytes_eq file_rule.id p.0)
  where
    go : (b : Bool) → Each IsFull (used_by_id (cond b (Some file_rule) None) p.1 rows)
    go true = used_full p.1 rows some h
    go false = h

pushed_full : (id word : Text) (h : Held) → Each IsFull h.rows → IsHeldFull (pushed id word h)
pushed_full id word h full = (full, append_some (started id h.pending).1 word [])

option_full : (a : Option Rule) (id word : Text) (h : Held) → IsHeldFull h → IsHeldFull (option_word a id word h).0
option_full None id word h full = full
option_full (Some a) id word h full = pushed_full id word h full.0

plain_full : (waiting : Waiting) (word : Text) (h : Held) → IsHeldFull h → IsHeldFull (plain_word rules waiting word h).0
plain_full idle word h full = full
plain_full (option id) word h full = option_full (arg_by_id rules id) id word h full
plain_full positional word h full = full

after_full : (waiting : Waiting) (word : Text) (h : Held) (o : Outcome) → IsHeldFull h → IsHeldFull (after_flag rules waiting word h o).0
after_full waiting word h done full = full
after_full waiting word h (waits id) full = full
after_full waiting word h plain full = plain_full waiting word h full
after_full waiting word h refused full = plain_full waiting word h full

character_full : (x : Option ℕ) (flags : Text) (skip : ℕ) (o : Outcome) (h : Held) (more : Text → ℕ → Outcome → Held → Held × Outcome) → IsHeldFull h
    → ((flags : Text) (skip : ℕ) → IsHeldFull (more flags skip o h).0) → IsHeldFull (bundle_step rules x flags skip o h more).0
character_full None flags skip o h more full all = full
character_full (Some x) flags zero o h more full all = full
character_full (Some x) flags (suc skip) o h more full all = all (drop (length (encode_utf8 x)) flags) skip

bundle_full : (k : ℕ) (flags : Text) (skip : ℕ) (o : Outcome) (h : Held) → IsHeldFull h → IsHeldFull (bundle_met rules k flags skip o h).0
unfolding bundle_met
bundle_full zero flags skip o h full = full
bundle_full (suc k) flags skip o h full =
    character_full (slice_get (chars flags) 0) flags skip o h (bundle_met rules k) full (λ flags skip. bundle_full k flags skip o h full)

short_full : (flags : Option Text) (waiting : Waiting) (word : Text) (h : Held) → IsHeldFull h → IsHeldFull (short_or_plain rules waiting word flags h).0
short_full None waiting word h full = plain_full waiting word h full
short_full (Some flags) waiting word h full =
    after_full waiting word (bundle rules flags h).0 (bundle rules flags h).1
    (bundle_full (length flags) flags h.skip plain (record h { skip = 0 }) full)

long_full : (name : Option (Text × Option Text)) (waiting : Waiting) (word : Text) (h : Held) → IsHeldFull h
    → IsHeldFull (long_or_other rules waiting word name h).0
long_full None waiting word h full = short_full (short_of word) waiting word h full
long_full (Some p) waiting word h full = plain_full waiting word h full

other_full : (name : Option Text) (waiting : Waiting) (position : ℕ) (word : Text) (h : Held) → IsHeldFull h
    → IsHeldFull (subcommand_or_other rules name waiting position word h).0
other_full (Some name) waiting position word h full = full
other_full None waiting position word h full = go (bytes_eq word (45 ∷ 45 ∷ []))
  where
    go : (b : Bool) → IsHeldFull (cond b (h, trailing position) (long_or_other rules waiting word (long_of word) h)).0
    go true = full
    go false = long_full (long_of word) waiting word h full

word_full : (is_trailing : Bool) (waiting : Waiting) (position : ℕ) (word : Text) (h : Held) → IsHeldFull h
    → IsHeldFull (word_met rules [] is_trailing waiting position word h).0
word_full true waiting position word h full = full
word_full false waiting position word h full = other_full (subcommand_met [] waiting word) waiting position word h full

placed_full : (a : Option Rule) (word : Text) (w : Walk) (h : Held) → IsHeldFull h → IsHeldFull (to_positional rules a word w h).held
placed_full None word w h full = full
placed_full (Some a) word w h full = go (is_pending a h.pending && takes_several a)
  where
    go : (b : Bool) → IsHeldFull (pushed a.id word (cond b h (settled rules h)))
    go true = pushed_full a.id word h full.0
    go false = pushed_full a.id word (settled rules h) (rows_settled h.pending h.rows full.1 full.0)

step_full : (word : Text) (w : Walk) (h : Held) (step : Step) → IsHeldFull h → IsHeldFull (after_step rules word w h step).held
step_full word w h (next waiting) full = full
step_full word w h (trailing position) full = full
step_full word w h (subcommand name) full = full
step_full word w h value full = placed_full (arg_by_index rules w.position) word w h full

turn_full : (stopped : Option (Text × List Text)) (w : Walk) (word : Text) → IsHeldFull w.held → IsHeldFull (walked_from rules [] stopped w word).held
turn_full (Some p) w word full = full
turn_full None w word full =
    step_full word w (word_met rules [] w.is_trailing w.waiting w.position word w.held).0
    (word_met rules [] w.is_trailing w.waiting w.position word w.held).1
    (word_full w.is_trailing w.waiting w.position word w.held full)

walked_full : (w : Walk) (word : Text) → IsHeldFull w.held → IsHeldFull (walked rules [] w word).held
unfolding walked
walked_full w word full = turn_full w.stopped w word full

walk_full : (w : Walk) (words : List Text) → IsHeldFull w.held → IsHeldFull (fold (walked rules []) w words).held
walk_full w [] full = full
walk_full w (word ∷ rest) full = walk_full (walked rules [] w word) rest (walked_full w word full)

finished_full : (h : Held) → IsHeldFull h → Each IsFull (finished rules h)
finished_full h full = go (has_row file_rule.id (settled rules h).rows)
  where
    go : (b : Bool) → Each IsFull (cond b (settled rules h).rows (default_rows file_rule.id (reading_by file_rule) file_rule.defaults (settled rules h).rows))
    go true = rows_settled h.pending h.rows full.1 full.0
    go false = rows_settled h.pending h.rows full.1 full.0

after_words_full : (words : List Text) → Each IsFull (rows_after rules [] words)
after_words_full words = finished_full (walk rules [] nothing_held words).held (walk_full (walk_from nothing_held) words (tt, tt))

files_full : (rows : List Row) → Each IsFull rows → is_given (codes "file") rows ≡ true → is_empty (files_of rows) ≡ false
files_full rows full given =
    go (find (λ (r : Row). bytes_eq r.id (codes "file")) rows)
    (λ r e. found_holds IsFull (λ (r : Row). bytes_eq r.id (codes "file")) rows r full e) given
  where
    go : (o : Option Row) → ((r : Row) → o ≡ Some r → IsFull r) → option_map_or (λ (r : Row). explicit_source r.source) o false ≡ true
        → is_empty (unwrap_or (option_map (λ (r : Row). r.values) o) []) ≡ false
    go None all e = absurd (true≢false (sym e))
    go (Some r) all e = all r refl

-- ---- a level with no fault

none_below : (a b c : Kinds) → or_else a (or_else b c) ≡ [] → b ≡ []
none_below [] [] c e = refl
none_below [] (k ∷ ks) c e = absurd cc
none_below (k ∷ ks) b c e = absurd cc

none_after : (a b : Kinds) → or_else a b ≡ [] → b ≡ []
none_after [] b e = e
none_after (k ∷ ks) b e = absurd cc

-- the subcommand that was entered passed
pub below_passed : (s : Shape) (names : Names) (h : Held) (words : List Text) (has_subcommand : Bool) (below : Kinds)
    → level_fault s names h words has_subcommand below ≡ [] → below ≡ []
below_passed s names h words has_subcommand below e =
    let end = (walk s.rules names h words).held in
    none_below (walk_fault s names (walk_from h) words) below
    (or_else (settle_fault s.rules s.args_override_self end)
    (or_else (defaults_fault (settled s.rules end).rows s.rules) (check_fault s (finished s.rules end) has_subcommand))) e

-- the last checks passed
checks_passed : (s : Shape) (names : Names) (h : Held) (words : List Text) (has_subcommand : Bool) (below : Kinds)
    → level_fault s names h words has_subcommand below ≡ [] → check_fault s (finished s.rules (walk s.rules names h words).held) has_subcommand ≡ []
checks_passed s names h words has_subcommand below e =
    let end = (walk s.rules names h words).held in
    let checks = check_fault s (finished s.rules end) has_subcommand in
    let defaults = defaults_fault (settled s.rules end).rows s.rules in
    let settles = settle_fault s.rules s.args_override_self end in
    none_after defaults checks
    (none_after settles (or_else defaults checks)
    (none_after below (or_else settles (or_else defaults checks))
    (none_after (walk_fault s names (walk_from h) words) (or_else below (or_else settles (or_else defaults checks))) e)))

nothing_wanted : (help below argument : Bool) → check_kinds help below argument ≡ [] → argument ≡ false
nothing_wanted true below argument e = absurd cc
nothing_wanted false true argument e = absurd cc
nothing_wanted false false true e = absurd cc
nothing_wanted false false false e = refl

given_of : (given : Bool) → (not given || false) ≡ false → given ≡ true
given_of true e = refl
given_of false e = absurd (true≢false e)

-- words of `check` that it takes name a file
check_full : (words : List Text) → level_fault check_shape [] nothing_held words false [] ≡ []
    → is_empty (files_of (rows_after check_shape.rules [] words)) ≡ false
check_full words e =
    let rows = rows_after rules [] words in
    let checks : check_fault check_shape rows false ≡ [] = checks_passed check_shape [] nothing_held words false [] e in
    files_full rows (after_words_full words)
    (given_of (is_given (codes "file") rows) (nothing_wanted false false (not (is_given (codes "file") rows) || false) checks))

in_found : (o : Option Shape) (words : List Text) (name : Text) (rows : List Row)
    → ((s : Shape) → o ≡ Some s → bytes_eq s.name (codes "check") ≡ true → s ≡ check_shape)
    → option_map_or (λ (s : Shape). level_fault s [] nothing_held words false []) o [] ≡ []
    → option_map (λ (s : Shape). rows_at s words) o ≡ Some (name, rows) → bytes_eq name (codes "check") ≡ true → is_empty (files_of rows) ≡ false
in_found None words name rows all fine met named = absurd cc
in_found (Some s) words name rows all fine met named =
    let pair : rows_at s words ≡ (name, rows) = ap (λ o. unwrap_or o (rows_at s words)) met in
    let own : bytes_eq s.name (codes "check") ≡ true = ap (λ (q : Text × List Row). bytes_eq q.0 (codes "check")) pair ∙ named in
    let same : s ≡ check_shape = all s refl own in
    let passed : level_fault check_shape [] nothing_held words false [] ≡ [] =
    subst (λ (s : Shape). level_fault s [] nothing_held words false [] ≡ []) same fine in
    sym (ap (λ (q : Text × List Row). is_empty (files_of q.1)) pair)
    ∙ (ap (λ (s : Shape). is_empty (files_of (rows_after s.rules [] words))) same ∙ check_full words passed)

-- where the subcommand that is entered is `check` and passes, a file is named
pub check_names_a_file : (stop : Option (Text × List Text)) (name : Text) (rows : List Row) → entered_fault (built program) stop ≡ []
    → entered (built program) stop ≡ Some (name, rows) → bytes_eq name (codes "check") ≡ true → is_empty (files_of rows) ≡ false
check_names_a_file None name rows fine met named = absurd cc
check_names_a_file (Some p) name rows fine met named =
    in_found (find (λ (s : Shape). answers_to p.0 (label_of s)) (built program).subs) p.1 name rows
    (λ s e. found_holds (λ (s : Shape). bytes_eq s.name (codes "check") ≡ true → s ≡ check_shape)
    (λ (s : Shape). answers_to p.0 (label_of s)) (built program).subs s only_check e) fine met named
