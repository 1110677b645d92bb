use Rattle.std.proofs.Common.{◌≡◌, ◌∙◌, sym, ap, subst, List, ℕ, Vec, Global, ◌++◌, ◌∷◌, [], true, false, is_some, Option, None}
use Rattle.std.specs.Map.{lookup}
use Rattle.std.specs.Str.{bytes_eq}
use Rattle.indexmap.proofs.CallerLemmas.{insert_entry-new}
use Rattle.herm_numbers.specs.Found.{Finds}
use Rattle.herm_numbers.proofs.Finding.{finds-new, finds-old, none-there}
use Rattle.herm_numbers.proofs.index.add.Goals as goal

pub returns-then-contains_key : goal.returns-then-contains_key
returns-then-contains_key c = λ names l f. finds-old (λ (k : Vec ℕ Global). k.items) names _ c.args.word.now f (subst (λ (w : List ℕ). is_some (lookup (λ (k : Vec ℕ Global). bytes_eq w k.items) c.args.firsts.now.entries) ≡ true) c.bytes.ensures.bytes (sym c.if-contains_key.ensures))

pub returns : goal.returns
returns c =
    let absent : lookup (λ (k : Vec ℕ Global). bytes_eq c.in_ok-bytes.bytes.items k.items) c.args.firsts.now.entries ≡ None =
    subst (λ (w : List ℕ). lookup (λ (k : Vec ℕ Global). bytes_eq w k.items) c.args.firsts.now.entries ≡ None) (c.bytes.ensures.bytes ∙ sym (c.in_ok-bytes.ensures.items ∙ c.bytes-2.ensures.bytes)) (none-there _ (sym c.if-contains_key.ensures)) in
    λ names l f. rw (c.in_ok-insert.ensures.entries ∙ insert_entry-new (λ (a : Vec ℕ Global) (b : Vec ℕ Global). bytes_eq a.items b.items) c.args.firsts.now c.in_ok-bytes.bytes c.args.number absent) (finds-new (λ (k : Vec ℕ Global). k.items) names _ _ c.args.word.now c.args.number f (c.in_ok-bytes.ensures.items ∙ c.bytes-2.ensures.bytes) l)
