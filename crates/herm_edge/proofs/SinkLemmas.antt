-- What a sink holds after several writes.
use Rattle.std.proofs.Common.{◌≡◌, ℕ, ◌+◌, ◌-◌, List, ◌++◌, Option, Some, None, take, drop, length, refl, ap, sym, ◌∙◌, arith, length-drop}
use Rattle.std.proofs.lemmas.List.{append_assoc, take_all}
use Rattle.std.proofs.Math.Seq.{take-add}
use Rattle.herm_edge.specs.Sink.{written_after}

-- the first bytes, and then the first of what is left
pub written_after-take_more : (bytes : Option (List ℕ)) (xs : List ℕ) (m n : ℕ) → written_after (written_after bytes (take m xs)) (take n (take (length xs - m) (drop m xs))) ≡ written_after bytes (take (m + n) xs)
written_after-take_more None xs m n = refl
written_after-take_more (Some bytes) xs m n =
    let all : take (length xs - m) (drop m xs) ≡ drop m xs = take_all (length xs - m) (drop m xs) (grind (arith, length-drop)) in
    rw all (ap Some (append_assoc bytes (take m xs) (take n (drop m xs)) ∙ ap (λ more. bytes ++ more) (sym (take-add m n xs))))

pub ruleset writes = (written_after-take_more)
