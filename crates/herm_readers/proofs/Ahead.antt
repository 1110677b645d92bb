-- Facts on lists of symbols.
use Rattle.std.proofs.Common.{◌≡◌, ◌≢◌, ◌<◌, List, [], ◌∷◌, ◌++◌, length, Option, refl, ap, arith, length-append}
use Rattle.herm_readers.specs.Reader.{ahead}

pub ahead-append : {S : Type 0} → (front rest : List S) (beyond : Option S) → ahead (front ++ rest) beyond ≡ ahead front (ahead rest beyond)
ahead-append [] rest beyond = refl
ahead-append (x ∷ front) rest beyond = refl

-- Where two lists are one and their rests are as long, the fronts are one, and so are the rests.
pub same_rest : {S : Type 0} → (front rest other last : List S) → front ++ rest ≡ other ++ last → length rest ≡ length last → (front ≡ other) × (rest ≡ last)
same_rest [] rest [] last e l = (refl, e)
same_rest [] rest (x ∷ other) last e l = absurd (omega (arith, ap length e, length-append other last))
same_rest (x ∷ front) rest [] last e l = absurd (omega (arith, ap length e, length-append front rest))
same_rest (x ∷ front) rest (y ∷ other) last e l =
    let tails = same_rest front rest other last (cc) l in
    (let same : front ≡ other = tails.0 in cc, tails.1)

-- What is ahead does not depend on what stands behind the first symbol.
pub ahead_at : {S : Type 0} → (front : List S) (x : S) (behind other : List S) (beyond : Option S) → ahead (front ++ x ∷ behind) beyond ≡ ahead (front ++ x ∷ other) beyond
ahead_at [] x behind other beyond = refl
ahead_at (y ∷ front) x behind other beyond = refl

-- Where a text has a symbol, what is ahead of it does not depend on what is behind.
pub ahead_written : {S : Type 0} → (text : List S) (beyond other : Option S) → text ≢ [] → ahead text beyond ≡ ahead text other
ahead_written [] beyond other written = absurd (written refl)
ahead_written (x ∷ text) beyond other written = refl

pub longer : {S : Type 0} → (text rest : List S) → text ≢ [] → length rest < length (text ++ rest)
longer [] rest written = absurd (written refl)
longer (x ∷ text) rest written = omega (arith, length-append text rest)
