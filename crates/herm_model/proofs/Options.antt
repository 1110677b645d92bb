-- What an option has behind an equation.
use Rattle.std.proofs.Common.{◌≡◌, Option, Some, None, option_map, option_and_then, is_some, refl, sym, ap, true≢false}

pub some-injective : {X : Type 0} {x y : X} → Some x ≡ Some y → x ≡ y
some-injective e = cc e

pub none-not_some : {A X : Type 0} {x : X} → None ≡ Some x → A
none-not_some e = absurd (true≢false (sym (ap is_some e)))

-- the value behind a chain
pub chain-some : {X Y : Type 0} (f : X → Option Y) (o : Option X) (y : Y) → option_and_then f o ≡ Some y → (x : X) × (o ≡ Some x) × (f x ≡ Some y)
chain-some f None y e = none-not_some e
chain-some f (Some x) y e = (x, refl, e)

pub map-some : {X Y : Type 0} (f : X → Y) (o : Option X) (y : Y) → option_map f o ≡ Some y → (x : X) × (o ≡ Some x) × (f x ≡ y)
map-some f None y e = none-not_some e
map-some f (Some x) y e = (x, refl, some-injective e)

pub is_some-map : {X Y : Type 0} (f : X → Y) (o : Option X) → is_some (option_map f o) ≡ is_some o
is_some-map f None = refl
is_some-map f (Some x) = refl
