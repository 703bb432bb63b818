-- The first of two options that is there, and what is made of one.
use Rattle.std.proofs.Common.{◌≡◌, Option, Some, None, refl}
use Rattle.std.specs.Prelude.{IsSome, option_map}
use Rattle.std.specs.Option.{option_or}
use Rattle.std.proofs.lemmas.Bool.{false≢true}

-- the first of three
pub option_or-assoc : {X : Type 0} (a b c : Option X) → option_or (option_or a b) c ≡ option_or a (option_or b c)
option_or-assoc None b c = refl
option_or-assoc (Some x) b c = refl

-- where there is no second
pub option_or-None : {X : Type 0} (a : Option X) → option_or a None ≡ a
option_or-None None = refl
option_or-None (Some x) = refl

-- where the first is there
pub option_or-Some : {X : Type 0} (a b : Option X) → IsSome a → option_or a b ≡ a
option_or-Some None b there = absurd (false≢true there)
option_or-Some (Some x) b there = refl

-- where neither is there, the first is not
pub option_or-first : {X : Type 0} (a b : Option X) → option_or a b ≡ None → a ≡ None
option_or-first None b none = refl
option_or-first (Some x) b none = absurd cc

-- nor the second
pub option_or-second : {X : Type 0} (a b : Option X) → option_or a b ≡ None → b ≡ None
option_or-second None b none = none
option_or-second (Some x) b none = absurd cc

-- nothing is made of nothing alone
pub option_map-None : {X Y : Type 0} (f : X → Y) (a : Option X) → option_map f a ≡ None → a ≡ None
option_map-None f None none = refl
option_map-None f (Some x) none = absurd cc
