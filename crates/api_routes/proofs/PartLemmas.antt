-- Parts of a path.
use Rattle.std.proofs.Common.{◌≡◌, ℕ, Bool, true, false, cond, nat_lt, List, length, take, Some}
use Rattle.std.proofs.Common.{None, refl, sym, ap}
use Rattle.std.specs.List.{before_first, position, position_or_len}
use Rattle.std.proofs.lemmas.Bool.{ltb-false}
use Rattle.std.proofs.lemmas.Option.{cond_some}
use Rattle.std.proofs.lemmas.List.{take_all}
use Rattle.std.specs.Str.{IsUtf8, is_utf8}
use Rattle.std.proofs.lemmas.Str.{IsUtf8-from_is_utf8, is_utf8-from_IsUtf8}
use Rattle.api_routes.specs.Match.{hit}
use Rattle.api_routes.specs.Paths.{resources}
use Rattle.api_routes.specs.Targets.{is_slash, route_of}

pub before_found : (text : List ℕ) (at : ℕ) → position is_slash text ≡ Some at
    → take at text ≡ before_first is_slash text
before_found text at e =
    let found =
    cond_some (nat_lt (position_or_len is_slash text) (length text))
    (position_or_len is_slash text) at e in
    ap (λ (n : ℕ). take n text) (sym found.1)

missing_at : (test : Bool) (n : ℕ) → cond test (Some n) None ≡ None → test ≡ false
missing_at true n e = absurd cc
missing_at false n e = refl

pub before_missing : (text : List ℕ) → position is_slash text ≡ None
    → text ≡ before_first is_slash text
before_missing text e =
    let past =
    ltb-false _ _ (missing_at (nat_lt (position_or_len is_slash text) (length text))
    (position_or_len is_slash text) e) in
    sym (take_all (position_or_len is_slash text) text past)

-- ---- the resource of a path

pub route_found : (path : List ℕ) → IsUtf8 path → route_of path ≡ hit resources path
route_found path h = rw (is_utf8-from_IsUtf8 path h) refl

missing_route : (path : List ℕ) (test : Bool) → is_utf8 path ≡ test → (IsUtf8 path → ⊥)
    → None ≡ cond test (hit resources path) None
missing_route path true is h = absurd (h (IsUtf8-from_is_utf8 path is))
missing_route path false is h = refl

pub route_missing : (path : List ℕ) → (IsUtf8 path → ⊥) → None ≡ route_of path
route_missing path h = missing_route path (is_utf8 path) refl h
