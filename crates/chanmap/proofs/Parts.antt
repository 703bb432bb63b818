-- A sink that takes one text and then another.
use Rattle.std.proofs.Common.{◌≡◌, ℕ, ◌-◌, ◌≤◌, List, [], ◌∷◌, ◌++◌, length, get_or, take, drop}
use Rattle.std.proofs.Common.{Option, sym, ap, ◌∙◌, append_assoc, arith}
use Rattle.std.specs.List.{flat_map}
use Rattle.std.proofs.lemmas.List.{take_all}
use Rattle.std.specs.Io.KnownBytes.{Appends}
use Rattle.chan_io.specs.Streams.{TakesPrefix}
use Rattle.chan_io.proofs.Told.{Appends-then, TellsAlike-then}

-- the front of the first is a front of both
pub front_first : (old new : Option (List ℕ)) (first second : List ℕ) → TakesPrefix old new first
    → TakesPrefix old new (first ++ second)
front_first old new first second took = record {
  front = took.front;
  rest = took.rest ++ second;
  parts = ap (λ (text : List ℕ). text ++ second) took.parts
      ∙ append_assoc took.front took.rest second;
  alike = took.alike;
  taken = took.taken;
}

-- the first, and then a front of the second
pub front_behind : (old mid new : Option (List ℕ)) (first second : List ℕ)
    → TakesPrefix old mid first → Appends old mid first
    → TakesPrefix mid new second → TakesPrefix old new (first ++ second)
front_behind old mid new first second before all took = record {
  front = first ++ took.front;
  rest = took.rest;
  parts = ap (λ (text : List ℕ). first ++ text) took.parts
      ∙ sym (append_assoc first took.front took.rest);
  alike = TellsAlike-then old mid new before.alike took.alike;
  taken = Appends-then old mid new first took.front all took.taken;
}

pub ruleset both = (front_first, front_behind, Appends-then, TellsAlike-then)

-- the first of texts, and then the others
pub first_and_others : {X : Type 0} (xs : List X) (f : X → List ℕ) (default : X) → 1 ≤ length xs
    → f (get_or xs 0 default) ++ flat_map f (take (length xs - 1) (drop 1 xs)) ≡ flat_map f xs
first_and_others [] f default some = absurd (omega (arith, some))
first_and_others {X = X} (x ∷ xs) f default some =
    ap (λ (ys : List X). f x ++ flat_map f ys) (take_all (length (x ∷ xs) - 1) xs (omega arith))
