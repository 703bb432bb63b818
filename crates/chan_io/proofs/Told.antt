-- What is told of the bytes after one call and another.
use Rattle.std.proofs.Common.{◌≡◌, ℕ, ◌+◌, ◌-◌, ◌≤◌, List, [], ◌++◌, length, take}
use Rattle.std.proofs.Common.{drop, Option, Some, None, refl, sym, ap, ◌∙◌, append_assoc, arith}
use Rattle.std.proofs.Math.Seq.{take-add}
use Rattle.std.proofs.lemmas.Slice.{between_to_end}
use Rattle.std.proofs.lemmas.List.{append-nil}
use Rattle.std.specs.Io.KnownBytes.{Consumes, Appends}
use Rattle.std.proofs.lemmas.List.{length-append}
use Rattle.chan_io.specs.Streams.{BoundedRead, LongRead, TellsAlike}

pub TellsAlike-same : (a : Option (List ℕ)) → TellsAlike a a
TellsAlike-same None = tt
TellsAlike-same (Some xs) = tt

pub TellsAlike-then : (a b c : Option (List ℕ)) → TellsAlike a b → TellsAlike b c → TellsAlike a c
TellsAlike-then None None None p q = tt
TellsAlike-then None None (Some zs) p q = q
TellsAlike-then None (Some ys) c p q = absurd p
TellsAlike-then (Some xs) None c p q = absurd p
TellsAlike-then (Some xs) (Some ys) None p q = q
TellsAlike-then (Some xs) (Some ys) (Some zs) p q = tt

pub Consumes-nothing : (a : Option (List ℕ)) → Consumes a a []
Consumes-nothing None = tt
Consumes-nothing (Some xs) = refl

pub Consumes-then : (a b c : Option (List ℕ)) (x y : List ℕ) → Consumes a b x → Consumes b c y → Consumes a c (x ++ y)
Consumes-then None b c x y p q = tt
Consumes-then (Some xs) None c x y p q = absurd p
Consumes-then (Some xs) (Some ys) None x y p q = absurd q
Consumes-then (Some xs) (Some ys) (Some zs) x y p q = p ∙ ap (λ (t : List ℕ). x ++ t) q ∙ sym (append_assoc x y zs)

pub Appends-nothing : (a : Option (List ℕ)) → Appends a a []
Appends-nothing None = tt
Appends-nothing (Some xs) = sym (append-nil xs)

pub Appends-then : (a b c : Option (List ℕ)) (x y : List ℕ) → Appends a b x → Appends b c y → Appends a c (x ++ y)
Appends-then None b c x y p q = tt
Appends-then (Some xs) None c x y p q = absurd p
Appends-then (Some xs) (Some ys) None x y p q = absurd q
Appends-then (Some xs) (Some ys) (Some zs) x y p q = q ∙ ap (λ (t : List ℕ). t ++ y) p ∙ append_assoc xs x y

-- What took the first i bytes of a text, and then the n after them, took the first i + n.
pub Appends-more : (a b c : Option (List ℕ)) (text : List ℕ) (i n : ℕ) → Appends a b (take i text)
    → Appends b c (take n (take (length text - i) (drop i text))) → Appends a c (take (i + n) text)
Appends-more a b c text i n p q =
    let rest : take (length text - i) (drop i text) ≡ drop i text = between_to_end text i (length text) (omega arith) in
    rw (take-add i n text) (Appends-then a b c (take i text) (take n (drop i text)) p (rw rest at q))

-- What gave some bytes, and then the last ones, gave them all: no more than a given number,
pub read_more : (a b c : Option (List ℕ)) (before last : List ℕ) (most : ℕ)
    → TellsAlike a b → Consumes a b before → TellsAlike b c → Consumes b c last
    → length before + length last ≤ most → BoundedRead a c most
read_more a b c before last most alike read alike_then read_then le = record {
  bytes = before ++ last;
  alike = TellsAlike-then a b c alike alike_then;
  read = Consumes-then a b c before last read read_then;
  bounded = omega (arith, le, length-append before last);
}

-- or one more than the limit.
pub read_long : (a b c : Option (List ℕ)) (before last : List ℕ) (limit : ℕ)
    → TellsAlike a b → Consumes a b before → TellsAlike b c → Consumes b c last
    → length before + length last ≡ limit + 1 → LongRead a c limit
read_long a b c before last limit alike read alike_then read_then is = record {
  bytes = before ++ last;
  alike = TellsAlike-then a b c alike alike_then;
  read = Consumes-then a b c before last read read_then;
  long = length-append before last ∙ is;
}

-- the lemmas above, for loops over a source or a sink
pub ruleset steps = (TellsAlike-same, TellsAlike-then, Consumes-nothing, Consumes-then, Appends-nothing, Appends-then)
