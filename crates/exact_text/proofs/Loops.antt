-- Reading values one after the other, as a loop does: the steps for the invariant
-- `with_front front (many_at read (count - i) rest) ≡ many_at read count bytes`.
use Rattle.std.proofs.Common.{◌≡◌, ℕ, suc, ◌-◌, ◌+◌, ◌≤◌, ◌<◌, List, [], ◌∷◌}
use Rattle.std.proofs.Common.{◌++◌, Option, Some, None, refl, sym, ap, ◌∙◌, append_assoc, arith}
use Rattle.std.proofs.lemmas.List.{append-nil}
use Rattle.exact_text.specs.declared.misread.Misread.{Misread}
use Rattle.exact_text.specs.declared.misread.Misread.TheVariants.{NoReading, NoMemory}
use Rattle.exact_text.specs.Readings.{◌>>=◌, Fails, many_at}

-- what was read before, and what is still read
abbrev pub with_front : {A : Type 0} → List A → Option (List A × List ℕ) → Option (List A × List ℕ)
with_front front read = read >>= λ x. Some (front ++ x.0, x.1)

pub regroup : {A : Type 0} (front : List A) (x : A) (read : Option (List A × List ℕ))
    → with_front front (read >>= λ o. Some (x ∷ o.0, o.1)) ≡ with_front (front ++ x ∷ []) read
regroup {A} front x (Some o) = ap (λ (xs : List A). Some (xs, o.1)) (simp append_assoc)
regroup front x None = refl

-- one value was read
pub goes_on : {A : Type 0} (read : List ℕ → Option (A × List ℕ)) (front : List A) (count i : ℕ)
    (bytes : List ℕ) (x : A) (after : List ℕ)
    (total : Option (List A × List ℕ)) → i < count → read bytes ≡ Some (x, after)
    → with_front front (many_at read (count - i) bytes) ≡ total
    → with_front (front ++ x ∷ []) (many_at read (count - (i + 1)) after) ≡ total
goes_on read front count i bytes x after total lt h so_far =
    let k : count - i ≡ suc (count - (i + 1)) = omega arith in
    let one : with_front front (many_at read (count - i) bytes)
    ≡ with_front (front ++ x ∷ []) (many_at read (count - (i + 1)) after) =
    rw (k, h) (regroup front x (many_at read (count - (i + 1)) after)) in
    sym one ∙ so_far

-- one value could not be read
pub ends : {A : Type 0} (e : Misread) (read : List ℕ → Option (A × List ℕ)) (front : List A)
    (count i : ℕ) (bytes : List ℕ)
    (total : Option (List A × List ℕ)) → i < count → Fails e (read bytes)
    → with_front front (many_at read (count - i) bytes) ≡ total → Fails e total
ends NoMemory read front count i bytes total lt h so_far = tt
ends NoReading read front count i bytes total lt h so_far =
    let k : count - i ≡ suc (count - (i + 1)) = omega arith in
    let one : with_front front (many_at read (count - i) bytes) ≡ None = rw (k, h) refl in
    sym so_far ∙ one

-- all values were read
pub is_done : {A : Type 0} (read : List ℕ → Option (A × List ℕ)) (front : List A) (count i : ℕ)
    (bytes : List ℕ)
    (total : Option (List A × List ℕ)) → count ≤ i
    → with_front front (many_at read (count - i) bytes) ≡ total → total ≡ Some (front, bytes)
is_done {A} read front count i bytes total le so_far =
    let k : count - i ≡ 0 = omega arith in
    let one : with_front front (many_at read (count - i) bytes) ≡ Some (front, bytes) =
    rw k (ap (λ (xs : List A). Some (xs, bytes)) (append-nil front)) in
    sym so_far ∙ one
