-- Members that are put among others one by one.
use Rattle.std.proofs.Common.{◌≡◌, ℕ, ◌+◌, List, [], ◌∷◌, ◌++◌, map, refl, sym, ap, ◌∙◌, zero-add}
use Rattle.std.specs.List.{range_with_len}
use Rattle.std.proofs.lemmas.List.FromFn.{map-range_with_len_more}
use Rattle.serde_json.specs.Data.{Data, Members, put}
use Rattle.channel_json.specs.Values.{with_members}

one_behind : (more : List (List ℕ × Data)) (m : List ℕ × Data) (object : Members)
    → put m.0 m.1 (with_members more object) ≡ with_members (more ++ m ∷ []) object
one_behind [] m object = refl
one_behind (n ∷ more) m object = one_behind more m (put n.0 n.1 object)

-- the member of the next number
pub one_more : (f : ℕ → List ℕ × Data) (n : ℕ) (object : Members)
    → put (f n).0 (f n).1 (with_members (map f (range_with_len 0 n)) object)
    ≡ with_members (map f (range_with_len 0 (n + 1))) object
one_more f n object =
    one_behind (map f (range_with_len 0 n)) (f n) object
    ∙ sym (ap (λ more. with_members more object) (map-range_with_len_more f 0 n n (zero-add n)))
