-- Where a reply stands among those in order, when the last ones are looked at first.
use Rattle.std.proofs.Common.{◌≡◌, ℕ, zero, suc, ◌-◌, ◌<◌, ◌≤◌, true, false, List}
use Rattle.std.proofs.Common.{[], ◌∷◌, length, Some, inl, inr, refl, sym, ap, ◌∙◌}
use Rattle.std.proofs.Common.{arith}
use Rattle.std.specs.Prelude.{IfSome, slice_get}
use Rattle.std.specs.List.{AllByRecursion, insert}
use Rattle.book_words.specs.declared.history.ReplyItem.{ReplyItem}
use Rattle.book_words.specs.History.{AreInOrder, IsNoLater, comes_before, put}
use Rattle.plain_book.proofs.Ordering.{AreNoLater, no_later-cases, no_later-from}

trans_cases : (x y z : ReplyItem) → AreNoLater x y → AreNoLater y z → AreNoLater x z
trans_cases x y z (inl a) (inl b) = inl (omega (arith, a, b))
trans_cases x y z (inl a) (inr (q, b)) = inl (omega (arith, a, q))
trans_cases x y z (inr (p, a)) (inl b) = inl (omega (arith, p, b))
trans_cases x y z (inr (p, inl a)) (inr (q, inl b)) =
    inr (omega (arith, p, q), inl (omega (arith, a, b)))
trans_cases x y z (inr (p, inl a)) (inr (q, inr (b, low))) =
    inr (omega (arith, p, q), inl (omega (arith, a, b)))
trans_cases x y z (inr (p, inr (a, low))) (inr (q, inl b)) =
    inr (omega (arith, p, q), inl (omega (arith, a, b)))
trans_cases x y z (inr (p, inr (a, low))) (inr (q, inr (b, high))) =
    inr (omega (arith, p, q), inr (omega (arith, a, b), omega (arith, low, high)))

no_later_trans : (x y z : ReplyItem) → IsNoLater x y → IsNoLater y z → IsNoLater x z
no_later_trans x y z first second =
    no_later-from x z (trans_cases x y z (no_later-cases x y first) (no_later-cases y z second))

each_no_later : (x : ReplyItem) (xs : List ReplyItem) (n : ℕ) (y : ReplyItem)
    → AllByRecursion (IsNoLater x) xs → slice_get xs n ≡ Some y
    → IsNoLater x y
each_no_later x [] n y all at = absurd cc
each_no_later x (z ∷ xs) zero y all at = let same : z ≡ y = cc in rw (sym same) all.0
each_no_later x (z ∷ xs) (suc n) y all at = each_no_later x xs n y all.1 at

-- where the reply at a place of these in order may stand before another, the first may
first_no_later : (x item : ReplyItem) (xs : List ReplyItem) (n : ℕ) (y : ReplyItem)
    → AreInOrder (x ∷ xs) → slice_get (x ∷ xs) n ≡ Some y
    → IsNoLater y item → IsNoLater x item
first_no_later x item xs zero y order at before = let same : x ≡ y = cc in rw same before
first_no_later x item xs (suc n) y order at before =
    no_later_trans x y item (each_no_later x xs n y order.0 at) before

-- a reply follows that at the place below, where there is one
abbrev pub IsBehind : List ReplyItem → ReplyItem → ℕ → Type 0
IsBehind replies item zero = Unit {0}
IsBehind replies item (suc n) = (y : ReplyItem) × (slice_get replies n ≡ Some y)
    × (comes_before item y ≡ false)

behind_rest : (x item : ReplyItem) (xs : List ReplyItem) (n : ℕ) → IsBehind (x ∷ xs) item (suc n)
    → IsBehind xs item n
behind_rest x item xs zero behind = tt
behind_rest x item xs (suc n) behind = behind

-- A place where a reply follows the one below and before the one there is the one where it is
-- put.
pub put_there : (replies : List ReplyItem) (item : ReplyItem) (at : ℕ) → AreInOrder replies
    → at ≤ length replies
    → IfSome (slice_get replies at) (λ y. comes_before item y ≡ true) → IsBehind replies item at
    → insert replies at item ≡ put replies item
put_there [] item zero order within before behind = refl
put_there [] item (suc n) order within before behind = absurd (omega (arith, within))
put_there (x ∷ xs) item zero order within before behind = rw before refl
put_there (x ∷ xs) item (suc n) order within before behind =
    let late : comes_before item x ≡ false =
    first_no_later x item xs n behind.0 order behind.1 behind.2 in
    rw late (ap (λ (z : List ReplyItem). x ∷ z)
    (put_there xs item n order.1 (omega (arith, within)) before (behind_rest x item xs n behind)))

pub behind_none : (replies : List ReplyItem) (item : ReplyItem) (at : ℕ) → at ≤ 0
    → IsBehind replies item at
behind_none replies item zero none = tt
behind_none replies item (suc n) none = absurd (omega (arith, none))

pub behind_one : (replies : List ReplyItem) (item y : ReplyItem) (at : ℕ) → 0 < at
    → slice_get replies (at - 1) ≡ Some y
    → comes_before item y ≡ false → IsBehind replies item at
behind_one replies item y zero some at later = absurd (omega (arith, some))
behind_one replies item y (suc n) some at later =
    let below : suc n - 1 ≡ n = omega arith in
    (y, sym (ap (slice_get replies) below) ∙ at, later)
